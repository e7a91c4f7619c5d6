-- Each turn of a play keeps to the script.
use Rattle.std.proofs.Common.{◌≡◌, ℕ, zero, suc, ◌-◌, ◌*◌, ◌≤◌, ◌<◌, true, false, cond, ◌&&◌, ◌||◌, IsTrue, List, [], ◌∷◌, ◌++◌, length, map, replicate, Option, Some, None, refl, sym, ap, subst, ◌∙◌, arith, length-set}
use Rattle.std.specs.Prelude.{◌≢◌, nat_le, ◌==◌, slice_get, slice_set, slice_index_or, is_some, unwrap_or}
use Rattle.std.specs.List.{AllByRecursion as Each, list_any}
use Rattle.std.specs.Option.{IfSome}
use Rattle.std.proofs.lemmas.List.{append-nil, length-map}
use Rattle.sf_types.specs.declared.call.Call.{Call}
use Rattle.sf_types.specs.declared.call.Call.TheVariants as call
use Rattle.sf_types.specs.declared.history.Entry.{Entry}
use Rattle.sf_types.specs.declared.history.Kind.{Kind}
use Rattle.sf_types.specs.declared.history.Kind.TheVariants as kind
use Rattle.sf_types.specs.declared.options.Options.{Options}
use Rattle.sf_types.specs.declared.limits.TheConstants.{RECLAIMED_BLOCKS}
use Rattle.sf_types.specs.Table.Parts.{Promise, Session, Table, new_session, opening_table}
use Rattle.sf_types.specs.Table.Sessions.{has_session, session_of}
use Rattle.sf_types.specs.Orders.Histories.{IsLegalHistory, entry_of, call_entries, table_after, with_ends, is_cancel}
use Rattle.sf_types.specs.Play.Blocks.{Space, collected_by, after_entries, after_publication, after_reclaim, after_shrink}
use Rattle.sf_types.specs.Play.Turns.{Stage, action_at, with_entries, stage_after, stage_after_reclaim, stage_after_shrink, Playing, start_of, session_turn, Turn, OfSession, Reclaims, Shrinks, after_turn, after_turns}
use Rattle.sf_types.proofs.BoolLemmas.{none-of-both, neither-first}
use Rattle.sf_types.proofs.NumberLemmas.{same_number, not_same, from_one, one_less}
use Rattle.sf_laws.specs.Plays.{AreWithoutEnd, IsTurnOf, AreTurnsOf, is_done, IsNextCall, ended_by, calls_left, script_calls, IsSoundPlay}
use Rattle.sf_laws.specs.Stages.{IsAtCall}
use Rattle.sf_laws.proofs.EndedLemmas.{not_end, ended-append, ended_of_other}
use Rattle.sf_laws.proofs.EachLemmas.{each-append}
use Rattle.sf_laws.proofs.OwnRunLemmas.{legal-append, may_still}
use Rattle.sf_laws.proofs.SpaceLemmas.{own_list, other_list, collected_other}
use Rattle.sf_laws.proofs.StageLemmas.{neither-second, Holds, holds_sound, sound_holds, action_keeps, reclaimed_keeps, shrunk_keeps, empty_holds}
use Rattle.sf_laws.proofs.TurnLemmas.{EndsLast, ends_last_rest, acted, IsTaken, is_taken, not_taken, promised_first, by_action, done_turns, turns_left, Follows, rest_after, further}

-- A play that keeps to its script.
pub record Plays (options : Options) (calls : List (List Call)) (p : Playing) : Type 0 where
  pub stage : Holds options (length calls) p.stage
  pub uncancelled : list_any (λ token. is_cancel token.kind) (map (λ e. e.token) p.stage.history) ≡ false
  pub lists : length p.rest ≡ length calls
  pub each : (s : ℕ) → IsTrue (has_session p.stage.table s) → Follows (opening_table options (length calls)) (script_calls calls s) p.stage s (calls_left p s)

-- a script's calls, its End last
last_behind : (own : List Call) → Each (λ c. c ≢ call.End) own → EndsLast (own ++ call.End ∷ [])
last_behind [] all = (refl, tt)
last_behind (c ∷ own) all = (not_end c all.0 ∙ sym (more own), last_behind own all.1)
  where
    more : (own : List Call) → is_done (own ++ call.End ∷ []) ≡ false
    more [] = refl
    more (d ∷ own) = refl

script_last : (calls : List (List Call)) (i : ℕ) → AreWithoutEnd calls → EndsLast (slice_index_or (with_ends calls) i [])
script_last [] i without = tt
script_last (own ∷ calls) zero without = last_behind own without.0
script_last (own ∷ calls) (suc i) without = script_last calls i without.1

pub sound_plays : (options : Options) (calls : List (List Call)) (p : Playing) → Plays options calls p → IsSoundPlay options calls p
sound_plays options calls p plays = record {
  stage = sound_holds options (length calls) p.stage plays.stage;
  uncancelled = plays.uncancelled;
  lists = plays.lists;
  own = λ s there. (plays.each s there).own;
  next = λ s there. (plays.each s there).next;
  ended = λ s there. (plays.each s there).ended;
}

pub plays_sound : (options : Options) (calls : List (List Call)) (p : Playing) → AreWithoutEnd calls → IsSoundPlay options calls p → Plays options calls p
plays_sound options calls p without sound = record {
  stage = holds_sound options (length calls) p.stage sound.stage;
  uncancelled = sound.uncancelled;
  lists = sound.lists;
  each = λ s there. record {
    own = sound.own s there;
    next = sound.next s there;
    ended = sound.ended s there;
    last = ends_last_rest (ended_by s (opening_table options (length calls)) p.stage.history) (calls_left p s) (subst EndsLast (sym (sound.own s there)) (script_last calls (s - 1) without));
  };
}

-- a number of a session
in_range : (s n : ℕ) → 1 ≤ s → s ≤ n → IsTrue (nat_le 1 s && nat_le s n)
in_range s n low high = grind (arith, low, high)

pub there : (options : Options) (sessions : ℕ) (x : Stage) (s : ℕ) → Holds options sessions x → 1 ≤ s → s ≤ sessions → IsTrue (has_session x.table s)
there options sessions x s holds low high = in_range s (length x.table.sessions) low (subst (λ n. s ≤ n) (sym holds.size) high)

-- at first
some_left : (calls : List (List Call)) (i : ℕ) → i < length calls → is_done (slice_index_or (with_ends calls) i []) ≡ false
some_left [] i lt = absurd (omega (arith, lt))
some_left ([] ∷ calls) zero lt = refl
some_left ((c ∷ own) ∷ calls) zero lt = refl
some_left (own ∷ calls) (suc i) lt = some_left calls i (omega (arith, lt))

new_part : (n i : ℕ) → unwrap_or (slice_get (replicate n new_session) i) new_session ≡ new_session
new_part zero i = refl
new_part (suc n) zero = refl
new_part (suc n) (suc i) = new_part n i

pub start_plays : (options : Options) (calls : List (List Call)) → AreWithoutEnd calls → Plays options calls (start_of options calls)
start_plays options calls without =
    let p = start_of options calls in
    let holds = empty_holds options (length calls) in
    record {
      stage = holds;
      uncancelled = refl;
      lists = length-map calls (λ own. own ++ call.End ∷ []);
      each = λ s has.
          let mine = new_part (length calls) (s - 1) in
          record {
            own = refl;
            next = subst (λ (q : Session). IfSome q.promise (λ promise. IsNextCall promise.call (calls_left p s))) (sym mine) tt;
            ended = ap (λ (q : Session). q.has_ended) mine ∙ sym (some_left calls (s - 1) (subst (λ n. s - 1 < n) holds.size (one_less s (length p.stage.table.sessions) has)));
            last = script_last calls (s - 1) without;
          };
    }

-- What a turn of session s leaves of session r.
pub record LeavesSession (opening : Table) (r : ℕ) (x y : Stage) : Type 0 where
  pub part : session_of y.table r ≡ session_of x.table r
  pub ended : ended_by r opening y.history ≡ ended_by r opening x.history
  pub collected : collected_by y.space r ≡ collected_by x.space r

follows_still : (opening : Table) (script : List Call) (r : ℕ) (x y : Stage) (rest : List Call) → LeavesSession opening r x y → Follows opening script x r rest → Follows opening script y r rest
follows_still opening script r x y rest leaves follows = record {
  own = ap (λ (cs : List Call). cs ++ rest) leaves.ended ∙ follows.own;
  next = subst (λ (q : Session). IfSome q.promise (λ promise. IsNextCall promise.call rest)) (sym leaves.part) follows.next;
  ended = ap (λ (q : Session). q.has_ended) leaves.part ∙ follows.ended;
  last = follows.last;
}

turns_still : (opening : Table) (r : ℕ) (x y : Stage) (rest : List Call) → LeavesSession opening r x y → turns_left y r rest ≡ turns_left x r rest
turns_still opening r x y rest leaves =
    ap (λ (q : Session). 3 * length rest - done_turns q.promise (length (collected_by y.space r))) leaves.part
    ∙ ap (λ (blocks : List ℕ). 3 * length rest - done_turns (session_of x.table r).promise (length blocks)) leaves.collected

-- entries of a session
pub own_entries : (s : ℕ) (cs : List Call) → Each (λ e. e.token.session ≡ s) (call_entries s cs)
own_entries s [] = tt
own_entries s (c ∷ cs) = (refl, own_entries s cs)

pub behind_entries : (s : ℕ) (cs : List Call) (k : Kind) (c : Call) → Each (λ e. e.token.session ≡ s) (call_entries s cs ++ entry_of s k c ∷ [])
behind_entries s cs k c = each-append (λ e. e.token.session ≡ s) (call_entries s cs) (entry_of s k c ∷ []) (own_entries s cs) (refl, tt)

apart_entries : (r s : ℕ) (es : List Entry) → (r ≡ s → ⊥) → Each (λ e. e.token.session ≡ s) es → Each (λ e. r ≡ e.token.session → ⊥) es
apart_entries r s [] apart all = tt
apart_entries r s (e ∷ es) apart all = (λ same. apart (same ∙ all.0), apart_entries r s es apart all.1)

entries_leave : (options : Options) (sessions : ℕ) (x : Stage) (r s : ℕ) (es : List Entry) → Holds options sessions x → Holds options sessions (with_entries x s es) → IsTrue (has_session x.table s) → IsTrue (has_session x.table r) → (r ≡ s → ⊥)
    → Each (λ e. e.token.session ≡ s) es → LeavesSession (opening_table options sessions) r x (with_entries x s es)
entries_leave options sessions x r s es holds after has_s has_r apart all =
    let opening = opening_table options sessions in
    let legal = (legal-append opening x.history es after.legal).1 in
    let u = table_after x.table es in
    record {
      part = may_still x.table es r (subst (λ (t : Table). IsLegalHistory t es) (sym holds.table) legal) has_r (apart_entries r s es apart all);
      ended = ended-append r opening x.history es ∙ ap (λ (cs : List Call). ended_by r opening x.history ++ cs) (ended_of_other r s (table_after opening x.history) es apart all) ∙ append-nil (ended_by r opening x.history);
      collected = elim (is_some (session_of x.table s).promise) as (λ b. collected_by (cond b (after_publication x.table u s x.space) (after_entries x.table u x.space)) r ≡ collected_by x.space r) [
        | true ↦ collected_other x.space s r [] (from_one s (length x.table.sessions) has_s) (from_one r (length x.table.sessions) has_r) apart
        | false ↦ refl
      ];
    }

action_leaves : (options : Options) (sessions : ℕ) (x : Stage) (r s : ℕ) (locals : List Call) (c : Call) → Holds options sessions x → IsAtCall x.table s locals c → IsTrue (has_session x.table r) → (r ≡ s → ⊥)
    → LeavesSession (opening_table options sessions) r x (stage_after x s locals c (action_at x s locals c))
action_leaves options sessions x r s locals c holds at has_r apart =
    by_action options sessions x s locals c (λ a. Holds options sessions (stage_after x s locals c a) → LeavesSession (opening_table options sessions) r x (stage_after x s locals c a)) holds at (record {
      ends = λ none behind due after. entries_leave options sessions x r s (call_entries s locals ++ entry_of s kind.Call c ∷ []) holds after at.session has_r apart (behind_entries s locals kind.Call c);
      promises = λ none behind due after. entries_leave options sessions x r s (call_entries s locals ++ entry_of s kind.Promise c ∷ []) holds after at.session has_r apart (behind_entries s locals kind.Promise c);
      publishes = λ q is none same size after. entries_leave options sessions x r s (call_entries s locals ++ entry_of s kind.Call c ∷ []) holds after at.session has_r apart (behind_entries s locals kind.Call c);
      collects = λ q is none same apart_blocks empty after. record {
        part = refl;
        ended = refl;
        collected = collected_other (after_reclaim (q.blocks - length x.space.free) x.space) s r _ (from_one s (length x.table.sessions) at.session) (from_one r (length x.table.sessions) has_r) apart;
      };
    }) (action_keeps options sessions x s locals c holds at)

-- no entry of a turn is a cancel
no_cancels : (s : ℕ) (cs : List Call) (k : Kind) (c : Call) (more : List Entry) → is_cancel k ≡ false → list_any (λ token. is_cancel token.kind) (map (λ e. e.token) (call_entries s cs ++ entry_of s k c ∷ [])) ≡ false
no_cancels s [] k c more is = ap (λ b. b || false) is
no_cancels s (d ∷ cs) k c more is = no_cancels s cs k c more is

none_cancelled : (xs ys : List Entry) → list_any (λ token. is_cancel token.kind) (map (λ e. e.token) xs) ≡ false → list_any (λ token. is_cancel token.kind) (map (λ e. e.token) ys) ≡ false
    → list_any (λ token. is_cancel token.kind) (map (λ e. e.token) (xs ++ ys)) ≡ false
none_cancelled [] ys first second = second
none_cancelled (x ∷ xs) ys first second =
    none-of-both (is_cancel x.token.kind) (list_any (λ token. is_cancel token.kind) (map (λ e. e.token) (xs ++ ys)))
    (neither-first (is_cancel x.token.kind) (list_any (λ token. is_cancel token.kind) (map (λ e. e.token) xs)) first)
    (none_cancelled xs ys (neither-second (is_cancel x.token.kind) (list_any (λ token. is_cancel token.kind) (map (λ e. e.token) xs)) first) second)

action_uncancelled : (options : Options) (sessions : ℕ) (x : Stage) (s : ℕ) (locals : List Call) (c : Call) → Holds options sessions x → IsAtCall x.table s locals c → list_any (λ token. is_cancel token.kind) (map (λ e. e.token) x.history) ≡ false
    → list_any (λ token. is_cancel token.kind) (map (λ e. e.token) (stage_after x s locals c (action_at x s locals c)).history) ≡ false
action_uncancelled options sessions x s locals c holds at none =
    by_action options sessions x s locals c (λ a. list_any (λ token. is_cancel token.kind) (map (λ e. e.token) (stage_after x s locals c a).history) ≡ false) holds at (record {
      ends = λ free behind due. none_cancelled x.history (call_entries s locals ++ entry_of s kind.Call c ∷ []) none (no_cancels s locals kind.Call c [] refl);
      promises = λ free behind due. none_cancelled x.history (call_entries s locals ++ entry_of s kind.Promise c ∷ []) none (no_cancels s locals kind.Promise c [] refl);
      publishes = λ q is empty same size. none_cancelled x.history (call_entries s locals ++ entry_of s kind.Call c ∷ []) none (no_cancels s locals kind.Call c [] refl);
      collects = λ q is empty same apart_blocks nothing. none;
    })

-- The turns that session s has left.
abbrev pub turns_left_of : Playing → ℕ → ℕ
turns_left_of p s = turns_left p.stage s (calls_left p s)

-- What a turn of session s does to a play.
pub record IsTurned (options : Options) (calls : List (List Call)) (p : Playing) (s : ℕ) (q : Playing) : Type 0 where
  pub plays : Plays options calls q
  pub own : turns_left_of q s ≤ turns_left_of p s - 1
  pub others : (r : ℕ) → 1 ≤ r → r ≤ length calls → (r ≡ s → ⊥) → turns_left_of q r ≡ turns_left_of p r

turned_nothing : (options : Options) (calls : List (List Call)) (p : Playing) (s : ℕ) → Plays options calls p → calls_left p s ≡ [] → IsTurned options calls p s p
turned_nothing options calls p s plays none =
    let size : length (calls_left p s) ≡ 0 = ap (λ (cs : List Call). length cs) none in
    record { plays = plays; own = omega (arith, size); others = λ r low high apart. refl }

pub at_call : (options : Options) (calls : List (List Call)) (p : Playing) (space : Space) (q other : Playing) (s : ℕ) (c : Call) (later : List Call) → Plays options calls p → IsTrue (has_session p.stage.table s) → calls_left p s ≡ c ∷ later → (taken : IsTaken p space s (c ∷ later) q other) → IsAtCall p.stage.table s taken.locals taken.next
at_call options calls p space q other s c later plays has is taken =
    let t = p.stage.table in
    let follows = plays.each s has in
    record {
      session = has;
      goes_on = follows.ended ∙ ap is_done is;
      local = taken.local;
      standing = go (session_of t s).promise refl (subst (λ (cs : List Call). IfSome (session_of t s).promise (λ promise. IsNextCall promise.call cs)) (is ∙ taken.split) follows.next);
    }
  where
    go : (o : Option Promise) → (session_of p.stage.table s).promise ≡ o → IfSome (session_of p.stage.table s).promise (λ promise. IsNextCall promise.call (taken.locals ++ taken.next ∷ taken.later)) → IfSome o (λ promise. (taken.locals ≡ []) × (taken.next ≡ promise.call))
    go None none next = tt
    go (Some q) some next = promised_first p.stage.table s q taken.locals taken.next taken.later has plays.stage.stands some taken.local (subst (λ (o : Option Promise). IfSome o (λ promise. IsNextCall promise.call (taken.locals ++ taken.next ∷ taken.later))) some next)

turned_acted : (options : Options) (calls : List (List Call)) (p : Playing) (s : ℕ) (locals : List Call) (c : Call) (later : List Call) → Plays options calls p → IsTrue (has_session p.stage.table s) → calls_left p s ≡ locals ++ c ∷ later → IsAtCall p.stage.table s locals c
    → IsTurned options calls p s (acted p s locals c later)
turned_acted options calls p s locals c later plays has is at =
    let opening = opening_table options (length calls) in
    let x = p.stage in
    let action = action_at x s locals c in
    let y = stage_after x s locals c action in
    let left = rest_after x s locals c later action in
    let holds = action_keeps options (length calls) x s locals c plays.stage at in
    let mine = plays.each s has in
    let moved = further options (length calls) opening (script_calls calls s) x s locals c later plays.stage at plays.stage.table (subst (Follows opening (script_calls calls s) x s) is mine) in
    let inside : s - 1 < length p.rest = subst (λ n. s - 1 < n) (plays.stage.size ∙ sym plays.lists) (one_less s (length x.table.sessions) has) in
    let own : slice_index_or (slice_set p.rest (s - 1) left) (s - 1) [] ≡ left = own_list p.rest (s - 1) left [] inside in
    let other : (r : ℕ) → 1 ≤ r → (r ≡ s → ⊥) → slice_index_or (slice_set p.rest (s - 1) left) (r - 1) [] ≡ calls_left p r = λ r low apart.
    other_list p.rest (s - 1) (r - 1) left [] (λ (same : s - 1 ≡ r - 1). let low_s = from_one s (length x.table.sessions) has in let equal : r ≡ s = omega (arith, same, low, low_s) in apart equal) in
    let before : turns_left x s (locals ++ c ∷ later) ≡ turns_left_of p s = ap (turns_left x s) (sym is) in
    let now : turns_left y s (slice_index_or (slice_set p.rest (s - 1) left) (s - 1) []) ≡ turns_left y s left = ap (turns_left y s) own in
    let falls = moved.falls in
    record {
      plays = record {
        stage = holds;
        uncancelled = action_uncancelled options (length calls) x s locals c plays.stage at plays.uncancelled;
        lists = length-set p.rest (s - 1) left ∙ plays.lists;
        each = λ r has_r.
            let before_r : IsTrue (has_session x.table r) = subst (λ n. IsTrue (nat_le 1 r && nat_le r n)) (holds.size ∙ sym plays.stage.size) has_r in
            let low = from_one r (length x.table.sessions) before_r in
            elim (r == s) as (λ b. (r == s) ≡ b → Follows opening (script_calls calls r) y r (slice_index_or (slice_set p.rest (s - 1) left) (r - 1) [])) [
              | true ↦ λ same. subst (λ k. Follows opening (script_calls calls k) y k (slice_index_or (slice_set p.rest (s - 1) left) (k - 1) [])) (sym (same_number r s same)) (subst (Follows opening (script_calls calls s) y s) (sym own) moved.follows)
              | false ↦ λ not.
                  let apart = not_same r s not in
                  subst (Follows opening (script_calls calls r) y r) (sym (other r low apart)) (follows_still opening (script_calls calls r) r x y (calls_left p r) (action_leaves options (length calls) x r s locals c plays.stage at before_r apart) (plays.each r before_r))
            ] refl;
      };
      own = omega (arith, falls, before, now);
      others = λ r low high apart.
          let has_r = there options (length calls) x r plays.stage low high in
          ap (turns_left y r) (other r low apart) ∙ turns_still opening r x y (calls_left p r) (action_leaves options (length calls) x r s locals c plays.stage at has_r apart);
    }

pub turned : (options : Options) (calls : List (List Call)) (p : Playing) (s : ℕ) → Plays options calls p → 1 ≤ s → s ≤ length calls → IsTurned options calls p s (session_turn s p)
turned options calls p s plays low high = go (calls_left p s) refl
  where
    go : (cs : List Call) → calls_left p s ≡ cs → IsTurned options calls p s (session_turn s p)
    go [] none = subst (IsTurned options calls p s) (sym (not_taken p s none)) (turned_nothing options calls p s plays none)
    go (c ∷ later) is =
        let has = there options (length calls) p.stage s plays.stage low high in
        let last = subst EndsLast is (plays.each s has).last in
        let space = p.stage.space in
        let taken = is_taken p space s c later is last in
        let at = at_call options calls p space (session_turn s p) (session_turn s p) s c later plays has is taken in
        subst (IsTurned options calls p s) (sym taken.same) (turned_acted options calls p s taken.locals taken.next taken.later plays has (is ∙ taken.split) at)

-- What a reclaim or a shrink leaves.
pub record IsBeside (x y : Stage) : Type 0 where
  pub history : y.history ≡ x.history
  pub table : y.table ≡ x.table
  pub collected : y.space.collected ≡ x.space.collected

pub reclaim_beside : (n : ℕ) (x : Stage) → IsBeside x (stage_after_reclaim n x)
reclaim_beside n x = record { history = refl; table = refl; collected = refl }

pub shrink_beside : (x : Stage) → IsBeside x (stage_after_shrink x)
shrink_beside x =
    elim (list_any (λ p. is_some p.promise) x.table.sessions) as (λ b. IsBeside x (cond b x (record x { space = after_shrink x.table.options.capacity x.space }))) [
      | true ↦ record { history = refl; table = refl; collected = refl }
      | false ↦ record { history = refl; table = refl; collected = refl }
    ]

beside_leaves : (opening : Table) (x y : Stage) (r : ℕ) → IsBeside x y → LeavesSession opening r x y
beside_leaves opening x y r beside = record {
  part = ap (λ (t : Table). session_of t r) beside.table;
  ended = ap (ended_by r opening) beside.history;
  collected = ap (λ (lists : List (List ℕ)). slice_index_or lists (r - 1) []) beside.collected;
}

pub beside_plays : (options : Options) (calls : List (List Call)) (p : Playing) (y : Stage) → Plays options calls p → Holds options (length calls) y → IsBeside p.stage y → Plays options calls (record p { stage = y })
beside_plays options calls p y plays holds beside =
    let opening = opening_table options (length calls) in
    record {
      stage = holds;
      uncancelled = ap (λ (es : List Entry). list_any (λ token. is_cancel token.kind) (map (λ e. e.token) es)) beside.history ∙ plays.uncancelled;
      lists = plays.lists;
      each = λ r has.
          follows_still opening (script_calls calls r) r p.stage y (calls_left p r) (beside_leaves opening p.stage y r beside)
          (plays.each r (subst (λ (t : Table). IsTrue (has_session t r)) beside.table has));
    }

-- What each turn does.
pub record IsStepped (options : Options) (calls : List (List Call)) (p q : Playing) : Type 0 where
  pub plays : Plays options calls q
  pub fewer : (s : ℕ) → 1 ≤ s → s ≤ length calls → turns_left_of q s ≤ turns_left_of p s

beside_stepped : (options : Options) (calls : List (List Call)) (p : Playing) (y : Stage) → Plays options calls p → Holds options (length calls) y → IsBeside p.stage y → IsStepped options calls p (record p { stage = y })
beside_stepped options calls p y plays holds beside =
    let opening = opening_table options (length calls) in
    record {
      plays = beside_plays options calls p y plays holds beside;
      fewer = λ s low high. let same = turns_still opening s p.stage y (calls_left p s) (beside_leaves opening p.stage y s beside) in omega (arith, same);
    }

pub stepped : (options : Options) (calls : List (List Call)) (p : Playing) (turn : Turn) → Plays options calls p → IsTurnOf (length calls) turn → IsStepped options calls p (after_turn turn p)
stepped options calls p (OfSession s) plays of =
    let is = turned options calls p s plays of.0 of.1 in
    record {
      plays = is.plays;
      fewer = λ r low high.
          elim (r == s) as (λ b. (r == s) ≡ b → turns_left_of (session_turn s p) r ≤ turns_left_of p r) [
            | true ↦ λ same. subst (λ k. turns_left_of (session_turn s p) k ≤ turns_left_of p k) (sym (same_number r s same)) (let own = is.own in omega (arith, own))
            | false ↦ λ not. let same = is.others r low high (not_same r s not) in omega (arith, same)
          ] refl;
    }
stepped options calls p Reclaims plays of = beside_stepped options calls p (stage_after_reclaim RECLAIMED_BLOCKS p.stage) plays (reclaimed_keeps options (length calls) p.stage RECLAIMED_BLOCKS plays.stage) (reclaim_beside RECLAIMED_BLOCKS p.stage)
stepped options calls p Shrinks plays of = beside_stepped options calls p (stage_after_shrink p.stage) plays (shrunk_keeps options (length calls) p.stage plays.stage) (shrink_beside p.stage)

pub stepped_on : (options : Options) (calls : List (List Call)) (p : Playing) (turns : List Turn) → Plays options calls p → AreTurnsOf (length calls) turns → IsStepped options calls p (after_turns turns p)
stepped_on options calls p [] plays of = record { plays = plays; fewer = λ s low high. omega arith }
stepped_on options calls p (turn ∷ turns) plays of =
    let one = stepped options calls p turn plays of.0 in
    let rest = stepped_on options calls (after_turn turn p) turns one.plays of.1 in
    record { plays = rest.plays; fewer = λ s low high. let first = one.fewer s low high in let later = rest.fewer s low high in omega (arith, first, later) }
