-- What a turn of a session does: local calls end, and then one action follows.
use Rattle.std.proofs.Common.{◌≡◌, ℕ, ◌+◌, ◌-◌, ◌*◌, ◌≤◌, Bool, true, false, cond, not, ◌&&◌, IsTrue, List, [], ◌∷◌, ◌++◌, length, Option, Some, None, refl, sym, ap, subst, ◌∙◌, arith, append_assoc, length-append}
use Rattle.std.specs.Prelude.{◌==◌, find, is_some, slice_index_or, option_map}
use Rattle.std.specs.List.{cons_option}
use Rattle.std.specs.Option.{IfSome}
use Rattle.sf_types.specs.declared.call.Call.{Call}
use Rattle.sf_types.specs.declared.call.Call.TheVariants as call
use Rattle.sf_types.specs.declared.history.Entry.{Entry}
use Rattle.sf_types.specs.declared.history.Kind.{Kind}
use Rattle.sf_types.specs.declared.history.Kind.TheVariants as kind
use Rattle.sf_types.specs.declared.options.Options.{Options}
use Rattle.sf_types.specs.declared.reply.Reply.{Reply}
use Rattle.sf_types.specs.Table.Parts.{Promise, Session, Table}
use Rattle.sf_types.specs.Table.Sessions.{has_session, session_of}
use Rattle.sf_types.specs.Space.Due.{is_due}
use Rattle.sf_types.specs.Space.Promises.{found_births, with_floor, floor_candidates, fits_at, flush_cuts, wanted_blocks_at, no_space_at, last_candidate, table_with_promise, promise_at, promise}
use Rattle.sf_types.specs.Space.Publications.{publish}
use Rattle.sf_types.specs.Space.Reach.{reach}
use Rattle.sf_types.specs.Calls.Steps.{step}
use Rattle.sf_types.specs.Orders.Histories.{effect_of, entry_of, call_entries, call_effect, table_after}
use Rattle.sf_types.specs.Halves.Own.{Own, own_of, own_step, own_after, own_due, is_event, is_own_local, AreLocal}
use Rattle.sf_types.specs.Play.Blocks.{Space, collected_by}
use Rattle.sf_types.specs.Play.Turns.{Stage, Action, Ends, Promises, Collects, action_where, action_at, action_reply, stage_after, Playing, with_rest, turn_from, session_turn}
use Rattle.sf_types.proofs.NumberLemmas.{same_number, own_number}
use Rattle.sf_laws.specs.Plays.{is_done, IsNextCall, ended_by}
use Rattle.sf_laws.specs.Stages.{HasCollected, IsAtCall}
use Rattle.sf_laws.specs.UseWithinCapacity.{IsEnough}
use Rattle.sf_laws.proofs.EndedLemmas.{is_end, no_end, ended_step, goes_published, ended-append, ended_of_own, ended_calls_of}
use Rattle.sf_laws.proofs.ChangeLemmas.{publish_changed}
use Rattle.sf_laws.proofs.EachLemmas.{each_found}
use Rattle.sf_laws.proofs.EntryCaseLemmas.{candidates_from}
use Rattle.sf_laws.proofs.OwnLemmas.{due_by_own}
use Rattle.sf_laws.proofs.OwnRunLemmas.{Stands, run-append, stands_after}
use Rattle.sf_laws.proofs.PromiseLemmas.{own_session}
use Rattle.sf_laws.proofs.StageLemmas.{Holds, IsBehind, is_behind, not_collected, collected_keeps}
use Rattle.sf_laws.proofs.TurnMoveLemmas.{call_quietly}

-- A call is an End exactly where no call is behind it.
abbrev pub EndsLast : List Call → Type 0
EndsLast [] = Unit {0}
EndsLast (c ∷ calls) = (is_end c ≡ is_done calls) × EndsLast calls

pub ends_last_rest : (xs ys : List Call) → EndsLast (xs ++ ys) → EndsLast ys
ends_last_rest [] ys all = all
ends_last_rest (x ∷ xs) ys all = ends_last_rest xs ys all.1

-- The play after a turn of session s that ended these local calls and acted for the next one.
abbrev pub acted : Playing → ℕ → List Call → Call → List Call → Playing
acted p s locals c later =
    let action = action_at p.stage s locals c in
    with_rest p s (cond (is_some (action_reply p.stage s locals c action)) later (c ∷ later)) (stage_after p.stage s locals c action)

-- The same play with other blocks.
abbrev pub with_space : Playing → Space → Playing
with_space p space = record p { stage = record p.stage { space = space } }

-- A turn of a session that has calls left, in a play and in the same play with other blocks.
pub record IsTaken (p : Playing) (space : Space) (s : ℕ) (calls : List Call) (after other : Playing) : Type 0 where
  pub locals : List Call
  pub next : Call
  pub later : List Call
  pub split : calls ≡ locals ++ next ∷ later
  pub local : AreLocal p.stage.table.options.gather (own_of p.stage.table s) locals
  pub stop : is_own_local p.stage.table.options.gather (own_after (own_of p.stage.table s) locals) next ≡ false
  pub same : after ≡ acted p s locals next later
  pub same_other : other ≡ acted (with_space p space) s locals next later

local-append : (gather : ℕ) (o : Own) (cs : List Call) (c : Call) → AreLocal gather o cs → is_own_local gather (own_after o cs) c ≡ true → AreLocal gather o (cs ++ c ∷ [])
local-append gather o [] c local is = (is, tt)
local-append gather o (d ∷ cs) c local is = (local.0, local-append gather (own_step o d) cs c local.1 is)

own-append : (o : Own) (cs : List Call) (c : Call) → own_step (own_after o cs) c ≡ own_after o (cs ++ c ∷ [])
own-append o [] c = refl
own-append o (d ∷ cs) c = own-append (own_step o d) cs c

local_goes : (gather : ℕ) (o : Own) (c : Call) → is_own_local gather o c ≡ true → is_end c ≡ false
local_goes gather o c is = no_end c (first (is_event c) (own_due gather o c) is)
  where
    first : (a b : Bool) → (not a && not b) ≡ true → a ≡ false
    first true b is = absurd cc
    first false b is = refl

taken_here : (p : Playing) (space : Space) (s : ℕ) (own : Own) (done : List Call) (c : Call) (later : List Call) → own ≡ own_after (own_of p.stage.table s) done → AreLocal p.stage.table.options.gather (own_of p.stage.table s) done
    → is_own_local p.stage.table.options.gather own c ≡ false → IsTaken p space s (done ++ c ∷ later) (acted p s done c later) (acted (with_space p space) s done c later)
taken_here p space s own done c later is local stops = record {
  locals = done;
  next = c;
  later = later;
  split = refl;
  local = local;
  stop = subst (λ o. is_own_local p.stage.table.options.gather o c ≡ false) is stops;
  same = refl;
  same_other = refl;
}

taken_from : (p : Playing) (space : Space) (s : ℕ) (own : Own) (done : List Call) (c : Call) (later : List Call) → own ≡ own_after (own_of p.stage.table s) done → AreLocal p.stage.table.options.gather (own_of p.stage.table s) done → EndsLast (c ∷ later)
    → IsTaken p space s (done ++ c ∷ later) (turn_from p s own done (c ∷ later)) (turn_from (with_space p space) s own done (c ∷ later))
taken_from p space s own done c [] is local last =
    let gather = p.stage.table.options.gather in
    let q = with_space p space in
    elim (is_own_local gather own c) as (λ b. is_own_local gather own c ≡ b
    → IsTaken p space s (done ++ c ∷ []) (cond b (turn_from p s (own_step own c) (done ++ c ∷ []) []) (acted p s done c [])) (cond b (turn_from q s (own_step own c) (done ++ c ∷ []) []) (acted q s done c []))) [
      | true ↦ λ goes. let ends : is_end c ≡ true = last.0 in let not : is_end c ≡ false = local_goes gather own c goes in absurd cc
      | false ↦ λ stops. taken_here p space s own done c [] is local stops
    ] refl
taken_from p space s own done c (d ∷ ds) is local last =
    let gather = p.stage.table.options.gather in
    let q = with_space p space in
    elim (is_own_local gather own c) as (λ b. is_own_local gather own c ≡ b
    → IsTaken p space s (done ++ c ∷ d ∷ ds) (cond b (turn_from p s (own_step own c) (done ++ c ∷ []) (d ∷ ds)) (acted p s done c (d ∷ ds))) (cond b (turn_from q s (own_step own c) (done ++ c ∷ []) (d ∷ ds)) (acted q s done c (d ∷ ds)))) [
      | true ↦ λ goes.
          subst (λ (cs : List Call). IsTaken p space s cs (turn_from p s (own_step own c) (done ++ c ∷ []) (d ∷ ds)) (turn_from q s (own_step own c) (done ++ c ∷ []) (d ∷ ds))) (append_assoc done (c ∷ []) (d ∷ ds))
          (taken_from p space s (own_step own c) (done ++ c ∷ []) d ds (ap (λ o. own_step o c) is ∙ own-append (own_of p.stage.table s) done c)
          (local-append gather (own_of p.stage.table s) done c local (subst (λ o. is_own_local gather o c ≡ true) is goes)) last.1)
      | false ↦ λ stops. taken_here p space s own done c (d ∷ ds) is local stops
    ] refl

pub is_taken : (p : Playing) (space : Space) (s : ℕ) (c : Call) (later : List Call) → slice_index_or p.rest (s - 1) [] ≡ c ∷ later → EndsLast (c ∷ later) → IsTaken p space s (c ∷ later) (session_turn s p) (session_turn s (with_space p space))
is_taken p space s c later is last =
    subst (λ (cs : List Call). IsTaken p space s (c ∷ later) (turn_from p s (own_of p.stage.table s) [] cs) (turn_from (with_space p space) s (own_of p.stage.table s) [] cs)) (sym is) (taken_from p space s (own_of p.stage.table s) [] c later refl tt last)

-- a session without calls left does nothing
pub not_taken : (p : Playing) (s : ℕ) → slice_index_or p.rest (s - 1) [] ≡ [] → session_turn s p ≡ p
not_taken p s is = ap (turn_from p s (own_of p.stage.table s) []) is

-- the call behind local ones, where a promise stands for the first one
pub promised_first : (t : Table) (s : ℕ) (q : Promise) (locals : List Call) (c : Call) (later : List Call) → IsTrue (has_session t s) → Stands t → (session_of t s).promise ≡ Some q → AreLocal t.options.gather (own_of t s) locals
    → IsNextCall q.call (locals ++ c ∷ later) → (locals ≡ []) × (c ≡ q.call)
promised_first t s q [] c later has stands is local next = (refl, next)
promised_first t s q (l ∷ locals) c later has stands is local next =
    let enough : IsEnough t s q = subst (λ (o : Option Promise). IfSome o (IsEnough t s)) is (stands.within.promises s has) in
    let due : own_due t.options.gather (own_of t s) l ≡ true = sym (due_by_own t s l stands.rising) ∙ ap (is_due t s) next ∙ enough.due in
    absurd (both (is_event l) (own_due t.options.gather (own_of t s) l) local.0 due)
  where
    both : (a b : Bool) → (not a && not b) ≡ true → b ≡ true → ⊥
    both true b is due = cc
    both false true is due = cc
    both false false is due = cc

-- What an action may be.
pub record ActionCases (x : Stage) (s : ℕ) (locals : List Call) (c : Call) (Q : Action → Type 0) : Type 0 where
  pub ends : (session_of x.table s).promise ≡ None → IsBehind x.table s locals → is_due (table_after x.table (call_entries s locals)) s c ≡ false → Q Ends
  pub promises : (session_of x.table s).promise ≡ None → IsBehind x.table s locals → is_due (table_after x.table (call_entries s locals)) s c ≡ true → Q Promises
  pub publishes : (q : Promise) → (session_of x.table s).promise ≡ Some q → locals ≡ [] → c ≡ q.call → q.blocks ≡ length (collected_by x.space s) → Q Ends
  pub collects : (q : Promise) → (session_of x.table s).promise ≡ Some q → locals ≡ [] → c ≡ q.call → (q.blocks == length (collected_by x.space s)) ≡ false → collected_by x.space s ≡ [] → Q (Collects q.blocks)

pub by_action : (options : Options) (sessions : ℕ) (x : Stage) (s : ℕ) (locals : List Call) (c : Call) (Q : Action → Type 0) → Holds options sessions x → IsAtCall x.table s locals c → ActionCases x s locals c Q → Q (action_at x s locals c)
by_action options sessions x s locals c Q holds at cases = go (session_of x.table s).promise refl at.standing
  where
    free : (session_of x.table s).promise ≡ None → IsBehind x.table s locals → Q (action_at x s locals c)
    free none behind =
        let u = table_after x.table (call_entries s locals) in
        subst (λ (o : Option Promise). Q (action_where o (is_due u s c) (length (collected_by x.space s)))) (sym behind.calls.free)
        (elim (is_due u s c) as (λ b. is_due u s c ≡ b → Q (cond b Promises Ends)) [
          | true ↦ λ due. cases.promises none behind due
          | false ↦ λ due. cases.ends none behind due
        ] refl)

    promised : (q : Promise) → (session_of x.table s).promise ≡ Some q → locals ≡ [] → c ≡ q.call → Q (action_at x s locals c)
    promised q is none same =
        let mine = subst (λ (o : Option Promise). HasCollected o (collected_by x.space s)) is (holds.has.collected s at.session) in
        let k = length (collected_by x.space s) in
        subst (λ (cs : List Call). Q (action_where (session_of (table_after x.table (call_entries s cs)) s).promise (is_due (table_after x.table (call_entries s cs)) s c) k)) (sym none)
        (subst (λ (o : Option Promise). Q (action_where o (is_due x.table s c) k)) (sym is)
        (elim (q.blocks == k) as (λ b. (q.blocks == k) ≡ b → Q (cond b Ends (Collects q.blocks))) [
          | true ↦ λ all. cases.publishes q is none same (same_number q.blocks k all)
          | false ↦ λ apart. cases.collects q is none same apart (not_collected q (collected_by x.space s) apart mine)
        ] refl))

    go : (o : Option Promise) → (session_of x.table s).promise ≡ o → IfSome o (λ promise. (locals ≡ []) × (c ≡ promise.call)) → Q (action_at x s locals c)
    go None is standing = free is (is_behind x.table s locals at.session holds.stands at.goes_on is at.local)
    go (Some q) is standing = promised q is standing.0 standing.1

-- what a promise may be
pub by_promise : (t : Table) (s : ℕ) (c : Call) (Q : Table × Option Reply → Type 0) → ((h : ℕ) → t.floor ≤ h → Q (table_with_promise t s c (flush_cuts t s c) h, None)) → ((r : Reply) → Q (t, Some r)) → Q (promise t s c)
by_promise t s c Q granted refused = go (find (fits_at t (flush_cuts t s c)) (floor_candidates t)) refl
  where
    go : (o : Option ℕ) → find (fits_at t (flush_cuts t s c)) (floor_candidates t) ≡ o → Q (promise_at t s c (flush_cuts t s c) o)
    go None is = refused (no_space_at t (flush_cuts t s c) (last_candidate t))
    go (Some h) is = granted h (each_found (λ n. t.floor ≤ n) (fits_at t (flush_cuts t s c)) (floor_candidates t) h is (candidates_from t)).0

-- How far a session is with its calls: each is done with at most three turns.
abbrev pub done_turns : Option Promise → ℕ → ℕ
done_turns None collected = 0
done_turns (Some q) collected = cond (q.blocks == collected) 2 1

abbrev pub turns_left : Stage → ℕ → List Call → ℕ
turns_left x s rest = 3 * length rest - done_turns (session_of x.table s).promise (length (collected_by x.space s))

-- What session s has ended and has left.
pub record Follows (opening : Table) (script : List Call) (x : Stage) (s : ℕ) (rest : List Call) : Type 0 where
  pub own : ended_by s opening x.history ++ rest ≡ script
  pub next : IfSome (session_of x.table s).promise (λ promise. IsNextCall promise.call rest)
  pub ended : (session_of x.table s).has_ended ≡ is_done rest
  pub last : EndsLast rest

-- After an action it is further.
pub record IsFurther (opening : Table) (script : List Call) (x : Stage) (s : ℕ) (rest : List Call) (y : Stage) (left : List Call) : Type 0 where
  pub follows : Follows opening script y s left
  pub falls : turns_left y s left + 1 ≤ turns_left x s rest

pub few_done : (o : Option Promise) (n : ℕ) → done_turns o n ≤ 2
few_done None n = omega arith
few_done (Some q) n =
    elim (q.blocks == n) as (λ b. cond b 2 1 ≤ 2) [
      | true ↦ omega arith
      | false ↦ omega arith
    ]

-- the turns that are left where calls ended
fewer_turns : (x y : Stage) (s : ℕ) (locals : List Call) (c : Call) (later : List Call) → turns_left y s later + 1 ≤ turns_left x s (locals ++ c ∷ later)
fewer_turns x y s locals c later =
    let few = few_done (session_of x.table s).promise (length (collected_by x.space s)) in
    let both = length-append locals (c ∷ later) in
    omega (arith, few, both)

-- ended calls, and those that follow
ended_on : (opening : Table) (script : List Call) (x : Stage) (s : ℕ) (es : List Entry) (rest left : List Call) → x.table ≡ table_after opening x.history → ended_by s opening x.history ++ rest ≡ script → ended_by s x.table es ++ left ≡ rest
    → ended_by s opening (x.history ++ es) ++ left ≡ script
ended_on opening script x s es rest left is own more =
    ap (λ (cs : List Call). cs ++ left) (ended-append s opening x.history es ∙ ap (λ (t : Table). ended_by s opening x.history ++ ended_by s t es) (sym is))
    ∙ append_assoc (ended_by s opening x.history) (ended_by s x.table es) left
    ∙ ap (λ (cs : List Call). ended_by s opening x.history ++ cs) more
    ∙ own

behind_ended : (x : Stage) (s : ℕ) (locals : List Call) (k : Kind) (c : Call) (left rest : List Call) → cons_option (option_map (λ answer. c) (effect_of (table_after x.table (call_entries s locals)) (entry_of s k c)).1) [] ++ left ≡ rest
    → ended_by s x.table (call_entries s locals ++ entry_of s k c ∷ []) ++ left ≡ locals ++ rest
behind_ended x s locals k c left rest is =
    let u = table_after x.table (call_entries s locals) in
    let e = entry_of s k c in
    let one = ended_of_own s u e [] refl in
    let both = ended-append s x.table (call_entries s locals) (e ∷ []) in
    ap (λ (cs : List Call). cs ++ left) (both ∙ ap (λ (cs : List Call). cs ++ ended_by s u (e ∷ [])) (ended_calls_of s x.table locals) ∙ ap (λ (cs : List Call). locals ++ cs) one)
    ∙ append_assoc locals (cons_option (option_map (λ answer. c) (effect_of u e).1) []) left
    ∙ ap (λ (cs : List Call). locals ++ cs) is

-- The calls after an action.
abbrev pub rest_after : Stage → ℕ → List Call → Call → List Call → Action → List Call
rest_after x s locals c later action = cond (is_some (action_reply x s locals c action)) later (c ∷ later)

some_done : (q : Promise) (n : ℕ) → 1 ≤ done_turns (Some q) n
some_done q n =
    elim (q.blocks == n) as (λ b. 1 ≤ cond b 2 1) [
      | true ↦ omega arith
      | false ↦ omega arith
    ]

due_goes : (t : Table) (s : ℕ) (c : Call) → is_due t s c ≡ true → is_end c ≡ false
due_goes t s call.End is = absurd cc
due_goes t s c is = refl

module _ (opening : Table) (script : List Call) (x : Stage) (s : ℕ) (c : Call) (later : List Call) (is : x.table ≡ table_after opening x.history) where
  -- a call that isn't due ends behind local ones
  ends_further : (locals : List Call) → Follows opening script x s (locals ++ c ∷ later) → Stands x.table → IsBehind x.table s locals
      → IsFurther opening script x s (locals ++ c ∷ later) (stage_after x s locals c Ends) (rest_after x s locals c later Ends)
  ends_further locals follows stands behind =
      let u = table_after x.table (call_entries s locals) in
      let e = entry_of s kind.Call c in
      let es = call_entries s locals ++ e ∷ [] in
      let both : table_after x.table es ≡ (effect_of u e).0 = run-append x.table (call_entries s locals) (e ∷ []) in
      let ends = ends_last_rest locals (c ∷ later) follows.last in
      let rising = (stands_after x.table (call_entries s locals) behind.legal stands).rising in
      let same : (effect_of u e).0 ≡ (step u s c).0 = ap (λ (o : Option Promise). (call_effect o u s c).0) behind.calls.free in
      let free : (session_of (table_after x.table es) s).promise ≡ None = ap (λ (t : Table). (session_of t s).promise) both ∙ (call_quietly u s c behind.session behind.calls.free).free in
      record {
        follows = record {
          own = ended_on opening script x s es (locals ++ c ∷ later) later is follows.own (behind_ended x s locals kind.Call c later (c ∷ later) refl);
          next = subst (λ (o : Option Promise). IfSome o (λ promise. IsNextCall promise.call later)) (sym free) tt;
          ended = ap (λ (t : Table). (session_of t s).has_ended) (both ∙ same) ∙ ended_step u s c behind.session rising behind.calls.free behind.goes_on ∙ ends.0;
          last = ends.1;
        };
        falls = fewer_turns x (stage_after x s locals c Ends) s locals c later;
      }

  -- a promise
  promises_further : (locals : List Call) → Follows opening script x s (locals ++ c ∷ later) → (session_of x.table s).promise ≡ None → IsBehind x.table s locals → is_due (table_after x.table (call_entries s locals)) s c ≡ true
      → IsFurther opening script x s (locals ++ c ∷ later) (stage_after x s locals c Promises) (rest_after x s locals c later Promises)
  promises_further locals follows none behind due =
      let u = table_after x.table (call_entries s locals) in
      let e = entry_of s kind.Promise c in
      let es = call_entries s locals ++ e ∷ [] in
      let y = stage_after x s locals c Promises in
      let both : table_after x.table es ≡ (effect_of u e).0 = run-append x.table (call_entries s locals) (e ∷ []) in
      let ends = ends_last_rest locals (c ∷ later) follows.last in
      by_promise u s c (λ d. table_after x.table es ≡ d.0 → (effect_of u e).1 ≡ d.1 → IsFurther opening script x s (locals ++ c ∷ later) y (cond (is_some d.1) later (c ∷ later)))
      (λ h le at told.
      let of = flush_cuts u s c in
      let v = table_with_promise u s c of h in
      let q : Promise = record { call = c; blocks = wanted_blocks_at u of h; births = found_births u.contents (reach (with_floor u h)) of } in
      let part : Session = record (session_of u s) { promise = Some q } in
      let mine : session_of (table_after x.table es) s ≡ part = ap (λ (t : Table). session_of t s) at ∙ own_session u v s part behind.session refl in
      let promised : (session_of y.table s).promise ≡ Some q = ap (λ (p : Session). p.promise) mine in
      let some = some_done q (length (collected_by y.space s)) in
      let now : done_turns (session_of y.table s).promise (length (collected_by y.space s)) ≡ done_turns (Some q) (length (collected_by y.space s)) = ap (λ (o : Option Promise). done_turns o (length (collected_by y.space s))) promised in
      let before : done_turns (session_of x.table s).promise (length (collected_by x.space s)) ≡ 0 = ap (λ (o : Option Promise). done_turns o (length (collected_by x.space s))) none in
      let size = length-append locals (c ∷ later) in
      record {
        follows = record {
          own = ended_on opening script x s es (locals ++ c ∷ later) (c ∷ later) is follows.own (behind_ended x s locals kind.Promise c (c ∷ later) (c ∷ later) (ap (λ (o : Option Reply). cons_option (option_map (λ answer. c) o) [] ++ c ∷ later) told));
          next = subst (λ (o : Option Promise). IfSome o (λ promise. IsNextCall promise.call (c ∷ later))) (sym promised) refl;
          ended = ap (λ (p : Session). p.has_ended) mine ∙ behind.goes_on;
          last = ends;
        };
        falls = omega (arith, some, now, before, size);
      })
      (λ r at told. record {
        follows = record {
          own = ended_on opening script x s es (locals ++ c ∷ later) later is follows.own (behind_ended x s locals kind.Promise c later (c ∷ later) (ap (λ (o : Option Reply). cons_option (option_map (λ answer. c) o) [] ++ later) told));
          next = subst (λ (o : Option Promise). IfSome o (λ promise. IsNextCall promise.call later)) (sym (ap (λ (t : Table). (session_of t s).promise) at ∙ behind.calls.free)) tt;
          ended = ap (λ (t : Table). (session_of t s).has_ended) at ∙ behind.goes_on ∙ sym (due_goes u s c due) ∙ ends.0;
          last = ends.1;
        };
        falls = fewer_turns x y s locals c later;
      })
      both refl

-- a publication
published_further : (opening : Table) (script : List Call) (x : Stage) (s : ℕ) (q : Promise) (later : List Call) → x.table ≡ table_after opening x.history → IsTrue (has_session x.table s) → Stands x.table → (session_of x.table s).has_ended ≡ false
    → (session_of x.table s).promise ≡ Some q → Follows opening script x s (q.call ∷ later)
    → IsFurther opening script x s (q.call ∷ later) (stage_after x s [] q.call Ends) (rest_after x s [] q.call later Ends)
published_further opening script x s q later is has stands going promised follows =
    let t = x.table in
    let c = q.call in
    let e = entry_of s kind.Call c in
    let u = (publish t s c).0 in
    let same : (effect_of t e).0 ≡ u = ap (λ (o : Option Promise). (call_effect o t s c).0) promised in
    let changed = publish_changed t s c in
    let free : (session_of (effect_of t e).0 s).promise ≡ None = ap (λ (v : Table). (session_of v s).promise) same ∙ ap (λ (p : Session). p.promise) (own_session t u s changed.part has changed.sessions) ∙ changed.promised in
    let enough : IsEnough t s q = subst (λ (o : Option Promise). IfSome o (IsEnough t s)) promised (stands.within.promises s has) in
    record {
      follows = record {
        own = ended_on opening script x s (e ∷ []) (c ∷ later) later is follows.own (behind_ended x s [] kind.Call c later (c ∷ later) refl);
        next = subst (λ (o : Option Promise). IfSome o (λ promise. IsNextCall promise.call later)) (sym free) tt;
        ended = ap (λ (v : Table). (session_of v s).has_ended) same ∙ goes_published t s c has going ∙ sym (due_goes t s c enough.due) ∙ follows.last.0;
        last = follows.last.1;
      };
      falls = fewer_turns x (stage_after x s [] c Ends) s [] c later;
    }

-- a collection
collected_further : (options : Options) (sessions : ℕ) (opening : Table) (script : List Call) (x : Stage) (s : ℕ) (q : Promise) (later : List Call) → Holds options sessions x → IsTrue (has_session x.table s) → (session_of x.table s).promise ≡ Some q
    → (q.blocks == length (collected_by x.space s)) ≡ false → collected_by x.space s ≡ [] → Follows opening script x s (q.call ∷ later)
    → IsFurther opening script x s (q.call ∷ later) (stage_after x s [] q.call (Collects q.blocks)) (rest_after x s [] q.call later (Collects q.blocks))
collected_further options sessions opening script x s q later holds has promised apart none follows =
    let y = stage_after x s [] q.call (Collects q.blocks) in
    let size = (collected_keeps options sessions x s q holds has promised none).size in
    let now : done_turns (session_of x.table s).promise (length (collected_by y.space s)) ≡ 2 =
    ap (λ (o : Option Promise). done_turns o (length (collected_by y.space s))) promised ∙ ap (λ n. cond (q.blocks == n) 2 1) size ∙ ap (λ b. cond b 2 1) (own_number q.blocks) in
    let before : done_turns (session_of x.table s).promise (length (collected_by x.space s)) ≡ 1 =
    ap (λ (o : Option Promise). done_turns o (length (collected_by x.space s))) promised ∙ ap (λ b. cond b 2 1) apart in
    record {
      follows = record { own = follows.own; next = follows.next; ended = follows.ended; last = follows.last };
      falls = omega (arith, now, before);
    }

pub further : (options : Options) (sessions : ℕ) (opening : Table) (script : List Call) (x : Stage) (s : ℕ) (locals : List Call) (c : Call) (later : List Call) → Holds options sessions x → IsAtCall x.table s locals c
    → x.table ≡ table_after opening x.history → Follows opening script x s (locals ++ c ∷ later)
    → IsFurther opening script x s (locals ++ c ∷ later) (stage_after x s locals c (action_at x s locals c)) (rest_after x s locals c later (action_at x s locals c))
further options sessions opening script x s locals c later holds at is follows =
    by_action options sessions x s locals c (λ a. IsFurther opening script x s (locals ++ c ∷ later) (stage_after x s locals c a) (rest_after x s locals c later a)) holds at (record {
      ends = λ none behind due. ends_further opening script x s c later is locals follows holds.stands behind;
      promises = λ none behind due. promises_further opening script x s c later is locals follows none behind due;
      publishes = λ q promised none same size.
          subst (λ (cs : List Call). Follows opening script x s (cs ++ c ∷ later) → IsFurther opening script x s (cs ++ c ∷ later) (stage_after x s cs c Ends) (rest_after x s cs c later Ends)) (sym none)
          (subst (λ (d : Call). Follows opening script x s (d ∷ later) → IsFurther opening script x s (d ∷ later) (stage_after x s [] d Ends) (rest_after x s [] d later Ends)) (sym same)
          (published_further opening script x s q later is at.session holds.stands at.goes_on promised)) follows;
      collects = λ q promised none same apart empty.
          subst (λ (cs : List Call). Follows opening script x s (cs ++ c ∷ later) → IsFurther opening script x s (cs ++ c ∷ later) (stage_after x s cs c (Collects q.blocks)) (rest_after x s cs c later (Collects q.blocks))) (sym none)
          (subst (λ (d : Call). Follows opening script x s (d ∷ later) → IsFurther opening script x s (d ∷ later) (stage_after x s [] d (Collects q.blocks)) (rest_after x s [] d later (Collects q.blocks))) (sym same)
          (collected_further options sessions opening script x s q later holds at.session promised apart empty)) follows;
    })
