-- Rounds of turns, after which all sessions have ended.
use Rattle.std.proofs.Common.{◌≡◌, ℕ, zero, suc, ◌+◌, ◌-◌, ◌≤◌, ◌<◌, Bool, true, false, ◌&&◌, List, [], ◌∷◌, ◌++◌, length, map, refl, sym, ap, subst, ◌∙◌, arith, length-append}
use Rattle.std.specs.Prelude.{nat_le, ◌==◌, sum_by, slice_get, slice_index_or, unwrap_or}
use Rattle.std.specs.List.{range_with_len, list_all}
use Rattle.std.proofs.lemmas.List.{append-nil, length-map}
use Rattle.std.proofs.lemmas.List.Sums.{get_or-le-sum_by}
use Rattle.sf_types.specs.declared.call.Call.{Call}
use Rattle.sf_types.specs.declared.call.Call.TheVariants as call
use Rattle.sf_types.specs.declared.options.Options.{Options}
use Rattle.sf_types.specs.Table.Parts.{Session, new_session, opening_table}
use Rattle.sf_types.specs.Table.Sessions.{session_of}
use Rattle.sf_types.specs.Orders.Histories.{with_ends, ended_calls, IsWhole}
use Rattle.sf_types.specs.Play.Blocks.{collected_by}
use Rattle.sf_types.specs.Play.Turns.{Stage, Playing, start_of, session_turn, Turn, OfSession, Reclaims, after_turn, after_turns, round, rounds, have_all_ended, play_for, enough_rounds}
use Rattle.sf_types.proofs.BoolLemmas.{both_first, both_second}
use Rattle.sf_types.proofs.NumberLemmas.{at_most, same_number, not_same}
use Rattle.sf_laws.specs.Plays.{IsTurnOf, AreWithoutEnd, AreTurnsOf, is_done, ended_by, calls_left, script_calls}
use Rattle.sf_laws.proofs.EachLemmas.{each-append}
use Rattle.sf_laws.proofs.PlayLemmas.{Plays, start_plays, there, turns_left_of, turned, stepped, stepped_on}
use Rattle.sf_laws.proofs.TurnLemmas.{few_done, turns_left, not_taken}

pub turns-append : (xs ys : List Turn) (p : Playing) → after_turns (xs ++ ys) p ≡ after_turns ys (after_turns xs p)
turns-append [] ys p = refl
turns-append (x ∷ xs) ys p = turns-append xs ys (after_turn x p)

-- Turns of sessions, one after the other.
abbrev sessions_from : ℕ → ℕ → List Turn
sessions_from a n = map (λ s. OfSession s) (range_with_len a n)

-- No session has more than so many turns left, and those below a number have less.
record Within (options : Options) (calls : List (List Call)) (p : Playing) (k a : ℕ) : Type 0 where
  plays : Plays options calls p
  most : (s : ℕ) → 1 ≤ s → s ≤ length calls → turns_left_of p s ≤ k
  less : (s : ℕ) → 1 ≤ s → s ≤ length calls → s < a → turns_left_of p s ≤ k - 1

within_turn : (options : Options) (calls : List (List Call)) (p : Playing) (k a : ℕ) → 1 ≤ a → a ≤ length calls → Within options calls p k a → Within options calls (session_turn a p) k (a + 1)
within_turn options calls p k a low high within =
    let is = turned options calls p a within.plays low high in
    let own = is.own in
    let mine = within.most a low high in
    record {
      plays = is.plays;
      most = λ s from to. elim (s == a) as (λ b. (s == a) ≡ b → turns_left_of (session_turn a p) s ≤ k) [
        | true ↦ λ same. subst (λ n. turns_left_of (session_turn a p) n ≤ k) (sym (same_number s a same)) (omega (arith, own, mine))
        | false ↦ λ not. let still = is.others s from to (not_same s a not) in let old = within.most s from to in omega (arith, still, old)
      ] refl;
      less = λ s from to below. elim (s == a) as (λ b. (s == a) ≡ b → turns_left_of (session_turn a p) s ≤ k - 1) [
        | true ↦ λ same. subst (λ n. turns_left_of (session_turn a p) n ≤ k - 1) (sym (same_number s a same)) (omega (arith, own, mine))
        | false ↦ λ not.
            let apart = not_same s a not in
            let still = is.others s from to apart in
            let old = within.less s from to (smaller s a below apart) in
            omega (arith, still, old)
      ] refl;
    }
  where
    smaller : (s a : ℕ) → s < a + 1 → (s ≡ a → ⊥) → s < a
    smaller s a below apart = grind (arith, below, apart)

within_sessions : (options : Options) (calls : List (List Call)) (a n : ℕ) (p : Playing) (k : ℕ) → 1 ≤ a → a + n ≤ length calls + 1 → Within options calls p k a → Within options calls (after_turns (sessions_from a n) p) k (a + n)
within_sessions options calls a zero p k low high within = record { plays = within.plays; most = within.most; less = λ s from to below. within.less s from to (omega (arith, below)) }
within_sessions options calls a (suc n) p k low high within =
    let rest = within_sessions options calls (a + 1) n (session_turn a p) k (omega arith) (omega (arith, high)) (within_turn options calls p k a low (omega (arith, high)) within) in
    record { plays = rest.plays; most = rest.most; less = λ s from to below. rest.less s from to (omega (arith, below)) }

-- Each session has at most so many turns left.
abbrev AreAtMost : List (List Call) → Playing → ℕ → Type 0
AreAtMost calls p k = (s : ℕ) → 1 ≤ s → s ≤ length calls → turns_left_of p s ≤ k

record Ahead (options : Options) (calls : List (List Call)) (p : Playing) (k : ℕ) : Type 0 where
  plays : Plays options calls p
  most : AreAtMost calls p k

ahead_round : (options : Options) (calls : List (List Call)) (p : Playing) (k : ℕ) → Ahead options calls p k → Ahead options calls (after_turns (round (length calls)) p) (k - 1)
ahead_round options calls p k ahead =
    let n = length calls in
    let sessions = within_sessions options calls 1 n p k (omega arith) (omega arith) (record { plays = ahead.plays; most = ahead.most; less = λ s from to below. absurd (omega (arith, from, below)) }) in
    let last = stepped options calls (after_turns (sessions_from 1 n) p) Reclaims sessions.plays tt in
    subst (λ q. Ahead options calls q (k - 1)) (sym (turns-append (sessions_from 1 n) (Reclaims ∷ []) p)) (record {
      plays = last.plays;
      most = λ s from to. let low = sessions.less s from to (omega (arith, to)) in let still = last.fewer s from to in omega (arith, low, still);
    })

ahead_rounds : (options : Options) (calls : List (List Call)) (n : ℕ) (p : Playing) (k : ℕ) → Ahead options calls p k → Ahead options calls (after_turns (rounds (length calls) n) p) (k - n)
ahead_rounds options calls zero p k ahead = let same : k - zero ≡ k = omega arith in subst (Ahead options calls p) (sym same) ahead
ahead_rounds options calls (suc n) p k ahead =
    let rest = ahead_rounds options calls n (after_turns (round (length calls)) p) (k - 1) (ahead_round options calls p k ahead) in
    let same : k - suc n ≡ k - 1 - n = omega arith in
    subst (λ q. Ahead options calls q (k - suc n)) (sym (turns-append (round (length calls)) (rounds (length calls) n) p)) (subst (Ahead options calls (after_turns (rounds (length calls) n) (after_turns (round (length calls)) p))) (sym same) rest)

-- a script's turns are at most three for each call
ahead_script : (options : Options) (calls : List (List Call)) (p : Playing) → Plays options calls p → Ahead options calls p (enough_rounds calls)
ahead_script options calls p plays = record {
  plays = plays;
  most = λ s low high.
      let mine = (plays.each s (there options (length calls) p.stage s plays.stage low high)).own in
      let parts : length (ended_by s (opening_table options (length calls)) p.stage.history ++ calls_left p s) ≡ length (script_calls calls s) = ap (λ (cs : List Call). length cs) mine in
      let both = length-append (ended_by s (opening_table options (length calls)) p.stage.history) (calls_left p s) in
      let size = length-map calls (λ own. own ++ call.End ∷ []) in
      let within : length (script_calls calls s) ≤ sum_by (λ cs. length cs) (with_ends calls) = get_or-le-sum_by (λ (cs : List Call). length cs) (with_ends calls) (s - 1) [] (omega (arith, size, low, high)) in
      omega (arith, parts, both, within);
}

-- A play in which no session has a call left.
pub record IsOver (options : Options) (calls : List (List Call)) (p : Playing) : Type 0 where
  pub plays : Plays options calls p
  pub none : (s : ℕ) → 1 ≤ s → s ≤ length calls → calls_left p s ≡ []

pub no_calls : (x : Stage) (s : ℕ) (rest : List Call) → turns_left x s rest ≤ 0 → rest ≡ []
no_calls x s [] le = refl
no_calls x s (c ∷ rest) le =
    let few = few_done (session_of x.table s).promise (length (collected_by x.space s)) in
    absurd (omega (arith, few, le))

pub over : (options : Options) (calls : List (List Call)) (p : Playing) → Plays options calls p → IsOver options calls (after_turns (rounds (length calls) (enough_rounds calls)) p)
over options calls p plays =
    let n = enough_rounds calls in
    let q = after_turns (rounds (length calls) n) p in
    let ahead = ahead_rounds options calls n p n (ahead_script options calls p plays) in
    record { plays = ahead.plays; none = λ s low high. no_calls q.stage s (calls_left q s) (let most = ahead.most s low high in omega (arith, most)) }

pub end_over : (options : Options) (calls : List (List Call)) (schedule : List Turn) → AreWithoutEnd calls → AreTurnsOf (length calls) schedule → IsOver options calls (play_for options calls schedule (enough_rounds calls))
end_over options calls schedule without of =
    over options calls (after_turns schedule (start_of options calls)) (stepped_on options calls (start_of options calls) schedule (start_plays options calls without) of).plays

-- a list by its items
listed : (f : ℕ → List Call) (lists : List (List Call)) (a : ℕ) → ((i : ℕ) → i < length lists → f (a + i) ≡ slice_index_or lists i []) → map f (range_with_len a (length lists)) ≡ lists
listed f [] a same = refl
listed f (cs ∷ lists) a same =
    let first : f a ≡ cs = subst (λ n. f n ≡ cs) (let e : a + 0 ≡ a = omega arith in e) (same 0 (omega arith)) in
    ap (λ (xs : List Call). xs ∷ map f (range_with_len (a + 1) (length lists))) first
    ∙ ap (λ (xss : List (List Call)). cs ∷ xss) (listed f lists (a + 1) (λ i lt. subst (λ n. f n ≡ slice_index_or lists i []) (let e : a + suc i ≡ a + 1 + i = omega arith in e) (same (suc i) (omega (arith, lt)))))

pub ended_whole : (options : Options) (calls : List (List Call)) (p : Playing) → IsOver options calls p → ended_calls (length calls) (opening_table options (length calls)) p.stage.history ≡ with_ends calls
ended_whole options calls p done =
    let opening = opening_table options (length calls) in
    let f = λ (s : ℕ). ended_by s opening p.stage.history in
    let size = length-map calls (λ own. own ++ call.End ∷ []) in
    let each : (i : ℕ) → i < length (with_ends calls) → f (1 + i) ≡ slice_index_or (with_ends calls) i [] = λ i lt.
    let low : 1 ≤ 1 + i = omega arith in
    let high : 1 + i ≤ length calls = omega (arith, lt, size) in
    let mine = (done.plays.each (1 + i) (there options (length calls) p.stage (1 + i) done.plays.stage low high)).own in
    let at : 1 + i - 1 ≡ i = omega arith in
    sym (append-nil (f (1 + i))) ∙ ap (λ (cs : List Call). f (1 + i) ++ cs) (sym (done.none (1 + i) low high)) ∙ mine ∙ ap (λ n. slice_index_or (with_ends calls) n []) at in
    ap (λ n. map f (range_with_len 1 n)) (sym size) ∙ listed f (with_ends calls) 1 each

pub whole_order : (options : Options) (calls : List (List Call)) (p : Playing) → IsOver options calls p → IsWhole options calls (map (λ e. e.token) p.stage.history)
whole_order options calls p done = record {
  history = p.stage.history;
  tokens = refl;
  uncancelled = done.plays.uncancelled;
  legal = done.plays.stage.legal;
  own = ended_whole options calls p done;
}

-- rounds after the end
over_session : (options : Options) (calls : List (List Call)) (p : Playing) (a n : ℕ) → 1 ≤ a → a + n ≤ length calls + 1 → IsOver options calls p → after_turns (sessions_from a n) p ≡ p
over_session options calls p a zero low high done = refl
over_session options calls p a (suc n) low high done =
    let same = not_taken p a (done.none a low (omega (arith, high))) in
    ap (after_turns (sessions_from (a + 1) n)) same ∙ over_session options calls p (a + 1) n (omega arith) (omega (arith, high)) done

-- What a round after the end leaves.
pub record IsLeft (p q : Playing) : Type 0 where
  pub history : q.stage.history ≡ p.stage.history
  pub places : q.stage.space.places ≡ p.stage.space.places

record IsOverStill (options : Options) (calls : List (List Call)) (p q : Playing) : Type 0 where
  over : IsOver options calls q
  left : IsLeft p q

over_round : (options : Options) (calls : List (List Call)) (p : Playing) → IsOver options calls p → IsOverStill options calls p (after_turns (round (length calls)) p)
over_round options calls p done =
    let n = length calls in
    let all : after_turns (round n) p ≡ after_turn Reclaims p = turns-append (sessions_from 1 n) (Reclaims ∷ []) p ∙ ap (after_turn Reclaims) (over_session options calls p 1 n (omega arith) (omega arith) done) in
    subst (IsOverStill options calls p) (sym all) (record {
      over = record { plays = (stepped options calls p Reclaims done.plays tt).plays; none = done.none };
      left = record { history = refl; places = refl };
    })

pub over_rounds : (options : Options) (calls : List (List Call)) (n : ℕ) (p : Playing) → IsOver options calls p → IsLeft p (after_turns (rounds (length calls) n) p)
over_rounds options calls zero p done = record { history = refl; places = refl }
over_rounds options calls (suc n) p done =
    let one = over_round options calls p done in
    let q = after_turns (round (length calls)) p in
    let rest = over_rounds options calls n q one.over in
    subst (IsLeft p) (sym (turns-append (round (length calls)) (rounds (length calls) n) p)) (record { history = rest.history ∙ one.left.history; places = rest.places ∙ one.left.places })

rounds-split : (sessions m n : ℕ) (p : Playing) → after_turns (rounds sessions (m + n)) p ≡ after_turns (rounds sessions n) (after_turns (rounds sessions m) p)
rounds-split sessions zero n p = let same : 0 + n ≡ n = omega arith in ap (λ k. after_turns (rounds sessions k) p) same
rounds-split sessions (suc m) n p =
    let same : suc m + n ≡ suc (m + n) = omega arith in
    ap (λ k. after_turns (rounds sessions k) p) same
    ∙ turns-append (round sessions) (rounds sessions (m + n)) p
    ∙ rounds-split sessions m n (after_turns (round sessions) p)
    ∙ ap (after_turns (rounds sessions n)) (sym (turns-append (round sessions) (rounds sessions m) p))

pub more_rounds : (options : Options) (calls : List (List Call)) (schedule : List Turn) (more : ℕ) → AreWithoutEnd calls → AreTurnsOf (length calls) schedule
    → IsLeft (play_for options calls schedule (enough_rounds calls)) (play_for options calls schedule (enough_rounds calls + more))
more_rounds options calls schedule more without of =
    subst (IsLeft (play_for options calls schedule (enough_rounds calls))) (sym (rounds-split (length calls) (enough_rounds calls) more (after_turns schedule (start_of options calls))))
    (over_rounds options calls more (play_for options calls schedule (enough_rounds calls)) (end_over options calls schedule without of))

-- so all sessions have ended
all_from : (test : Session → Bool) (parts : List Session) → ((i : ℕ) → i < length parts → test (unwrap_or (slice_get parts i) new_session) ≡ true) → list_all test parts ≡ true
all_from test [] all = refl
all_from test (p ∷ parts) all =
    let first : test p ≡ true = all 0 (omega arith) in
    let rest = all_from test parts (λ i lt. all (suc i) (omega (arith, lt))) in
    ap (λ b. b && list_all test parts) first ∙ rest

pub all_ended : (options : Options) (calls : List (List Call)) (p : Playing) → IsOver options calls p → have_all_ended p ≡ true
all_ended options calls p done =
    let t = p.stage.table in
    all_from (λ x. x.has_ended) t.sessions (λ i lt.
    let size = done.plays.stage.size in
    let low : 1 ≤ i + 1 = omega arith in
    let high : i + 1 ≤ length calls = omega (arith, lt, size) in
    let mine = (done.plays.each (i + 1) (there options (length calls) p.stage (i + 1) done.plays.stage low high)).ended in
    let at : i + 1 - 1 ≡ i = omega arith in
    subst (λ n. (unwrap_or (slice_get t.sessions n) new_session).has_ended ≡ true) at (mine ∙ ap is_done (done.none (i + 1) low high)))

-- the turns of rounds are those of the sessions
sessions_of : (m a n : ℕ) → 1 ≤ a → a + n ≤ m + 1 → AreTurnsOf m (map (λ s. OfSession s) (range_with_len a n))
sessions_of m a zero low high = tt
sessions_of m a (suc n) low high = ((low, omega (arith, high)), sessions_of m (a + 1) n (omega arith) (omega (arith, high)))

pub rounds_of : (m n : ℕ) → AreTurnsOf m (rounds m n)
rounds_of m zero = tt
rounds_of m (suc n) =
    each-append (IsTurnOf m) (round m) (rounds m n)
    (each-append (IsTurnOf m) (map (λ s. OfSession s) (range_with_len 1 m)) (Reclaims ∷ []) (sessions_of m 1 m (omega arith) (omega arith)) (tt, tt)) (rounds_of m n)

-- where all have ended
all_at : (test : Session → Bool) (parts : List Session) (i : ℕ) → list_all test parts ≡ true → i < length parts → test (unwrap_or (slice_get parts i) new_session) ≡ true
all_at test [] i all lt = absurd (omega (arith, lt))
all_at test (p ∷ parts) zero all lt = both_first (test p) (list_all test parts) all
all_at test (p ∷ parts) (suc i) all lt = all_at test parts i (both_second (test p) (list_all test parts) all) (omega (arith, lt))

done_calls : (cs : List Call) → is_done cs ≡ true → cs ≡ []
done_calls [] is = refl
done_calls (c ∷ cs) is = absurd cc

pub ended_over : (options : Options) (calls : List (List Call)) (p : Playing) → Plays options calls p → have_all_ended p ≡ true → IsOver options calls p
ended_over options calls p plays all =
    let t = p.stage.table in
    let size = plays.stage.size in
    record {
      plays = plays;
      none = λ s low high.
          let is = all_at (λ x. x.has_ended) t.sessions (s - 1) all (omega (arith, size, low, high)) in
          done_calls (calls_left p s) (sym (plays.each s (there options (length calls) p.stage s plays.stage low high)).ended ∙ is);
    }

left_back : (p q : Playing) → IsLeft p q → IsLeft q p
left_back p q left = record { history = sym left.history; places = sym left.places }

-- a play that stops once all have ended
pub stopped : (options : Options) (calls : List (List Call)) (schedule : List Turn) (n : ℕ) → AreWithoutEnd calls → AreTurnsOf (length calls) schedule → have_all_ended (play_for options calls schedule n) ≡ true
    → IsLeft (play_for options calls schedule (enough_rounds calls)) (play_for options calls schedule n)
stopped options calls schedule n without of all =
    let most = enough_rounds calls in
    let p = after_turns schedule (start_of options calls) in
    let q = play_for options calls schedule n in
    let plays = (stepped_on options calls (start_of options calls) schedule (start_plays options calls without) of).plays in
    let there_n = (stepped_on options calls p (rounds (length calls) n) plays (rounds_of (length calls) n)).plays in
    elim (nat_le n most) as (λ b. nat_le n most ≡ b → IsLeft (play_for options calls schedule most) q) [
      | true ↦ λ is.
          let le = at_most n most is in
          let sum : n + (most - n) ≡ most = omega (arith, le) in
          let later = over_rounds options calls (most - n) q (ended_over options calls q there_n all) in
          left_back q (play_for options calls schedule most) (subst (IsLeft q) (sym (rounds-split (length calls) n (most - n) p) ∙ ap (λ k. after_turns (rounds (length calls) k) p) sum) later)
      | false ↦ λ is.
          let sum : most + (n - most) ≡ n = grind (arith, is) in
          subst (IsLeft (play_for options calls schedule most)) (ap (λ k. after_turns (rounds (length calls) k) p) sum) (more_rounds options calls schedule (n - most) without of)
    ] refl
