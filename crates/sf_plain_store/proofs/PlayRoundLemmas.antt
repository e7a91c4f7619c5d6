-- Rounds of a play: how many turns are left falls with each, and the end of a play that stops once all have ended.
use Rattle.std.proofs.Common.{◌≡◌, ℕ, zero, suc, ◌+◌, ◌-◌, ◌≤◌, ◌<◌, true, false, List, [], ◌∷◌, length, map, refl, sym, ap, subst, ◌∙◌, arith}
use Rattle.std.specs.Prelude.{◌==◌, sum_by}
use Rattle.std.specs.List.{range_with_len}
use Rattle.std.proofs.lemmas.List.Sums.{sum_by-cons}
use Rattle.sf_types.specs.declared.call.Call.{Call}
use Rattle.sf_types.specs.declared.history.Entry.{Entry}
use Rattle.sf_types.specs.declared.options.Options.{Options}
use Rattle.sf_types.specs.Table.Sessions.{session_of}
use Rattle.sf_types.specs.Orders.Histories.{history_table}
use Rattle.sf_types.specs.Space.Use.{free_of}
use Rattle.sf_types.specs.Space.Placings.{all_blocks}
use Rattle.sf_types.specs.Play.Blocks.{collected_by}
use Rattle.sf_types.specs.Play.Turns.{Stage, Playing, session_turn, Turn, OfSession, Reclaims, after_turns, round, rounds, have_all_ended, play_for, play_end}
use Rattle.sf_types.proofs.NumberLemmas.{same_number, not_same}
use Rattle.sf_laws.specs.Plays.{AreWithoutEnd, AreTurnsOf, calls_left}
use Rattle.sf_laws.proofs.PlayLemmas.{Plays, turns_left_of, turned, stepped}
use Rattle.sf_laws.proofs.PlayTranscriptLemmas.{free_at_end}
use Rattle.sf_laws.proofs.RoundLemmas.{IsOver, turns-append, all_ended, ended_over, end_over, no_calls, stopped}
use Rattle.sf_laws.proofs.TurnLemmas.{few_done, turns_left}

-- The turns that all of so many sessions have left.
abbrev pub all_turns_left : ℕ → Playing → ℕ
all_turns_left sessions p = sum_by (turns_left_of p) (range_with_len 1 sessions)

-- Some turns later no session has more turns left, and each below a number has one less.
record IsFurther (options : Options) (calls : List (List Call)) (p q : Playing) (a : ℕ) : Type 0 where
  plays : Plays options calls q
  most : (s : ℕ) → 1 ≤ s → s ≤ length calls → turns_left_of q s ≤ turns_left_of p s
  less : (s : ℕ) → 1 ≤ s → s ≤ length calls → s < a → turns_left_of q s ≤ turns_left_of p s - 1

further_turn : (options : Options) (calls : List (List Call)) (p q : Playing) (a : ℕ) → 1 ≤ a → a ≤ length calls → IsFurther options calls p q a → IsFurther options calls p (session_turn a q) (a + 1)
further_turn options calls p q a low high further =
    let is = turned options calls q a further.plays low high in
    let own = is.own in
    let mine = further.most a low high in
    record {
      plays = is.plays;
      most = λ s from to. elim (s == a) as (λ b. (s == a) ≡ b → turns_left_of (session_turn a q) s ≤ turns_left_of p s) [
        | true ↦ λ same. subst (λ n. turns_left_of (session_turn a q) n ≤ turns_left_of p n) (sym (same_number s a same)) (omega (arith, own, mine))
        | false ↦ λ not. let still = is.others s from to (not_same s a not) in let old = further.most s from to in omega (arith, still, old)
      ] refl;
      less = λ s from to below. elim (s == a) as (λ b. (s == a) ≡ b → turns_left_of (session_turn a q) s ≤ turns_left_of p s - 1) [
        | true ↦ λ same. subst (λ n. turns_left_of (session_turn a q) n ≤ turns_left_of p n - 1) (sym (same_number s a same)) (omega (arith, own, mine))
        | false ↦ λ not.
            let apart = not_same s a not in
            let still = is.others s from to apart in
            let old = further.less s from to (smaller s a below apart) in
            omega (arith, still, old)
      ] refl;
    }
  where
    smaller : (s a : ℕ) → s < a + 1 → (s ≡ a → ⊥) → s < a
    smaller s a below apart = grind (arith, below, apart)

further_sessions : (options : Options) (calls : List (List Call)) (p q : Playing) (a n : ℕ) → 1 ≤ a → a + n ≤ length calls + 1 → IsFurther options calls p q a
    → IsFurther options calls p (after_turns (map (λ s. OfSession s) (range_with_len a n)) q) (a + n)
further_sessions options calls p q a zero low high further = record { plays = further.plays; most = further.most; less = λ s from to below. further.less s from to (omega (arith, below)) }
further_sessions options calls p q a (suc n) low high further =
    let rest = further_sessions options calls p (session_turn a q) (a + 1) n (omega arith) (omega (arith, high)) (further_turn options calls p q a low (omega (arith, high)) further) in
    record { plays = rest.plays; most = rest.most; less = λ s from to below. rest.less s from to (omega (arith, below)) }

-- after a round each session has one turn less, or none
further_round : (options : Options) (calls : List (List Call)) (p : Playing) → Plays options calls p → (s : ℕ) → 1 ≤ s → s ≤ length calls → turns_left_of (after_turns (round (length calls)) p) s ≤ turns_left_of p s - 1
further_round options calls p plays s low high =
    let n = length calls in
    let sessions = map (λ a. OfSession a) (range_with_len 1 n) in
    let done = further_sessions options calls p p 1 n (omega arith) (omega arith) (record { plays = plays; most = λ r from to. omega arith; less = λ r from to below. absurd (omega (arith, from, below)) }) in
    let last = stepped options calls (after_turns sessions p) Reclaims done.plays tt in
    let less = done.less s low high (omega (arith, high)) in
    let still = last.fewer s low high in
    subst (λ q. turns_left_of q s ≤ turns_left_of p s - 1) (sym (turns-append sessions (Reclaims ∷ []) p)) (omega (arith, less, still))

-- sums of fewer
sum_fewer : (f g : ℕ → ℕ) (a n : ℕ) → ((s : ℕ) → a ≤ s → s < a + n → g s ≤ f s - 1) → sum_by g (range_with_len a n) ≤ sum_by f (range_with_len a n) - 1
sum_fewer f g a zero fewer = omega arith
sum_fewer f g a (suc n) fewer =
    let first = fewer a (omega arith) (omega arith) in
    let rest = sum_fewer f g (a + 1) n (λ s low high. fewer s (omega (arith, low)) (omega (arith, high))) in
    let fs = sum_by-cons f a (range_with_len (a + 1) n) in
    let gs = sum_by-cons g a (range_with_len (a + 1) n) in
    omega (arith, first, rest, fs, gs)

sum_of : (f : ℕ → ℕ) (a n s : ℕ) → a ≤ s → s < a + n → f s ≤ sum_by f (range_with_len a n)
sum_of f a zero s low high = absurd (omega (arith, low, high))
sum_of f a (suc n) s low high =
    let fs = sum_by-cons f a (range_with_len (a + 1) n) in
    elim (s == a) as (λ b. (s == a) ≡ b → f s ≤ sum_by f (a ∷ range_with_len (a + 1) n)) [
      | true ↦ λ same. subst (λ k. f k ≤ sum_by f (a ∷ range_with_len (a + 1) n)) (sym (same_number s a same)) (omega (arith, fs))
      | false ↦ λ not. let rest = sum_of f (a + 1) n s (above s a low (not_same s a not)) (omega (arith, high)) in omega (arith, fs, rest)
    ] refl
  where
    above : (s a : ℕ) → a ≤ s → (s ≡ a → ⊥) → a + 1 ≤ s
    above s a low apart = grind (arith, low, apart)

some_turns : (options : Options) (calls : List (List Call)) (p : Playing) → Plays options calls p → have_all_ended p ≡ false → 1 ≤ all_turns_left (length calls) p
some_turns options calls p plays going = go (all_turns_left (length calls) p) refl
  where
    go : (n : ℕ) → all_turns_left (length calls) p ≡ n → 1 ≤ n
    go zero none =
        let over : IsOver options calls p = record {
          plays = plays;
          none = λ s low high. no_calls p.stage s (calls_left p s) (let part = sum_of (turns_left_of p) 1 (length calls) s low (omega (arith, high)) in omega (arith, part, none));
        } in
        let all = all_ended options calls p over in
        absurd cc
    go (suc n) some = omega arith

-- so a round leaves fewer turns, until all have ended
pub round_falls : (options : Options) (calls : List (List Call)) (p : Playing) → Plays options calls p → have_all_ended p ≡ false → all_turns_left (length calls) (after_turns (round (length calls)) p) < all_turns_left (length calls) p
round_falls options calls p plays going =
    let n = length calls in
    let fewer = sum_fewer (turns_left_of p) (turns_left_of (after_turns (round n) p)) 1 n (λ s low high. further_round options calls p plays s low (omega (arith, high))) in
    let some = some_turns options calls p plays going in
    omega (arith, fewer, some)

-- one more round
pub rounds_more : (sessions n : ℕ) (p : Playing) → after_turns (rounds sessions (suc n)) p ≡ after_turns (round sessions) (after_turns (rounds sessions n) p)
rounds_more sessions zero p = turns-append (round sessions) [] p
rounds_more sessions (suc n) p =
    turns-append (round sessions) (rounds sessions (suc n)) p
    ∙ rounds_more sessions n (after_turns (round sessions) p)
    ∙ ap (after_turns (round sessions)) (sym (turns-append (round sessions) (rounds sessions n) p))

-- What a play that stopped once all had ended has of the play's end.
pub record IsEndOf (x y : Stage) : Type 0 where
  pub history : x.history ≡ y.history
  pub places : x.space.places ≡ y.space.places
  pub table : x.table ≡ y.table

pub end_is : (options : Options) (calls : List (List Call)) (schedule : List Turn) (n : ℕ) → AreWithoutEnd calls → AreTurnsOf (length calls) schedule → Plays options calls (play_for options calls schedule n)
    → have_all_ended (play_for options calls schedule n) ≡ true → IsEndOf (play_for options calls schedule n).stage (play_end options calls schedule)
end_is options calls schedule n without of plays all =
    let left = stopped options calls schedule n without of all in
    let end = (end_over options calls schedule without of).plays in
    record {
      history = left.history;
      places = left.places;
      table = plays.stage.table ∙ ap (λ (es : List Entry). history_table options (length calls) es) left.history ∙ sym end.stage.table;
    }

pub free_is : (options : Options) (calls : List (List Call)) (p : Playing) → Plays options calls p → have_all_ended p ≡ true → free_of p.stage.table ≡ options.capacity - length (all_blocks p.stage.space.places)
free_is options calls p plays all = free_at_end options calls p (ended_over options calls p plays all)
