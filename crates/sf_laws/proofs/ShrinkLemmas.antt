-- Shrink turns change nothing but where blocks stand.
use Rattle.std.proofs.Common.{◌≡◌, ℕ, zero, suc, ◌+◌, ◌-◌, ◌≤◌, ◌<◌, true, false, cond, not, List, [], ◌∷◌, ◌++◌, length, map, Some, refl, sym, ap, subst, ◌∙◌, arith}
use Rattle.std.specs.Prelude.{◌==◌, slice_index_or, is_some}
use Rattle.std.specs.List.{range_with_len}
use Rattle.sf_types.specs.declared.call.Call.{Call}
use Rattle.sf_types.specs.declared.history.Entry.{Entry}
use Rattle.sf_types.specs.declared.history.Kind.TheVariants as kind
use Rattle.sf_types.specs.declared.limits.TheConstants.{RECLAIMED_BLOCKS}
use Rattle.sf_types.specs.declared.options.Options.{Options}
use Rattle.sf_types.specs.Table.Parts.{Promise, Table}
use Rattle.sf_types.specs.Table.Sessions.{session_of}
use Rattle.sf_types.specs.Space.Due.{is_due}
use Rattle.sf_types.specs.Space.Placings.{all_blocks}
use Rattle.sf_types.specs.Space.Reach.{reach}
use Rattle.sf_types.specs.Space.Use.{blocks_of_births}
use Rattle.sf_types.specs.Orders.Histories.{call_entries, entry_of, table_after}
use Rattle.sf_types.specs.Play.Blocks.{Space, collected_by, with_collected, after_entries, after_publication, after_collection}
use Rattle.sf_types.specs.Play.Turns.{Stage, action_where, action_at, with_entries, stage_after, stage_after_reclaim, stage_after_shrink, Playing, start_of, with_rest, session_turn, Turn, OfSession, Reclaims, Shrinks, after_turn, after_turns, round, rounds, play_for}
use Rattle.sf_types.proofs.NumberLemmas.{same_number, not_same, one_less}
use Rattle.sf_laws.specs.Plays.{AreWithoutEnd, IsTurnOf, AreTurnsOf, calls_left, is_shrink, without_shrinks}
use Rattle.sf_laws.specs.Stages.{IsAtCall}
use Rattle.sf_laws.proofs.EachLemmas.{each-filter}
use Rattle.sf_laws.proofs.PlayLemmas.{Plays, start_plays, there, at_call, IsBeside, shrink_beside, stepped, stepped_on}
use Rattle.sf_laws.proofs.RoundLemmas.{rounds_of}
use Rattle.sf_laws.proofs.SpaceLemmas.{own_list, other_list}
use Rattle.sf_laws.proofs.StageLemmas.{Holds, placed_count, collected_keeps}
use Rattle.sf_laws.proofs.TurnLemmas.{EndsLast, acted, with_space, is_taken, not_taken, by_action, rest_after}

-- How many blocks the session at a position has collected.
abbrev size_at : Space → ℕ → ℕ
size_at space i = length (slice_index_or space.collected i [])

-- Two plays that differ in nothing but where blocks stand.
pub record Alike (p q : Playing) : Type 0 where
  pub history : q.stage.history ≡ p.stage.history
  pub table : q.stage.table ≡ p.stage.table
  pub rest : q.rest ≡ p.rest
  pub sizes : (i : ℕ) → size_at q.stage.space i ≡ size_at p.stage.space i

pub alike_same : (p : Playing) → Alike p p
alike_same p = record { history = refl; table = refl; rest = refl; sizes = λ i. refl }

alike_space : (p q : Playing) → Alike p q → with_space p q.stage.space ≡ q
alike_space p q alike = λ i. record { stage = record { history = sym alike.history i; table = sym alike.table i; space = q.stage.space }; rest = sym alike.rest i }

-- a session's collected blocks, set in both
set_sizes : (x y : Space) (s : ℕ) (a b : List ℕ) → s - 1 < length x.collected → s - 1 < length y.collected → length b ≡ length a → ((i : ℕ) → size_at y i ≡ size_at x i) → (i : ℕ) → size_at (with_collected y s b) i ≡ size_at (with_collected x s a) i
set_sizes x y s a b lt_x lt_y same sizes i =
    elim (i == (s - 1)) as (λ c. (i == (s - 1)) ≡ c → size_at (with_collected y s b) i ≡ size_at (with_collected x s a) i) [
      | true ↦ λ is.
          subst (λ k. size_at (with_collected y s b) k ≡ size_at (with_collected x s a) k) (sym (same_number i (s - 1) is))
          (ap (λ (xs : List ℕ). length xs) (own_list y.collected (s - 1) b [] lt_y) ∙ same ∙ ap (λ (xs : List ℕ). length xs) (sym (own_list x.collected (s - 1) a [] lt_x)))
      | false ↦ λ is.
          let apart : s - 1 ≡ i → ⊥ = λ (e : s - 1 ≡ i). not_same i (s - 1) is (sym e) in
          ap (λ (xs : List ℕ). length xs) (other_list y.collected (s - 1) i b [] apart) ∙ sizes i ∙ ap (λ (xs : List ℕ). length xs) (sym (other_list x.collected (s - 1) i a [] apart))
    ] refl

empty_list : (xs : List ℕ) → length xs ≡ 0 → xs ≡ []
empty_list [] is = refl
empty_list (x ∷ xs) is = absurd (omega (arith, is))

module _ (options : Options) (sessions : ℕ) (x : Stage) (space : Space) (s : ℕ) (locals : List Call) (c : Call) (holds : Holds options sessions x) (other : Holds options sessions (record x { space = space })) (at : IsAtCall x.table s locals c)
    (sizes : (i : ℕ) → size_at space i ≡ size_at x.space i) where
  inside_x : s - 1 < length x.space.collected
  inside_x = subst (λ n. s - 1 < n) (sym holds.has.lists) (one_less s (length x.table.sessions) at.session)

  inside_y : s - 1 < length space.collected
  inside_y = subst (λ n. s - 1 < n) (sym other.has.lists) (one_less s (length x.table.sessions) at.session)

  entries_alike : (es : List Entry) (i : ℕ) → size_at (with_entries (record x { space = space }) s es).space i ≡ size_at (with_entries x s es).space i
  entries_alike es i =
      let u = table_after x.table es in
      elim (is_some (session_of x.table s).promise) as (λ b. size_at (cond b (after_publication x.table u s space) (after_entries x.table u space)) i ≡ size_at (cond b (after_publication x.table u s x.space) (after_entries x.table u x.space)) i) [
        | true ↦ set_sizes x.space space s [] [] inside_x inside_y refl sizes i
        | false ↦ sizes i
      ]

  collection_alike : (q : Promise) → (session_of x.table s).promise ≡ Some q → collected_by x.space s ≡ [] → (i : ℕ) → size_at (after_collection s q.blocks space) i ≡ size_at (after_collection s q.blocks x.space) i
  collection_alike q is none i =
      let none_y : collected_by space s ≡ [] = empty_list (collected_by space s) (sizes (s - 1) ∙ ap (λ (xs : List ℕ). length xs) none) in
      let size_x = (collected_keeps options sessions x s q holds at.session is none).size in
      let size_y = (collected_keeps options sessions (record x { space = space }) s q other at.session is none_y).size in
      elim (i == (s - 1)) as (λ b. (i == (s - 1)) ≡ b → size_at (after_collection s q.blocks space) i ≡ size_at (after_collection s q.blocks x.space) i) [
        | true ↦ λ same. subst (λ k. size_at (after_collection s q.blocks space) k ≡ size_at (after_collection s q.blocks x.space) k) (sym (same_number i (s - 1) same)) (size_y ∙ sym size_x)
        | false ↦ λ not.
            let apart : s - 1 ≡ i → ⊥ = λ (e : s - 1 ≡ i). not_same i (s - 1) not (sym e) in
            ap (λ (xs : List ℕ). length xs) (other_list space.collected (s - 1) i _ [] apart) ∙ sizes i ∙ ap (λ (xs : List ℕ). length xs) (sym (other_list x.space.collected (s - 1) i _ [] apart))
      ] refl

acted_alike : (options : Options) (sessions : ℕ) (p : Playing) (space : Space) (s : ℕ) (locals : List Call) (c : Call) (later : List Call) → Holds options sessions p.stage → Holds options sessions (with_space p space).stage → IsAtCall p.stage.table s locals c
    → ((i : ℕ) → size_at space i ≡ size_at p.stage.space i) → Alike (acted p s locals c later) (acted (with_space p space) s locals c later)
acted_alike options sessions p space s locals c later holds other at sizes =
    let x = p.stage in
    let q = with_space p space in
    let y = q.stage in
    let u = table_after x.table (call_entries s locals) in
    let same : action_at y s locals c ≡ action_at x s locals c = ap (λ n. action_where (session_of u s).promise (is_due u s c) n) (sizes (s - 1)) in
    subst (λ a. Alike (acted p s locals c later) (with_rest q s (rest_after y s locals c later a) (stage_after y s locals c a))) (sym same)
    (by_action options sessions x s locals c (λ a. Alike (with_rest p s (rest_after x s locals c later a) (stage_after x s locals c a)) (with_rest q s (rest_after y s locals c later a) (stage_after y s locals c a))) holds at (record {
      ends = λ none behind due. record { history = refl; table = refl; rest = refl; sizes = entries_alike options sessions x space s locals c holds other at sizes (call_entries s locals ++ entry_of s kind.Call c ∷ []) };
      promises = λ none behind due. record { history = refl; table = refl; rest = refl; sizes = entries_alike options sessions x space s locals c holds other at sizes (call_entries s locals ++ entry_of s kind.Promise c ∷ []) };
      publishes = λ k is none equal size. record { history = refl; table = refl; rest = refl; sizes = entries_alike options sessions x space s locals c holds other at sizes (call_entries s locals ++ entry_of s kind.Call c ∷ []) };
      collects = λ k is none equal apart empty. record { history = refl; table = refl; rest = refl; sizes = collection_alike options sessions x space s locals c holds other at sizes k is empty };
    }))

session_alike : (options : Options) (calls : List (List Call)) (p : Playing) (space : Space) (s : ℕ) → Plays options calls p → Plays options calls (with_space p space) → 1 ≤ s → s ≤ length calls → ((i : ℕ) → size_at space i ≡ size_at p.stage.space i)
    → Alike (session_turn s p) (session_turn s (with_space p space))
session_alike options calls p space s plays other low high sizes = go (calls_left p s) refl
  where
    go : (cs : List Call) → calls_left p s ≡ cs → Alike (session_turn s p) (session_turn s (with_space p space))
    go [] none =
        subst (λ a. Alike a (session_turn s (with_space p space))) (sym (not_taken p s none))
        (subst (Alike p) (sym (not_taken (with_space p space) s none)) (record { history = refl; table = refl; rest = refl; sizes = sizes }))
    go (c ∷ later) is =
        let has = there options (length calls) p.stage s plays.stage low high in
        let last = subst EndsLast is (plays.each s has).last in
        let taken = is_taken p space s c later is last in
        let at = at_call options calls p space (session_turn s p) (session_turn s (with_space p space)) s c later plays has is taken in
        subst (λ a. Alike a (session_turn s (with_space p space))) (sym taken.same)
        (subst (Alike (acted p s taken.locals taken.next taken.later)) (sym taken.same_other)
        (acted_alike options (length calls) p space s taken.locals taken.next taken.later plays.stage other.stage at sizes))

-- a turn of both
beside_alike : (p q : Playing) (x y : Stage) → Alike p q → IsBeside p.stage x → IsBeside q.stage y → Alike (record p { stage = x }) (record q { stage = y })
beside_alike p q x y alike first second = record {
  history = second.history ∙ alike.history ∙ sym first.history;
  table = second.table ∙ alike.table ∙ sym first.table;
  rest = alike.rest;
  sizes = λ i. ap (λ (lists : List (List ℕ)). length (slice_index_or lists i [])) second.collected ∙ alike.sizes i ∙ ap (λ (lists : List (List ℕ)). length (slice_index_or lists i [])) (sym first.collected);
}

turn_alike : (options : Options) (calls : List (List Call)) (p q : Playing) (turn : Turn) → Plays options calls p → Plays options calls q → IsTurnOf (length calls) turn → Alike p q → Alike (after_turn turn p) (after_turn turn q)
turn_alike options calls p q (OfSession s) plays other of alike =
    let same = alike_space p q alike in
    subst (λ r. Alike (session_turn s p) (session_turn s r)) same
    (session_alike options calls p q.stage.space s plays (subst (Plays options calls) (sym same) other) of.0 of.1 alike.sizes)
turn_alike options calls p q Reclaims plays other of alike =
    beside_alike p q (stage_after_reclaim RECLAIMED_BLOCKS p.stage) (stage_after_reclaim RECLAIMED_BLOCKS q.stage) alike (record { history = refl; table = refl; collected = refl }) (record { history = refl; table = refl; collected = refl })
turn_alike options calls p q Shrinks plays other of alike = beside_alike p q (stage_after_shrink p.stage) (stage_after_shrink q.stage) alike (shrink_beside p.stage) (shrink_beside q.stage)

pub turns_alike : (options : Options) (calls : List (List Call)) (p q : Playing) (turns : List Turn) → Plays options calls p → Plays options calls q → AreTurnsOf (length calls) turns → Alike p q → Alike (after_turns turns p) (after_turns turns q)
turns_alike options calls p q [] plays other of alike = alike
turns_alike options calls p q (turn ∷ turns) plays other of alike =
    turns_alike options calls (after_turn turn p) (after_turn turn q) turns (stepped options calls p turn plays of.0).plays (stepped options calls q turn other of.0).plays of.1 (turn_alike options calls p q turn plays other of.0 alike)

-- shrinks of one alone
pub shrinks_alike : (options : Options) (calls : List (List Call)) (p q : Playing) (turns : List Turn) → Plays options calls p → Plays options calls q → AreTurnsOf (length calls) turns → Alike p q → Alike (after_turns turns p) (after_turns (without_shrinks turns) q)
shrinks_alike options calls p q [] plays other of alike = alike
shrinks_alike options calls p q (OfSession s ∷ turns) plays other of alike =
    shrinks_alike options calls (session_turn s p) (session_turn s q) turns (stepped options calls p (OfSession s) plays of.0).plays (stepped options calls q (OfSession s) other of.0).plays of.1 (turn_alike options calls p q (OfSession s) plays other of.0 alike)
shrinks_alike options calls p q (Reclaims ∷ turns) plays other of alike =
    shrinks_alike options calls (after_turn Reclaims p) (after_turn Reclaims q) turns (stepped options calls p Reclaims plays tt).plays (stepped options calls q Reclaims other tt).plays of.1 (turn_alike options calls p q Reclaims plays other tt alike)
shrinks_alike options calls p q (Shrinks ∷ turns) plays other of alike =
    shrinks_alike options calls (after_turn Shrinks p) q turns (stepped options calls p Shrinks plays tt).plays other of.1
    (beside_alike p q (stage_after_shrink p.stage) q.stage alike (shrink_beside p.stage) (record { history = refl; table = refl; collected = refl }))

turns_without : (m : ℕ) (turns : List Turn) → AreTurnsOf m turns → AreTurnsOf m (without_shrinks turns)
turns_without m turns of = each-filter (IsTurnOf m) (λ turn. not (is_shrink turn)) turns of

pub play_alike : (options : Options) (calls : List (List Call)) (schedule : List Turn) (n : ℕ) → AreWithoutEnd calls → AreTurnsOf (length calls) schedule → Alike (play_for options calls schedule n) (play_for options calls (without_shrinks schedule) n)
play_alike options calls schedule n without of =
    let start = start_plays options calls without in
    let p = start_of options calls in
    turns_alike options calls (after_turns schedule p) (after_turns (without_shrinks schedule) p) (rounds (length calls) n)
    (stepped_on options calls p schedule start of).plays (stepped_on options calls p (without_shrinks schedule) start (turns_without (length calls) schedule of)).plays (rounds_of (length calls) n)
    (shrinks_alike options calls p p schedule start start of (alike_same p))

-- as many blocks stand in places
pub as_many_placed : (options : Options) (calls : List (List Call)) (schedule : List Turn) (n : ℕ) → AreWithoutEnd calls → AreTurnsOf (length calls) schedule
    → length (all_blocks (play_for options calls (without_shrinks schedule) n).stage.space.places) ≡ length (all_blocks (play_for options calls schedule n).stage.space.places)
as_many_placed options calls schedule n without of =
    let start = start_plays options calls without in
    let s = start_of options calls in
    let fewer = turns_without (length calls) schedule of in
    let p = play_for options calls schedule n in
    let q = play_for options calls (without_shrinks schedule) n in
    let first = stepped_on options calls (after_turns schedule s) (rounds (length calls) n) (stepped_on options calls s schedule start of).plays (rounds_of (length calls) n) in
    let second = stepped_on options calls (after_turns (without_shrinks schedule) s) (rounds (length calls) n) (stepped_on options calls s (without_shrinks schedule) start fewer).plays (rounds_of (length calls) n) in
    let alike = play_alike options calls schedule n without of in
    placed_count options (length calls) q.stage second.plays.stage ∙ ap (λ (t : Table). blocks_of_births t.contents (reach t)) alike.table ∙ sym (placed_count options (length calls) p.stage first.plays.stage)
