-- A grant, run by run.
use Rattle.std.proofs.Common.{◌≡◌, ℕ, ◌+◌, ◌-◌, ◌≤◌, ◌<◌, ◌⊎◌, inl, inr, List, [], ◌∷◌, Some, length, refl, sym, ap, ◌∙◌, subst, arith}
use Rattle.std.specs.Prelude.{slice_get, All}
use Rattle.std.proofs.lemmas.List.Edits.{length-remove}
use Rattle.std.proofs.lemmas.Option.{get_or_from_slice_get, slice_get_within}
use Rattle.sf_types.specs.declared.run.Run.{Run}
use Rattle.sf_types.specs.Space.BlockRuns.{front_of}
use Rattle.sf_block_space.specs.Inside.{IsGrant, IsLongest}
use Rattle.sf_block_space.specs.Inside.{IsRoomFor, IsTaken}

-- what holds of all runs holds of this one
at-offset : (runs : List Run) (n at : ℕ) (run : Run) → slice_get runs at ≡ Some run → All (λ other. other.blocks < n) runs → run.blocks < n
at-offset runs n at run stands fewer =
    subst (λ (r : Run). r.blocks < n) (get_or_from_slice_get runs at run run stands) (fewer at run (slice_get_within runs at run stands))

-- no blocks have no grant but the empty one
none-granted : (runs : List Run) (n : ℕ) (granted : List Run) → n ≡ 0 → IsGrant runs n granted → granted ≡ []
none-granted runs n [] none grant = refl
none-granted runs n (run ∷ granted) none (inl fit) = absurd (omega (arith, fit.0, none))
none-granted runs n (run ∷ granted) none (inr (fewer, (at, longest, rest))) =
    absurd (omega (arith, at-offset runs n at run longest.stands fewer, none))

-- a run that has just n blocks is its own front
own-front : (run : Run) (n : ℕ) → run.blocks ≡ n → run ≡ front_of run n
own-front run n same = ap (λ k. front_of run k) same

-- a taken run, and then a grant of the others
pub grant-step : (runs : List Run) (n : ℕ) (taken : Run) (left more : List Run) → 1 ≤ n → IsTaken runs n taken left → IsGrant left (n - taken.blocks) more → IsGrant runs n (taken ∷ more)
grant-step runs n taken left more amount (at, run, inl fit, inl whole) rest =
    let same : run.blocks ≡ n = omega (arith, fit.enough, whole.0) in
    let none : n - taken.blocks ≡ 0 = omega (arith, same, ap (λ (r : Run). r.blocks) whole.1) in
    inl (amount, none-granted left (n - taken.blocks) more none rest, (at, run, fit, whole.1 ∙ own-front run n same))
grant-step runs n taken left more amount (at, run, inl fit, inr front) rest =
    let none : n - taken.blocks ≡ 0 = omega (arith, ap (λ (r : Run). r.blocks) front.1) in
    inl (amount, none-granted left (n - taken.blocks) more none rest, (at, run, fit, front.1))
grant-step runs n taken left more amount (at, run, inr (fewer, longest), inl whole) rest =
    inr (fewer, (at, subst (IsLongest runs at) (sym whole.1) longest, subst (λ (xs : List Run). IsGrant xs (n - taken.blocks) more) whole.2 rest))
grant-step runs n taken left more amount (at, run, inr (fewer, longest), inr front) rest =
    absurd (omega (arith, front.0, at-offset runs n at run longest.stands fewer))

-- the last run, or one of several
taken-cases : (runs : List Run) (n : ℕ) (taken : Run) (left : List Run) → IsTaken runs n taken left → (taken.blocks ≡ n) ⊎ (All (λ run. run.blocks < n) runs × (length left + 1 ≡ length runs))
taken-cases runs n taken left (at, run, inl fit, inl whole) = inl (omega (arith, fit.enough, whole.0, ap (λ (r : Run). r.blocks) whole.1))
taken-cases runs n taken left (at, run, inl fit, inr front) = inl (ap (λ (r : Run). r.blocks) front.1)
taken-cases runs n taken left (at, run, inr (fewer, longest), inl whole) =
    inr (fewer, ap (λ (xs : List Run). length xs + 1) whole.2 ∙ length-remove runs at (slice_get_within runs at run longest.stands))
taken-cases runs n taken left (at, run, inr (fewer, longest), inr front) = inl (ap (λ (r : Run). r.blocks) front.1)

-- the room for the others
pub room-step : (runs : List Run) (n spare : ℕ) (taken : Run) (left : List Run) (kept : ℕ) → IsRoomFor runs n spare → IsTaken runs n taken left → 1 ≤ taken.blocks → taken.blocks ≤ n → spare ≤ kept + 1 → IsRoomFor left (n - taken.blocks) kept
room-step runs n spare taken left kept room how some most less = choose (taken-cases runs n taken left how)
  where
    choose : (taken.blocks ≡ n) ⊎ (All (λ run. run.blocks < n) runs × (length left + 1 ≡ length runs)) → IsRoomFor left (n - taken.blocks) kept
    choose (inl last) = record {
      one = λ amount there. absurd (omega (arith, last, amount));
      several = λ fewer. omega (arith, last);
    }
    choose (inr (fewer, size)) = record {
      one = λ amount there. omega (arith, room.several fewer, size, some, amount, there, less);
      several = λ _. omega (arith, room.several fewer, size, some, less);
    }
