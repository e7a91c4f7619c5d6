-- A plan for the listed places is safe to follow.
use Rattle.std.proofs.Common.{◌≡◌, ℕ, ◌^◌, ◌≤◌, ◌<◌, List, [], ◌∷◌, length, map, get_or, refl, sym, ap, subst, ◌∙◌, arith}
use Rattle.std.specs.Prelude.{◌≢◌, All, AllPairs, Contains}
use Rattle.std.specs.List.{range_with_len}
use Rattle.std.specs.FinMap as fin
use Rattle.std.proofs.lemmas.List.FromFn.{length-range_with_len, get_or-range_with_len}
use Rattle.std.proofs.lemmas.Map.Views.{list_any-from_Contains}
use Rattle.std.specs.Cmp.{nat_eq_equiv}
use Rattle.sf_types.specs.declared.run.Run.{Run}
use Rattle.sf_shrink.specs.declared.shifts.Shift.{Shift}
use Rattle.sf_shrink.specs.Plans.{blocks_of_places, blocks_of_shifts, IsSafeWithoutGap}
use Rattle.sf_lifetimes.specs.Ledgers.{LedgerView, has_birth, live_places, waiting_places, listed_places, occupied_blocks}
use Rattle.sf_lifetimes.specs.Shifts.{AreSafeShifts}
use Rattle.sf_lifetimes.proofs.LedgerLemmas.{size}
use Rattle.sf_lifetimes.proofs.ListingLemmas.{to_place}

same_births : (ss : List Shift) (es : List (ℕ × List Run)) → map (λ s. s.birth) ss ≡ map (λ p. p.birth) (map to_place es) → map (λ s. size s.to) ss ≡ map (λ p. size p.runs) (map to_place es)
    → map {B = ℕ × ℕ} (λ s. (s.birth, size s.to)) ss ≡ map {B = ℕ × ℕ} (λ e. (e.0, size e.1)) es
same_births [] [] births counts = refl
same_births [] (e ∷ es) births counts = absurd cc
same_births (s ∷ ss) [] births counts = absurd cc
same_births (s ∷ ss) (e ∷ es) births counts =
    let birth : s.birth ≡ e.0 = cc in
    let count : size s.to ≡ size e.1 = cc in
    let rest_births : map (λ s. s.birth) ss ≡ map (λ p. p.birth) (map to_place es) = cc in
    let rest_counts : map (λ s. size s.to) ss ≡ map (λ p. size p.runs) (map to_place es) = cc in
    let rest = same_births ss es rest_births rest_counts in
    λ i. (birth i, count i) ∷ rest i

range_below : (n bound : ℕ) → n ≤ bound → All (λ b. b < bound) (range_with_len 0 n)
range_below n bound le i d less = omega (arith, less, length-range_with_len 0 n, get_or-range_with_len 0 n i d (omega (arith, less, length-range_with_len 0 n)))

range_apart : (n : ℕ) → AllPairs (λ x y. x ≢ y) (range_with_len 0 n)
range_apart n i j d before less same =
    let within : j < n = omega (arith, less, length-range_with_len 0 n) in
    omega (arith, before, same, get_or-range_with_len 0 n i d (omega (arith, before, within)), get_or-range_with_len 0 n j d within)

none_there : (all xs : List ℕ) → all ≡ [] → All (λ b. ¬ (Contains all b)) xs
none_there all xs is i d less has =
    let there = sym (ap (λ ys. has_birth ys (get_or xs i d)) is) ∙ list_any-from_Contains nat_eq_equiv (get_or xs i d) all has in
    absurd cc

-- Where no birth waits, the shifts of a plan below 2^32 blocks are safe.
pub planned_are_safe : (l : LedgerView) (ss : List Shift) (capacity : ℕ) → capacity ≤ 2 ^ 32 → IsSafeWithoutGap (listed_places l) ss capacity → occupied_blocks (waiting_places l) ≡ [] → AreSafeShifts (live_places l) (waiting_places l) ss
planned_are_safe l ss capacity fits safe waiting =
    let n = length (blocks_of_places (listed_places l)) in
    record {
      births = same_births ss (fin.entries (live_places l)) safe.births safe.counts;
      below = subst (All (λ b. b < 2 ^ 32)) (sym safe.blocks) (range_below n (2 ^ 32) (omega (arith, fits, safe.below)));
      once = subst (AllPairs (λ x y. x ≢ y)) (sym safe.blocks) (range_apart n);
      apart = none_there (occupied_blocks (waiting_places l)) (blocks_of_shifts ss) waiting;
    }
