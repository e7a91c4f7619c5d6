-- A sorted list of births without its repeats is rising, and has the same births.
use Rattle.std.proofs.Common.{◌≡◌, ℕ, zero, suc, ◌<◌, List, [], ◌∷◌, length, take, get_or, subst, arith}
use Rattle.std.specs.Prelude.{Contains}
use Rattle.std.specs.List.{AllByRecursion as Each, dedup}
use Rattle.std.specs.List.Sorted.{IsPermutation, IsSorted, IsStrictlySortedBy}
use Rattle.std.specs.Cmp.{ranks}
use Rattle.std.specs.Ordering.{nat_cmp, MatchOrdering}
use Rattle.std.specs.declared.cmp.Ordering.{Ordering}
use Rattle.std.specs.declared.cmp.Ordering.TheVariants.{Less}
use Rattle.std.proofs.lemmas.List.Kept.{Contains-dedup_nat, Contains-from_dedup}
use Rattle.std.proofs.lemmas.List.Sorted.{Contains-permutation, IsPermutation-sym}
use Rattle.std.proofs.lemmas.Map.Keys.{IsStrictlyIncreasing-dedup, sorted_from_strictly_increasing}
use Rattle.sf_types.specs.Inside.Births.{IsAboveAll, IsBelowAll, IsRising, rising_births}
use Rattle.sf_laws.proofs.EachLemmas.{each_weaker, each_contained, each_itself}
use Rattle.sf_laws.proofs.ReachLemmas.{each-rising, each_from_rising}
use Rattle.sf_laws.proofs.SumLemmas.{rising_rises}
use Rattle.sf_laws.proofs.SessionBirthLemmas.{same_rising}
use lib.Dec.{eqb}

below_each : (b : ℕ) (bs : List ℕ) → Each (λ c. nat_cmp b c ≡ Less) bs → IsBelowAll b bs
below_each b [] all = tt
below_each b (c ∷ bs) all =
    let P : Ordering → Type 0 = λ r. MatchOrdering r (b < c) (b ≡ c) (c < b) in
    (subst P all.0 (ranks b c), below_each b bs all.1)

rising_from_ordered : (bs : List ℕ) → IsStrictlySortedBy nat_cmp bs → IsRising bs
unfolding IsStrictlySortedBy
rising_from_ordered [] sorted = tt
rising_from_ordered (b ∷ bs) sorted = (below_each b bs sorted.0, rising_from_ordered bs sorted.1)

pub rising_from_sorting : (sorted : List ℕ) → IsSorted nat_cmp sorted → IsRising (dedup eqb sorted)
rising_from_sorting sorted rises = rising_from_ordered (dedup eqb sorted) (sorted_from_strictly_increasing (dedup eqb sorted) (IsStrictlyIncreasing-dedup sorted rises))

pub births_from_sorted : (added sorted : List ℕ) → IsPermutation added sorted → IsSorted nat_cmp sorted → dedup eqb sorted ≡ rising_births added
births_from_sorted added sorted moved rises =
    let kept = dedup eqb sorted in
    let union = rising_births added in
    same_rising kept union (rising_from_sorting sorted rises) (rising_rises added)
    (each_weaker (Contains kept) (Contains union) kept
    (λ b has. each_contained (Contains union) added b (each_from_rising (Contains union) added (each_itself union)) (Contains-permutation _ _ b (IsPermutation-sym _ _ moved) (Contains-from_dedup eqb sorted b has)))
    (each_itself kept))
    (each-rising (Contains kept) added
    (each_weaker (Contains added) (Contains kept) added (λ b has. Contains-dedup_nat sorted b (Contains-permutation _ _ b moved has)) (each_itself added)))

-- each birth of a rising list is greater than those before it
pub above_taken : (bs : List ℕ) (k : ℕ) → IsRising bs → k < length bs → IsAboveAll (get_or bs k 0) (take k bs)
above_taken [] k rising lt = absurd (omega (arith, lt))
above_taken (b ∷ bs) zero rising lt = tt
above_taken (b ∷ bs) (suc k) rising lt = (below_at b bs k rising.0 (omega (arith, lt)), above_taken bs k rising.1 (omega (arith, lt)))
  where
    below_at : (b : ℕ) (bs : List ℕ) (k : ℕ) → IsBelowAll b bs → k < length bs → b < get_or bs k 0
    below_at b [] k below lt = absurd (omega (arith, lt))
    below_at b (c ∷ bs) zero below lt = below.0
    below_at b (c ∷ bs) (suc k) below lt = below_at b bs k below.1 (omega (arith, lt))
