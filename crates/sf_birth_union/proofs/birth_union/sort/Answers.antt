use Rattle.std.proofs.lemmas.List.Filters.{dedup_is}
use Rattle.sf_birth_union.proofs.UnionLemmas.{births_from_sorted, rising_from_sorting}
use Rattle.sf_birth_union.proofs.birth_union.sort.Goals as goal

pub returns : goal.returns
returns c =
    let is = dedup_is _ _ _ c.dedup.ensures.filtered in
    record {
      births = rw is (births_from_sorted _ _ c.in_ok-sort.ensures.permutation c.in_ok-sort.ensures.sorted);
      rising = rw is (rising_from_sorting _ c.in_ok-sort.ensures.sorted);
    }
