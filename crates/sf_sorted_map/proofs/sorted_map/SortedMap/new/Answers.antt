use Rattle.std.proofs.Common.{sym, subst}
use Rattle.std.specs.Map.{keys_of}
use Rattle.std.specs.List.Sorted.{IsStrictlySortedBy}
use Rattle.sf_sorted_map.proofs.PlaceLemmas.{no_keys_rise}
use Rattle.sf_sorted_map.proofs.sorted_map.SortedMap.new.Goals as goal

pub invariant_of-result : goal.invariant_of-result
invariant_of-result g c = subst (λ es. IsStrictlySortedBy g.K.Ord.cmp (keys_of es)) (sym c.new.ensures.items) (no_keys_rise g.K.Ord.cmp g.row.V.Denot)
