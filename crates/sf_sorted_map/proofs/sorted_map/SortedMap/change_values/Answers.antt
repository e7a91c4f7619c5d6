use Rattle.std.proofs.Common.{sym, subst, rules}
use Rattle.std.specs.Map.{keys_of}
use Rattle.std.specs.List.Sorted.{IsStrictlySortedBy}
use Rattle.std.proofs.lemmas.List.{with_items_is}
use Rattle.sf_sorted_map.proofs.sorted_map.SortedMap.change_values.Goals as goal

pub invariant_of-self : goal.invariant_of-self
invariant_of-self g c =
    let order = g.K.Ord.cmp in
    subst (λ es. IsStrictlySortedBy order (keys_of es)) (sym (with_items_is c.self.inside.entries c.change_entries.new.entries (search rules)))
    (subst (IsStrictlySortedBy order) (sym c.change_entries.ensures.keys)
    (subst (λ es. IsStrictlySortedBy order (keys_of es)) (sym c.deref_mut.ensures.value) c.self.invariant))
