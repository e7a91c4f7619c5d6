use Rattle.std.proofs.Common.{rules, ◌∙◌, ap, sym, subst}
use Rattle.std.specs.Prelude.{Bool, filter}
use Rattle.std.specs.Map.{keys_of}
use Rattle.std.specs.FinMap.Entries as fin
use Rattle.std.specs.List.Sorted.{IsStrictlySortedBy}
use Rattle.std.proofs.lemmas.Fn.{filter_same}
use Rattle.sf_types.proofs.NameMapLemmas.{sorted_from_ordered}
use Rattle.sf_room_map.proofs.EntryLemmas.{rising_from_sorted}
use Rattle.sf_sorted_map.proofs.sorted_map.SortedMap.retain.Goals as goal

pub invariant_of-self : goal.invariant_of-self
invariant_of-self g c =
    let order = g.K.Ord.cmp in
    let es = c.self.inside.entries.items in
    let passes : g.row.K.Denot × g.row.V.Denot → Bool = λ e. g.T.KeyTest.passes c.args.test.now e.0 in
    let now = filter_same _ passes _ (λ x b after called. search rules) _ _ c.retain.ensures.filtered in
    subst (λ es. IsStrictlySortedBy order (keys_of es)) (sym now)
    (rising_from_sorted order (filter passes es) (fin.is_sorted-where_key order (g.T.KeyTest.passes c.args.test.now) es (sorted_from_ordered order es c.self.invariant)))

pub returns-clause-held : goal.returns-clause-held
returns-clause-held g c =
    let passes : g.row.K.Denot × g.row.V.Denot → Bool = λ e. g.T.KeyTest.passes c.args.test.now e.0 in
    filter_same _ passes _ (λ x b after called. search rules) _ _ c.retain.ensures.filtered
    ∙ ap (λ v. filter passes v.held) c.self.view_is
