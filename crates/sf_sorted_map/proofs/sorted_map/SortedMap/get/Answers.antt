use Rattle.std.proofs.Common.{◌∙◌, ap, sym, subst, Some}
use Rattle.sf_room_map.specs.Entries.{value_for}
use Rattle.sf_sorted_map.specs.Inside.Places.{IsFound, IsGap}
use Rattle.sf_sorted_map.proofs.PlaceLemmas.{value_found, value_in_gap}
use Rattle.sf_sorted_map.proofs.sorted_map.SortedMap.get.Goals as goal

pub returns-in-Ok : goal.returns-in-Ok
returns-in-Ok g c =
    let order = g.K.Ord.cmp in
    let key = c.args.key.now in
    let found = subst (λ es. IsFound order es key c.in-Ok.at) c.deref.ensures.value c.in-Ok.ensures.found in
    ap (λ e. Some e.1) c.index.ensures
    ∙ sym (value_found order c.self.inside.entries.items key c.in-Ok.at c.index.result.now found)
    ∙ ap (λ v. value_for order v.held key) c.self.view_is

pub returns-in-Err : goal.returns-in-Err
returns-in-Err g c =
    let order = g.K.Ord.cmp in
    let key = c.args.key.now in
    let gap = subst (λ es. IsGap order es key c.in-Err.field-0) c.deref.ensures.value c.in-Err.ensures.gap in
    sym (value_in_gap order c.self.inside.entries.items key c.in-Err.field-0 gap)
    ∙ ap (λ v. value_for order v.held key) c.self.view_is
