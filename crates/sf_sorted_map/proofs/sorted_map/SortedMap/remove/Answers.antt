use Rattle.std.proofs.Common.{◌∙◌, ap, sym, subst, Some}
use Rattle.std.specs.Map.{keys_of}
use Rattle.std.specs.List.Sorted.{IsStrictlySortedBy}
use Rattle.sf_room_map.specs.Entries.{value_for, without_key}
use Rattle.sf_sorted_map.specs.Inside.Places.{IsFound, IsGap}
use Rattle.sf_sorted_map.proofs.PlaceLemmas.{value_found, value_in_gap, without_found, without_in_gap, rising_without}
use Rattle.sf_sorted_map.proofs.sorted_map.SortedMap.remove.Goals as goal

pub invariant_of-self : goal.invariant_of-self
invariant_of-self g c =
    let order = g.K.Ord.cmp in
    let key = c.args.key.now in
    let es = c.self.inside.entries.items in
    let found = subst (λ es. IsFound order es key c.in-Ok.at) c.deref.ensures.value c.in-Ok.ensures.found in
    subst (λ es. IsStrictlySortedBy order (keys_of es)) (without_found order es key c.in-Ok.at found ∙ sym c.remove.ensures.items)
    (rising_without order g.met.K.Ord.total es key c.self.invariant)

pub returns-in-Ok-clause-value : goal.returns-in-Ok-clause-value
returns-in-Ok-clause-value g c =
    let order = g.K.Ord.cmp in
    let key = c.args.key.now in
    let found = subst (λ es. IsFound order es key c.in-Ok.at) c.deref.ensures.value c.in-Ok.ensures.found in
    ap (λ e. Some e.1) c.remove.ensures.value
    ∙ sym (value_found order c.self.inside.entries.items key c.in-Ok.at c.remove.result found)
    ∙ ap (λ v. value_for order v.held key) c.self.view_is

pub returns-in-Ok-clause-held : goal.returns-in-Ok-clause-held
returns-in-Ok-clause-held g c =
    let order = g.K.Ord.cmp in
    let key = c.args.key.now in
    let found = subst (λ es. IsFound order es key c.in-Ok.at) c.deref.ensures.value c.in-Ok.ensures.found in
    c.remove.ensures.items ∙ sym (without_found order c.self.inside.entries.items key c.in-Ok.at found)
    ∙ ap (λ v. without_key order v.held key) c.self.view_is

pub returns-in-Err-clause-value : goal.returns-in-Err-clause-value
returns-in-Err-clause-value g c =
    let order = g.K.Ord.cmp in
    let key = c.args.key.now in
    let gap = subst (λ es. IsGap order es key c.in-Err.field-0) c.deref.ensures.value c.in-Err.ensures.gap in
    sym (value_in_gap order c.self.inside.entries.items key c.in-Err.field-0 gap)
    ∙ ap (λ v. value_for order v.held key) c.self.view_is

pub returns-in-Err-clause-held : goal.returns-in-Err-clause-held
returns-in-Err-clause-held g c =
    let order = g.K.Ord.cmp in
    let key = c.args.key.now in
    let gap = subst (λ es. IsGap order es key c.in-Err.field-0) c.deref.ensures.value c.in-Err.ensures.gap in
    ap (λ v. v.held) (sym c.self.view_is)
    ∙ sym (without_in_gap order c.self.inside.entries.items key c.in-Err.field-0 gap)
    ∙ ap (λ v. without_key order v.held key) c.self.view_is
