use Rattle.std.proofs.Common.{◌∙◌, ap, sym, subst, Some}
use Rattle.std.specs.Prelude.{IsSome, set}
use Rattle.std.specs.Map.{keys_of}
use Rattle.std.specs.List.Sorted.{IsStrictlySortedBy}
use Rattle.sf_room_map.specs.Entries.{value_for, with_value}
use Rattle.sf_sorted_map.specs.Inside.Places.{IsFound, IsGap}
use Rattle.sf_sorted_map.proofs.PlaceLemmas.{value_found, value_in_gap, with_found, rising_with}
use Rattle.sf_sorted_map.proofs.sorted_map.SortedMap.replace.Goals as goal

pub unreachable-requires : goal.unreachable-requires
unreachable-requires g c =
    let order = g.K.Ord.cmp in
    let key = c.args.key.now in
    let gap = subst (λ es. IsGap order es key c.in_default.field-0) c.deref.ensures.value c.in_default.ensures.gap in
    let none = value_in_gap order c.self.inside.entries.items key c.in_default.field-0 gap in
    let bad = subst IsSome (ap (λ v. value_for order v.held key) (sym c.self.view_is) ∙ none) c.requires in
    absurd cc

pub invariant_of-self : goal.invariant_of-self
invariant_of-self g c =
    let order = g.K.Ord.cmp in
    let key = c.args.key.now in
    let es = c.self.inside.entries.items in
    let found = subst (λ es. IsFound order es key c.in-Ok.at) c.deref.ensures.value c.in-Ok.ensures.found in
    let now = with_found order es key c.args.value c.in-Ok.at c.index_mut.result.now found
    ∙ ap (λ e. set es c.in-Ok.at (e.0, c.args.value)) (sym c.index_mut.ensures.value)
    ∙ ap (λ v. set es c.in-Ok.at (c.index_mut.result.now.0, v)) (sym c.replace.ensures.after) in
    subst (λ es. IsStrictlySortedBy order (keys_of es)) now (rising_with order g.met.K.Ord.total es key c.args.value c.self.invariant)

pub returns-clause-value : goal.returns-clause-value
returns-clause-value g c =
    let order = g.K.Ord.cmp in
    let key = c.args.key.now in
    let es = c.self.inside.entries.items in
    let found = subst (λ es. IsFound order es key c.in-Ok.at) c.deref.ensures.value c.in-Ok.ensures.found in
    ap (λ v. value_for order v.held key) (sym c.self.view_is)
    ∙ value_found order es key c.in-Ok.at c.index_mut.result.now found
    ∙ ap (λ e. Some e.1) (sym c.index_mut.ensures.value)
    ∙ ap Some (sym c.replace.ensures.value)

pub returns-clause-held : goal.returns-clause-held
returns-clause-held g c =
    let order = g.K.Ord.cmp in
    let key = c.args.key.now in
    let es = c.self.inside.entries.items in
    let found = subst (λ es. IsFound order es key c.in-Ok.at) c.deref.ensures.value c.in-Ok.ensures.found in
    ap (λ v. set es c.in-Ok.at (c.index_mut.result.now.0, v)) c.replace.ensures.after
    ∙ ap (λ e. set es c.in-Ok.at (e.0, c.args.value)) c.index_mut.ensures.value
    ∙ sym (with_found order es key c.args.value c.in-Ok.at c.index_mut.result.now found)
    ∙ ap (λ v. with_value order v.held key c.args.value) c.self.view_is
