use Rattle.std.proofs.Common.{◌≡◌, ◌∙◌, ap, sym, subst, Some}
use Rattle.std.specs.Prelude.{IsSome, set}
use Rattle.std.specs.Map.{keys_of}
use Rattle.std.specs.List.Sorted.{IsStrictlySortedBy}
use Rattle.sf_room_map.specs.Entries.{value_for, with_value}
use Rattle.sf_sorted_map.specs.Inside.Places.{IsFound, IsGap}
use Rattle.sf_sorted_map.proofs.PlaceLemmas.{value_found, value_in_gap, with_found, rising_with}
use Rattle.sf_sorted_map.proofs.sorted_map.SortedMap.exchange.Goals as goal

some : {X : Type 0} (x y : X) → Some x ≡ Some y → x ≡ y
some x y is = cc

pub unreachable-requires : goal.unreachable-requires
unreachable-requires g c =
    let order = g.K.Ord.cmp in
    let key = c.args.key.now in
    let gap = subst (λ es. IsGap order es key c.in_default.field-0) c.deref.ensures.value c.in_default.ensures.gap in
    let none = value_in_gap order c.self.inside.entries.items key c.in_default.field-0 gap in
    let bad = subst IsSome (ap (λ v. value_for order v.held key) (sym c.self.view_is) ∙ none) c.requires in
    absurd cc

pub invariant_of-self : goal.invariant_of-self
invariant_of-self g c =
    let order = g.K.Ord.cmp in
    let key = c.args.key.now in
    let es = c.self.inside.entries.items in
    let found = subst (λ es. IsFound order es key c.in-Ok.at) c.deref.ensures.value c.in-Ok.ensures.found in
    let now = with_found order es key c.exchange.new.value c.in-Ok.at c.index_mut.result.now found
    ∙ ap (λ e. set es c.in-Ok.at (e.0, c.exchange.new.value)) (sym c.index_mut.ensures.value) in
    subst (λ es. IsStrictlySortedBy order (keys_of es)) now (rising_with order g.met.K.Ord.total es key c.exchange.new.value c.self.invariant)

pub returns-clause-held : goal.returns-clause-held
returns-clause-held g c value is =
    let order = g.K.Ord.cmp in
    let key = c.args.key.now in
    let es = c.self.inside.entries.items in
    let found = subst (λ es. IsFound order es key c.in-Ok.at) c.deref.ensures.value c.in-Ok.ensures.found in
    let same : Some c.index_mut.result.now.1 ≡ Some value =
    ap (λ e. Some e.1) c.index_mut.ensures.value ∙ sym (value_found order es key c.in-Ok.at c.index_mut.result.now found)
    ∙ ap (λ v. value_for order v.held key) c.self.view_is ∙ is in
    let made = c.exchange.ensures.given ∙ ap (λ v. g.E.Exchange.given c.args.other.now v) (some c.index_mut.result.now.1 value same) in
    ap (λ e. set es c.in-Ok.at (e.0, c.exchange.new.value)) c.index_mut.ensures.value
    ∙ sym (with_found order es key c.exchange.new.value c.in-Ok.at c.index_mut.result.now found)
    ∙ ap (λ v. with_value order v.held key c.exchange.new.value) c.self.view_is
    ∙ ap (λ v. with_value order c.args.self.now.held key v) made

pub returns-clause-other : goal.returns-clause-other
returns-clause-other g c value is =
    let order = g.K.Ord.cmp in
    let key = c.args.key.now in
    let es = c.self.inside.entries.items in
    let found = subst (λ es. IsFound order es key c.in-Ok.at) c.deref.ensures.value c.in-Ok.ensures.found in
    let same : Some c.index_mut.result.now.1 ≡ Some value =
    ap (λ e. Some e.1) c.index_mut.ensures.value ∙ sym (value_found order es key c.in-Ok.at c.index_mut.result.now found)
    ∙ ap (λ v. value_for order v.held key) c.self.view_is ∙ is in
    c.exchange.ensures.taken ∙ ap (λ v. g.E.Exchange.taken c.args.other.now v) (some c.index_mut.result.now.1 value same)
