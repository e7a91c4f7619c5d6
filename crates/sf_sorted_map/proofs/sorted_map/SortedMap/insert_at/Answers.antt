use Rattle.std.proofs.Common.{◌≤◌, ◌∙◌, ap, sym, subst, arith, length}
use Rattle.std.specs.Map.{keys_of}
use Rattle.std.specs.List.Sorted.{IsStrictlySortedBy}
use Rattle.sf_room_map.specs.Entries.{with_value}
use Rattle.sf_sorted_map.specs.Inside.Places.{IsGap}
use Rattle.sf_sorted_map.proofs.PlaceLemmas.{gap_within, with_in_gap, rising_with}
use Rattle.sf_sorted_map.proofs.sorted_map.SortedMap.insert_at.Goals as goal

pub insert-requires : goal.insert-requires
insert-requires g c =
    let order = g.K.Ord.cmp in
    let within : c.args.at ≤ length c.self.inside.entries.items = gap_within order c.self.inside.entries.items c.args.key c.args.at (subst (λ v. IsGap order v.held c.args.key c.args.at) (sym c.self.view_is) c.requires) in
    omega (arith, within, c.self.ranges)

pub invariant_of-self-2 : goal.invariant_of-self-2
invariant_of-self-2 g c =
    let order = g.K.Ord.cmp in
    let es = c.self.inside.entries.items in
    let gap = subst (λ v. IsGap order v.held c.args.key c.args.at) (sym c.self.view_is) c.requires in
    subst (λ es. IsStrictlySortedBy order (keys_of es)) (with_in_gap order es c.args.key c.args.value c.args.at gap ∙ sym c.in_ok-insert.ensures.items)
    (rising_with order g.met.K.Ord.total es c.args.key c.args.value c.self.invariant)

pub returns-clause-held : goal.returns-clause-held
returns-clause-held g c =
    let order = g.K.Ord.cmp in
    let es = c.self.inside.entries.items in
    let gap = subst (λ v. IsGap order v.held c.args.key c.args.at) (sym c.self.view_is) c.requires in
    c.in_ok-insert.ensures.items ∙ sym (with_in_gap order es c.args.key c.args.value c.args.at gap)
    ∙ ap (λ v. with_value order v.held c.args.key c.args.value) c.self.view_is
