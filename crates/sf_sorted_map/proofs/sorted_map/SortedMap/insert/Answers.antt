use Rattle.std.proofs.Common.{◌≡◌, ◌∙◌, ap, sym, subst}
use Rattle.std.specs.Prelude.{is_some, set, if◌then◌else◌}
use Rattle.std.specs.Map.{keys_of}
use Rattle.std.specs.List.Sorted.{IsStrictlySortedBy}
use Rattle.sf_types.specs.Rooms.{GrowsWithin}
use Rattle.sf_room_map.specs.Entries.{with_value, added_at}
use Rattle.sf_sorted_map.specs.Inside.Places.{IsFound, IsGap}
use Rattle.sf_sorted_map.proofs.PlaceLemmas.{value_in_gap, with_found, rising_with}
use Rattle.sf_sorted_map.proofs.sorted_map.SortedMap.insert.Goals as goal

pub invariant_of-self : goal.invariant_of-self
invariant_of-self g c =
    let order = g.K.Ord.cmp in
    let es = c.self.inside.entries.items in
    let found = subst (λ es. IsFound order es c.args.key c.in-Ok.at) c.deref.ensures.value c.in-Ok.ensures.found in
    let now = with_found order es c.args.key c.args.value c.in-Ok.at c.index_mut.result.now found
    ∙ ap (λ e. set es c.in-Ok.at (e.0, c.args.value)) (sym c.index_mut.ensures.value) in
    subst (λ es. IsStrictlySortedBy order (keys_of es)) now (rising_with order g.met.K.Ord.total es c.args.key c.args.value c.self.invariant)

pub returns-in-Ok-clause-held : goal.returns-in-Ok-clause-held
returns-in-Ok-clause-held g c =
    let order = g.K.Ord.cmp in
    let es = c.self.inside.entries.items in
    let found = subst (λ es. IsFound order es c.args.key c.in-Ok.at) c.deref.ensures.value c.in-Ok.ensures.found in
    ap (λ e. set es c.in-Ok.at (e.0, c.args.value)) c.index_mut.ensures.value
    ∙ sym (with_found order es c.args.key c.args.value c.in-Ok.at c.index_mut.result.now found)
    ∙ ap (λ v. with_value order v.held c.args.key c.args.value) c.self.view_is

pub returns-in-Err-clause-room : goal.returns-in-Err-clause-room
returns-in-Err-clause-room g c =
    let order = g.K.Ord.cmp in
    let es = c.self.inside.entries.items in
    let gap = subst (λ es. IsGap order es c.args.key c.in-Err.at) c.deref.ensures.value c.in-Err.ensures.gap in
    let added : added_at order c.args.self.now.held c.args.key ≡ 1 =
    ap (λ v. added_at order v.held c.args.key) (sym c.self.view_is)
    ∙ ap (λ value. if is_some value then 0 else 1) (value_in_gap order es c.args.key c.in-Err.at gap) in
    subst (λ n. GrowsWithin c.args.self.now c.insert_at.new.self n n c.insert_at.result) (sym added) c.insert_at.ensures.room
