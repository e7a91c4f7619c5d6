use Rattle.std.proofs.Common.{◌∙◌, ap, sym, subst}
use Rattle.std.specs.Prelude.{All, IsSome}
use Rattle.std.specs.Ordering.{nat_cmp}
use Rattle.std.specs.Cmp.{nat_cmp_total}
use Rattle.std.specs.FinMap as fin
use Rattle.std.proofs.lemmas.List.Elements.{All-weaker}
use Rattle.sf_room_map.specs.Entries.{value_for}
use Rattle.sf_shrink.specs.declared.shifts.Shift.{Shift}
use Rattle.sf_lifetimes.specs.Shifts.{AreSafeShifts}
use Rattle.sf_lifetimes.specs.Inside.Counts.{CountedMap, with_shifts}
use Rattle.sf_lifetimes.specs.Inside.Counted.{live_places_in, waiting_places_in}
use Rattle.sf_lifetimes.proofs.EntryMapLemmas.{get_is}
use Rattle.sf_lifetimes.proofs.ShiftLemmas.{all_placed, shifted_counted}
use Rattle.sf_lifetimes.proofs.place_map.PlaceMap.shift.Goals as goal

pub shift_all-requires : goal.shift_all-requires
shift_all-requires c =
    let es = c.self.inside.entries.held in
    let m : CountedMap = fin.from_entries es in
    let safe = subst (λ v. AreSafeShifts (live_places_in v.held) (waiting_places_in v.held) c.args.shifts) (sym c.self.view_is) c.requires in
    subst (All (λ (s : Shift). IsSome (value_for nat_cmp es s.birth))) (sym c.into_vec.ensures)
    (All-weaker (λ (s : Shift). IsSome (fin.get m s.birth)) (λ (s : Shift). IsSome (value_for nat_cmp es s.birth)) (λ s found. subst IsSome (get_is nat_cmp nat_cmp_total es s.birth) found) c.args.shifts (all_placed m c.args.shifts safe))

pub invariant_of-self : goal.invariant_of-self
invariant_of-self c =
    let es = c.self.inside.entries.held in
    let fs = c.shift_all.new.entries.held in
    let m : CountedMap = fin.from_entries es in
    shifted_counted m (fin.from_entries fs) c.args.shifts (subst (λ v. AreSafeShifts (live_places_in v.held) (waiting_places_in v.held) c.args.shifts) (sym c.self.view_is) c.requires)
    (λ q.
    get_is nat_cmp nat_cmp_total fs q ∙ c.shift_all.ensures.changed q
    ∙ ap (λ ss. with_shifts ss q (value_for nat_cmp es q)) c.into_vec.ensures
    ∙ ap (with_shifts c.args.shifts q) (sym (get_is nat_cmp nat_cmp_total es q)))
    c.self.inside.live c.self.invariant

pub returns-clause-changed : goal.returns-clause-changed
returns-clause-changed c q =
    let es = c.self.inside.entries.held in
    get_is nat_cmp nat_cmp_total c.shift_all.new.entries.held q
    ∙ c.shift_all.ensures.changed q
    ∙ ap (λ ss. with_shifts ss q (value_for nat_cmp es q)) c.into_vec.ensures
    ∙ ap (with_shifts c.args.shifts q) (sym (get_is nat_cmp nat_cmp_total es q))
    ∙ ap (λ v. with_shifts c.args.shifts q (fin.get v.held q)) c.self.view_is
