use Rattle.std.proofs.Common.{◌≡◌, ◌∙◌, ◌++◌, ◌+◌, ◌≤◌, ◌^◌, Bor, List, ℕ, Some, ap, sym, subst, length, map, drop, append_assoc}
use Rattle.std.specs.Map.Iter.{deref_pair}
use Rattle.std.specs.Ordering.{nat_cmp}
use Rattle.std.specs.FinMap as fin
use Rattle.std.proofs.lemmas.List.{append-nil, at_drop_more, drop_all}
use Rattle.sf_types.specs.declared.birth_runs.BirthRuns.{BirthRuns}
use Rattle.sf_types.proofs.NameMapLemmas.{sorted_from_ordered}
use Rattle.sf_shrink.specs.Plans.{ArePlaced}
use Rattle.sf_lifetimes.specs.declared.counted.Counted.{Counted}
use Rattle.sf_lifetimes.specs.Inside.Counts.{IsCounted, live_place, live_runs}
use Rattle.sf_lifetimes.specs.Inside.Counted.{live_places_in}
use Rattle.sf_lifetimes.proofs.ListingLemmas.{to_place, listed, places_listed, are_placed}
use Rattle.sf_lifetimes.proofs.place_map.PlaceMap.places.Goals as goal

abbrev left : List (Bor ℕ × Bor Counted) → List BirthRuns
left items = listed (map deref_pair items)

pub loop-entry-init : goal.loop-entry-init
loop-entry-init c =
    let es = c.self.inside.entries.held in
    ap (λ (xs : List BirthRuns). xs ++ left c.as_slice-entry-items.result.now) c.new-places.ensures
    ∙ ap left c.as_slice-entry-items.ensures.value
    ∙ ap listed c.in_ok-entries.ensures
    ∙ places_listed es (sorted_from_ordered nat_cmp es c.len.ensures.rising)
    ∙ ap (λ v. map to_place (fin.entries (live_places_in v.held))) c.self.view_is

pub loop-entry-preserved : goal.loop-entry-preserved
loop-entry-preserved c =
    let items = c.as_slice-entry-items.result.now in
    let k = c.loop-entry.entry-index in
    let x = c.entry-item.result in
    let rest = left (drop (k + 1) items) in
    ap (λ (xs : List BirthRuns). xs ++ rest) c.in_ok-push_if_held.ensures
    ∙ append_assoc c.loop-entry.places (live_place x.0.now (live_runs (Some x.1.now))) rest
    ∙ ap (λ (xs : List BirthRuns). c.loop-entry.places ++ xs) (ap (λ (p : Bor ℕ × Bor Counted). live_place p.0.now (live_runs (Some p.1.now)) ++ rest) c.entry-item.is ∙ sym (at_drop_more left items k x c.loop-entry-test.true))
    ∙ c.loop-entry.invariant

all_put : (places all : List BirthRuns) (items : List (Bor ℕ × Bor Counted)) (k : ℕ) → length items ≤ k → places ++ left (drop k items) ≡ all → places ≡ all
all_put places all items k end is = sym (append-nil places) ∙ ap (λ (xs : List (Bor ℕ × Bor Counted)). places ++ left xs) (sym (drop_all k items end)) ∙ is

pub returns-clause-places : goal.returns-clause-places
returns-clause-places c =
    all_put c.loop-entry.places (map to_place (fin.entries (live_places_in c.args.self.now.held))) c.as_slice-entry-items.result.now c.loop-entry.entry-index c.loop-entry-test.false c.loop-entry.invariant

pub returns-clause-placed : goal.returns-clause-placed
returns-clause-placed c =
    let is = all_put c.loop-entry.places (map to_place (fin.entries (live_places_in c.args.self.now.held))) c.as_slice-entry-items.result.now c.loop-entry.entry-index c.loop-entry-test.false c.loop-entry.invariant in
    subst (λ places. ArePlaced places (2 ^ 32)) (sym is)
    (are_placed c.args.self.now.held c.self.inside.live (subst (λ v. IsCounted v.held c.self.inside.live) c.self.view_is c.self.invariant))
