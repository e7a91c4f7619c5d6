use Rattle.std.proofs.Common.{◌∙◌, ◌++◌, ◌+◌, List, map, drop, ap, append_assoc}
use Rattle.std.specs.Map.Iter.{deref_pair}
use Rattle.sf_types.specs.declared.place.Place.{Place}
use Rattle.sf_lifetimes.specs.Ledgers.{place_of}
use Rattle.sf_stock.specs.Inside.Keeps.{listed_if}
use Rattle.sf_stock.proofs.ListLemmas.{shown, shown_items, shown_next, all_shown, kept_item, kept_runs}
use Rattle.sf_stock.proofs.listing.list_places.Goals as goal

pub loop-entry-init : goal.loop-entry-init
loop-entry-init c =
    let l = c.args.ledger.now.held in
    ap (λ (ps : List Place). ps ++ shown_items l c.as_slice-entry-items.result.now) c.new-places.ensures
    ∙ ap (shown_items l) c.as_slice-entry-items.ensures.value
    ∙ ap (shown l) c.in_ok-entries.ensures

pub push_place-requires : goal.push_place-requires
push_place-requires c runs is =
    let l = c.args.ledger.now.held in
    let x = c.entry-item.result in
    let kept = kept_item l c.args.known.now.held c.as_slice-entry-items.result.now c.loop-entry.entry-index x (ap (map deref_pair) c.as_slice-entry-items.ensures.value ∙ c.in_ok-entries.ensures) c.loop-entry-test.true c.entry-item.is c.requires in
    kept_runs l (deref_pair x) runs kept is

pub loop-entry-preserved : goal.loop-entry-preserved
loop-entry-preserved c =
    let l = c.args.ledger.now.held in
    let items = c.as_slice-entry-items.result.now in
    let k = c.loop-entry.entry-index in
    let x = c.entry-item.result in
    let kept = kept_item l c.args.known.now.held items k x (ap (map deref_pair) c.as_slice-entry-items.ensures.value ∙ c.in_ok-entries.ensures) c.loop-entry-test.true c.entry-item.is c.requires in
    let rest = shown_items l (drop (k + 1) items) in
    ap (λ (ps : List Place). ps ++ rest) c.in_ok-push_place.ensures
    ∙ append_assoc c.loop-entry.places (listed_if x.0.now x.1.now (place_of l x.0.now)) rest
    ∙ ap (λ (ps : List Place). c.loop-entry.places ++ ps) (shown_next l items k x c.loop-entry-test.true c.entry-item.is kept)
    ∙ c.loop-entry.invariant

pub returns : goal.returns
returns c =
    all_shown c.args.ledger.now.held c.loop-entry.places (shown c.args.ledger.now.held c.args.known.now.held) c.as_slice-entry-items.result.now c.loop-entry.entry-index c.loop-entry-test.false c.loop-entry.invariant
