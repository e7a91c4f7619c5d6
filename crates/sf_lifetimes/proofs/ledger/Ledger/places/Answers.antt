use Rattle.std.proofs.Common.{◌≡◌, ◌∙◌, ap, subst, map}
use Rattle.std.specs.Prelude.{IfOk}
use Rattle.std.specs.FinMap as fin
use Rattle.sf_lifetimes.specs.Ledgers.{Places, live_places}
use Rattle.sf_lifetimes.proofs.LedgerLemmas.{live_is}
use Rattle.sf_lifetimes.proofs.ListingLemmas.{to_place}
use Rattle.sf_lifetimes.proofs.ledger.Ledger.places.Goals as goal

pub returns-clause-places : goal.returns-clause-places
returns-clause-places c =
    let live = live_is c.self.inside.places.held c.self.inside.holdings.held c.self.invariant.counted ∙ ap (λ v. live_places v.held) c.self.view_is in
    subst (λ (live : Places). IfOk c.places.result (λ places. places ≡ map to_place (fin.entries live))) live c.places.ensures.places
