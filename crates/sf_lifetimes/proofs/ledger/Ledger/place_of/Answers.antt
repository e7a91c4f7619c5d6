use Rattle.std.proofs.Common.{◌∙◌, ap}
use Rattle.sf_lifetimes.specs.Ledgers.{place_of}
use Rattle.sf_lifetimes.proofs.LedgerLemmas.{place_by_counts}
use Rattle.sf_lifetimes.proofs.ledger.Ledger.place_of.Goals as goal

pub returns-clause-place : goal.returns-clause-place
returns-clause-place c =
    c.runs_of.ensures
    ∙ place_by_counts c.self.inside.places.held c.self.inside.holdings.held c.args.birth c.self.invariant.counted
    ∙ ap (λ v. place_of v.held c.args.birth) c.self.view_is
