use Rattle.std.proofs.Common.{◌∙◌, ap}
use Rattle.sf_dedup.specs.Contents.{birth_with}
use Rattle.sf_stock.specs.Stocks.{shared_birth}
use Rattle.sf_stock.proofs.KeptLemmas.{found_is}
use Rattle.sf_stock.proofs.stock.Stock.find.Goals as goal

pub returns : goal.returns
returns c =
    c.find.ensures
    ∙ ap (λ contents. birth_with contents c.args.content.now) c.self.invariant.births.indexed
    ∙ found_is c.self.inside.ledger.held.places c.self.inside.known.held c.args.content.now
    ∙ ap (λ v. shared_birth v.held.stocked c.args.content.now) c.self.view_is
