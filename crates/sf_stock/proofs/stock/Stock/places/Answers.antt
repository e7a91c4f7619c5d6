use Rattle.std.proofs.lemmas.List.Elements.{All-from_recursion}
use Rattle.sf_stock.specs.Inside.Keeps.{IsKept, runs_in}
use Rattle.sf_stock.proofs.stock.Stock.places.Goals as goal

pub list_places-requires : goal.list_places-requires
list_places-requires c =
    let s = c.self.inside in
    All-from_recursion (λ e. IsKept e.1 (runs_in s.ledger.held.places e.0)) s.known.held c.self.invariant.blocks.kept
