use Rattle.std.proofs.Common.{◌∙◌, ap, sym}
use Rattle.std.specs.Option.{option_copied, option_map}
use Rattle.sf_dedup.specs.Prints.{print_of}
use Rattle.sf_stock.specs.declared.known.Known.{Known}
use Rattle.sf_stock.specs.Stocks.{stocked_at}
use Rattle.sf_stock.proofs.ReadLemmas.{print_at}
use Rattle.sf_stock.proofs.stock.Stock.print_of.Goals as goal

pub returns-in-Some : goal.returns-in-Some
returns-in-Some c =
    let s = c.self.inside in
    ap (λ x. option_map (λ (k : Known). k.print) (option_copied x)) (sym c.in-Some.is)
    ∙ ap (option_map (λ (k : Known). k.print)) c.get.ensures
    ∙ print_at s.ledger.held.places s.known.held c.args.birth c.self.invariant.blocks.kept
    ∙ ap (λ v. option_map (λ x. print_of x.content.bytes) (stocked_at v.held.stocked c.args.birth)) c.self.view_is

pub returns-in-None : goal.returns-in-None
returns-in-None c =
    let s = c.self.inside in
    ap (λ x. option_map (λ (k : Known). k.print) (option_copied x)) (sym c.in-None.is)
    ∙ ap (option_map (λ (k : Known). k.print)) c.get.ensures
    ∙ print_at s.ledger.held.places s.known.held c.args.birth c.self.invariant.blocks.kept
    ∙ ap (λ v. option_map (λ x. print_of x.content.bytes) (stocked_at v.held.stocked c.args.birth)) c.self.view_is
