use Rattle.std.proofs.Common.{◌∙◌, [], ap, subst, arith}
use Rattle.sf_types.specs.Inside.Births.{IsRising}
use Rattle.sf_lifetimes.specs.Ledgers.{unheld_places}
use Rattle.sf_stock.specs.Stocks.{with_holder}
use Rattle.sf_stock.specs.Inside.Keeps.{without_births}
use Rattle.sf_stock.proofs.LeaveLemmas.{few_gone, stock_left, stock_after, last_put}
use Rattle.sf_stock.proofs.stock.Stock.drop_holder.Goals as goal

pub drop_births-requires : goal.drop_births-requires
drop_births-requires c =
    let s = c.self.inside in
    let rising = subst IsRising c.births_of.ensures.births c.births_of.ensures.rising in
    record { left = omega (arith, few_gone s.ledger.held s.index.held s.known.held s.next c.args.holder.now [] c.self.invariant.births rising, c.self.invariant.rooms.left_room) }

pub invariant_of-self : goal.invariant_of-self
invariant_of-self c =
    let s = c.self.inside in
    let h = c.args.holder.now in
    let rising = subst IsRising c.births_of.ensures.births c.births_of.ensures.rising in
    let gone = last_put s.left.held (unheld_places s.ledger.held h []) c.drop_births.new.left.held c.as_slice.result.now c.len-from.result c.len-from.ensures c.as_slice.ensures c.drop_births.ensures.left in
    stock_after s.ledger c.drop_births.new.ledger s.index s.known c.forget.new.known s.left c.drop_births.new.left s.parked s.next s.runs s.room h [] c.self.invariant rising
    c.drop_births.ensures.held c.drop_births.ensures.left c.forget.new.index 0 s.room
    (c.forget.ensures.known ∙ ap (without_births s.known.held) gone) (c.forget.ensures.index ∙ ap (without_births s.index.held) gone)
    (λ b among. absurd cc) (omega (arith, c.drop_births.ensures.spare)) c.forget.ensures.index_spare c.forget.ensures.known_spare c.drop_births.ensures.left_spare (omega arith)

pub returns-clause-held : goal.returns-clause-held
returns-clause-held c =
    let s = c.self.inside in
    let h = c.args.holder.now in
    let rising = subst IsRising c.births_of.ensures.births c.births_of.ensures.rising in
    let gone = last_put s.left.held (unheld_places s.ledger.held h []) c.drop_births.new.left.held c.as_slice.result.now c.len-from.result c.len-from.ensures c.as_slice.ensures c.drop_births.ensures.left in
    stock_left s.ledger c.drop_births.new.ledger s.index s.known c.forget.new.known s.left c.drop_births.new.left s.parked s.next s.runs s.room h [] c.self.invariant rising
    c.drop_births.ensures.held c.drop_births.ensures.left (c.forget.ensures.known ∙ ap (without_births s.known.held) gone)
    ∙ ap (λ v. with_holder v.held h []) c.self.view_is
