use Rattle.std.proofs.Common.{◌∙◌, ap, sym, subst}
use Rattle.sf_stock.specs.Stocks.{AreShifts, with_shifts}
use Rattle.sf_stock.specs.Inside.Keeps.{IsStock}
use Rattle.sf_stock.proofs.ShiftLemmas.{safe_shifts, view_moved, stock_shifted}
use Rattle.sf_stock.proofs.stock.Stock.shift.Goals as goal

pub shift-requires : goal.shift-requires
shift-requires c =
    let s = c.self.inside in
    safe_shifts s.ledger.held s.index.held s.known.held s.left.held s.parked.held s.next c.args.shifts c.self.invariant.births (subst (λ v. AreShifts v.held c.args.shifts) (sym c.self.view_is) c.requires)

pub invariant_of-self : goal.invariant_of-self
invariant_of-self c =
    let s = c.self.inside in
    subst (λ n. IsStock c.shift.new.self s.index s.known s.left s.parked s.next n s.room) (sym c.len.ensures.len)
    (stock_shifted s.ledger c.shift.new.self s.index s.known s.left s.parked s.next s.runs s.room c.args.shifts c.self.invariant (subst (λ v. AreShifts v.held c.args.shifts) (sym c.self.view_is) c.requires)
    c.shift.ensures.live c.shift.ensures.waiting c.shift.ensures.holdings c.shift.ensures.spare)

pub returns-clause-held : goal.returns-clause-held
returns-clause-held c =
    let s = c.self.inside in
    view_moved s.ledger.held s.index.held s.known.held s.left.held s.parked.held s.next c.args.shifts c.self.invariant.births (subst (λ v. AreShifts v.held c.args.shifts) (sym c.self.view_is) c.requires)
    c.shift.new.self.held c.shift.ensures.live c.shift.ensures.waiting c.shift.ensures.holdings
    ∙ ap (λ v. with_shifts v.held c.args.shifts) c.self.view_is
