use Rattle.std.proofs.Common.{arith, subst}
use Rattle.sf_shrink.specs.declared.shifts.TheConstants.{MOST_BLOCKS}
use Rattle.sf_shrink.specs.Plans.{IsSafeWithoutGap}
use Rattle.sf_tests.proofs.LedgerLemmas.{both_listed, none_waits}
use Rattle.sf_lifetimes.proofs.PlannedShiftLemmas.{planned_are_safe}
use Rattle.sf_tests.proofs.lifetimes.moved_together.Goals as goal

pub plan-requires : goal.plan-requires
plan-requires c = both_listed c.hold_both.new.ledger.held _ c.in_ok-before.before c.in_ok-hold_both.ensures c.in_ok-before.ensures.places

pub shift-requires : goal.shift-requires
shift-requires c =
    let placed = both_listed c.hold_both.new.ledger.held _ c.in_ok-before.before c.in_ok-hold_both.ensures c.in_ok-before.ensures.places in
    planned_are_safe c.hold_both.new.ledger.held c.in_ok-plan.field-0 MOST_BLOCKS (omega arith)
    (subst (λ places. IsSafeWithoutGap places c.in_ok-plan.field-0 MOST_BLOCKS) c.in_ok-before.ensures.places (c.in_ok-plan.ensures.safe MOST_BLOCKS placed))
    (none_waits c.hold_both.new.ledger.held _ c.in_ok-hold_both.ensures)
