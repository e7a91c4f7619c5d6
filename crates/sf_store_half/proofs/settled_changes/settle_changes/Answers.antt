use Rattle.std.proofs.Common.{◌+◌, sym, subst, arith}
use Rattle.sf_types.specs.Table.Parts.{Rows}
use Rattle.sf_store_half.proofs.SettledChangeLemmas.{IsSettledTo, names_before, settled_next, within_here}
use Rattle.sf_store_half.proofs.settled_changes.settle_changes.Goals as goal

pub push-requires : goal.push-requires
push-requires c =
    names_before c.args.changes c.args.chunks.now c.loop-change.settled c.in-Some.change c.next.new.self.rest.items c.loop-change.from (subst (λ (es : Rows). IsSettledTo c.args.changes c.args.chunks.now c.loop-change.settled es c.loop-change.from) c.in-Some.ensures.steps.0 c.loop-change.invariant) c.in_ok-own.own c.in_ok-own.ensures.settled

pub overflow_add-from : goal.overflow_add-from
overflow_add-from c =
    let most = within_here c.args.changes c.args.chunks.now c.loop-change.settled c.in-Some.change c.next.new.self.rest.items c.loop-change.from (subst (λ (es : Rows). IsSettledTo c.args.changes c.args.chunks.now c.loop-change.settled es c.loop-change.from) c.in-Some.ensures.steps.0 c.loop-change.invariant) c.in_ok-own.count c.in_ok-own.ensures.count in
    let count = c.len-count.ensures in
    let fits = c.len-count.type_inv in
    omega (arith, most, count, fits)

pub loop-change-preserved : goal.loop-change-preserved
loop-change-preserved c =
    subst (λ (done : Rows). IsSettledTo c.args.changes c.args.chunks.now done c.next.new.self.rest.items (c.loop-change.from + c.in_ok-own.count)) (sym c.in_ok-push.ensures.ok)
    (settled_next c.args.changes c.args.chunks.now c.loop-change.settled c.in-Some.change c.next.new.self.rest.items c.loop-change.from (subst (λ (es : Rows). IsSettledTo c.args.changes c.args.chunks.now c.loop-change.settled es c.loop-change.from) c.in-Some.ensures.steps.0 c.loop-change.invariant) c.in_ok-own.own c.in_ok-own.count c.in_ok-own.ensures.settled c.in_ok-own.ensures.count)
