use Rattle.std.proofs.Common.{◌≡◌, ◌-◌, ◌<◌, ◌∙◌, ap, sym, subst, arith}
use Rattle.std.specs.Prelude.{is_some}
use Rattle.std.specs.Option.{option_copied, option_map}
use Rattle.sf_types.specs.Inside.NameMaps.{get, without_entry}
use Rattle.sf_types.specs.Table.Sessions.{without_locks}
use Rattle.sf_row_locks.specs.declared.slot.Slot.{Slot}
use Rattle.sf_row_locks.specs.Inside.Slots.{slot_at, row_count, locks_in}
use Rattle.sf_row_locks.proofs.SlotLemmas.{session_in}
use Rattle.sf_row_locks.proofs.LockLemmas.{none_held, lock_is_held}
use Rattle.sf_row_locks.proofs.row_locks.RowLocks.release_last.Goals as goal

pub returns-then-count-eq0-clause-none : goal.returns-then-count-eq0-clause-none
returns-then-count-eq0-clause-none c =
    let locks = c.self.inside.locks.held in
    subst (λ v. without_locks v.held c.args.session ≡ v.held) c.self.view_is
    (none_held locks c.self.inside.rows.held c.self.inside.counts.held c.args.session c.self.invariant (sym c.row_count-count.ensures ∙ c.if-count-eq0.true))

pub unreachable-requires : goal.unreachable-requires
unreachable-requires c =
    let less : c.row_count-count.result - 1 < row_count c.self.inside.counts.held c.args.session = omega (arith, c.row_count-count.ensures, c.if-count-eq0.false) in
    let there = c.self.invariant.filled c.args.session (c.row_count-count.result - 1) less in
    let bad = ap is_some (ap option_copied (sym c.in_default.is) ∙ c.get.ensures) ∙ there in
    absurd cc

pub returns-clause-released : goal.returns-clause-released
returns-clause-released c =
    let locks = c.self.inside.locks.held in
    let row = c.in-Some.row.now in
    let slot = slot_at c.args.session (c.row_count-count.result - 1) in
    let at = c.self.invariant.has slot row (sym (ap option_copied (sym c.in-Some.is) ∙ c.get.ensures)) in
    record {
      row = row;
      held = lock_is_held c.args.self.now.held c.args.session row (ap (λ v. get v.held row) (sym c.self.view_is) ∙ session_in locks row ∙ ap (option_map (λ (x : Slot). x.session)) at);
      released = c.drop_row.ensures.locks ∙ ap (without_entry (locks_in locks)) c.again-row.ensures ∙ ap (λ v. without_entry v.held row) c.self.view_is;
    }
