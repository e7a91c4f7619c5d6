use Rattle.std.proofs.Common.{◌∙◌, ap, sym, arith}
use Rattle.std.specs.FinMap as fin
use Rattle.sf_lifetimes.specs.Ledgers.{Places, waiting_places}
use Rattle.sf_lifetimes.proofs.LedgerLemmas.{live_is, waiting_is}
use Rattle.sf_lifetimes.proofs.ShiftLemmas.{safe_by_counts, shifted_counted_by, entries_shifted, waiting_stays}
use Rattle.sf_lifetimes.proofs.ledger.Ledger.shift.Goals as goal

pub shift-requires : goal.shift-requires
shift-requires c =
    safe_by_counts c.self.inside.places.held c.self.inside.holdings.held c.args.self.now.held c.args.shifts c.self.invariant.counted (ap (λ v. v.held) c.self.view_is) c.requires

pub invariant_of-self : goal.invariant_of-self
invariant_of-self c =
    let m = c.self.inside.places.held in
    let h = c.self.inside.holdings.held in
    let safe = safe_by_counts m h c.args.self.now.held c.args.shifts c.self.invariant.counted (ap (λ v. v.held) c.self.view_is) c.requires in
    record {
      counted = shifted_counted_by m c.shift.new.self.held c.args.shifts safe c.shift.ensures.changed h c.self.invariant.counted;
      places_room = omega (arith, c.self.invariant.places_room, c.shift.ensures.spare);
      holdings_room = c.self.invariant.holdings_room;
    }

pub returns-clause-live : goal.returns-clause-live
returns-clause-live c =
    let m = c.self.inside.places.held in
    let h = c.self.inside.holdings.held in
    let n = c.shift.new.self.held in
    let safe = safe_by_counts m h c.args.self.now.held c.args.shifts c.self.invariant.counted (ap (λ v. v.held) c.self.view_is) c.requires in
    let counted = shifted_counted_by m n c.args.shifts safe c.shift.ensures.changed h c.self.invariant.counted in
    ap (λ (live : Places). fin.entries live) (sym (live_is n h counted)) ∙ entries_shifted m n c.args.shifts safe c.shift.ensures.changed

pub returns-clause-waiting : goal.returns-clause-waiting
returns-clause-waiting c =
    let m = c.self.inside.places.held in
    let h = c.self.inside.holdings.held in
    let n = c.shift.new.self.held in
    let safe = safe_by_counts m h c.args.self.now.held c.args.shifts c.self.invariant.counted (ap (λ v. v.held) c.self.view_is) c.requires in
    let counted = shifted_counted_by m n c.args.shifts safe c.shift.ensures.changed h c.self.invariant.counted in
    sym (waiting_is n h counted)
    ∙ waiting_stays m n c.args.shifts safe c.shift.ensures.changed
    ∙ waiting_is m h c.self.invariant.counted
    ∙ ap (λ v. waiting_places v.held) c.self.view_is
