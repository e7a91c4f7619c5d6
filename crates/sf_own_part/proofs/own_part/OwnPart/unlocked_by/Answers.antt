use Rattle.std.proofs.Common.{◌≤◌, length, ap, ◌∙◌, arith}
use Rattle.std.specs.Prelude.{flat_map}
use Rattle.sf_own_part.specs.Inside.Unlocking.{unlocked}
use Rattle.sf_own_part.proofs.LockedLemmas.{part_added, all_added, unlocked_rows}
use Rattle.sf_own_part.proofs.own_part.OwnPart.unlocked_by.Goals as goal

pub loop-k-preserved : goal.loop-k-preserved
loop-k-preserved c = part_added (unlocked c.args.savepoint.now.locked) c.args.self.now.held.rows c.loop-k.k _ _ _ c.loop-k.invariant c.in_ok-add_unlocked.ensures

pub returns : goal.returns
returns c =
    let rows = c.args.self.now.held.rows in
    let named = c.args.savepoint.now.locked in
    let most : length rows ≤ c.loop-k.k = omega (arith, c.len-k-end.ensures.len, ap (λ v. length v.held.rows) c.self.view_is, c.loop-k-test.false) in
    all_added (unlocked named) rows c.loop-k.k c.loop-k.names (flat_map (unlocked named) rows) c.loop-k.invariant most ∙ unlocked_rows named rows
