use Rattle.std.proofs.Common.{◌∙◌, ◌-◌, ap, arith, cond, get_or, Some}
use Rattle.std.specs.Prelude.{◌==◌}
use Rattle.std.specs.FinMap as fin
use Rattle.sf_lifetimes.specs.Inside.Counts.{holders_in}
use Rattle.sf_lifetimes.specs.Inside.Tallies.{left_of, counted_off}
use Rattle.sf_lifetimes.proofs.CountLemmas.{point_same, point_next, has_own}
use Rattle.sf_lifetimes.proofs.TallyLemmas.{freed_few, off_bounded, size_few}
use Rattle.sf_lifetimes.proofs.tally.count_births.Goals as goal

pub count-requires-clause-some : goal.count-requires-clause-some
count-requires-clause-some c =
    let P = c.args.places.now.held in
    let births = c.args.births.now in
    let k = c.loop-birth.birth-index in
    let b = get_or births k 0 in
    let s = c.loop-birth.tally in
    let same = point_same (λ q t. counted_off (fin.get P q) t) (fin.get c.args.tally.now) (fin.get s) births k c.requires.rising c.loop-birth-test.true c.loop-birth.invariant.counted in
    omega (arith, c.requires.left b (has_own births k c.loop-birth-test.true), ap (λ t. left_of t (holders_in (fin.get P b))) same, ap (left_of (fin.get s b)) c.holders_of-holders.ensures)

pub count-requires-clause-few : goal.count-requires-clause-few
count-requires-clause-few c =
    let P = c.args.places.now.held in
    let births = c.args.births.now in
    let k = c.loop-birth.birth-index in
    let b = get_or births k 0 in
    let s = c.loop-birth.tally in
    let bounded = off_bounded c.args.tally.now s P births k c.requires.held c.requires.bounded c.loop-birth.invariant.counted in
    omega (arith, freed_few s P bounded, c.loop-birth.invariant.few, c.blocks_of.ensures, size_few P b (c.requires.held b (has_own births k c.loop-birth-test.true)))

pub loop-birth-preserved : goal.loop-birth-preserved
loop-birth-preserved c =
    let P = c.args.places.now.held in
    let births = c.args.births.now in
    let k = c.loop-birth.birth-index in
    let b = get_or births k 0 in
    let s = c.loop-birth.tally in
    record {
      counted = point_next (λ q t. counted_off (fin.get P q) t) (fin.get c.args.tally.now) (fin.get s) (fin.get c.count.new.self) births k c.requires.rising c.loop-birth-test.true c.loop-birth.invariant.counted (λ q.
          c.in_ok-count.ensures q
          ∙ ap (λ n. cond (q == b) (Some (record { left = left_of (fin.get s b) n - 1; blocks = c.blocks_of.result })) (fin.get s q)) c.holders_of-holders.ensures
          ∙ ap (λ n. cond (q == b) (Some (record { left = left_of (fin.get s b) (holders_in (fin.get P b)) - 1; blocks = n })) (fin.get s q)) c.blocks_of.ensures);
      few = c.loop-birth.invariant.few;
    }
