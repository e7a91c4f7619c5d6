use Rattle.std.proofs.Common.{length, get_or, ap, rules, arith}
use Rattle.std.proofs.lemmas.List.{append-nil}
use Rattle.std.proofs.lemmas.List.FromFn.{length-range_with_len}
use Rattle.sf_types.specs.Space.BlockRuns.{blocks_in, blocks_in_run}
use Rattle.sf_types.proofs.RunLemmas.{no_run}
use Rattle.sf_block_space.specs.Free.{AreOut, filled_run_count}
use Rattle.sf_block_space.proofs.FilledRunLemmas.{filled_before}
use Rattle.sf_block_space.proofs.GivenLemmas.{next-out, takes-more, takes-nothing}
use Rattle.sf_block_space.proofs.OrderLemmas.{count-within}
use Rattle.sf_block_space.proofs.free_runs.FreeRuns.give_back_within.Goals.{then-run-gt0, else-run-gt0}
use Rattle.sf_block_space.proofs.free_runs.FreeRuns.give_back_within.Goals as goal

pub put-requires-clause-out : goal.put-requires-clause-out
put-requires-clause-out c =
    let given = c.as_slice-run-items.result.now in
    let out : AreOut c.self.inside.runs.held (blocks_in given) = search rules in
    next-out c.self.inside.runs c.loop-run.self-inside.runs given c.loop-run.run-index c.loop-run-test.true out c.loop-run.invariant.back

pub put-requires-clause-room : goal.put-requires-clause-room
put-requires-clause-room c =
    let given = c.as_slice-run-items.result.now in
    let back = c.loop-run.invariant.back in
    omega (arith, c.if-run-gt0.true, back.more, back.room, ap (λ v. v.spare) c.self.view_is, c.requires.room, ap filled_run_count c.as_slice-run-items.ensures, filled_before given c.loop-run.run-index c.loop-run-test.true (omega (arith, c.if-run-gt0.true)))

pub overflow_add-self : goal.overflow_add-self
overflow_add-self c =
    let put = c.put.ensures in
    let run = get_or c.as_slice-run-items.result.now c.loop-run.run-index no_run in
    omega (
      arith,
      c.capacity-capacity.ensures.capacity,
      c.loop-run.invariant.back.capacity,
      put.capacity,
      count-within 0 c.put.new.self.held.capacity c.put.new.self.held.runs put.order,
      put.blocks.count,
      c.loop-run.invariant.count,
      c.from.ensures,
      ap length (append-nil (blocks_in_run run)),
      length-range_with_len run.first run.blocks,
    )

pub loop-run-preserved : goal.loop-run-preserved
loop-run-preserved c =
    let given = c.as_slice-run-items.result.now in
    let k = c.loop-run.run-index in
    let run = get_or given k no_run in
    let old = c.loop-run.invariant in
    let first = c.self.inside.runs in
    let space = c.loop-run.self-inside.runs in
    elim c.if-run-gt0.branch [
      | then-run-gt0 w ↦
          rw w.self-inside-is
          (record {
            back = takes-more first space w.put.new.self given k c.loop-run-test.true old.back w.put.ensures;
            count = omega (arith, old.count, w.put.ensures.blocks.count, w.from.ensures, ap length (append-nil (blocks_in_run run)), length-range_with_len run.first run.blocks);
          })
      | else-run-gt0 w ↦
          rw w.self-inside-is
          (record {
            back = takes-more first space space given k c.loop-run-test.true old.back (takes-nothing space run old.back.order w.if-run-gt0.false);
            count = old.count;
          })
    ]
