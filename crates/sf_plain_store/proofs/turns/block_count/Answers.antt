use Rattle.std.proofs.Common.{length, take, get_or, ap, arith}
use Rattle.std.proofs.lemmas.List.{length-append}
use Rattle.std.proofs.lemmas.List.FromFn.{length-range_with_len}
use Rattle.sf_types.specs.Space.BlockRuns.{blocks_in, blocks_in_run}
use Rattle.sf_types.proofs.RunLemmas.{no_run, next-blocks, next-count}
use Rattle.sf_plain_store.proofs.turns.block_count.Goals as goal

pub overflow_add-count : goal.overflow_add-count
overflow_add-count c =
    let runs = c.as_slice-run-items.result.now in
    omega (arith, c.loop-run.invariant, next-count runs c.loop-run.run-index c.loop-run-test.true, ap (λ rs. length (blocks_in rs)) c.as_slice-run-items.ensures, c.requires)

pub loop-run-preserved : goal.loop-run-preserved
loop-run-preserved c =
    let runs = c.as_slice-run-items.result.now in
    let k = c.loop-run.run-index in
    let run = get_or runs k no_run in
    omega (arith, c.loop-run.invariant, ap length (next-blocks runs k c.loop-run-test.true), length-append (blocks_in (take k runs)) (blocks_in_run run), length-range_with_len run.first run.blocks)
