use Rattle.std.proofs.Common.{ap, length, sym, ◌∙◌}
use Rattle.std.proofs.lemmas.List.FromFn.{length-range_with_len}
use Rattle.sf_block_space.proofs.free_runs.FreeRuns.all.Goals as goal

pub invariant_of-result : goal.invariant_of-result
invariant_of-result c = c.from.ensures ∙ sym (ap length c.in_ok-all.ensures.blocks ∙ length-range_with_len 0 c.args.capacity)
