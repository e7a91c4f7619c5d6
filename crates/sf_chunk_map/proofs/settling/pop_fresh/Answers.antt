use Rattle.std.proofs.Common.{◌+◌, refl}
use Rattle.sf_chunk_map.specs.Pieces.{marked_in}
use Rattle.sf_chunk_map.proofs.SettleLemmas.{front_more}
use Rattle.sf_chunk_map.proofs.settling.pop_fresh.Goals as goal

pub loop-count-preserved : goal.loop-count-preserved
loop-count-preserved c =
    front_more (marked_in c.args.tree.now) c.loop-count.tree c.pop_first.new.self c.pop_first.result c.loop-count.len c.in-Some.count (c.loop-count.len + c.in-Some.count) c.loop-count.invariant c.in-Some.ensures c.pop_first.ensures refl
