use Rattle.std.proofs.Common.{ap, arith}
use Rattle.sf_chunk_map.specs.Pieces.{marked_in}
use Rattle.sf_chunk_map.specs.Inside.Counts.{Counts, count_at}
use Rattle.sf_chunk_map.proofs.TreeLemmas.{birth-most}
use Rattle.sf_chunk_map.proofs.counting.counts_of.Goals as goal

pub raise_pieces-requires-clause-few : goal.raise_pieces-requires-clause-few
raise_pieces-requires-clause-few c = λ b.
    omega (arith, c.make_places.ensures.counts b, ap (λ (m : Counts). count_at m b) c.new-counts.ensures, birth-most b (marked_in c.args.tree.now), c.size-size.ensures)
