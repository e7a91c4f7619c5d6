use Rattle.std.proofs.Common.{arith}
use Rattle.sf_chunk_map.specs.Pieces.{marked_in}
use Rattle.sf_chunk_map.proofs.SeamLemmas.{seam_most, same_length}
use Rattle.sf_chunk_map.proofs.seams.append_new.Goals as goal

pub seam-requires : goal.seam-requires
seam-requires c =
    omega (arith, c.requires, same_length (marked_in c.loop-piece.tree) (marked_in c.loop-piece.new) (marked_in c.args.tree.now) (marked_in c.args.new) c.loop-piece.invariant)

pub replace_first-requires-clause-fits : goal.replace_first-requires-clause-fits
replace_first-requires-clause-fits c =
    omega (
      arith,
      c.requires,
      same_length (marked_in c.loop-piece.tree) (marked_in c.loop-piece.new) (marked_in c.args.tree.now) (marked_in c.args.new) c.loop-piece.invariant,
      seam_most c.loop-piece.tree c.loop-piece.new c.in-Some.piece c.in-Some.ensures,
    )

pub append-requires : goal.append-requires
append-requires c =
    omega (arith, c.requires, same_length (marked_in c.loop-piece.tree) (marked_in c.loop-piece.new) (marked_in c.args.tree.now) (marked_in c.args.new) c.loop-piece.invariant)
