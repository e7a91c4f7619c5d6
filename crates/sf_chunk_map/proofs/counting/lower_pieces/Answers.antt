use Rattle.std.proofs.Common.{ℕ, ◌+◌, ◌-◌, length, take, ap, arith}
use Rattle.sf_chunk_map.specs.Pieces.{marked_of, marked_in}
use Rattle.sf_chunk_map.specs.Inside.Counts.{bytes_of_birth}
use Rattle.sf_chunk_map.proofs.TreeLemmas.{more_of_birth, birth-take}
use Rattle.sf_chunk_map.proofs.counting.lower_pieces.Goals as goal

pub lower_piece-requires-clause-enough : goal.lower_piece-requires-clause-enough
lower_piece-requires-clause-enough c = λ b.
    let piece = c.in-Some.piece.now in
    let more = more_of_birth c.args.tree.now c.loop-piece.at piece c.in-Some.from b c.in-Some.ensures in
    let most = birth-take b (c.loop-piece.at + (length (marked_of piece) - c.in-Some.from)) (marked_in c.args.tree.now) in
    omega (arith, c.requires b, c.loop-piece.invariant b, more, most)

pub loop-piece-preserved : goal.loop-piece-preserved
loop-piece-preserved c = λ b. omega (
  arith,
  c.lower_piece.ensures b,
  c.loop-piece.invariant b,
  more_of_birth c.args.tree.now c.loop-piece.at c.in-Some.piece.now c.in-Some.from b c.in-Some.ensures,
  ap (λ (n : ℕ). bytes_of_birth b (take (c.loop-piece.at + (n - c.in-Some.from)) (marked_in c.args.tree.now))) c.size.ensures.size,
)
