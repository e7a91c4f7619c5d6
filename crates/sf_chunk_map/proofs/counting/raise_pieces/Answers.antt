use Rattle.std.proofs.Common.{ℕ, ◌+◌, ◌-◌, length, take, ap, arith}
use Rattle.sf_chunk_map.specs.Pieces.{marked_of, marked_in}
use Rattle.sf_chunk_map.specs.Inside.Counts.{bytes_of_birth}
use Rattle.sf_chunk_map.proofs.TreeLemmas.{more_of_birth, birth-take}
use Rattle.sf_chunk_map.proofs.counting.raise_pieces.Goals as goal

pub raise_piece-requires-clause-places : goal.raise_piece-requires-clause-places
raise_piece-requires-clause-places c = λ b some.
    let piece = c.in-Some.piece.now in
    let more = more_of_birth c.args.tree.now c.loop-piece.at piece c.in-Some.from b c.in-Some.ensures in
    let most = birth-take b (c.loop-piece.at + (length (marked_of piece) - c.in-Some.from)) (marked_in c.args.tree.now) in
    c.loop-piece.invariant.places b (c.requires.places b (omega (arith, some, more, most)))

pub raise_piece-requires-clause-few : goal.raise_piece-requires-clause-few
raise_piece-requires-clause-few c = λ b.
    let piece = c.in-Some.piece.now in
    let more = more_of_birth c.args.tree.now c.loop-piece.at piece c.in-Some.from b c.in-Some.ensures in
    let most = birth-take b (c.loop-piece.at + (length (marked_of piece) - c.in-Some.from)) (marked_in c.args.tree.now) in
    omega (arith, c.requires.few b, c.loop-piece.invariant.counts b, more, most)

pub loop-piece-preserved : goal.loop-piece-preserved
loop-piece-preserved c = record {
  counts = λ b. omega (
    arith,
    c.raise_piece.ensures.counts b,
    c.loop-piece.invariant.counts b,
    more_of_birth c.args.tree.now c.loop-piece.at c.in-Some.piece.now c.in-Some.from b c.in-Some.ensures,
    ap (λ (n : ℕ). bytes_of_birth b (take (c.loop-piece.at + (n - c.in-Some.from)) (marked_in c.args.tree.now))) c.size.ensures.size,
  );
  places = λ b has. c.raise_piece.ensures.places b (c.loop-piece.invariant.places b has);
}
