use Rattle.std.proofs.Common.{⊎_elim, ℕ, ◌+◌, ◌-◌, ◌<◌, take, drop, ap, ◌∙◌, arith}
use Rattle.sf_chunk_map.specs.Pieces.{marked_of, marked_in}
use Rattle.sf_chunk_map.specs.Inside.Counts.{bytes_of_birth}
use Rattle.sf_chunk_map.proofs.TreeLemmas.{more_of_birth, birth-drop, some_in}
use Rattle.sf_chunk_map.proofs.counting.make_places.Goals as goal

pub loop-piece-preserved : goal.loop-piece-preserved
loop-piece-preserved c = record {
  counts = λ b. c.make_place.ensures.counts b ∙ c.loop-piece.invariant.counts b;
  place = λ b some.
      let piece = c.in-Some.piece.now in
      let before = bytes_of_birth b (take c.loop-piece.at (marked_in c.args.tree.now)) in
      let here = bytes_of_birth b (drop c.in-Some.from (marked_of piece)) in
      let more = more_of_birth c.args.tree.now c.loop-piece.at piece c.in-Some.from b c.in-Some.ensures in
      let same = ap (λ (n : ℕ). bytes_of_birth b (take (c.loop-piece.at + (n - c.in-Some.from)) (marked_in c.args.tree.now))) c.size.ensures.size in
      ⊎_elim
      (λ (old : 0 < before). c.make_place.ensures.places b (c.loop-piece.invariant.place b old))
      (λ (new : 0 < here). c.in_ok-make_place.ensures.place b (omega (arith, new, birth-drop b c.in-Some.from (marked_of piece))))
      (some_in before here (omega (arith, some, more, same)));
  places = λ b has. c.make_place.ensures.places b (c.loop-piece.invariant.places b has);
}
