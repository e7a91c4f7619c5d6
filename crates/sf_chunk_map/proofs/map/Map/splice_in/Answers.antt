use Rattle.std.proofs.Common.{length, ap, arith}
use Rattle.sf_types.specs.Values.Marks.{Value}
use Rattle.sf_chunk_map.specs.Pieces.{marked_in}
use Rattle.sf_chunk_map.specs.Inside.Counts.{bytes_of_birth}
use Rattle.sf_chunk_map.proofs.SpliceLemmas.{in_three, spliced_is_map}
use Rattle.sf_chunk_map.proofs.map.Map.splice_in.Goals as goal

pub lower_pieces-requires : goal.lower_pieces-requires
lower_pieces-requires c = λ b.
    omega (
      arith,
      c.raise_pieces.ensures b,
      c.make_places.ensures.counts b,
      c.self.invariant.counts b,
      in_three b c.args.at c.args.remove (marked_in c.self.inside.tree),
      ap (bytes_of_birth b) c.in_ok-cut.ensures.middle,
    )

pub invariant_of-self-2 : goal.invariant_of-self-2
invariant_of-self-2 c =
    let old = marked_in c.self.inside.tree in
    let cut = c.in_ok-cut in
    spliced_is_map old c.args.at c.args.remove c.cut_out.new.tree c.with.inside.tree cut.cut.tail cut.cut.middle c.append_new.new.tree c.append_old.new.tree
    c.self.inside.counts c.raise_pieces.new.counts c.lower_pieces.new.counts
    (omega (arith, c.requires.within, ap (λ (v : Value). length v.bytes) c.self.view_is))
    (omega (arith, c.requires.most, ap (λ (v : Value). length v.bytes) c.self.view_is, ap (λ (v : Value). length v.bytes) c.with.view_is))
    cut.ensures.front cut.ensures.middle cut.ensures.tail
    c.append_new.ensures c.append_old.ensures
    c.self.invariant.counts
    (λ b. omega (arith, c.raise_pieces.ensures b, c.make_places.ensures.counts b))
    c.lower_pieces.ensures
