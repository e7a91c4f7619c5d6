use Rattle.std.proofs.Common.{◌-◌, length, drop, arith}
use Rattle.sf_chunk_map.specs.Pieces.{marked_of}
use Rattle.sf_chunk_map.specs.Inside.Counts.{bytes_of_birth}
use Rattle.sf_chunk_map.proofs.BirthLemmas.{own_bytes}
use Rattle.sf_chunk_map.proofs.counting.lower_piece.Goals as goal

pub lower-requires : goal.lower-requires
lower-requires c =
    let birth = c.in-Some.birth in
    let marked = marked_of c.args.piece.now in
    let own = own_bytes c.stored_birth.result birth (length marked - c.args.from) (bytes_of_birth birth (drop c.args.from marked)) c.in-Some.is (c.stored_birth.ensures birth c.args.from (omega (arith, c.requires.from))) in
    omega (arith, own, c.requires.enough birth, c.size.ensures.size)
