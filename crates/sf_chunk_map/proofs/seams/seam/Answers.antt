use Rattle.std.proofs.Common.{◌≡◌, ◌++◌, sym, arith}
use Rattle.sf_chunk_map.specs.Pieces.{marked_of}
use Rattle.sf_chunk_map.specs.Inside.Seams.{IsSeam}
use Rattle.sf_chunk_map.proofs.SeamLemmas.{last_most, first_most, seam_of, still_some}
use Rattle.sf_chunk_map.proofs.seams.seam.Goals as goal

pub joined-requires : goal.joined-requires
joined-requires c =
    omega (
      arith,
      c.requires,
      last_most c.args.first.now c.in_ok-left.left.now (sym c.in_ok-left.ensures),
      first_most c.args.second.now c.in_ok-right.right.now (sym c.in_ok-right.ensures),
    )

pub returns : goal.returns
returns c =
    let left = c.in_ok-left.left.now in
    let right = c.in_ok-right.right.now in
    still_some c.joined.result (λ piece. marked_of piece ≡ marked_of left ++ marked_of right) (IsSeam c.args.first.now c.args.second.now)
    (λ piece bytes. seam_of c.args.first.now c.args.second.now left right piece (sym c.in_ok-left.ensures) (sym c.in_ok-right.ensures) bytes)
    c.joined.ensures
