use Rattle.std.proofs.Common.{◌≡◌, ℕ, ◌+◌, ◌++◌, sym, ap, ◌∙◌, arith}
use Rattle.std.specs.Prelude.{replicate}
use Rattle.sf_types.specs.Values.Marks.{zero_byte}
use Rattle.sf_chunk_map.specs.declared.parts.Piece.{Piece}
use Rattle.sf_chunk_map.specs.Pieces.{marked_of}
use Rattle.sf_chunk_map.proofs.SeamLemmas.{joined-zeros}
use Rattle.sf_chunk_map.proofs.maximal.join_zeros.Goals as goal

pub returns-clause-bytes : goal.returns-clause-bytes
returns-clause-bytes c =
    let left = c.args.part in
    let right = c.in-Zero.next in
    let sum : c.new.result ≡ left + right = omega (arith, c.new.ensures, c.len.ensures.len, c.len-2.ensures.len) in
    ap (λ (k : ℕ). replicate k zero_byte) sum
    ∙ joined-zeros left right
    ∙ ap (λ (p : Piece). replicate left zero_byte ++ marked_of p) (sym c.in-Zero.is)
