use Rattle.std.proofs.Common.{◌≡◌, ℕ, ◌+◌, ◌++◌, sym, ap, ◌∙◌, arith}
use Rattle.std.specs.Prelude.{replicate}
use Rattle.sf_types.specs.Values.Marks.{zero_byte}
use Rattle.sf_chunk_map.specs.declared.parts.Piece.{Piece}
use Rattle.sf_chunk_map.specs.Pieces.{marked_of}
use Rattle.sf_chunk_map.proofs.SeamLemmas.{joined-zeros}
use Rattle.sf_chunk_map.proofs.seams.joined.Goals as goal

pub returns-in-Zero-Zero : goal.returns-in-Zero-Zero
returns-in-Zero-Zero c =
    let left = c.in-Zero-Zero.left in
    let right = c.in-Zero-Zero.right in
    let sum : c.new.result ≡ left + right = omega (arith, c.new.ensures, c.len.ensures.len, c.len-in-Zero-Zero.ensures.len) in
    ap (λ (k : ℕ). replicate k zero_byte) sum
    ∙ joined-zeros left right
    ∙ ap (λ (p : Piece). marked_of p ++ replicate right zero_byte) (sym c.in-Zero-Zero.is-0)
    ∙ ap (λ (p : Piece). marked_of c.args.left.now ++ marked_of p) (sym c.in-Zero-Zero.is-1)
