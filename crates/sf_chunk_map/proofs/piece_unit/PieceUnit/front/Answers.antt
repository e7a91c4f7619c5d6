use Rattle.std.proofs.Common.{ℕ, List, ◌≤◌, length, take, sym, ap, ◌∙◌, arith}
use Rattle.std.specs.Prelude.{replicate}
use Rattle.sf_types.specs.Values.Marks.{zero_byte, fresh_byte, fresh_bytes}
use Rattle.sf_chunk_map.specs.declared.parts.Piece.{Piece}
use Rattle.sf_chunk_map.specs.Pieces.{marked_of}
use Rattle.std.proofs.lemmas.List.{length-replicate, take-map}
use Rattle.std.proofs.lemmas.List.{take-replicate}
use Rattle.sf_chunk_map.proofs.piece_unit.PieceUnit.front.Goals as goal

pub returns-in-Zero : goal.returns-in-Zero
returns-in-Zero c =
    let most : c.args.n ≤ c.in-Zero.field-0 = omega (arith, c.requires.within, ap (λ (p : Piece). length (marked_of p)) c.in-Zero.is, length-replicate c.in-Zero.field-0 zero_byte) in
    ap (λ (k : ℕ). replicate k zero_byte) c.new.ensures
    ∙ sym (take-replicate c.args.n c.in-Zero.field-0 zero_byte most)
    ∙ ap (λ (p : Piece). take c.args.n (marked_of p)) (sym c.in-Zero.is)

pub returns-in_ok-front-in-Fresh : goal.returns-in_ok-front-in-Fresh
returns-in_ok-front-in-Fresh c =
    ap (λ (bytes : List ℕ). fresh_bytes bytes) c.in_ok-front-in-Fresh.ensures
    ∙ sym (take-map fresh_byte c.args.n c.in-Fresh.part)
    ∙ ap (λ (p : Piece). take c.args.n (marked_of p)) (sym c.in-Fresh.is)
