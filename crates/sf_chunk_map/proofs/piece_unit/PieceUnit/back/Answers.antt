use Rattle.std.proofs.Common.{ℕ, List, ◌-◌, drop, sym, ap, ◌∙◌}
use Rattle.std.specs.Prelude.{replicate}
use Rattle.sf_types.specs.Values.Marks.{zero_byte, fresh_byte, fresh_bytes}
use Rattle.sf_chunk_map.specs.declared.parts.Piece.{Piece}
use Rattle.sf_chunk_map.specs.Pieces.{marked_of}
use Rattle.std.proofs.lemmas.List.{drop-map}
use Rattle.std.proofs.lemmas.List.{drop-replicate}
use Rattle.sf_chunk_map.proofs.piece_unit.PieceUnit.back.Goals as goal

pub returns-in-Zero : goal.returns-in-Zero
returns-in-Zero c =
    ap (λ (k : ℕ). replicate k zero_byte) (c.new.ensures ∙ ap (λ (k : ℕ). k - c.args.n) c.len.ensures.len)
    ∙ sym (drop-replicate c.args.n c.in-Zero.part zero_byte)
    ∙ ap (λ (p : Piece). drop c.args.n (marked_of p)) (sym c.in-Zero.is)

pub returns-in_ok-back-in-Fresh : goal.returns-in_ok-back-in-Fresh
returns-in_ok-back-in-Fresh c =
    ap (λ (bytes : List ℕ). fresh_bytes bytes) c.in_ok-back-in-Fresh.ensures
    ∙ sym (drop-map fresh_byte c.args.n c.in-Fresh.part)
    ∙ ap (λ (p : Piece). drop c.args.n (marked_of p)) (sym c.in-Fresh.is)
