use Rattle.std.proofs.Common.{◌≡◌, ℕ, length, sym, ap, ◌∙◌}
use Rattle.std.specs.Prelude.{replicate}
use Rattle.std.proofs.lemmas.List.{length-replicate}
use Rattle.sf_types.specs.Values.Marks.{zero_byte, bytes_in}
use Rattle.sf_chunk_map.specs.declared.parts.Piece.{Piece}
use Rattle.sf_chunk_map.specs.Pieces.{marked_of}
use Rattle.sf_chunk_map.proofs.PieceLemmas.{bytes_stored, bytes_of_zeros, bytes_of_fresh}
use Rattle.sf_chunk_map.proofs.parts.Piece.as_bytes.Goals as goal

pub returns-in-Stored : goal.returns-in-Stored
returns-in-Stored c = c.as_bytes.ensures ∙ sym (bytes_stored c.in-Stored.part) ∙ ap (λ (p : Piece). bytes_in (marked_of p)) (sym c.in-Stored.is)

pub returns-in-Zero : goal.returns-in-Zero
returns-in-Zero c =
    let len = c.in-Zero.field-0 in
    let size : length (marked_of c.args.self.now) ≡ len = ap (λ (p : Piece). length (marked_of p)) c.in-Zero.is ∙ length-replicate len zero_byte in
    ap (λ (p : Piece). bytes_in (marked_of p)) c.in-Zero.is
    ∙ bytes_of_zeros len
    ∙ ap (λ (n : ℕ). replicate n 0) (sym size)

pub returns-in-Fresh : goal.returns-in-Fresh
returns-in-Fresh c = c.as_bytes-in-Fresh.ensures ∙ sym (bytes_of_fresh c.in-Fresh.part) ∙ ap (λ (p : Piece). bytes_in (marked_of p)) (sym c.in-Fresh.is)
