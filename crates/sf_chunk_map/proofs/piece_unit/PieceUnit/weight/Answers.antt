use Rattle.std.proofs.Common.{sym, ap, ◌∙◌}
use Rattle.sf_chunk_map.specs.declared.parts.Piece.{Piece}
use Rattle.sf_chunk_map.specs.Pieces.{marked_of, fresh_in}
use Rattle.sf_chunk_map.proofs.PieceLemmas.{none_fresh_in_part, none_fresh_in_zeros, all_fresh}
use Rattle.sf_chunk_map.proofs.piece_unit.PieceUnit.weight.Goals as goal

pub returns-in-Stored-clause-weight : goal.returns-in-Stored-clause-weight
returns-in-Stored-clause-weight c = sym (none_fresh_in_part c.in-Stored.field-0) ∙ ap (λ (p : Piece). fresh_in (marked_of p)) (sym c.in-Stored.is)

pub returns-in-Zero-clause-weight : goal.returns-in-Zero-clause-weight
returns-in-Zero-clause-weight c = sym (none_fresh_in_zeros c.in-Zero.field-0) ∙ ap (λ (p : Piece). fresh_in (marked_of p)) (sym c.in-Zero.is)

pub returns-in-Fresh-clause-weight : goal.returns-in-Fresh-clause-weight
returns-in-Fresh-clause-weight c = c.from.ensures ∙ c.len.ensures.len ∙ sym (all_fresh c.in-Fresh.part) ∙ ap (λ (p : Piece). fresh_in (marked_of p)) (sym c.in-Fresh.is)
