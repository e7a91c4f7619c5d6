use Rattle.std.proofs.Common.{◌≡◌, ℕ, ◌-◌, ◌≤◌, cond, length, drop, sym, ap, ◌∙◌, subst, arith}
use Rattle.std.specs.Prelude.{◌==◌}
use Rattle.sf_chunk_map.specs.declared.parts.Piece.{Piece}
use Rattle.sf_chunk_map.specs.Contents.{IsPart, bytes_of_part}
use Rattle.sf_chunk_map.specs.Pieces.{marked_of}
use Rattle.sf_chunk_map.specs.Inside.Counts.{bytes_of_birth}
use Rattle.sf_chunk_map.proofs.BirthLemmas.{births_in_stored, births_in_zeros, births_in_fresh}
use Rattle.sf_chunk_map.proofs.counting.stored_birth.Goals as goal

pub returns-in-Stored : goal.returns-in-Stored
returns-in-Stored c = λ b from.
    let part = c.in-Stored.part in
    let is : IsPart part = record { some = omega (arith, c.len-len.ensures.some, c.len-len.ensures.len); within = omega (arith, c.len-len.ensures.within, c.len-len.ensures.len) } in
    let birth : c.birth.result ≡ part.content.birth = c.birth.ensures ∙ ap (λ x. x.birth) c.chunk.ensures in
    subst (λ (p : Piece). from ≤ length (marked_of p) → bytes_of_birth b (drop from (marked_of p)) ≡ cond (c.birth.result == b) (length (marked_of p) - from) 0) (sym c.in-Stored.is)
    (λ most. births_in_stored b from part is most ∙ ap (λ (k : ℕ). cond (k == b) (length (bytes_of_part part) - from) 0) (sym birth))

pub returns-in-Zero : goal.returns-in-Zero
returns-in-Zero c = λ b from most. ap (λ (p : Piece). bytes_of_birth b (drop from (marked_of p))) c.in-Zero.is ∙ births_in_zeros b from c.in-Zero.field-0

pub returns-in-Fresh : goal.returns-in-Fresh
returns-in-Fresh c = λ b from most. ap (λ (p : Piece). bytes_of_birth b (drop from (marked_of p))) c.in-Fresh.is ∙ births_in_fresh b from c.in-Fresh.field-0
