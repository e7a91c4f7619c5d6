use Rattle.std.proofs.Common.{◌≡◌, ℕ, ◌+◌, ◌++◌, sym, ap, subst, ◌∙◌}
use Rattle.sf_chunk_map.specs.Contents.{StoredContent, ContentPart, bytes_of_part}
use Rattle.sf_chunk_map.specs.declared.parts.Piece.{Piece}
use Rattle.sf_chunk_map.specs.declared.parts.Piece.TheVariants.{Stored}
use Rattle.sf_chunk_map.specs.Pieces.{marked_of}
use Rattle.sf_chunk_map.specs.MaximalPieces.{GoesOn}
use Rattle.sf_chunk_map.proofs.SeamLemmas.{joined-part}
use Rattle.sf_chunk_map.proofs.maximal.join_stored.Goals as goal

pub returns-clause-bytes : goal.returns-clause-bytes
returns-clause-bytes c =
    let left = c.args.part in
    let right = c.in-Stored.next in
    let first = c.len.result in
    let second = c.len-2.result in
    let on = subst (GoesOn (Stored left)) c.in-Stored.is c.requires.next in
    let is : c.new.result ≡ record { content = left.content; from = left.from; len = left.len + right.len } =
    c.new.ensures
    ∙ ap (λ (x : StoredContent). record { content = x; from = c.from.result; len = first + second }) (c.in_ok-chunk.ensures ∙ c.chunk.ensures)
    ∙ ap (λ (k : ℕ). record { content = left.content; from = k; len = first + second }) c.from.ensures
    ∙ ap (λ (k : ℕ). record { content = left.content; from = left.from; len = k + second }) c.len.ensures.len
    ∙ ap (λ (k : ℕ). record { content = left.content; from = left.from; len = left.len + k }) c.len-2.ensures.len in
    ap (λ (p : ContentPart). bytes_of_part p) is
    ∙ joined-part left right on.0 on.1
    ∙ ap (λ (p : Piece). bytes_of_part left ++ marked_of p) (sym c.in-Stored.is)
