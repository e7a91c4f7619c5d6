use Rattle.std.proofs.Common.{◌≡◌, ℕ, List, length, map, ap, ◌∙◌, arith}
use Rattle.sf_chunk_map.specs.declared.parts.Piece.{Piece}
use Rattle.sf_chunk_map.specs.Contents.{StoredContent, ContentPart, bytes_of_part}
use Rattle.sf_chunk_map.specs.Pieces.{marked_in}
use Rattle.sf_chunk_map.specs.Inside.Settling.{whole_piece}
use Rattle.sf_chunk_map.proofs.SettleLemmas.{whole_most}
use Rattle.sf_chunk_map.proofs.settling.whole_pieces.Goals as goal

pub push_back-requires : goal.push_back-requires
push_back-requires c =
    let items = c.as_slice-chunk-items.result.now in
    let content = c.chunk-item.result in
    let part : c.new.result ≡ record { content = content; from = 0; len = length content.bytes } =
    c.new.ensures
    ∙ ap (λ (x : StoredContent). record { content = x; from = 0; len = c.len-len.result }) c.in_ok-copy.ensures
    ∙ ap (λ (n : ℕ). record { content = content; from = 0; len = n }) (c.len-len.ensures ∙ ap (λ (bytes : List ℕ). length bytes) c.content.ensures.content) in
    omega (
      arith,
      whole_most items c.loop-chunk.chunk-index content c.loop-chunk-test.true c.chunk-item.is,
      ap (λ (p : ContentPart). length (bytes_of_part p)) part,
      ap (λ (ps : List Piece). length (marked_in ps)) c.loop-chunk.invariant,
      ap (λ (contents : List StoredContent). length (marked_in (map whole_piece contents))) c.as_slice-chunk-items.ensures,
      c.requires,
    )
