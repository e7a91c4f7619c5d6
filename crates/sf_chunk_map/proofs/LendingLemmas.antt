-- Pieces that lie in a value, and the bytes that they hold of it.
use Rattle.std.proofs.Common.{◌≡◌, ℕ, ◌+◌, ◌-◌, ◌≤◌, Option, Some, None, List, ◌∷◌, ◌++◌, length, take, drop, refl, sym, ap, ◌∙◌, arith}
use Rattle.std.specs.Prelude.{MatchOption}
use Rattle.std.proofs.lemmas.List.{take_at, length-take, length-drop, drop-map}
use Rattle.sf_types.specs.Values.Marks.{Marked, Value, size_of, bytes_in, strip}
use Rattle.sf_piece_tree.specs.Contents.{joined_content, LiesIn}
use Rattle.sf_piece_tree.proofs.CutLemmas.{drop-within}
use Rattle.sf_chunk_map.specs.declared.parts.Piece.{Piece}
use Rattle.sf_chunk_map.specs.Contents.{window}
use Rattle.sf_chunk_map.specs.Pieces.{marked_of, marked_in}
use Rattle.sf_chunk_map.specs.Maps.{HoldsAt}
use Rattle.sf_chunk_map.proofs.PieceLemmas.{window-back, bytes_in_window}

-- a unit of a tree holds the bytes around a byte that lies in it
pub holds_around : (pieces : List Piece) (value : Value) (at : ℕ) (piece : Piece) (from : ℕ) → marked_in pieces ≡ value.bytes → LiesIn marked_of pieces at piece from → HoldsAt value at piece from
holds_around pieces value at piece from same lies =
    let front = joined_content marked_of lies.before in
    let after = joined_content marked_of lies.after in
    let place : at - from ≡ length front + 0 = omega (arith, lies.at_is) in
    record {
      within = lies.within;
      starts = omega (arith, lies.at_is);
      bytes =
          ap (λ (ms : List Marked). window (at - from) (length (marked_of piece)) ms) (sym same)
          ∙ ap (λ (units : List Piece). window (at - from) (length (marked_of piece)) (marked_in units)) lies.units_are
          ∙ ap (λ (n : ℕ). window n (length (marked_of piece)) (marked_in (lies.before ++ piece ∷ lies.after))) place
          ∙ ap (take (length (marked_of piece))) (drop-within marked_of lies.before piece lies.after 0 (omega arith))
          ∙ take_at (marked_of piece) after (length (marked_of piece)) refl;
    }

-- what is found of a tree's units is found of the value
pub holds_found : {X : Type 0} (pieces : List Piece) (value : Value) (at : ℕ) (piece_of : X → Piece) (from_of : X → ℕ) (found : Option X) → marked_in pieces ≡ value.bytes
    → MatchOption found (length (marked_in pieces) ≤ at) (λ f. LiesIn marked_of pieces at (piece_of f) (from_of f)) → MatchOption found (size_of value ≤ at) (λ f. HoldsAt value at (piece_of f) (from_of f))
holds_found pieces value at piece_of from_of None same most = omega (arith, most, ap (λ (ms : List Marked). length ms) same)
holds_found pieces value at piece_of from_of (Some f) same lies = holds_around pieces value at (piece_of f) (from_of f) same lies

-- the bytes of a value from a byte on are those of its piece
pub rest_of_piece : (value : Value) (at : ℕ) (piece : Piece) (from : ℕ) → HoldsAt value at piece from
    → window at (length (marked_of piece) - from) (strip value) ≡ drop from (bytes_in (marked_of piece))
rest_of_piece value at piece from holds =
    let len = length (marked_of piece) in
    let place : at ≡ at - from + from = omega (arith, holds.starts) in
    let marked : window at (len - from) value.bytes ≡ drop from (marked_of piece) =
    ap (λ (n : ℕ). window n (len - from) value.bytes) place
    ∙ window-back (at - from) len from value.bytes (omega (arith, holds.within))
    ∙ ap (drop from) holds.bytes in
    sym (bytes_in_window at (len - from) value.bytes)
    ∙ ap (λ (ms : List Marked). bytes_in ms) marked
    ∙ sym (drop-map (λ (m : Marked). m.byte) from (marked_of piece))

-- a piece ends within its value
pub piece_within : (value : Value) (at : ℕ) (piece : Piece) (from : ℕ) → HoldsAt value at piece from → at + (length (marked_of piece) - from) ≤ size_of value
piece_within value at piece from holds =
    omega (
      arith,
      holds.within,
      holds.starts,
      ap (λ (ms : List Marked). length ms) holds.bytes,
      length-take (length (marked_of piece)) (drop (at - from) value.bytes),
      length-drop (at - from) value.bytes,
    )
