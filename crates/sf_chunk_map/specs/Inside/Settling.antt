-- Pieces of stored contents in the place of fresh ones (our own).
use Rattle.std.specs.Prelude.{◌≡◌, ℕ, List, ◌∷◌, ◌++◌, Option, Some, None, map, filter_map, flat_map, length}
use Rattle.sf_types.specs.Values.Marks.{Marked, fresh_bytes}
use Rattle.sf_types.specs.Space.Cuts.{segments_of, contents_of_segment, settle_segments}
use Rattle.sf_chunk_map.specs.declared.parts.Piece.{Piece}
use Rattle.sf_chunk_map.specs.declared.parts.Piece.TheVariants.{Stored, Zero, Fresh}
use Rattle.sf_chunk_map.specs.Contents.{StoredContent}

-- The contents that marked bytes make, from front to end.
abbrev pub contents_in : List Marked → List (List ℕ)
contents_in marked = flat_map contents_of_segment (segments_of marked)

-- Marked bytes with their k-th content stored by the k-th birth.
abbrev pub settled_in : List Marked → List ℕ → List Marked
settled_in marked births = settle_segments (segments_of marked) births

-- The piece of a whole content.
abbrev pub whole_piece : StoredContent → Piece
whole_piece content = Stored (record { content = content; from = 0; len = length content.bytes })

-- The birth of a stored piece.
abbrev pub birth_of_piece : Piece → Option ℕ
birth_of_piece (Stored part) = Some part.content.birth
birth_of_piece (Zero len) = None
birth_of_piece (Fresh bytes) = None

-- The births of stored pieces, in their order.
abbrev pub births_of : List Piece → List ℕ
births_of pieces = filter_map birth_of_piece pieces

-- Pieces are those of the whole contents that marked bytes make, in order.
pub record AreReady (pieces : List Piece) (marked : List Marked) : Type 0 where
  pub contents : List StoredContent
  pub pieces_are : pieces ≡ map whole_piece contents
  pub contents_are : contents_in marked ≡ map (λ content. content.bytes) contents

-- Bytes begin with so many fresh ones, and others are what stands behind these.
pub record IsFreshFront (marked rest : List Marked) (len : ℕ) : Type 0 where
  pub bytes : List ℕ
  pub len_is : length bytes ≡ len
  pub marked_is : marked ≡ fresh_bytes bytes ++ rest

-- The first of some pieces is fresh and has so many bytes.
pub record BeginsFresh (pieces : List Piece) (len : ℕ) : Type 0 where
  pub bytes : List ℕ
  pub others : List Piece
  pub pieces_are : pieces ≡ Fresh bytes ∷ others
  pub len_is : length bytes ≡ len
