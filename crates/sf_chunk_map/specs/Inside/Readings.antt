-- What a reading does with a piece that it is shown (our own).
use Rattle.std.specs.Prelude.{◌≡◌, ℕ, ◌+◌, ◌-◌, Bool, nat_lt, ◌++◌, length, take, drop, min}
use Rattle.sf_types.specs.Values.Marks.{bytes_in}
use Rattle.sf_chunk_map.specs.declared.parts.Piece.{Piece}
use Rattle.sf_chunk_map.specs.declared.reading.Reading.{Reading}
use Rattle.sf_chunk_map.specs.Contents.{window}
use Rattle.sf_chunk_map.specs.Pieces.{marked_of}

-- The bytes of a piece from one on come behind those that are done, as many as there are and the slice takes. It goes on
-- while the slice isn't full.
pub record Reads (before : Reading) (piece : Piece) (from : ℕ) (after : Reading) (more : Bool) : Type 0 where
  pub same_reference : after.into.ghost_name ≡ before.into.ghost_name
  pub count : after.done ≡ before.done + min (length before.into.now - before.done) (length (marked_of piece) - from)
  pub bytes : after.into.now ≡ take before.done before.into.now ++ (window from (after.done - before.done) (bytes_in (marked_of piece)) ++ drop after.done before.into.now)
  pub goes_on : more ≡ nat_lt after.done (length after.into.now)
