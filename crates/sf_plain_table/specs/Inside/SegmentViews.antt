-- Segments of the program as the rules' segments (our own).
use Rattle.std.specs.Prelude.{Bool, true, false, List}
use Rattle.sf_types.specs.Values.Marks.{Marked, bytes_in}
use Rattle.sf_types.specs.Space.Cuts.{Segment, Kept, Stretch}

-- Marked bytes as a stretch of fresh ones, or as bytes that aren't fresh.
abbrev pub segment_of : Bool → List Marked → Segment
segment_of true bytes = Stretch (bytes_in bytes)
segment_of false bytes = Kept bytes

-- Whether a segment is a stretch of fresh bytes.
abbrev pub is_stretch : Segment → Bool
is_stretch (Kept marked) = false
is_stretch (Stretch bytes) = true
