-- Segments by whether they are fresh.
use Rattle.std.proofs.Common.{◌≡◌, Bool, true, false, List, refl}
use Rattle.sf_types.specs.Values.Marks.{Marked, bytes_in}
use Rattle.sf_types.specs.Space.Cuts.{Segment, Kept, Stretch}
use Rattle.sf_plain_table.specs.Inside.SegmentViews.{segment_of, is_stretch}

pub stretch_is : (b : Bool) (bytes : List Marked) → is_stretch (segment_of b bytes) ≡ true → ◌≡◌ {A = Segment} (Stretch (bytes_in bytes)) (segment_of b bytes)
stretch_is true bytes is = refl
stretch_is false bytes is = absurd cc

pub kept_is : (b : Bool) (bytes : List Marked) → is_stretch (segment_of b bytes) ≡ false → ◌≡◌ {A = Segment} (Kept bytes) (segment_of b bytes)
kept_is true bytes is = absurd cc
kept_is false bytes is = refl
