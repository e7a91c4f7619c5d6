-- Segments of a value that are as long as they can be (our own).
use Rattle.std.specs.Prelude.{◌≡◌, ◌≢◌, false, List, [], ◌∷◌}
use Rattle.std.specs.List.{list_any}
use Rattle.sf_types.specs.Values.Marks.{Marked, fresh_bytes, is_fresh}
use Rattle.sf_types.specs.Space.Cuts.{Segment, Kept, Stretch}

-- The marked bytes of a segment.
abbrev pub marked_in : Segment → List Marked
marked_in (Kept marked) = marked
marked_in (Stretch run) = fresh_bytes run

-- No run stands first.
abbrev pub IsNoRunFirst : List Segment → Type 0
IsNoRunFirst [] = Unit {0}
IsNoRunFirst (Kept marked ∷ segments) = Unit {0}
IsNoRunFirst (Stretch run ∷ segments) = ⊥

-- No byte between the runs is fresh, no run is empty, and no run stands right behind another.
abbrev pub AreMaximal : List Segment → Type 0
AreMaximal [] = Unit {0}
AreMaximal (Kept marked ∷ segments) = (list_any is_fresh marked ≡ false) × AreMaximal segments
AreMaximal (Stretch run ∷ segments) = (run ≢ []) × IsNoRunFirst segments × AreMaximal segments
