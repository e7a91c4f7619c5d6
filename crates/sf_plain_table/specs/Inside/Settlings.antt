-- Segments and rows settled one after another (our own).
use Rattle.std.specs.Prelude.{ℕ, List, [], ◌∷◌, length, take, Option, Some, None}
use Rattle.sf_types.specs.Values.Marks.{Marked, Value, fresh_bytes}
use Rattle.sf_types.specs.Space.Contents.{contents_of_stretch}
use Rattle.sf_types.specs.Space.Cuts.{Segment, Kept, Stretch, contents_of_segment, contents_of_value, stored_bytes, settle_contents, settle_value}

-- A content stored by the first of some births, and fresh where there is none.
abbrev pub marked_content : List ℕ → List ℕ → List Marked
marked_content bytes [] = fresh_bytes bytes
marked_content bytes (birth ∷ births) = stored_bytes birth bytes

-- How many contents a segment makes.
abbrev pub segment_count : Segment → ℕ
segment_count segment = length (contents_of_segment segment)

-- The bytes of a segment with its contents stored by the first of some births.
abbrev pub settled_segment : Segment → List ℕ → List Marked
settled_segment (Kept marked) births = marked
settled_segment (Stretch bytes) births =
    let contents = contents_of_stretch bytes in
    settle_contents contents (take (length contents) births)

-- How many births the value of a row takes.
abbrev pub state_count : Option Value → ℕ
state_count None = 0
state_count (Some v) = length (contents_of_value v)

-- What is said of a row, with its value settled by the first of some births.
abbrev pub settled_state : Option Value → List ℕ → Option Value
settled_state None births = None
settled_state (Some v) births = Some (settle_value v (take (length (contents_of_value v)) births))
