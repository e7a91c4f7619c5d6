-- Cuts and settling: how the fresh bytes of values become contents (after VLDB 2008; the numbers are our own).
use Rattle.std.specs.Prelude.{ℕ, ◌+◌, Bool, true, false, List, [], ◌∷◌, ◌++◌, map, length, take, drop, flat_map, Some, None, if◌then◌else◌}
use Rattle.std.specs.Option.{option_map_or}
use Rattle.sf_types.specs.declared.options.Choice.{Choice}
use Rattle.sf_types.specs.declared.options.Choice.TheVariants as choice
use Rattle.sf_types.specs.declared.options.Options.{Options}
use Rattle.sf_types.specs.Values.Marks.{Stored, Marked, Value, fresh_bytes, is_fresh}
use Rattle.sf_types.specs.Table.Parts.{Rows}
use Rattle.sf_types.specs.Space.Contents.{contents_of_stretch}

-- A list of marked bytes falls into segments: bytes that aren't fresh, and stretches of fresh bytes.
pub data Segment : Type 0 where
  Kept : List Marked → Segment
  Stretch : List ℕ → Segment

-- A byte before some segments joins the first of them where both are fresh, or neither is. So a stretch is as long as it
-- can be.
abbrev pub with_byte_before : Marked → List Segment → List Segment
with_byte_before m (Kept marked ∷ segments) =
    if is_fresh m then Stretch (m.byte ∷ []) ∷ Kept marked ∷ segments else Kept (m ∷ marked) ∷ segments
with_byte_before m (Stretch bytes ∷ segments) =
    if is_fresh m then Stretch (m.byte ∷ bytes) ∷ segments else Kept (m ∷ []) ∷ Stretch bytes ∷ segments
with_byte_before m [] = if is_fresh m then Stretch (m.byte ∷ []) ∷ [] else Kept (m ∷ []) ∷ []

-- The segments of a list of marked bytes, from front to end.
abbrev pub segments_of : List Marked → List Segment
segments_of [] = []
segments_of (m ∷ ms) = with_byte_before m (segments_of ms)

-- The contents that a segment makes: none where its bytes aren't fresh.
abbrev pub contents_of_segment : Segment → List (List ℕ)
contents_of_segment (Kept marked) = []
contents_of_segment (Stretch bytes) = contents_of_stretch bytes

-- The contents that the fresh bytes of a value make, from front to end.
abbrev pub contents_of_value : Value → List (List ℕ)
contents_of_value v = flat_map contents_of_segment (segments_of v.bytes)

-- A cut: the bytes of a content, and whether it may be shared.
pub record Cut : Type 0 where
  pub bytes : List ℕ
  pub is_sharing : Bool

-- A cut is sharing where the choice of its value is Share, or is Standard and the option dedup is on.
abbrev pub is_sharing : Options → Choice → Bool
is_sharing options choice.Standard = options.dedup
is_sharing options choice.Share = true
is_sharing options choice.Keep = false

-- The cuts of one value.
abbrev pub cuts_of_value : Options → Value → List Cut
cuts_of_value options v =
    map (λ bytes. record { bytes = bytes; is_sharing = is_sharing options v.choice }) (contents_of_value v)

-- The cuts of rows: row by row in byte order of names.
abbrev pub cuts : Options → Rows → List Cut
cuts options rows = flat_map (λ e. option_map_or (cuts_of_value options) e.1 []) rows

-- The bytes of a content as stored by a birth, with indices from some number on.
abbrev pub stored_bytes_from : ℕ → ℕ → List ℕ → List Marked
stored_bytes_from birth index [] = []
stored_bytes_from birth index (b ∷ bs) =
    record { byte = b; mark = Stored birth index } ∷ stored_bytes_from birth (index + 1) bs

-- The bytes of a whole content as stored by its birth.
abbrev pub stored_bytes : ℕ → List ℕ → List Marked
stored_bytes birth bytes = stored_bytes_from birth 0 bytes

-- The contents of a run marked as stored, each by its birth. Without a birth the bytes stay fresh.
abbrev pub settle_contents : List (List ℕ) → List ℕ → List Marked
settle_contents [] births = []
settle_contents (bytes ∷ contents) [] = fresh_bytes bytes ++ settle_contents contents []
settle_contents (bytes ∷ contents) (birth ∷ births) = stored_bytes birth bytes ++ settle_contents contents births

-- The segments of a value with its k-th content stored by the k-th birth.
abbrev pub settle_segments : List Segment → List ℕ → List Marked
settle_segments [] births = []
settle_segments (Kept marked ∷ segments) births = marked ++ settle_segments segments births
settle_segments (Stretch bytes ∷ segments) births =
    let contents = contents_of_stretch bytes in
    settle_contents contents (take (length contents) births)
    ++ settle_segments segments (drop (length contents) births)

-- A value settled by the births of its cuts. Its choice stays.
abbrev pub settle_value : Value → List ℕ → Value
settle_value v births = record { bytes = settle_segments (segments_of v.bytes) births; choice = v.choice }

-- The rows settled by the births of their cuts. An absent row has none.
abbrev pub settle : Rows → List ℕ → Rows
settle [] births = []
settle ((name, None) ∷ rows) births = (name, None) ∷ settle rows births
settle ((name, Some v) ∷ rows) births =
    let count = length (contents_of_value v) in
    (name, Some (settle_value v (take count births))) ∷ settle rows (drop count births)
