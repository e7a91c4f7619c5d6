-- The chunks by which the changes of a commit are settled (our own).
use Rattle.std.specs.Prelude.{ℕ, ◌-◌, nat_lt, List, [], ◌∷◌, length, flat_map, Option, if◌then◌else◌}
use Rattle.std.specs.Option.{option_map_or}
use Rattle.sf_types.specs.Values.Marks.{Value}
use Rattle.sf_types.specs.Table.Parts.{Rows}
use Rattle.sf_types.specs.Space.Cuts.{contents_of_value}
use Rattle.sf_chunk_map.specs.Contents.{StoredContent}

-- Chunks from the first on, until they have so many bytes together.
abbrev pub front_chunks : ℕ → List StoredContent → List StoredContent
front_chunks bytes [] = []
front_chunks bytes (x ∷ xs) = if nat_lt 0 bytes then x ∷ front_chunks (bytes - length x.bytes) xs else []

-- The contents that the fresh bytes of a change's value make.
abbrev pub contents_of_change : List ℕ × Option Value → List (List ℕ)
contents_of_change change = option_map_or contents_of_value change.1 []

-- The contents that the fresh bytes of rows make, row by row.
abbrev pub contents_of_rows : Rows → List (List ℕ)
contents_of_rows rows = flat_map contents_of_change rows
