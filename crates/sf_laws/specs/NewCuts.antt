-- Which cuts of a publication are new, told by the cuts that stand before them (our own).
use Rattle.std.specs.Prelude.{ℕ, Bool, false, not, ◌&&◌, List, take, length, filter, slice_get}
use Rattle.std.specs.List.{list_any, range_with_len}
use Rattle.std.specs.Option.{option_map_or}
use Rattle.sf_types.specs.Table.Parts.{Content}
use Rattle.sf_types.specs.Space.Cuts.{Cut}
use Rattle.sf_types.specs.Space.Promises.{is_found, is_equal_sharing}

-- A cut is new behind some others where it isn't found among the births that are reached, and none of the others is an equal
-- sharing cut.
abbrev pub is_new_behind : List Content → List ℕ → List Cut → Cut → Bool
is_new_behind contents reached before cut = not (is_found contents reached cut) && not (list_any (is_equal_sharing cut) before)

-- Whether the cut at an index of a list, counted from 0, is new behind those before it.
abbrev pub is_new_at : List Content → List ℕ → List Cut → ℕ → Bool
is_new_at contents reached of at = option_map_or (is_new_behind contents reached (take at of)) (slice_get of at) false

-- Where the new cuts of a list stand, rising.
abbrev pub new_cut_indices : List Content → List ℕ → List Cut → List ℕ
new_cut_indices contents reached of = filter (is_new_at contents reached of) (range_with_len 0 (length of))
