-- Where blocks stand beside a table, and how the turns of a play move them (our own, after VLDB 2008).
use Rattle.std.specs.Prelude.{ℕ, ◌+◌, ◌-◌, ◌==◌, Bool, not, nat_lt, List, [], ◌∷◌, ◌++◌, length, map, take, drop, filter, slice_set, slice_index_or, if◌then◌else◌}
use Rattle.std.specs.List.{list_any, range_with_len}
use Rattle.sf_types.specs.Inside.Births.{rising_births}
use Rattle.sf_types.specs.Table.Parts.{Content, Table}
use Rattle.sf_types.specs.Space.Reach.{reach}
use Rattle.sf_types.specs.Space.Use.{blocks_of_birth, blocks_of_births}
use Rattle.sf_types.specs.Space.Placings.{Placed, all_blocks}
use Rattle.sf_types.specs.Space.Grants.{granted_blocks}
use Rattle.sf_types.specs.Space.Plans.{planned_places}

-- The places of the births in reach, the parked blocks in the order in which they were parked, the free blocks, rising, and
-- the blocks that each session has collected.
pub record Space : Type 0 where
  pub places : List Placed
  pub parked : List ℕ
  pub free : List ℕ
  pub collected : List (List ℕ)

-- At first every block below the capacity is free.
abbrev pub all_free : ℕ → ℕ → Space
all_free capacity sessions = record {
  places = [];
  parked = [];
  free = range_with_len 0 capacity;
  collected = map (λ s. []) (range_with_len 1 sessions);
}

-- Whether a birth or a block stands in a list.
abbrev pub is_among : List ℕ → ℕ → Bool
is_among list n = list_any (λ m. n == m) list

-- The places of those births that are in reach in a table.
abbrev pub kept_places : Table → List Placed → List Placed
kept_places t places = filter (λ x. is_among (reach t) x.birth) places

-- The places of those births that are not in reach in a table.
abbrev pub departed_places : Table → List Placed → List Placed
departed_places t places = filter (λ x. not (is_among (reach t) x.birth)) places

-- The block with which a place begins.
abbrev pub first_block : Placed → ℕ
first_block x = slice_index_or x.blocks 0 0

-- A place put among others by its first block.
abbrev pub with_place_by_first : Placed → List Placed → List Placed
with_place_by_first x [] = x ∷ []
with_place_by_first x (y ∷ ys) = if nat_lt (first_block x) (first_block y) then x ∷ y ∷ ys else y ∷ with_place_by_first x ys

-- Places in rising order of their first blocks.
abbrev pub places_by_first : List Placed → List Placed
places_by_first [] = []
places_by_first (x ∷ xs) = with_place_by_first x (places_by_first xs)

-- The blocks of the births that leave reach, a birth whose place begins with a lower block first.
abbrev pub departed_blocks : Table → List Placed → List ℕ
departed_blocks t places = all_blocks (places_by_first (departed_places t places))

-- The births that were given out from one table to a later one.
abbrev pub new_births : Table → Table → List ℕ
new_births before after =
    range_with_len (length before.contents + 1) (length after.contents - length before.contents)

-- Births in their order, each placed at the next of some blocks.
abbrev pub places_of_new : List Content → List ℕ → List ℕ → List Placed
places_of_new contents [] blocks = []
places_of_new contents (birth ∷ births) blocks =
    let count = blocks_of_birth contents birth in
    record { birth = birth; blocks = take count blocks } ∷ places_of_new contents births (drop count blocks)

-- The places after a turn: births that leave reach lose theirs, and new births get these blocks.
abbrev pub places_after : Table → Table → List Placed → List ℕ → List Placed
places_after before after places given =
    kept_places after places ++ places_of_new after.contents (new_births before after) given

-- Those of the given blocks that no new birth takes.
abbrev pub unused_blocks : Table → Table → List ℕ → List ℕ
unused_blocks before after given = drop (blocks_of_births after.contents (new_births before after)) given

-- The free blocks with some more.
abbrev pub with_free_blocks : List ℕ → List ℕ → List ℕ
with_free_blocks free blocks = rising_births (blocks ++ free)

-- The blocks that session s has collected.
abbrev pub collected_by : Space → ℕ → List ℕ
collected_by space s = slice_index_or space.collected (s - 1) []

-- The space where session s has collected these blocks.
abbrev pub with_collected : Space → ℕ → List ℕ → Space
with_collected space s blocks = record space { collected = slice_set space.collected (s - 1) blocks }

-- The space after entries of which none publishes: the blocks of the births that leave reach are parked.
abbrev pub after_entries : Table → Table → Space → Space
after_entries before after space = record space {
  places = places_after before after space.places [];
  parked = space.parked ++ departed_blocks after space.places;
}

-- The space after a publication of session s: the new births take their blocks from what it has collected, and the rest of
-- these is free.
abbrev pub after_publication : Table → Table → ℕ → Space → Space
after_publication before after s space =
    let given = collected_by space s in
    record (with_collected space s []) {
      places = places_after before after space.places given;
      parked = space.parked ++ departed_blocks after space.places;
      free = with_free_blocks space.free (unused_blocks before after given);
    }

-- The space after a reclaim: the first so many parked blocks are free, or all where there are fewer.
abbrev pub after_reclaim : ℕ → Space → Space
after_reclaim max space = record space { parked = drop max space.parked; free = with_free_blocks space.free (take max space.parked) }

-- The space after session s collected n blocks. Where fewer are free, as many parked ones as are wanting become free first.
abbrev pub after_collection : ℕ → ℕ → Space → Space
after_collection s n space =
    let ready = after_reclaim (n - length space.free) space in
    let got = granted_blocks ready.free n in
    record (with_collected ready s got) { free = filter (λ block. not (is_among got block)) ready.free }

-- The space after a shrink: each birth has its place by the plan, and every block outside the new places is free.
abbrev pub after_shrink : ℕ → Space → Space
after_shrink capacity space =
    let used = length (all_blocks space.places) in
    record space {
      places = planned_places space.places;
      parked = [];
      free = range_with_len used (capacity - used);
    }
