-- The slots of rows: the rows of each session, numbered from 0 (our own).
use Rattle.std.specs.Prelude.{◌≡◌, ℕ, ◌<◌, true, T, List, map, is_some, Option, Some, unwrap_or}
use Rattle.std.specs.Ordering.{nat_cmp}
use Rattle.std.specs.FinMap.Entries.{is_sorted}
use Rattle.sf_types.specs.Values.Names.{name_cmp}
use Rattle.sf_types.specs.Inside.NameMaps.{NameMap, without_entry}
use Rattle.sf_types.specs.Table.Sessions.{holds_lock}
use Rattle.sf_room_map.specs.Entries.{value_for, with_value, without_key}
use Rattle.sf_row_locks.specs.declared.slot.Slot.{Slot}
use Rattle.sf_row_locks.specs.Inside.SlotOrder.{slot_cmp}

-- The rows by their slots, and the number of rows of each session.
abbrev pub SlotRows : Type 0
SlotRows = List (Slot × List ℕ)

abbrev pub Counts : Type 0
Counts = List (ℕ × ℕ)

-- The slot of a session with this number.
abbrev pub slot_at : ℕ → ℕ → Slot
slot_at session at = record { session = session; at = at }

-- The slot of a row, the row in a slot, and the number of a session's rows.
abbrev pub slot_of : NameMap Slot → List ℕ → Option Slot
slot_of locks row = value_for name_cmp locks row

abbrev pub row_in : SlotRows → Slot → Option (List ℕ)
row_in rows slot = value_for slot_cmp rows slot

abbrev pub row_count : Counts → ℕ → ℕ
row_count counts session = unwrap_or (value_for nat_cmp counts session) 0

-- The maps with one entry changed.
abbrev pub with_slot : NameMap Slot → List ℕ → Slot → NameMap Slot
with_slot locks row slot = with_value name_cmp locks row slot

abbrev pub without_slot : NameMap Slot → List ℕ → NameMap Slot
without_slot locks row = without_key name_cmp locks row

abbrev pub with_row : SlotRows → Slot → List ℕ → SlotRows
with_row rows slot row = with_value slot_cmp rows slot row

abbrev pub without_row : SlotRows → Slot → SlotRows
without_row rows slot = without_key slot_cmp rows slot

abbrev pub with_count : Counts → ℕ → ℕ → Counts
with_count counts session count = with_value nat_cmp counts session count

-- The locks without the numbers of the slots.
abbrev pub locks_in : NameMap Slot → NameMap ℕ
locks_in locks = map (λ e. (e.0, e.1.session)) locks

-- Keys rise. Each row stands in its slot and each slot's row has that slot. A session's slots are those below its count.
pub record AreSlotted (locks : NameMap Slot) (rows : SlotRows) (counts : Counts) : Type 0 where
  pub rising : T (is_sorted name_cmp locks)
  pub ordered : T (is_sorted slot_cmp rows)
  pub numbered : T (is_sorted nat_cmp counts)
  pub stands : (row : List ℕ) (slot : Slot) → slot_of locks row ≡ Some slot → row_in rows slot ≡ Some row
  pub has : (slot : Slot) (row : List ℕ) → row_in rows slot ≡ Some row → slot_of locks row ≡ Some slot
  pub below : (slot : Slot) (row : List ℕ) → row_in rows slot ≡ Some row → slot.at < row_count counts slot.session
  pub filled : (session at : ℕ) → at < row_count counts session → is_some (row_in rows (slot_at session at)) ≡ true

-- One row's lock of a session is released.
pub record ReleasesOne (before after : NameMap ℕ) (session : ℕ) : Type 0 where
  pub row : List ℕ
  pub held : holds_lock before session row ≡ true
  pub released : after ≡ without_entry before row
