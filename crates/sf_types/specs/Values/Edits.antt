-- Edits of a list of marked bytes or of plain ones (after WRITE, ERASE, TRIM and the FRAGMENT calls of DBMS_LOB; a move into
-- its own range is our own). Offsets count from 1; `zero` is the item that stands for a zero byte.
use Rattle.std.specs.Prelude.{ℕ, ◌+◌, ◌-◌, nat_lt, nat_le, List, ◌++◌, length, take, drop, replicate, if◌then◌else◌}

-- The items from an offset on, so many or up to the end.
abbrev pub part : {X : Type 0} → List X → ℕ → ℕ → List X
part v amount offset = take amount (drop (offset - 1) v)

-- The list made so long with zeros, where it is shorter.
abbrev pub with_padding : {X : Type 0} → X → List X → ℕ → List X
with_padding zero v size = v ++ replicate (size - length v) zero

-- Put: items over those from an offset on, in a list that was made long enough with zeros to reach the offset.
abbrev pub put : {X : Type 0} → X → List X → ℕ → List X → List X
put zero v offset items =
    let long = with_padding zero v (offset - 1) in
    take (offset - 1) long ++ items ++ drop (offset - 1 + length items) long

-- Insert: items before the one at an offset.
abbrev pub insert : {X : Type 0} → List X → ℕ → List X → List X
insert v offset items = take (offset - 1) v ++ items ++ drop (offset - 1) v

-- Delete: a list without so many items from an offset on.
abbrev pub delete : {X : Type 0} → List X → ℕ → ℕ → List X
delete v amount offset = take (offset - 1) v ++ drop (offset - 1 + amount) v

-- Replace: items where so many others stood from an offset on.
abbrev pub replace : {X : Type 0} → List X → ℕ → ℕ → List X → List X
replace v amount offset items = take (offset - 1) v ++ items ++ drop (offset - 1 + amount) v

-- A part moved behind itself, before the item at the offset `to`, which is counted before the move.
abbrev pub move_back : {X : Type 0} → List X → ℕ → ℕ → ℕ → List X
move_back v amount from to =
    take (from - 1) v ++ part v (to - (from + amount)) (from + amount) ++ part v amount from ++ drop (to - 1) v

-- A part moved to the front of itself.
abbrev pub move_front : {X : Type 0} → List X → ℕ → ℕ → ℕ → List X
move_front v amount from to =
    take (to - 1) v ++ part v amount from ++ part v (from - to) to ++ drop (from - 1 + amount) v

-- Move: a part goes before the item at the offset `to`. Where that lies in the part or behind its last item, the list stays.
abbrev pub move : {X : Type 0} → List X → ℕ → ℕ → ℕ → List X
move v amount from to =
    if nat_lt to from then move_front v amount from to
    else if nat_le to (from + amount) then v
    else move_back v amount from to

-- How many items Erase turns into zeros: those from an offset on, so many or up to the end.
abbrev pub erased_count : {X : Type 0} → List X → ℕ → ℕ → ℕ
erased_count v amount offset = length (part v amount offset)

-- Erase: zeros for the items from an offset on, so many or up to the end.
abbrev pub erase : {X : Type 0} → X → List X → ℕ → ℕ → List X
erase zero v amount offset =
    take (offset - 1) v ++ replicate (erased_count v amount offset) zero ++ drop (offset - 1 + amount) v

-- Trim: the first items.
abbrev pub trim : {X : Type 0} → List X → ℕ → List X
trim v size = take size v
