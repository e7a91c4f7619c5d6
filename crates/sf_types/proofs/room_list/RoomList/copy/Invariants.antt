use Rattle.std.proofs.Common.{◌≡◌, take, length}
use Rattle.std.specs.Prelude.{vec_len, vec_capacity}
use Rattle.sf_types.proofs.room_list.RoomList.copy.Given as goal

-- the items so far, each put into the room that was made
abbrev pub invariant-loop-item : goal.invariant-loop-item
invariant-loop-item g l =
    (l.items.items ≡ take l.item-index l.item-items)
    × (vec_len l.items ≡ l.item-index) × (vec_capacity l.items ≡ length l.item-items)
