-- Room that an object makes ahead of the calls that grow it, so that these take no memory (our own).
use Rattle.std.specs.Prelude.{◌≡◌, ℕ, ◌+◌, ◌≤◌, Result, OnOk, OnErr, IsOk}

-- An object with room: what it holds, and how many items it can still take without memory. What is said of an object
-- 'as before' is said of what it holds.
pub record Roomy (X : Type 0) : Type 0 where
  pub held : X
  pub spare : ℕ

-- A call that makes room for so many items. It is done where there is that room already, changes nothing of what is
-- held, and lowers no spare.
pub record MakesRoom {X R E : Type 0} (before after : Roomy X) (items : ℕ) (result : Result R E) : Type 0 where
  pub done : items ≤ before.spare → IsOk result
  pub held : after.held ≡ before.held
  pub room : OnOk result (items ≤ after.spare)
  pub kept : before.spare ≤ after.spare

-- A call that grows an object. Where there is room for the most items that it may add, it is done, and a done call
-- lowers the spare by no more than the items that it added. For want of memory it leaves what is held and lowers no
-- spare.
pub record GrowsWithin {X R E : Type 0} (before after : Roomy X) (most added : ℕ) (result : Result R E) : Type 0 where
  pub done : most ≤ before.spare → IsOk result
  pub spare : OnOk result (before.spare ≤ after.spare + added)
  pub left : OnErr result (after.held ≡ before.held)
  pub room_left : OnErr result (before.spare ≤ after.spare)

-- A call that grows an object and moves items out of it to the end of another. Where there is room for the most items
-- that the one may add, and for those that the other gets, it is done; a done call lowers neither spare by more than the
-- items that its object got. For want of memory it leaves what both hold and lowers no spare.
pub record MovesWithin {X Y R E : Type 0} (before after : Roomy X) (most added : ℕ) (into_before into_after : Roomy Y) (moved : ℕ) (result : Result R E) : Type 0 where
  pub done : most ≤ before.spare → moved ≤ into_before.spare → IsOk result
  pub spare : OnOk result (before.spare ≤ after.spare + added)
  pub left : OnErr result (after.held ≡ before.held)
  pub room_left : OnErr result (before.spare ≤ after.spare)
  pub into_spare : OnOk result (into_before.spare ≤ into_after.spare + moved)
  pub into_left : OnErr result (into_after.held ≡ into_before.held)
  pub into_room_left : OnErr result (into_before.spare ≤ into_after.spare)
