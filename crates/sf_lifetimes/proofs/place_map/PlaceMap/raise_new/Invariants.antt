use Rattle.std.proofs.Common.{◌≡◌, ◌<◌, ◌≤◌, take, length, get_or}
use Rattle.sf_lifetimes.specs.Inside.Counts.{AreChangedBut, with_one_more}
use Rattle.sf_lifetimes.specs.Inside.Places.{AreBelow}
use Rattle.sf_lifetimes.proofs.place_map.PlaceMap.raise_new.Given as goal

-- the births before this one were changed, and those before the place in the other list are less
abbrev pub invariant-loop-k : goal.invariant-loop-k
invariant-loop-k l = record {
  within : l.at ≤ length l.old;
  below : l.k < length l.new → AreBelow l.old l.at (get_or l.new l.k 0);
  changed : AreChangedBut with_one_more l.fn.self.held (take l.k l.new) l.old l.self.held;
  spare : l.self.spare ≡ l.fn.self.spare;
}
