use Rattle.std.proofs.Common.{◌≡◌, ◌+◌, ◌<◌, ◌≤◌, ◌++◌, take, length, get_or}
use Rattle.sf_lifetimes.specs.Inside.Counts.{AreChangedBut, with_one_fewer, lone_births, runs_of_births}
use Rattle.sf_lifetimes.specs.Inside.Places.{AreBelow}
use Rattle.sf_lifetimes.proofs.place_map.PlaceMap.release_old.Given as goal

-- the births before this one were changed, and those before the place in the other list are less
abbrev pub invariant-loop-k : goal.invariant-loop-k
invariant-loop-k l = record {
  within : l.at ≤ length l.new;
  below : l.k < length l.old → AreBelow l.new l.at (get_or l.old l.k 0);
  changed : AreChangedBut with_one_fewer l.fn.self.held (take l.k l.old) l.new l.self.held;
  into : l.into.held ≡ l.fn.into.held ++ runs_of_births l.fn.self.held (lone_births l.fn.self.held l.new (take l.k l.old));
  spare : l.fn.self.spare ≤ l.self.spare;
  into_spare : l.fn.into.spare ≤ l.into.spare + length (lone_births l.fn.self.held l.new (take l.k l.old));
}
