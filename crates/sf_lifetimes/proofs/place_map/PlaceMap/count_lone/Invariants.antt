use Rattle.std.proofs.Common.{◌≡◌, ◌<◌, ◌≤◌, ◌^◌, take, length, get_or}
use Rattle.sf_lifetimes.specs.Inside.Counts.{lone_births}
use Rattle.sf_lifetimes.specs.Inside.Places.{AreBelow}
use Rattle.sf_lifetimes.proofs.place_map.PlaceMap.count_lone.Given as goal

-- the births before this one were counted, and those before the place in the other list are less
abbrev pub invariant-loop-k : goal.invariant-loop-k
invariant-loop-k l = record {
  within : l.at ≤ length l.new;
  below : l.k < length l.old → AreBelow l.new l.at (get_or l.old l.k 0);
  count : l.count ≡ length (lone_births l.self.held l.new (take l.k l.old));
  few : length l.old < 2 ^ 64;
}
