use Rattle.std.specs.FinMap as fin
use Rattle.sf_lifetimes.proofs.CountLemmas.{few_live}
use Rattle.sf_lifetimes.proofs.place_map.PlaceMap.live_blocks.Goals as goal

pub returns-clause-few : goal.returns-clause-few
returns-clause-few c = few_live (fin.from_entries c.self.inside.entries.held) c.self.inside.live c.self.invariant
