use Rattle.std.proofs.Common.{sym}
use Rattle.std.specs.FinMap as fin
use Rattle.std.proofs.Common.{subst}
use Rattle.sf_lifetimes.specs.Inside.Counts.{IsCounted}
use Rattle.sf_lifetimes.proofs.CountLemmas.{none_counted}
use Rattle.sf_lifetimes.proofs.place_map.PlaceMap.new.Goals as goal

pub invariant_of-result : goal.invariant_of-result
invariant_of-result c = subst (λ es. IsCounted (fin.from_entries es) 0) (sym c.new.ensures) none_counted
