use Rattle.std.proofs.Common.{rules}
use Rattle.std.specs.Ordering.{is_lt, nat_cmp}
use Rattle.std.specs.Cmp.{nat_cmp_total}
use Rattle.std.proofs.lemmas.List.Sorted.{ranks_by, answers_always}
use Rattle.sf_lifetimes.specs.Departures.{first_of}
use Rattle.sf_lifetimes.proofs.unheld_places.UnheldPlaces.sort_by_first.Goals as goal

pub returns-clause-rising : goal.returns-clause-rising
returns-clause-rising c =
    c.sort_unstable_by.ensures.sorted (λ place other. is_lt (nat_cmp (first_of place) (first_of other))) (ranks_by nat_cmp_total first_of) (answers_always _ _ _ (λ f a r after called. search rules))
