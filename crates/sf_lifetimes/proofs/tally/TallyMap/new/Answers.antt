use Rattle.std.proofs.Common.{◌∙◌, ap, sym}
use Rattle.std.specs.FinMap as fin
use Rattle.std.specs.Ordering.{nat_cmp}
use Rattle.std.specs.List.{sum_by}
use Rattle.sf_lifetimes.specs.Inside.Tallies.{freed_sum, freed_in}
use Rattle.sf_lifetimes.proofs.MapSumLemmas.{no_values}
use Rattle.sf_lifetimes.proofs.tally.TallyMap.new.Goals as goal

pub invariant_of-result : goal.invariant_of-result
invariant_of-result c = sym (ap (λ es. freed_sum (fin.from_entries es)) c.new.ensures ∙ ap (sum_by freed_in) (no_values nat_cmp))
