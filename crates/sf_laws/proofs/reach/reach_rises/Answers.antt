use Rattle.std.specs.Prelude.{flat_map}
use Rattle.sf_types.specs.Space.Reach.{holdings}
use Rattle.sf_laws.proofs.SumLemmas.{rising_rises}
use Rattle.sf_laws.proofs.reach.reach_rises.Goals as goal

pub returns : goal.returns
returns c = record { law = λ t. rising_rises (flat_map (λ h. h.births) (holdings t)) }
