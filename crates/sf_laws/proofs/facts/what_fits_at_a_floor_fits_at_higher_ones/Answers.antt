use Rattle.sf_laws.proofs.FitLemmas.{fits_in_run}
use Rattle.sf_laws.proofs.facts.what_fits_at_a_floor_fits_at_higher_ones.Goals as goal

pub returns : goal.returns
returns c = record { law = fits_in_run }
