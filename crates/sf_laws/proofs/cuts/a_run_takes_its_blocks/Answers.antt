use Rattle.sf_laws.proofs.StretchLemmas.{run-blocks}
use Rattle.sf_laws.proofs.cuts.a_run_takes_its_blocks.Goals as goal

pub returns : goal.returns
returns c = record { law = run-blocks }
