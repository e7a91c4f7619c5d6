use Rattle.sf_laws.proofs.StretchLemmas.{segments-joined, segments_maximal}
use Rattle.sf_laws.proofs.cuts.runs_are_maximal.Goals as goal

pub returns-clause-joined : goal.returns-clause-joined
returns-clause-joined c = segments-joined

pub returns-clause-maximal : goal.returns-clause-maximal
returns-clause-maximal c = segments_maximal
