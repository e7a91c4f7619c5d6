use Rattle.sf_laws.proofs.KeptVersionLemmas.{kept_version_of, since_of}
use Rattle.sf_laws.proofs.reach.kept_versions_are_the_values_since_the_floor.Goals as goal

pub returns-clause-kept : goal.returns-clause-kept
returns-clause-kept c = kept_version_of

pub returns-clause-since : goal.returns-clause-since
returns-clause-since c = since_of
