use Rattle.sf_versions.proofs.TableLemmas.{kept_without}
use Rattle.sf_versions.proofs.laws.kept_versions_stay.Goals as goal

pub returns : goal.returns
returns c = record { law = kept_without }
