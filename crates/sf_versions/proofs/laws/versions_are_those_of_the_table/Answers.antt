use Rattle.sf_versions.proofs.TableLemmas.{versions_made, value_after, current_after}
use Rattle.sf_versions.proofs.laws.versions_are_those_of_the_table.Goals as goal

pub returns : goal.returns
returns c = record { versions = versions_made; at = value_after; current = current_after }
