use Rattle.std.proofs.Common.{[], ap, ◌∙◌, Option}
use Rattle.sf_types.specs.Values.Marks.{Value}
use Rattle.sf_types.specs.Table.Versions.{value_or_absent, last_change, merged_commits}
use Rattle.sf_types.proofs.NameMapLemmas.{rising_empty}
use Rattle.sf_types.proofs.VersionLemmas.{get-merged_over, rising-merged_over, none_before, get-present, rising-present}
use Rattle.sf_laws.proofs.NameLemmas.{names_of_rising}
use Rattle.sf_laws.proofs.facts.the_rows_told_are_those_present.Goals as goal

pub returns-clause-values : goal.returns-clause-values
returns-clause-values c t row =
    get-present (merged_commits [] t.commits) row (rising-merged_over t.commits [] (rising_empty (Option Value)))
    ∙ ap value_or_absent (get-merged_over t.commits [] row ∙ none_before (last_change t.commits row))

pub returns-clause-names : goal.returns-clause-names
returns-clause-names c t = names_of_rising _ (rising-present (merged_commits [] t.commits) (rising-merged_over t.commits [] (rising_empty (Option Value))))
