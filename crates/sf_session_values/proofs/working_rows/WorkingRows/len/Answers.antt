use Rattle.std.proofs.Common.{subst}
use Rattle.std.specs.Map.{keys_of}
use Rattle.std.specs.List.Sorted.{IsStrictlySortedBy}
use Rattle.sf_types.specs.Values.Names.{name_cmp}
use Rattle.sf_session_values.proofs.CountingLemmas.{rising_workings}
use Rattle.sf_session_values.proofs.working_rows.WorkingRows.len.Goals as goal

pub returns-clause-rising : goal.returns-clause-rising
returns-clause-rising c = subst (λ v. IsStrictlySortedBy name_cmp (keys_of v.held)) c.self.view_is (rising_workings c.self.inside.rows.held c.len.ensures.rising)
