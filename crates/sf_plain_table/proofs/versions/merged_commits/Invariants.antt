use Rattle.std.proofs.Common.{◌≡◌, [], drop}
use Rattle.sf_types.specs.Table.Versions.{merged_commits}
use Rattle.sf_plain_table.proofs.versions.merged_commits.Given as goal

abbrev pub invariant-loop-rows : goal.invariant-loop-rows
invariant-loop-rows l = merged_commits l.merged (drop l.rows-index l.commits) ≡ merged_commits [] l.commits
