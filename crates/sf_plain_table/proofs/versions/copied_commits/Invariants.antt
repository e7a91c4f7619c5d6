use Rattle.std.proofs.Common.{◌≡◌, take}
use Rattle.sf_plain_table.proofs.versions.copied_commits.Given as goal

abbrev pub invariant-loop-rows : goal.invariant-loop-rows
invariant-loop-rows l = l.copied.items ≡ take l.rows-index l.commits
