use Rattle.std.proofs.Common.{◌≡◌, ◌+◌, drop}
use Rattle.sf_store_half.specs.Inside.Commits.{birth_count}
use Rattle.sf_store_half.proofs.commits.birth_count.Given as goal

abbrev pub invariant-loop-own : goal.invariant-loop-own
invariant-loop-own l = (l.births + birth_count (drop l.own-index l.held) ≡ birth_count l.held)
