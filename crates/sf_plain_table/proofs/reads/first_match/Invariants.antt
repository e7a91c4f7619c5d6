use Rattle.std.proofs.Common.{◌≡◌, ◌-◌}
use Rattle.std.specs.Prelude.{find}
use Rattle.std.specs.List.{range_with_len}
use Rattle.sf_types.specs.Calls.LocatorCalls.{matches_at}
use Rattle.sf_plain_table.proofs.reads.first_match.Given as goal

abbrev pub invariant-loop-at : goal.invariant-loop-at
invariant-loop-at l =
    find (matches_at l.bytes l.pattern) (range_with_len l.at (l.end - l.at))
    ≡ find (matches_at l.bytes l.pattern) (range_with_len l.offset (l.end - l.offset))
