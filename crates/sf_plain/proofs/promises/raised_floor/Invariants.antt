use Rattle.std.proofs.Common.{◌≡◌, ◌-◌}
use Rattle.std.specs.Prelude.{find}
use Rattle.std.specs.List.{range_with_len}
use Rattle.sf_types.specs.Space.Promises.{fits_at}
use Rattle.sf_plain.proofs.promises.raised_floor.Given as goal

abbrev pub invariant-loop-floor : goal.invariant-loop-floor
invariant-loop-floor l =
    find (fits_at l.table l.of) (range_with_len l.floor (l.end - l.floor))
    ≡ find (fits_at l.table l.of) (range_with_len l.table.floor (l.end - l.table.floor))
