use Rattle.std.proofs.Common.{◌≡◌, take}
use Rattle.sf_types.specs.Values.Marks.{bytes_in}
use Rattle.sf_plain_table.proofs.results.bytes_in.Given as goal

abbrev pub invariant-loop-m : goal.invariant-loop-m
invariant-loop-m l = l.bytes.items ≡ bytes_in (take l.m-index l.marked)
