use Rattle.std.proofs.Common.{◌≡◌, ◌≤◌, ◌%◌, ◌^◌}
use Rattle.std.specs.Int.RustNames.{count_ones}
use Rattle.sf_dispensers.proofs.bits.lowest_bits.Given as goal

abbrev pub invariant-loop-bit : goal.invariant-loop-bit
invariant-loop-bit l = record { mask : l.mask ≡ l.word % 2 ^ l.bit; count : l.count ≡ count_ones (l.word % 2 ^ l.bit); few : l.count ≤ l.most }
