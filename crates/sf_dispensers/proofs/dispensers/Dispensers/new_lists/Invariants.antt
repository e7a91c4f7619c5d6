use Rattle.std.proofs.Common.{◌≡◌, ◌≤◌, vec_len}
use Rattle.std.specs.Prelude.{vec_capacity}
use Rattle.sf_dispensers.proofs.dispensers.Dispensers.new_lists.Given as goal

abbrev pub invariant-loop : goal.invariant-loop
invariant-loop g l = record { id : l.seat.id ≡ l.initial.seat.id; capacity : l.seat.capacity ≡ l.initial.seat.capacity; length : vec_len l.lists ≡ l.counter; room : l.count ≤ vec_capacity l.lists }
