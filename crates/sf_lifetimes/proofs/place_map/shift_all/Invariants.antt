use Rattle.std.proofs.Common.{◌≡◌, ℕ, length}
use Rattle.std.specs.Prelude.{All, IsSome}
use Rattle.std.specs.Ordering.{nat_cmp}
use Rattle.sf_room_map.specs.Entries.{value_for}
use Rattle.sf_lifetimes.specs.Inside.Counts.{with_shifts}
use Rattle.sf_lifetimes.proofs.place_map.shift_all.Given as goal

-- with the shifts that are left, each birth comes to where all shifts bring it
abbrev pub invariant-loop-shift : goal.invariant-loop-shift
invariant-loop-shift l = record {
  changed : (q : ℕ) → with_shifts l.rest.items q (value_for nat_cmp l.entries.held q) ≡ with_shifts l.fn.shifts.items q (value_for nat_cmp l.fn.entries.held q);
  placed : All (λ shift. IsSome (value_for nat_cmp l.entries.held shift.birth)) l.rest.items;
  spare : l.entries.spare ≡ l.fn.entries.spare;
}

abbrev pub decreases-loop-shift : goal.decreases-loop-shift
decreases-loop-shift l = length l.rest.items
