use Rattle.std.proofs.Common.{◌≡◌, ℕ, ◌+◌, ◌-◌, ◌<◌, ◌≤◌}
use Rattle.std.specs.Prelude.{T}
use Rattle.std.specs.FinMap.Entries.{is_sorted}
use Rattle.sf_room_map.specs.Entries.{value_for}
use Rattle.sf_versions.specs.Inside.VersionOrder.{key_cmp}
use Rattle.sf_versions.specs.Inside.Spans.{key_at, version_at}
use Rattle.sf_versions.proofs.places.take_out.Given as goal

-- the version at the rank is in hand, those before it have moved, and all else is as before
abbrev pub invariant-loop-rank : goal.invariant-loop-rank
invariant-loop-rank l = record {
  from : l.first ≤ l.rank;
  upto : l.rank ≤ l.taken;
  in_hand : version_at l.fn.versions.held l.row l.rank ≡ l.moved;
  ordered : T (is_sorted key_cmp l.versions.held);
  moved : (rank : ℕ) → l.first ≤ rank → rank < l.rank → version_at l.versions.held l.row (rank + 1) ≡ version_at l.fn.versions.held l.row rank;
  later : (rank : ℕ) → l.rank < rank → value_for key_cmp l.versions.held (key_at l.row rank) ≡ value_for key_cmp l.fn.versions.held (key_at l.row rank);
  others : (other rank : ℕ) → (other ≡ l.row → ⊥) → version_at l.versions.held other rank ≡ version_at l.fn.versions.held other rank;
  spare : l.fn.versions.spare ≤ l.versions.spare;
}

abbrev pub decreases-loop-rank : goal.decreases-loop-rank
decreases-loop-rank l = l.taken - l.rank
