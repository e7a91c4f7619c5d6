use Rattle.std.proofs.Common.{◌≡◌, ℕ, List, IsTrue, vec_len}
use Rattle.std.specs.List.{All}
use Rattle.sf_types.specs.Inside.NameMaps.{get, has}
use Rattle.sf_types.specs.Table.Versions.{later_change}
use Rattle.sf_model.proofs.rows.apply_changes.Given as goal

abbrev pub invariant-loop-name : goal.invariant-loop-name
invariant-loop-name l = record {
  there : All (λ change. IsTrue (has l.rows change.0)) l.left.items;
  said : (q : List ℕ) → later_change (get l.rows q) (get l.left.items q) ≡ later_change (get l.initial.rows q) (get l.initial.left.items q);
}

abbrev pub decreases-loop-name : goal.decreases-loop-name
decreases-loop-name l = vec_len l.left
