use Rattle.std.proofs.Common.{IsTrue, take}
use Rattle.std.specs.List.{All}
use Rattle.sf_types.specs.Inside.NameMaps.{has}
use Rattle.sf_model.specs.Changes.{KeepsValues}
use Rattle.sf_model.proofs.rows.name_rows.Given as goal

abbrev pub invariant-loop-name : goal.invariant-loop-name
invariant-loop-name l = record {
  same : KeepsValues l.initial.rows l.rows;
  there : All (λ change. IsTrue (has l.rows change.0)) (take l.name-index l.changes);
}
