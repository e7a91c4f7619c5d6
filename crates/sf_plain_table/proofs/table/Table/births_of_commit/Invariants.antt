use Rattle.std.proofs.Common.{◌≡◌, ◌++◌}
use Rattle.std.specs.Prelude.{flat_map, filter_map}
use Rattle.sf_types.specs.Space.Reach.{Holding, version_holding}
use Rattle.sf_plain_table.proofs.table.Table.births_of_commit.Given as goal

abbrev pub invariant-loop-row : goal.invariant-loop-row
invariant-loop-row l =
    l.births.items ++ flat_map (λ (h : Holding). h.births) (filter_map (version_holding l.self l.n) l.row-iterator)
    ≡ flat_map (λ (h : Holding). h.births) (filter_map (version_holding l.self l.n) l.rows)
