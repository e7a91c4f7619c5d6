use Rattle.std.proofs.Common.{◌≡◌, ◌+◌, ◌-◌, ◌++◌, [], length}
use Rattle.std.specs.Prelude.{flat_map, filter_map, slice_index_or}
use Rattle.std.specs.List.{range_with_len}
use Rattle.sf_types.specs.Space.Reach.{Holding, version_holding, version_holdings}
use Rattle.sf_plain_table.proofs.table.Table.births_of_versions.Given as goal

abbrev pub invariant-loop-at : goal.invariant-loop-at
invariant-loop-at l =
    l.births.items ++ flat_map (λ (h : Holding). h.births) (flat_map (λ n. filter_map (version_holding l.self n) (slice_index_or l.self.commits (n - 1) [])) (range_with_len (l.at + 1) (length l.self.commits - l.at)))
    ≡ flat_map (λ (h : Holding). h.births) (version_holdings l.self)
