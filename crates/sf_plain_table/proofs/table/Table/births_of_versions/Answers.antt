use Rattle.std.proofs.Common.{◌≡◌, ◌+◌, ◌-◌, ◌<◌, ◌++◌, [], List, ℕ, length, get_or, ap, ◌∙◌, arith}
use Rattle.std.specs.Prelude.{flat_map, filter_map, slice_index_or}
use Rattle.std.specs.List.{range_with_len}
use Rattle.sf_types.specs.Table.Parts.{Rows, Table}
use Rattle.sf_types.specs.Space.Reach.{Holding, version_holding}
use Rattle.sf_plain_table.proofs.ReachLemmas.{next_version}
use Rattle.sf_plain_table.proofs.table.Table.births_of_versions.Goals as goal

pub loop-at-preserved : goal.loop-at-preserved
loop-at-preserved c =
    let t = c.args.self.now in
    let at = c.loop-at.at in
    let rows = c.index.result.now in
    let births = c.loop-at.births.items in
    let commits : c.self.inside.commits.items ≡ t.commits = ap (λ (u : Table). u.commits) c.self.view_is in
    let is : rows ≡ get_or t.commits at rows = c.index.ensures ∙ ap (λ (cs : List Rows). get_or cs at rows) commits in
    let less : at < length t.commits = omega (arith, c.loop-at-test.true, c.len-at-end.ensures, c.self.inside.commits.ok.0, ap (λ (cs : List Rows). length cs) commits) in
    ap (λ (xs : List ℕ). xs ++ flat_map (λ (h : Holding). h.births) (flat_map (λ n. filter_map (version_holding t n) (slice_index_or t.commits (n - 1) [])) (range_with_len (at + 1 + 1) (length t.commits - (at + 1)))))
    (c.in_ok-append.ensures.items ∙ ap (λ (xs : List ℕ). births ++ xs) c.in_ok-births_of_commit.ensures)
    ∙ next_version t births at rows less is
    ∙ c.loop-at.invariant
