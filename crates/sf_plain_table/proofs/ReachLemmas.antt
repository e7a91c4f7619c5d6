-- Holdings of versions, one commit after another.
use Rattle.std.proofs.Common.{◌≡◌, ℕ, suc, ◌+◌, ◌-◌, ◌<◌, List, [], ◌++◌, length, get_or, sym, ap, ◌∙◌, append_assoc, arith}
use Rattle.std.specs.Prelude.{flat_map, filter_map, slice_index_or}
use Rattle.std.specs.List.{range_with_len}
use Rattle.std.proofs.lemmas.List.{get_or_default}
use Rattle.std.proofs.lemmas.List.Concat.{flat_map-append}
use Rattle.sf_types.specs.Table.Parts.{Rows, Table}
use Rattle.sf_types.specs.Space.Reach.{Holding, version_holding}

abbrev held : List Holding → List ℕ
held hs = flat_map (λ (h : Holding). h.births) hs

abbrev of_commit : Table → ℕ → List Holding
of_commit t n = filter_map (version_holding t n) (slice_index_or t.commits (n - 1) [])

-- the births of one commit's versions come before those of the later ones
pub next_version : (t : Table) (births : List ℕ) (at : ℕ) (rows : Rows) → at < length t.commits → rows ≡ get_or t.commits at rows
    → (births ++ flat_map (λ (h : Holding). h.births) (filter_map (version_holding t (at + 1)) rows))
    ++ flat_map (λ (h : Holding). h.births) (flat_map (λ n. filter_map (version_holding t n) (slice_index_or t.commits (n - 1) [])) (range_with_len (at + 1 + 1) (length t.commits - (at + 1))))
    ≡ births ++ flat_map (λ (h : Holding). h.births) (flat_map (λ n. filter_map (version_holding t n) (slice_index_or t.commits (n - 1) [])) (range_with_len (at + 1) (length t.commits - at)))
next_version t births at rows less is =
    let rest = length t.commits - (at + 1) in
    let later = flat_map (of_commit t) (range_with_len (at + 1 + 1) rest) in
    let more : length t.commits - at ≡ suc rest = omega (arith, less) in
    let place : at ≡ at + 1 - 1 = omega arith in
    let here : rows ≡ slice_index_or t.commits (at + 1 - 1) [] = is ∙ get_or_default t.commits at rows [] less ∙ ap (λ k. get_or t.commits k []) place in
    append_assoc births (held (filter_map (version_holding t (at + 1)) rows)) (held later)
    ∙ ap (λ (r : Rows). births ++ (held (filter_map (version_holding t (at + 1)) r) ++ held later)) here
    ∙ ap (λ (xs : List ℕ). births ++ xs) (sym (flat_map-append (λ (h : Holding). h.births) (of_commit t (at + 1)) later))
    ∙ ap (λ k. births ++ held (flat_map (of_commit t) (range_with_len (at + 1) k))) (sym more)
