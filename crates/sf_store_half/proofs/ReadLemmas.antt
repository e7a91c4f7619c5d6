-- What the kept versions tell of all rows.
use Rattle.std.proofs.Common.{◌≡◌, ℕ, zero, suc, ◌+◌, ◌≤◌, List, [], ◌∷◌, ◌++◌, length, Option, Some, None, refl, sym, ap, subst, ◌∙◌, arith}
use Rattle.std.specs.Prelude.{drop, slice_get, unwrap_or}
use Rattle.std.specs.List.Sorted.{IsStrictlySortedBy}
use Rattle.std.specs.Map.{keys_of}
use Rattle.std.specs.Option.{option_map}
use Rattle.std.proofs.lemmas.Option.{slice_get-map}
use Rattle.std.proofs.lemmas.Map.Made.{lookup-map_values}
use Rattle.sf_types.specs.Values.Marks.{Value}
use Rattle.sf_types.specs.Values.Names.{name_cmp}
use Rattle.sf_types.specs.Inside.NameMaps.{NameMap, get, is_same_name}
use Rattle.sf_types.specs.Table.Parts.{Rows}
use Rattle.sf_types.specs.Table.Versions.{last_change, merged_commits, present_rows, present_values, value_or_absent}
use Rattle.sf_types.specs.Halves.Asks.{Half}
use Rattle.sf_types.specs.Halves.Flushes.{table_of_half}
use Rattle.sf_types.proofs.NameMapLemmas.{IsRisingMap, rising_empty, rising_from_ordered}
use Rattle.sf_types.proofs.VersionLemmas.{get-merged_over, none_before, present-same, rising-merged_over}
use Rattle.sf_versions.specs.RowChanges.{RowChanges, last_value}
use Rattle.sf_versions.specs.VersionTables.{versions_of}
use Rattle.sf_store_half.specs.Fields.{Fields, Keeps}
use Rattle.sf_store_half.specs.Reads.{last_entries, last_rows, present_at}
use Rattle.sf_store_half.proofs.KeptRowLemmas.{holds_now}

-- the rows from an index on
pub present_next : (es : Rows) (at : ℕ) → present_values (drop at es) ≡ present_at (slice_get es at) ++ present_values (drop (at + 1) es)
present_next [] zero = refl
present_next [] (suc at) =
    let next : suc (at + 1) ≡ suc at + 1 = omega arith in
    ap (λ n. present_values (drop n [])) next
present_next ((name, None) ∷ es) zero = refl
present_next ((name, Some value) ∷ es) zero = refl
present_next (e ∷ es) (suc at) =
    let next : suc (at + 1) ≡ suc at + 1 = omega arith in
    present_next es at ∙ ap (λ n. present_at (slice_get es at) ++ present_values (drop n (e ∷ es))) next

pub present_where : (es : Rows) (at : ℕ) (o : Option (List ℕ × Option Value)) → o ≡ slice_get es at → present_values (drop at es) ≡ present_at o ++ present_values (drop (at + 1) es)
present_where es at o is = present_next es at ∙ ap (λ (x : Option (List ℕ × Option Value)). present_at x ++ present_values (drop (at + 1) es)) (sym is)

-- no row is behind the last one
pub none_behind : (es : Rows) (at : ℕ) → length es ≤ at → present_values (drop at es) ≡ []
none_behind [] zero past = refl
none_behind [] (suc at) past = refl
none_behind (e ∷ es) zero past = absurd (omega (arith, past))
none_behind (e ∷ es) (suc at) past = none_behind es at (omega (arith, past))

-- the entry at an index, by the rows
pub entry_at : (rows : NameMap RowChanges) (at : ℕ) (o : Option (List ℕ × Option Value)) → o ≡ option_map (λ row. (row.0, last_value row.1)) (slice_get rows at) → o ≡ slice_get (last_entries rows) at
entry_at rows at o is = is ∙ sym (slice_get-map (λ (row : List ℕ × RowChanges). (row.0, last_value row.1)) rows at)

-- the names of the entries are those of the rows
names_same : (rows : NameMap RowChanges) → keys_of (last_entries rows) ≡ keys_of rows
names_same [] = refl
names_same (e ∷ rows) = ap (λ (names : List (List ℕ)). e.0 ∷ names) (names_same rows)

last_of : (o : Option RowChanges) → value_or_absent (option_map last_value o) ≡ last_value (unwrap_or o [])
last_of None = refl
last_of (Some vs) = refl

-- the entries rise as the rows do, and each has its row's last value
pub rising_entries : (rows : NameMap RowChanges) → IsStrictlySortedBy name_cmp (keys_of rows) → IsRisingMap (last_entries rows)
rising_entries rows rising = rising_from_ordered (last_entries rows) (subst (IsStrictlySortedBy name_cmp) (sym (names_same rows)) rising)

pub last_named : (rows : NameMap RowChanges) (q : List ℕ) → value_or_absent (get (last_entries rows) q) ≡ last_value (versions_of rows q)
last_named rows q = ap value_or_absent (lookup-map_values last_value (is_same_name q) rows) ∙ last_of (get rows q)

-- the rows that are present by their last versions are those of the table
pub rows_by_half : (f : Fields) (h : Half) → Keeps f h → IsStrictlySortedBy name_cmp (keys_of f.versions.rows) → last_rows f.versions.rows ≡ present_rows (table_of_half h)
rows_by_half f h keeps rising =
    let rows = f.versions.rows in
    let merged = merged_commits [] h.commits in
    present-same (last_entries rows) merged (rising_entries rows rising) (rising-merged_over h.commits [] (rising_empty (Option Value)))
    (λ q. last_named rows q ∙ holds_now f h q keeps ∙ ap value_or_absent (sym (get-merged_over h.commits [] q ∙ none_before (last_change h.commits q))))
