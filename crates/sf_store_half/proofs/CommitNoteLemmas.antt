-- The notes after one commit more.
use Rattle.std.proofs.Common.{◌≡◌, ℕ, zero, suc, ◌+◌, ◌-◌, ◌≤◌, ◌<◌, List, [], ◌∷◌, ◌++◌, length, take, drop, map, Option, refl, sym, ap, ◌∙◌, append_assoc, arith}
use Rattle.std.specs.Prelude.{filter, filter_map, slice_index_or}
use Rattle.std.specs.List.{cons_option}
use Rattle.std.specs.Option.{option_map}
use Rattle.std.proofs.lemmas.List.{append-nil, length-append, length-map, take-append-le, take_all}
use Rattle.std.proofs.lemmas.List.Elements.{filter-append}
use Rattle.sf_types.specs.Table.Parts.{Rows}
use Rattle.sf_retention.specs.declared.retention.Note.{Note}
use Rattle.sf_retention.specs.declared.retention.Pair.{Pair}
use Rattle.sf_retention.specs.Notes.{due_pairs, note_of, pair_of}
use Rattle.sf_versions.specs.RowChanges.{RowChanges, changes_of, last_number}
use Rattle.sf_versions.specs.VersionTables.{VersionTable, versions_of}
use Rattle.sf_store_half.specs.Fields.{displaced_by}
use Rattle.sf_store_half.specs.Inside.Commits.{displaced_notes}
use Rattle.sf_store_half.proofs.FloorLemmas.{changes_split, kept_at_number, last_of}
use Rattle.sf_store_half.proofs.GivenUpLemmas.{tail_last}
use Rattle.sf_store_half.proofs.NoteLemmas.{due_are, is_noted, notes_between, notes_from_floor, past_noted}

-- ---- the commits before the last one displace what they did
index_before : (commits : List Rows) (c : Rows) (i : ℕ) → i < length commits → slice_index_or (commits ++ c ∷ []) i [] ≡ slice_index_or commits i []
index_before [] c i within = absurd (omega (arith, within))
index_before (d ∷ commits) c zero within = refl
index_before (d ∷ commits) c (suc i) within = index_before commits c i (omega (arith, within))

index_last : (commits : List Rows) (c : Rows) → slice_index_or (commits ++ c ∷ []) (length commits) [] ≡ c
index_last [] c = refl
index_last (d ∷ commits) c = index_last commits c

-- what a commit displaces, by the commits before it and its changes
abbrev displaced_in : List Rows → ℕ → Rows → List Note
displaced_in before until changes = filter_map (λ e. option_map (λ from. note_of e.0 from until) (last_number (changes_of 0 before e.0))) changes

displaced_before : (commits : List Rows) (c : Rows) (until : ℕ) → 1 ≤ until → until ≤ length commits → displaced_by (commits ++ c ∷ []) until ≡ displaced_by commits until
displaced_before commits c until low high =
    ap (λ (before : List Rows). displaced_in before until (slice_index_or (commits ++ c ∷ []) (until - 1) [])) (take-append-le (until - 1) commits (c ∷ []) (omega (arith, high)))
    ∙ ap (displaced_in (take (until - 1) commits) until) (index_before commits c (until - 1) (omega (arith, low, high)))

notes_before : (commits : List Rows) (c : Rows) (first count : ℕ) → 1 ≤ first → first + count ≤ length commits + 1 → notes_between (commits ++ c ∷ []) first count ≡ notes_between commits first count
notes_before commits c first zero low high = refl
notes_before commits c first (suc count) low high =
    ap (λ (ns : List Note). ns ++ notes_between (commits ++ c ∷ []) (first + 1) count) (displaced_before commits c first low (omega (arith, high)))
    ∙ ap (λ (ns : List Note). displaced_by commits first ++ ns) (notes_before commits c (first + 1) count (omega arith) (omega (arith, high)))

notes_last : (commits : List Rows) (first count : ℕ) → notes_between commits first (count + 1) ≡ notes_between commits first count ++ displaced_by commits (first + count)
notes_last commits first zero = let here : first ≡ first + 0 = omega arith in append-nil (displaced_by commits first) ∙ ap (displaced_by commits) here
notes_last commits first (suc count) =
    let far : first + 1 + count ≡ first + suc count = omega arith in
    let up : suc count + 1 ≡ suc (count + 1) = omega arith in
    ap (notes_between commits first) up
    ∙ ap (λ (ns : List Note). displaced_by commits first ++ ns) (notes_last commits (first + 1) count)
    ∙ sym (append_assoc (displaced_by commits first) (notes_between commits (first + 1) count) (displaced_by commits (first + 1 + count)))
    ∙ ap (λ n. notes_between commits first (suc count) ++ displaced_by commits n) far

-- ---- the last version of a row is kept
last_stays : (commits : List Rows) (k : ℕ) (row : List ℕ) → k ≤ length commits → last_number (kept_at_number commits k row) ≡ last_number (changes_of 0 commits row)
last_stays commits k row within =
    let front = changes_of 0 (take k commits) row in
    let behind = changes_of k (drop k commits) row in
    let same : 0 + k ≡ k = omega arith in
    last_either front behind ∙ sym (ap last_number (changes_split 0 commits row k within ∙ ap (λ n. front ++ changes_of n (drop k commits) row) same))
  where
    last_either : (front behind : RowChanges) → last_number (last_of front ++ behind) ≡ last_number (front ++ behind)
    last_either [] behind = refl
    last_either (v ∷ []) behind = refl
    last_either (v ∷ w ∷ front) behind =
        let next : length (v ∷ w ∷ front) - 1 ≡ suc (length (w ∷ front) - 1) = omega arith in
        ap (λ n. last_number (drop n (v ∷ w ∷ front) ++ behind)) next ∙ last_either (w ∷ front) behind ∙ sym (tail_last v w (front ++ behind))

same_displaced : (t : VersionTable) (commits : List Rows) (k : ℕ) → k ≤ length commits → ((row : List ℕ) → versions_of t.rows row ≡ kept_at_number commits k row) → (es : Rows) → displaced_in commits (t.now + 1) es ≡ displaced_notes t es
same_displaced t commits k within kept [] = refl
same_displaced t commits k within kept (e ∷ es) =
    let own : last_number (changes_of 0 commits e.0) ≡ last_number (versions_of t.rows e.0) = sym (ap last_number (kept e.0) ∙ last_stays commits k e.0 within) in
    ap (λ (o : Option ℕ). cons_option (option_map (λ from. note_of e.0 from (t.now + 1)) o) (displaced_in commits (t.now + 1) es)) own
    ∙ ap (λ (ns : List Note). cons_option (option_map (λ from. note_of e.0 from (t.now + 1)) (last_number (versions_of t.rows e.0))) ns) (same_displaced t commits k within kept es)

-- so the notes of all commits are those before the last one, and then those of what it displaces
pub notes_committed : (t : VersionTable) (commits : List Rows) (c : Rows) (k : ℕ) → t.now ≡ length commits → k ≤ length commits → ((row : List ℕ) → versions_of t.rows row ≡ kept_at_number commits k row)
    → filter (is_noted k) (notes_between commits 1 (length commits)) ++ displaced_notes t c ≡ filter (is_noted k) (notes_between (commits ++ c ∷ []) 1 (length (commits ++ c ∷ [])))
notes_committed t commits c k now within kept =
    let all = commits ++ c ∷ [] in
    let n = length commits in
    let size : length all ≡ n + 1 = length-append commits (c ∷ []) in
    let here : n + 1 - 1 ≡ n = omega arith in
    let last : displaced_by all (n + 1) ≡ displaced_notes t c =
    ap (λ i. displaced_in (take i all) (n + 1) (slice_index_or all i [])) here
    ∙ ap (λ (before : List Rows). displaced_in before (n + 1) (slice_index_or all n [])) (take-append-le n commits (c ∷ []) (omega arith) ∙ take_all n commits (omega arith))
    ∙ ap (displaced_in commits (n + 1)) (index_last commits c)
    ∙ ap (λ i. displaced_in commits (i + 1) c) (sym now)
    ∙ same_displaced t commits k within kept c in
    let next : 1 + n ≡ n + 1 = omega arith in
    let split : notes_between all 1 (length all) ≡ notes_between commits 1 n ++ displaced_by all (n + 1) =
    ap (notes_between all 1) size ∙ notes_last all 1 n ∙ ap (λ (ns : List Note). ns ++ displaced_by all (1 + n)) (notes_before commits c 1 n (omega arith) (omega arith)) ∙ ap (λ i. notes_between commits 1 n ++ displaced_by all i) next in
    sym (ap (filter (is_noted k)) split
    ∙ filter-append (is_noted k) (notes_between commits 1 n) (displaced_by all (n + 1))
    ∙ ap (λ (ns : List Note). filter (is_noted k) (notes_between commits 1 n) ++ ns) (past_noted all k (n + 1) (omega (arith, within)) ∙ last))

-- ---- which of them are due
left_behind : (xs ys : List Note) → drop (length xs) (xs ++ ys) ≡ ys
left_behind [] ys = refl
left_behind (x ∷ xs) ys = left_behind xs ys

module _ (commits : List Rows) (notes : List Note) (k floor : ℕ) (low : k ≤ floor) (high : floor ≤ length commits) (all : notes ≡ filter (is_noted k) (notes_between commits 1 (length commits))) where
  up_to : k + (floor - k) ≡ floor
  up_to = omega (arith, low)

  pub due_up_to : due_pairs notes floor ≡ map pair_of (notes_between commits (k + 1) (floor - k))
  due_up_to =
      ap (λ (ns : List Note). due_pairs ns floor) all
      ∙ ap (due_pairs (filter (is_noted k) (notes_between commits 1 (length commits)))) (sym up_to)
      ∙ due_are commits k (floor - k) (omega (arith, up_to, high))

  pub left_up_to : drop (length (due_pairs notes floor)) notes ≡ filter (is_noted floor) (notes_between commits 1 (length commits))
  left_up_to =
      let due = notes_between commits (k + 1) (floor - k) in
      ap (λ (ps : List Pair). drop (length ps) notes) due_up_to
      ∙ ap (λ n. drop n notes) (length-map due pair_of)
      ∙ ap (drop (length due)) (all ∙ notes_from_floor commits k (floor - k) (omega (arith, up_to, high)))
      ∙ left_behind due (filter (is_noted (k + (floor - k))) (notes_between commits 1 (length commits)))
      ∙ ap (λ n. filter (is_noted n) (notes_between commits 1 (length commits))) up_to
