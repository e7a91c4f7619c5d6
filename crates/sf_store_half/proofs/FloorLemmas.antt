-- The kept versions of a row, and what becomes of them at a higher floor.
use Rattle.std.proofs.Common.{◌≡◌, ℕ, zero, suc, ◌+◌, ◌-◌, ◌≤◌, ◌<◌, Bool, true, false, cond, List, [], ◌∷◌, ◌++◌, length, take, drop, Option, Some, None, refl, sym, ap, ◌∙◌, arith}
use Rattle.std.specs.Prelude.{◌||◌, filter, is_none, nat_le, nat_lt, slice_get}
use Rattle.std.specs.List.{AllByRecursion as Each}
use Rattle.std.specs.Option.{option_map, option_map_or}
use Rattle.std.proofs.lemmas.Bool.Decides.{nat_tests}
use Rattle.std.specs.Ordering.{nat_cmp, is_eq}
use Rattle.std.specs.Cmp.{nat_cmp_is}
use Rattle.std.specs.declared.cmp.Ordering.TheVariants.{Equal}
use Rattle.std.proofs.lemmas.List.{length-take-le, length-append, append-nil}
use Rattle.std.proofs.lemmas.List.Elements.{filter-append}
use Rattle.sf_types.specs.Inside.NameMaps.{get}
use Rattle.sf_types.specs.Values.Marks.{Value}
use Rattle.sf_types.specs.Table.Parts.{Rows}
use Rattle.sf_types.specs.Table.Versions.{last_change, later_change}
use Rattle.sf_types.specs.Space.Reach.{is_kept}
use Rattle.sf_types.specs.Halves.Asks.{Half}
use Rattle.sf_types.specs.Halves.Flushes.{table_of_half}
use Rattle.sf_room_map.specs.Entries.{without_key}
use Rattle.sf_versions.specs.RowChanges.{RowChanges, changes_of, last_number}
use Rattle.sf_store_half.specs.Fields.{kept_versions}

-- the last of a row's versions, alone
abbrev pub last_of : RowChanges → RowChanges
last_of vs = drop (length vs - 1) vs

-- whether no commit behind the n-th of some names a row
abbrev is_last_of : List Rows → List ℕ → ℕ → ℕ → Bool
is_last_of cs row before n = is_none (last_change (drop (n - before) cs) row)

-- ---- versions are numbered past the commits before them
pub past_before : (before : ℕ) (cs : List Rows) (row : List ℕ) → Each (λ v. before < v.0) (changes_of before cs row)
past_before before [] row = tt
past_before before (c ∷ cs) row =
    elim (get c row) as (λ found. Each (λ v. before < v.0) (option_map_or (λ change. (before + 1, change) ∷ changes_of (before + 1) cs row) found (changes_of (before + 1) cs row))) [
      | None ↦ weaker (changes_of (before + 1) cs row) (past_before (before + 1) cs row)
      | Some x ↦ (omega arith, weaker (changes_of (before + 1) cs row) (past_before (before + 1) cs row))
    ]
  where
    weaker : (vs : RowChanges) → Each (λ v. before + 1 < v.0) vs → Each (λ v. before < v.0) vs
    weaker [] all = tt
    weaker (v ∷ vs) all = (omega (arith, all.0), weaker vs all.1)

-- ---- tests that agree take out the same
same_kept : (p q : ℕ × Option Value → Bool) (vs : RowChanges) → Each (λ v. p v ≡ q v) vs → filter p vs ≡ filter q vs
same_kept p q [] same = refl
same_kept p q (v ∷ vs) same =
    ap (λ t. cond {A = RowChanges} t (v ∷ filter p vs) (filter p vs)) same.0
    ∙ ap (λ (ws : RowChanges). cond {A = RowChanges} (q v) (v ∷ ws) ws) (same_kept p q vs same.1)

pub each_of : (P Q : ℕ × Option Value → Type 0) (vs : RowChanges) → ((v : ℕ × Option Value) → P v → Q v) → Each P vs → Each Q vs
each_of P Q [] to all = tt
each_of P Q (v ∷ vs) to all = (to v all.0, each_of P Q vs to all.1)

all_pass : (p : ℕ × Option Value → Bool) (vs : RowChanges) → Each (λ v. p v ≡ true) vs → filter p vs ≡ vs
all_pass p [] all = refl
all_pass p (v ∷ vs) all = ap (λ t. cond {A = RowChanges} t (v ∷ filter p vs) (filter p vs)) all.0 ∙ ap (λ (ws : RowChanges). v ∷ ws) (all_pass p vs all.1)

-- ---- a row that no commit names has no versions, and the other way round
none_named : (before : ℕ) (cs : List Rows) (row : List ℕ) → is_none (last_change cs row) ≡ nat_le (length (changes_of before cs row)) 0
none_named before [] row = refl
none_named before (c ∷ cs) row =
    elim (get c row) as (λ found. is_none (later_change found (last_change cs row)) ≡ nat_le (length (option_map_or (λ change. (before + 1, change) ∷ changes_of (before + 1) cs row) found (changes_of (before + 1) cs row))) 0) [
      | None ↦ ap is_none (behind_none (last_change cs row)) ∙ none_named (before + 1) cs row
      | Some x ↦ some_named x (last_change cs row) ∙ sym (too_long (length (changes_of (before + 1) cs row)))
    ]
  where
    behind_none : (o : Option (Option Value)) → later_change None o ≡ o
    behind_none None = refl
    behind_none (Some y) = refl

    some_named : (x : Option Value) (o : Option (Option Value)) → is_none (later_change (Some x) o) ≡ false
    some_named x None = refl
    some_named x (Some y) = refl

    too_long : (n : ℕ) → nat_le (suc n) 0 ≡ false
    too_long n = grind (arith, nat_tests)

one_further : (before n : ℕ) → before + 1 < n → n - before ≡ suc (n - (before + 1))
one_further before n past = omega (arith, past)

-- of the versions that commits made, that is kept behind which no commit names the row: the last
pub last_kept : (before : ℕ) (cs : List Rows) (row : List ℕ) → filter (λ v. is_last_of cs row before v.0) (changes_of before cs row) ≡ last_of (changes_of before cs row)
last_kept before [] row = refl
last_kept before (c ∷ cs) row =
    let rest = changes_of (before + 1) cs row in
    let further : filter (λ v. is_last_of (c ∷ cs) row before v.0) rest ≡ last_of rest =
    same_kept (λ v. is_last_of (c ∷ cs) row before v.0) (λ v. is_last_of cs row (before + 1) v.0) rest
    (each_of (λ v. before + 1 < v.0) (λ v. is_last_of (c ∷ cs) row before v.0 ≡ is_last_of cs row (before + 1) v.0) rest
    (λ v past. ap (λ n. is_none (last_change (drop n (c ∷ cs)) row)) (one_further before v.0 past)) (past_before (before + 1) cs row))
    ∙ last_kept (before + 1) cs row in
    let here : (before + 1) - before ≡ suc zero = omega arith in
    elim (get c row) as (λ found. filter (λ v. is_last_of (c ∷ cs) row before v.0) (option_map_or (λ change. (before + 1, change) ∷ rest) found rest) ≡ last_of (option_map_or (λ change. (before + 1, change) ∷ rest) found rest)) [
      | None ↦ further
      | Some x ↦
          ap (λ n. cond {A = RowChanges} (is_none (last_change (drop n (c ∷ cs)) row)) ((before + 1, x) ∷ filter (λ v. is_last_of (c ∷ cs) row before v.0) rest) (filter (λ v. is_last_of (c ∷ cs) row before v.0) rest)) here
          ∙ ap (λ t. cond {A = RowChanges} t ((before + 1, x) ∷ filter (λ v. is_last_of (c ∷ cs) row before v.0) rest) (filter (λ v. is_last_of (c ∷ cs) row before v.0) rest)) (none_named (before + 1) cs row)
          ∙ ap (λ (ws : RowChanges). cond {A = RowChanges} (nat_le (length rest) 0) ((before + 1, x) ∷ ws) ws) further
          ∙ at_end (before + 1, x) rest
    ]
  where
    at_end : (v : ℕ × Option Value) (vs : RowChanges) → cond {A = RowChanges} (nat_le (length vs) 0) (v ∷ last_of vs) (last_of vs) ≡ last_of (v ∷ vs)
    at_end v [] = refl
    at_end v (w ∷ vs) =
        let longer : nat_le (length (w ∷ vs)) 0 ≡ false = grind (arith, nat_tests) in
        let next : length (v ∷ w ∷ vs) - 1 ≡ suc (length (w ∷ vs) - 1) = omega arith in
        ap (λ t. cond {A = RowChanges} t (v ∷ last_of (w ∷ vs)) (last_of (w ∷ vs))) longer
        ∙ ap (λ n. drop n (v ∷ w ∷ vs)) (sym next)

-- ---- versions are numbered up to the number of the last commit
pub within_last : (before : ℕ) (cs : List Rows) (row : List ℕ) → Each (λ v. v.0 ≤ before + length cs) (changes_of before cs row)
within_last before [] row = tt
within_last before (c ∷ cs) row =
    let later : Each (λ v. v.0 ≤ before + length (c ∷ cs)) (changes_of (before + 1) cs row) =
    each_of (λ v. v.0 ≤ before + 1 + length cs) (λ v. v.0 ≤ before + length (c ∷ cs)) (changes_of (before + 1) cs row) (λ v within. omega (arith, within)) (within_last (before + 1) cs row) in
    elim (get c row) as (λ found. Each (λ v. v.0 ≤ before + length (c ∷ cs)) (option_map_or (λ change. (before + 1, change) ∷ changes_of (before + 1) cs row) found (changes_of (before + 1) cs row))) [
      | None ↦ later
      | Some x ↦ (omega arith, later)
    ]

pub changes_split : (before : ℕ) (cs : List Rows) (row : List ℕ) (k : ℕ) → k ≤ length cs → changes_of before cs row ≡ changes_of before (take k cs) row ++ changes_of (before + k) (drop k cs) row
changes_split before cs row zero within = ap (λ n. changes_of n cs row) (omega arith)
changes_split before [] row (suc k) within = absurd (omega (arith, within))
changes_split before (c ∷ cs) row (suc k) within =
    let rest = changes_split (before + 1) cs row k (omega (arith, within)) in
    let far : before + 1 + k ≡ before + suc k = omega arith in
    elim (get c row) as (λ found. option_map_or (λ change. (before + 1, change) ∷ changes_of (before + 1) cs row) found (changes_of (before + 1) cs row)
    ≡ option_map_or (λ change. (before + 1, change) ∷ changes_of (before + 1) (take k cs) row) found (changes_of (before + 1) (take k cs) row) ++ changes_of (before + suc k) (drop k cs) row) [
      | None ↦ rest ∙ ap (λ n. changes_of (before + 1) (take k cs) row ++ changes_of n (drop k cs) row) far
      | Some x ↦ ap (λ (vs : RowChanges). (before + 1, x) ∷ vs) (rest ∙ ap (λ n. changes_of (before + 1) (take k cs) row ++ changes_of n (drop k cs) row) far)
    ]

-- the kept versions of a row: the last one up to the floor, and those past it
pub kept_is : (h : Half) (row : List ℕ) → h.floor ≤ length h.commits → kept_versions h row ≡ last_of (changes_of 0 (take h.floor h.commits) row) ++ changes_of h.floor (drop h.floor h.commits) row
kept_is h row within =
    let front = changes_of 0 (take h.floor h.commits) row in
    let behind = changes_of h.floor (drop h.floor h.commits) row in
    let test : ℕ × Option Value → Bool = λ v. is_kept (table_of_half h) row v.0 in
    ap (filter test) (changes_split 0 h.commits row h.floor within ∙ ap (λ n. front ++ changes_of n (drop h.floor h.commits) row) (omega arith))
    ∙ filter-append test front behind
    ∙ ap (λ (vs : RowChanges). vs ++ filter test behind)
    (same_kept test (λ v. is_last_of (take h.floor h.commits) row 0 v.0) front
    (each_of (λ v. v.0 ≤ 0 + length (take h.floor h.commits)) (λ v. test v ≡ is_last_of (take h.floor h.commits) row 0 v.0) front early (within_last 0 (take h.floor h.commits) row))
    ∙ last_kept 0 (take h.floor h.commits) row)
    ∙ ap (λ (vs : RowChanges). last_of front ++ vs)
    (all_pass test behind (each_of (λ v. h.floor < v.0) (λ v. test v ≡ true) behind late (past_before h.floor (drop h.floor h.commits) row)))
  where
    early : (v : ℕ × Option Value) → v.0 ≤ 0 + length (take h.floor h.commits) → is_kept (table_of_half h) row v.0 ≡ is_last_of (take h.floor h.commits) row 0 v.0
    early v low =
        let size : length (take h.floor h.commits) ≡ h.floor = length-take-le h.floor h.commits within in
        let before : nat_lt h.floor v.0 ≡ false = grind (arith, nat_tests) in
        let same : v.0 ≡ v.0 - 0 = omega arith in
        ap (λ t. t || is_none (last_change (drop v.0 (take h.floor h.commits)) row)) before
        ∙ ap (λ n. is_none (last_change (drop n (take h.floor h.commits)) row)) same

    late : (v : ℕ × Option Value) → h.floor < v.0 → is_kept (table_of_half h) row v.0 ≡ true
    late v past =
        let after : nat_lt h.floor v.0 ≡ true = grind (arith, nat_tests) in
        ap (λ t. t || is_none (last_change (drop v.0 (take h.floor h.commits)) row)) after

-- ---- one commit more is up to the floor
last_pushed : (vs : RowChanges) (v : ℕ × Option Value) → last_of (vs ++ v ∷ []) ≡ v ∷ []
last_pushed vs v =
    let size : length (vs ++ v ∷ []) - 1 ≡ length vs = omega (arith, length-append vs (v ∷ [])) in
    ap (λ n. drop n (vs ++ v ∷ [])) size ∙ dropped vs (v ∷ [])
  where
    dropped : (xs ys : RowChanges) → drop (length xs) (xs ++ ys) ≡ ys
    dropped [] ys = refl
    dropped (x ∷ xs) ys = dropped xs ys

one_more : (cs : List Rows) (k : ℕ) (c : Rows) (rest : List Rows) → drop k cs ≡ c ∷ rest → take (k + 1) cs ≡ take k cs ++ c ∷ []
one_more [] zero c rest at = absurd cc
one_more [] (suc k) c rest at = absurd cc
one_more (d ∷ cs) zero c rest at = let same : d ≡ c = cc in ap (λ (x : Rows). x ∷ []) same
one_more (d ∷ cs) (suc k) c rest at = ap (λ n. take n (d ∷ cs)) up ∙ ap (λ (xs : List Rows). d ∷ xs) (one_more cs k c rest at)
  where
    up : suc k + 1 ≡ suc (k + 1)
    up = omega arith

pub changes_pushed : (before : ℕ) (cs : List Rows) (c : Rows) (row : List ℕ) → changes_of before (cs ++ c ∷ []) row ≡ changes_of before cs row ++ changes_of (before + length cs) (c ∷ []) row
changes_pushed before [] c row = ap (λ n. changes_of n (c ∷ []) row) (omega arith)
changes_pushed before (d ∷ cs) c row =
    let rest = changes_pushed (before + 1) cs c row ∙ ap (λ n. changes_of (before + 1) cs row ++ changes_of n (c ∷ []) row) (omega arith) in
    elim (get d row) as (λ found. option_map_or (λ change. (before + 1, change) ∷ changes_of (before + 1) (cs ++ c ∷ []) row) found (changes_of (before + 1) (cs ++ c ∷ []) row)
    ≡ option_map_or (λ change. (before + 1, change) ∷ changes_of (before + 1) cs row) found (changes_of (before + 1) cs row) ++ changes_of (before + length (d ∷ cs)) (c ∷ []) row) [
      | None ↦ rest
      | Some x ↦ ap (λ (vs : RowChanges). (before + 1, x) ∷ vs) rest
    ]

-- the kept versions at the floor of a number of commits
abbrev pub kept_at_number : List Rows → ℕ → List ℕ → RowChanges
kept_at_number commits k row = last_of (changes_of 0 (take k commits) row) ++ changes_of k (drop k commits) row

-- a version that the next commit displaces
abbrev pub displaced : List Rows → ℕ → List ℕ → Option ℕ
displaced commits k row = last_number (changes_of 0 (take k commits) row)

last_number_is : (vs : RowChanges) (rest : RowChanges) → rest ≡ option_map_or (λ from. without_key nat_cmp (last_of vs ++ rest) from) (last_number vs) (last_of vs ++ rest)
last_number_is [] rest = refl
last_number_is (v ∷ []) rest = ap (λ r. cond {A = RowChanges} (is_eq r) rest (v ∷ without_key nat_cmp rest v.0)) (nat_cmp_is v.0 v.0 Equal refl)
last_number_is (v ∷ w ∷ vs) rest =
    let next : length (v ∷ w ∷ vs) - 1 ≡ suc (length (w ∷ vs) - 1) = omega arith in
    last_number_is (w ∷ vs) rest
    ∙ ap (λ n. option_map_or (λ from. without_key nat_cmp (drop n (v ∷ w ∷ vs) ++ rest) from) (option_map (λ x. x.0) (slice_get (v ∷ w ∷ vs) n)) (drop n (v ∷ w ∷ vs) ++ rest)) (sym next)

-- at the next floor a row that the commit in between names has lost the version that it displaced, and every other row none
pub kept_next : (commits : List Rows) (k : ℕ) (c : Rows) (rest : List Rows) (row : List ℕ) → k < length commits → drop k commits ≡ c ∷ rest
    → kept_at_number commits (k + 1) row ≡ option_map_or (λ _. option_map_or (λ from. without_key nat_cmp (kept_at_number commits k row) from) (displaced commits k row) (kept_at_number commits k row)) (get c row) (kept_at_number commits k row)
kept_next commits k c rest row within at =
    let front = changes_of 0 (take k commits) row in
    let size : 0 + length (take k commits) ≡ k = omega (arith, length-take-le k commits (omega (arith, within))) in
    let taken : changes_of 0 (take (k + 1) commits) row ≡ front ++ changes_of k (c ∷ []) row =
    ap (λ cs. changes_of 0 cs row) (one_more commits k c rest at) ∙ changes_pushed 0 (take k commits) c row ∙ ap (λ n. front ++ changes_of n (c ∷ []) row) size in
    let left : changes_of (k + 1) (drop (k + 1) commits) row ≡ changes_of (k + 1) rest row = ap (λ cs. changes_of (k + 1) cs row) (one_fewer commits k c rest at) in
    let whole : changes_of k (drop k commits) row ≡ changes_of k (c ∷ rest) row = ap (λ cs. changes_of k cs row) at in
    ap (λ (vs : RowChanges). last_of vs ++ changes_of (k + 1) (drop (k + 1) commits) row) taken
    ∙ ap (λ (vs : RowChanges). last_of (front ++ changes_of k (c ∷ []) row) ++ vs) left
    ∙ by_name front (get c row)
    ∙ ap (λ (vs : RowChanges). option_map_or (λ _. option_map_or (λ from. without_key nat_cmp (last_of front ++ vs) from) (last_number front) (last_of front ++ vs)) (get c row) (last_of front ++ vs)) (sym whole)
  where
    one_fewer : (cs : List Rows) (n : ℕ) (d : Rows) (ds : List Rows) → drop n cs ≡ d ∷ ds → drop (n + 1) cs ≡ ds
    one_fewer [] zero d ds is = absurd cc
    one_fewer [] (suc n) d ds is = absurd cc
    one_fewer (x ∷ cs) zero d ds is = cc
    one_fewer (x ∷ cs) (suc n) d ds is = let up : suc n + 1 ≡ suc (n + 1) = omega arith in ap (λ m. drop m (x ∷ cs)) up ∙ one_fewer cs n d ds is

    by_name : (vs : RowChanges) (found : Option (Option Value))
        → last_of (vs ++ option_map_or (λ change. (k + 1, change) ∷ []) found []) ++ changes_of (k + 1) rest row
        ≡ option_map_or (λ _. option_map_or (λ from. without_key nat_cmp (last_of vs ++ option_map_or (λ change. (k + 1, change) ∷ changes_of (k + 1) rest row) found (changes_of (k + 1) rest row)) from) (last_number vs) (last_of vs ++ option_map_or (λ change. (k + 1, change) ∷ changes_of (k + 1) rest row) found (changes_of (k + 1) rest row))) found (last_of vs ++ option_map_or (λ change. (k + 1, change) ∷ changes_of (k + 1) rest row) found (changes_of (k + 1) rest row))
    by_name vs None = ap (λ (ws : RowChanges). last_of ws ++ changes_of (k + 1) rest row) (append-nil vs)
    by_name vs (Some x) = ap (λ (ws : RowChanges). ws ++ changes_of (k + 1) rest row) (last_pushed vs (k + 1, x)) ∙ last_number_is vs ((k + 1, x) ∷ changes_of (k + 1) rest row)
