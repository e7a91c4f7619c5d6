-- How often births are counted in rows, after a change of one row.
use Rattle.std.proofs.Common.{◌≡◌, ℕ, ◌+◌, Bool, true, false, cond, List, [], ◌∷◌, ◌++◌, map, Option, Some, None, ⊎_elim, refl, sym, ap, subst, ◌∙◌, append-nil, arith}
use Rattle.std.specs.Prelude.{◌==◌, IsSome, T, filter_map, flat_map, is_some}
use Rattle.std.specs.Option.{option_map, option_map_or}
use Rattle.std.specs.Map.{keys_of}
use Rattle.std.specs.List.Sorted.{IsStrictlySortedBy}
use Rattle.std.specs.Ordering.{eq_by_cmp, nat_cmp}
use Rattle.std.specs.Cmp.Lexicographic.{nat_list_cmp_total}
use Rattle.std.specs.FinMap.{IsAntisymmetric, nat_cmp-IsAntisymmetric, slice_cmp-IsAntisymmetric}
use Rattle.std.specs.FinMap.Entries as fin
use Rattle.std.proofs.lemmas.Grind.{flat_map-append}
use Rattle.std.proofs.lemmas.List.Sums.{sum_by-append, sum_by-cons}
use Rattle.sf_types.specs.declared.options.Choice.TheVariants as choice
use Rattle.sf_types.specs.Inside.Births.{rising_births}
use Rattle.sf_types.specs.Inside.NameMaps.{NameMap, is_same_name, get, with_entry, without_entry}
use Rattle.sf_types.specs.Values.Marks.{Marked, Stored, Value, birth_of_mark}
use Rattle.sf_types.specs.Values.Names.{name_cmp}
use Rattle.sf_types.proofs.NameMapLemmas.{sorted_from_ordered}
use Rattle.sf_room_map.specs.Entries.{added_at}
use Rattle.sf_room_map.proofs.EntryLemmas.{own_key, rising_from_sorted, same_values, sorted-values, sorted_with, sorted_without, value_for-with, value_for-without, values-with, values-without, with_cases, with_here, with_same}
use Rattle.sf_chunk_map.specs.Inside.Counts.{Counts, bytes_of_birth, births_with_bytes, count_at, names_birth}
use Rattle.sf_chunk_map.proofs.AmongLemmas.{listed_births}
use Rattle.sf_session_values.specs.declared.working.Working.{Working}
use Rattle.sf_session_values.specs.declared.working_rows.WorkingRow.{WorkingRow}
use Rattle.sf_session_values.specs.declared.working_rows.Uncounted.{Uncounted}
use Rattle.sf_session_values.specs.declared.working_rows.Uncounted.TheVariants as uncounted
use Rattle.sf_session_values.specs.Inside.Sharing.{own_value}
use Rattle.sf_session_values.specs.Inside.Counting.{AreCounted, AreNumbers, IsCounted, births_of_own_rows, births_of_working, counted_births, counted_change, times, uncounted_with, workings, workings_beside}

exact : IsAntisymmetric name_cmp
exact = slice_cmp-IsAntisymmetric nat_cmp-IsAntisymmetric

-- ---- how often a birth stands in lists
pub times-append : (b : ℕ) (xs ys : List ℕ) → times b (xs ++ ys) ≡ times b xs + times b ys
times-append b xs ys = sum_by-append (λ (x : ℕ). cond (x == b) 1 0) xs ys

-- numbers of births list them rising, each once
stored : List ℕ → List Marked
stored births = map (λ (b : ℕ). record { byte = 0; mark = Stored b 0 }) births

times_stored : (b : ℕ) (births : List ℕ) → bytes_of_birth b (stored births) ≡ times b births
unfolding stored
times_stored b [] = refl
times_stored b (x ∷ births) =
    sum_by-cons (λ (m : Marked). cond (names_birth b m.mark) 1 0) (record { byte = 0; mark = Stored x 0 }) (stored births)
    ∙ ap (λ n. cond (x == b) 1 0 + n) (times_stored b births)
    ∙ sym (sum_by-cons (λ (y : ℕ). cond (y == b) 1 0) x births)

named_stored : (births : List ℕ) → filter_map (λ (m : Marked). birth_of_mark m.mark) (stored births) ≡ births
unfolding stored
named_stored [] = refl
named_stored (x ∷ births) = ap (λ (bs : List ℕ). x ∷ bs) (named_stored births)

pub listed_numbers : (counts : Counts) (births : List ℕ) → IsStrictlySortedBy nat_cmp (keys_of counts) → AreNumbers counts births → births_with_bytes counts ≡ rising_births births
listed_numbers counts births sorted are =
    listed_births counts (record { bytes = stored births; choice = choice.Standard }) sorted (λ b. are b ∙ sym (times_stored b births))
    ∙ ap rising_births (named_stored births)

-- ---- the births that are counted of rows
-- Those of one row.
abbrev pub births_at : NameMap WorkingRow → List ℕ → List ℕ
births_at rows name = option_map_or (λ row. row.births) (get rows name) []

pub counted_without : (b : ℕ) (rows : NameMap WorkingRow) (name : List ℕ) → times b (counted_births (without_entry rows name)) + times b (births_at rows name) ≡ times b (counted_births rows)
counted_without b [] name = refl
counted_without b (e ∷ rows) name =
    elim (is_same_name name e.0) as (λ t. times b (counted_births (cond t rows (e ∷ without_entry rows name))) + times b (option_map_or (λ row. row.births) (cond t (Some e.1) (get rows name)) []) ≡ times b (e.1.births ++ counted_births rows)) [
      | true ↦ omega (arith, times-append b e.1.births (counted_births rows))
      | false ↦ omega (arith, times-append b e.1.births (counted_births (without_entry rows name)), times-append b e.1.births (counted_births rows), counted_without b rows name)
    ]

without_put : (rows : NameMap WorkingRow) (name : List ℕ) (row : WorkingRow) → T (fin.is_sorted name_cmp rows) → without_entry (with_entry rows name row) name ≡ without_entry rows name
without_put rows name row sorted =
    let put = with_entry rows name row in
    let sorted_put = sorted_with name_cmp nat_list_cmp_total rows name row sorted in
    same_values name_cmp nat_list_cmp_total exact (without_entry put name) (without_entry rows name)
    (sorted_without name_cmp nat_list_cmp_total name put sorted_put) (sorted_without name_cmp nat_list_cmp_total name rows sorted)
    (λ q. value_for-without name_cmp nat_list_cmp_total put name q sorted_put
    ∙ ap (cond (eq_by_cmp name_cmp q name) None) (value_for-with name_cmp nat_list_cmp_total rows name row q)
    ∙ twice (eq_by_cmp name_cmp q name) (get rows q)
    ∙ sym (value_for-without name_cmp nat_list_cmp_total rows name q sorted))
  where
    twice : (t : Bool) (found : Option WorkingRow) → cond t None (cond t (Some row) found) ≡ cond t None found
    twice true found = refl
    twice false found = refl

pub counted_put : (b : ℕ) (rows : NameMap WorkingRow) (name : List ℕ) (row : WorkingRow) → IsStrictlySortedBy name_cmp (keys_of rows)
    → times b (counted_births (with_entry rows name row)) ≡ times b (counted_births (without_entry rows name)) + times b row.births
counted_put b rows name row rising =
    let put = with_entry rows name row in
    let left : times b (counted_births (without_entry put name)) ≡ times b (counted_births (without_entry rows name)) = ap (λ m. times b (counted_births m)) (without_put rows name row (sorted_from_ordered name_cmp rows rising)) in
    let own : times b (births_at put name) ≡ times b row.births = ap (λ (found : Option WorkingRow). times b (option_map_or (λ r. r.births) found [])) (with_here name_cmp nat_list_cmp_total exact rows name row) in
    omega (arith, counted_without b put name, left, own)

pub counted_pushed : (b : ℕ) (rows : NameMap WorkingRow) (e : List ℕ × WorkingRow) → times b (counted_births (rows ++ e ∷ [])) ≡ times b (counted_births rows) + times b e.1.births
counted_pushed b rows e =
    ap (times b) (flat_map-append (λ (x : List ℕ × WorkingRow). x.1.births) rows (e ∷ []))
    ∙ times-append b (counted_births rows) (e.1.births ++ [])
    ∙ ap (λ (bs : List ℕ). times b (counted_births rows) + times b bs) (append-nil e.1.births)

-- ---- what rows have
pub get-values : {X Y : Type 0} (f : X → Y) (m : NameMap X) (q : List ℕ) → get (map (λ (e : List ℕ × X). (e.0, f e.1)) m) q ≡ option_map f (get m q)
get-values f [] q = refl
get-values {Y = Y} f (e ∷ m) q =
    elim (is_same_name q e.0) as (λ b. cond {A = Option Y} b (Some (f e.1)) (get (map (λ x. (x.0, f x.1)) m) q) ≡ option_map f (cond b (Some e.1) (get m q))) [
      | true ↦ refl
      | false ↦ get-values f m q
    ]

pub rising_workings : (rows : NameMap WorkingRow) → IsStrictlySortedBy name_cmp (keys_of rows) → IsStrictlySortedBy name_cmp (keys_of (workings rows))
rising_workings rows rising = rising_from_sorted name_cmp (workings rows) (sorted-values name_cmp (λ (row : WorkingRow). row.working) rows (sorted_from_ordered name_cmp rows rising))

-- where all rows are counted, the births that are counted are those of rows' own values
by_values : {X : Type 0} (f : X → List ℕ) (m : NameMap X) → flat_map (λ (e : List ℕ × X). f e.1) m ≡ flat_map (λ (e : List ℕ × List ℕ). e.1) (map (λ (e : List ℕ × X). (e.0, f e.1)) m)
by_values f [] = refl
by_values f (e ∷ m) = ap (λ bs. f e.1 ++ bs) (by_values f m)

own_of : WorkingRow → List ℕ
own_of row = births_of_working row.working

by_workings : (rows : NameMap WorkingRow) → flat_map (λ (e : List ℕ × WorkingRow). own_of e.1) rows ≡ births_of_own_rows (workings rows)
unfolding own_of
by_workings [] = refl
by_workings (e ∷ rows) = ap (λ bs. births_of_working e.1.working ++ bs) (by_workings rows)

module _ (rows : NameMap WorkingRow) (rising : IsStrictlySortedBy name_cmp (keys_of rows)) (all : (name : List ℕ) (row : WorkingRow) → get rows name ≡ Some row → row.births ≡ births_of_working row.working) where
  same_births : map {B = List ℕ × List ℕ} (λ (e : List ℕ × WorkingRow). (e.0, e.1.births)) rows ≡ map {B = List ℕ × List ℕ} (λ (e : List ℕ × WorkingRow). (e.0, own_of e.1)) rows
  unfolding own_of
  same_births =
      let sorted = sorted_from_ordered name_cmp rows rising in
      same_values name_cmp nat_list_cmp_total exact (map {B = List ℕ × List ℕ} (λ (e : List ℕ × WorkingRow). (e.0, e.1.births)) rows) (map {B = List ℕ × List ℕ} (λ (e : List ℕ × WorkingRow). (e.0, own_of e.1)) rows)
      (sorted-values name_cmp (λ row. row.births) rows sorted) (sorted-values name_cmp own_of rows sorted)
      (λ q. get-values (λ (row : WorkingRow). row.births) rows q ∙ by_found q (get rows q) refl ∙ sym (get-values own_of rows q))
    where
      by_found : (q : List ℕ) (found : Option WorkingRow) → get rows q ≡ found → option_map (λ (row : WorkingRow). row.births) found ≡ option_map own_of found
      by_found q None is = refl
      by_found q (Some row) is = ap (λ (bs : List ℕ). Some bs) (all q row is)

  counted_all : counted_births rows ≡ births_of_own_rows (workings rows)
  counted_all =
      by_values (λ (row : WorkingRow). row.births) rows ∙ ap (λ m. flat_map (λ (e : List ℕ × List ℕ). e.1) m) same_births
      ∙ sym (by_values own_of rows) ∙ by_workings rows

  counted_but : (name : List ℕ) → counted_births (without_entry rows name) ≡ births_of_own_rows (without_entry (workings rows) name)
  counted_but name =
      let births = λ (e : List ℕ × List ℕ). e.1 in
      by_values (λ (row : WorkingRow). row.births) (without_entry rows name)
      ∙ ap (λ m. flat_map births m) (values-without name_cmp (λ (row : WorkingRow). row.births) rows name ∙ ap (λ m. without_entry m name) same_births ∙ sym (values-without name_cmp own_of rows name))
      ∙ sym (by_values own_of (without_entry rows name))
      ∙ by_workings (without_entry rows name)
      ∙ ap births_of_own_rows (values-without name_cmp (λ (row : WorkingRow). row.working) rows name)

-- The rows but one, or all.
abbrev pub rows_but : Option (List ℕ) → NameMap WorkingRow → NameMap WorkingRow
rows_but None rows = rows
rows_but (Some name) rows = without_entry rows name

pub counted_beside : (except : Option (List ℕ)) (rows : NameMap WorkingRow) (counts : Counts) → IsStrictlySortedBy name_cmp (keys_of rows) → AreCounted rows counts uncounted.None
    → counted_births (rows_but except rows) ≡ births_of_own_rows (workings_beside except (workings rows))
counted_beside None rows counts rising are = counted_all rows rising are.births
counted_beside (Some name) rows counts rising are = counted_but rows rising are.births name

-- ---- changes of one row
-- a row whose births come off, and whose new value has none
module _ (rows after : NameMap WorkingRow) (counts left : Counts) (before then : Uncounted) (name : List ℕ) (w : Working) (rising : IsStrictlySortedBy name_cmp (keys_of rows)) (are : AreCounted rows counts before)
    (off : AreNumbers left (counted_births (without_entry rows name))) (put : after ≡ with_entry rows name (record { working = w; births = [] })) where
  numbers_then : AreNumbers left (counted_births after)
  numbers_then b =
      let same = ap (λ m. times b (counted_births m)) put in
      omega (arith, off b, counted_put b rows name (record { working = w; births = [] }) rising, same)

  -- a value without births
  pub plain_then : (births_of_working w ≡ []) → AreCounted after left before
  plain_then none = record {
    numbers = numbers_then;
    births = λ q row is.
        ⊎_elim (λ here. subst (IsCounted before q) here.1 (by_kind before q none)) (λ elsewhere. are.births q row elsewhere.1)
        (with_cases name_cmp nat_list_cmp_total exact rows name (record { working = w; births = [] }) q row (ap (λ m. get m q) (sym put) ∙ is));
  }
    where
      by_kind : (u : Uncounted) (q : List ℕ) → births_of_working w ≡ [] → IsCounted u q (record { working = w; births = [] })
      by_kind uncounted.None q none = sym none
      by_kind (uncounted.Row other) q none = elim (is_same_name q other) as (λ t. [] ≡ cond t [] (births_of_working w)) [ true ↦ refl | false ↦ sym none ]
      by_kind uncounted.Any q none = tt

  -- any value
  pub any_then : AreCounted after left uncounted.Any
  any_then = record { numbers = numbers_then; births = λ q row is. tt }

  -- a value that is counted later, where all others are counted
  pub later_then : before ≡ uncounted.None → AreCounted after left (uncounted.Row name)
  later_then none = record {
    numbers = numbers_then;
    births = λ q row is.
        ⊎_elim
        (λ here. subst (IsCounted (uncounted.Row name) q) here.1 (sym (ap (λ t. cond t [] (births_of_working w)) (ap (λ n. is_same_name n name) here.0 ∙ own_key name_cmp nat_list_cmp_total exact name))))
        (λ elsewhere. subst (λ (u : Uncounted). IsCounted u q row) none (are.births q row elsewhere.1) ∙ sym (ap (λ t. cond t [] (births_of_working row.working)) elsewhere.0))
        (with_cases name_cmp nat_list_cmp_total exact rows name (record { working = w; births = [] }) q row (ap (λ m. get m q) (sym put) ∙ is));
  }

  -- a value that is plain, or any
  pub value_then : (plain : Bool) → (plain ≡ true → births_of_working w ≡ []) → AreCounted after left (cond plain before uncounted.Any)
  value_then true none = plain_then (none refl)
  value_then false none = any_then

  -- the row is one more that isn't counted
  pub row_then : AreCounted after left (uncounted_with before name)
  row_then = by_kind before refl
    where
      by_kind : (u : Uncounted) → before ≡ u → AreCounted after left (uncounted_with u name)
      by_kind uncounted.None is = later_then is
      by_kind (uncounted.Row other) is = any_then
      by_kind uncounted.Any is = any_then

-- the row that wasn't counted is counted now
pub counted_now : (rows after : NameMap WorkingRow) (counts more : Counts) (name : List ℕ) (row : WorkingRow) → IsStrictlySortedBy name_cmp (keys_of rows) → AreCounted rows counts (uncounted.Row name) → get rows name ≡ Some row
    → ((b : ℕ) → count_at more b ≡ count_at counts b + times b (births_of_working row.working)) → after ≡ with_entry rows name (record { working = row.working; births = births_of_working row.working }) → AreCounted after more uncounted.None
counted_now rows after counts more name row rising are there raised put =
    let new : WorkingRow = record { working = row.working; births = births_of_working row.working } in
    let none : row.births ≡ [] = are.births name row there ∙ ap (λ t. cond t [] (births_of_working row.working)) (own_key name_cmp nat_list_cmp_total exact name) in
    record {
      numbers = λ b.
          let own : times b (births_at rows name) ≡ 0 = ap (λ (found : Option WorkingRow). times b (option_map_or (λ r. r.births) found [])) there ∙ ap (times b) none in
          let same = ap (λ m. times b (counted_births m)) put in
          omega (arith, raised b, are.numbers b, counted_without b rows name, own, counted_put b rows name new rising, same);
      births = λ q r is.
          ⊎_elim (λ here. subst (IsCounted uncounted.None q) here.1 refl)
          (λ elsewhere. are.births q r elsewhere.1 ∙ ap (λ t. cond t [] (births_of_working r.working)) elsewhere.0)
          (with_cases name_cmp nat_list_cmp_total exact rows name new q r (ap (λ m. get m q) (sym put) ∙ is));
    }

-- rows that changes make of none
pub changes_counted : (changes : List (List ℕ × Option Value)) (rows : NameMap WorkingRow) (counts : Counts) → rows ≡ map counted_change changes → AreNumbers counts (counted_births rows) → AreCounted rows counts uncounted.None
changes_counted changes rows counts is are = record { numbers = are; births = λ q row found. every changes q row (ap (λ m. get m q) (sym is) ∙ found) }
  where
    some : (x y : WorkingRow) → ◌≡◌ {A = Option WorkingRow} (Some x) (Some y) → x ≡ y
    some x y e = cc

    every : (changes : List (List ℕ × Option Value)) (q : List ℕ) (row : WorkingRow) → get (map counted_change changes) q ≡ Some row → row.births ≡ births_of_working row.working
    every [] q row found = absurd cc
    every (change ∷ changes) q row found =
        elim (is_same_name q change.0) as (λ t. cond t (Some (counted_change change).1) (get (map counted_change changes) q) ≡ Some row → row.births ≡ births_of_working row.working) [
          | true ↦ λ here. subst (λ (r : WorkingRow). r.births ≡ births_of_working r.working) (some (counted_change change).1 row here) refl
          | false ↦ λ later. every changes q row later
        ] found

pub keys_changed : (changes : List (List ℕ × Option Value)) → keys_of (map counted_change changes) ≡ keys_of changes
keys_changed [] = refl
keys_changed (change ∷ changes) = ap (λ (names : List (List ℕ)). change.0 ∷ names) (keys_changed changes)

pub workings_changed : (changes : List (List ℕ × Option Value)) → workings (map counted_change changes) ≡ map {B = List ℕ × Working} (λ change. (change.0, own_value change.1)) changes
workings_changed [] = refl
workings_changed (change ∷ changes) = ap (λ (rows : NameMap Working). (change.0, own_value change.1) ∷ rows) (workings_changed changes)

-- ---- the room for a row
some_same : (found : Option WorkingRow) → is_some (option_map (λ (row : WorkingRow). row.working) found) ≡ is_some found
some_same None = refl
some_same (Some row) = refl

pub added_same : (rows : NameMap WorkingRow) (name : List ℕ) → added_at name_cmp (workings rows) name ≡ added_at name_cmp rows name
added_same rows name = ap (λ t. cond t 0 1) (ap is_some (get-values (λ (row : WorkingRow). row.working) rows name) ∙ some_same (get rows name))

pub some_row : (rows : NameMap WorkingRow) (name : List ℕ) → IsSome (get (workings rows) name) → IsSome (get rows name)
some_row rows name some = go (get rows name) (subst IsSome (get-values (λ (row : WorkingRow). row.working) rows name) some)
  where
    go : (found : Option WorkingRow) → IsSome (option_map (λ (row : WorkingRow). row.working) found) → IsSome found
    go None is = absurd cc
    go (Some row) is = refl

-- a row with the same working value
pub same_workings : (rows : NameMap WorkingRow) (name : List ℕ) (row new : WorkingRow) → IsStrictlySortedBy name_cmp (keys_of rows) → get rows name ≡ Some row → new.working ≡ row.working → workings (with_entry rows name new) ≡ workings rows
same_workings rows name row new rising there same =
    values-with name_cmp (λ (r : WorkingRow). r.working) rows name new
    ∙ ap (with_entry (workings rows) name) same
    ∙ with_same name_cmp nat_list_cmp_total exact (workings rows) name row.working (sorted-values name_cmp (λ (r : WorkingRow). r.working) rows (sorted_from_ordered name_cmp rows rising))
    (get-values (λ (r : WorkingRow). r.working) rows name ∙ ap (option_map (λ (r : WorkingRow). r.working)) there)
