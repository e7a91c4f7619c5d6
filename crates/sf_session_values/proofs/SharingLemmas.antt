-- What rows have by their working values, and what a change of a locator or of a row leaves of it.
use Rattle.std.proofs.Common.{◌≡◌, ℕ, true, false, cond, List, [], ◌∷◌, Option, Some, None, ⊎_elim, refl, sym, ap, subst, ◌∙◌}
use Rattle.std.specs.Prelude.{T}
use Rattle.std.specs.Option.{option_map, option_map_or}
use Rattle.std.specs.Map.{keys_of}
use Rattle.std.specs.List.Sorted.{IsStrictlySortedBy}
use Rattle.std.specs.Cmp.Lexicographic.{nat_list_cmp_total}
use Rattle.std.specs.FinMap.{IsAntisymmetric, nat_cmp-IsAntisymmetric, slice_cmp-IsAntisymmetric}
use Rattle.std.specs.FinMap.Entries as fin
use Rattle.sf_types.specs.Values.Names.{name_cmp}
use Rattle.sf_types.specs.Values.Marks.{Value}
use Rattle.sf_types.specs.Inside.NameMaps.{NameMap, is_same_name, get, with_entry, without_entry}
use Rattle.sf_types.specs.Table.Parts.{Locator, Rows}
use Rattle.sf_types.proofs.NameMapLemmas.{sorted_from_ordered}
use Rattle.sf_room_map.proofs.EntryLemmas.{value_for-with, sorted_with, same_values, own_key, same_key, other_key, not_own, with_here, with_other, without_other, with_cases, values-with, sorted-values, rising_from_sorted}
use Rattle.sf_session_values.specs.Values.{ValuesView}
use Rattle.sf_session_values.specs.declared.working.Working.{Working}
use Rattle.sf_session_values.specs.declared.working.Working.TheVariants as working
use Rattle.sf_session_values.specs.Inside.Sharing.{value_by, rows_by, AreShared, NoneShared, own_value, is_through, is_row_value}

exact : IsAntisymmetric name_cmp
exact = slice_cmp-IsAntisymmetric nat_cmp-IsAntisymmetric

same : (q k : List ℕ) → is_same_name q k ≡ true → q ≡ k
same q k is = same_key name_cmp nat_list_cmp_total exact q k is

other : (q k : List ℕ) → (q ≡ k → ⊥) → is_same_name q k ≡ false
other q k apart = other_key name_cmp nat_list_cmp_total exact q k apart

some : {X : Type 0} (x y : X) → ◌≡◌ {A = Option X} (Some x) (Some y) → x ≡ y
some x y is = cc

-- two views with the same parts are the same
abbrev view_of : Rows → NameMap Locator → ValuesView
view_of working locators = record { working = working; locators = locators }

pub same_view : (v w : Rows) (ls ms : NameMap Locator) → v ≡ w → ls ≡ ms → view_of v ls ≡ view_of w ms
same_view v w ls ms rows locators = ap (λ x. view_of x ls) rows ∙ ap (view_of w) locators

-- what a row has by its working value
pub get-rows : (ls : NameMap Locator) (rows : NameMap Working) (q : List ℕ) → get (rows_by ls rows) q ≡ option_map (value_by ls) (get rows q)
get-rows ls [] q = refl
get-rows ls (e ∷ rows) q =
    elim (is_same_name q e.0) as (λ b. cond b (Some (value_by ls e.1)) (get (rows_by ls rows) q) ≡ option_map (value_by ls) (cond b (Some e.1) (get rows q))) [
      | true ↦ refl
      | false ↦ get-rows ls rows q
    ]

sorted_rows : (ls : NameMap Locator) (rows : NameMap Working) → IsStrictlySortedBy name_cmp (keys_of rows) → T (fin.is_sorted name_cmp (rows_by ls rows))
sorted_rows ls rows rising = sorted-values name_cmp (value_by ls) rows (sorted_from_ordered name_cmp rows rising)

pub rising_rows : (ls : NameMap Locator) (rows : NameMap Working) → IsStrictlySortedBy name_cmp (keys_of rows) → IsStrictlySortedBy name_cmp (keys_of (rows_by ls rows))
rising_rows ls rows rising = rising_from_sorted name_cmp (rows_by ls rows) (sorted_rows ls rows rising)

-- rows that have the same at each name are the same
same_rows : (ls ms : NameMap Locator) (rows others : NameMap Working) → T (fin.is_sorted name_cmp rows) → T (fin.is_sorted name_cmp others) → ((q : List ℕ) → option_map (value_by ls) (get rows q) ≡ option_map (value_by ms) (get others q)) → rows_by ls rows ≡ rows_by ms others
same_rows ls ms rows others sorted sorted_others alike =
    same_values name_cmp nat_list_cmp_total exact (rows_by ls rows) (rows_by ms others)
    (sorted-values name_cmp (value_by ls) rows sorted) (sorted-values name_cmp (value_by ms) others sorted_others)
    (λ q. get-rows ls rows q ∙ alike q ∙ sym (get-rows ms others q))

-- a row that is given a value of its own
pub rows_set : (ls : NameMap Locator) (rows : NameMap Working) (row : List ℕ) (value : Option Value) → rows_by ls (with_entry rows row (own_value value)) ≡ with_entry (rows_by ls rows) row value
rows_set ls rows row None = values-with name_cmp (value_by ls) rows row working.Absent
rows_set ls rows row (Some value) = values-with name_cmp (value_by ls) rows row (working.Own value)

pub shared_set : (ls : NameMap Locator) (rows : NameMap Working) (row : List ℕ) (value : Option Value) → AreShared ls rows → AreShared ls (with_entry rows row (own_value value))
shared_set ls rows row value shared = record {
  stands = λ q at is.
      ⊎_elim (λ here. absurd (is_own value at here.1)) (λ elsewhere. shared.stands q at elsewhere.1)
      (with_cases name_cmp nat_list_cmp_total exact rows row (own_value value) q (working.Through at) is);
}
  where
    is_own : (value : Option Value) (at : List ℕ) → own_value value ≡ working.Through at → ⊥
    is_own None at is = cc
    is_own (Some v) at is = cc

-- no row's working value is the locator's
abbrev Apart : NameMap Working → List ℕ → Type 0
Apart rows at = (row name : List ℕ) → get rows row ≡ Some (working.Through name) → is_same_name name at ≡ false

abbrev AlikeBeside : NameMap Locator → NameMap Locator → List ℕ → Type 0
AlikeBeside ls ms at = (q : List ℕ) → is_same_name q at ≡ false → get ms q ≡ get ls q

apart-value : (ls ms : NameMap Locator) (at : List ℕ) (rows : NameMap Working) → AlikeBeside ls ms at → Apart rows at → (q : List ℕ) → option_map (value_by ms) (get rows q) ≡ option_map (value_by ls) (get rows q)
apart-value ls ms at rows alike apart q = by_found (get rows q) refl
  where
    by_found : (found : Option Working) → get rows q ≡ found → option_map (value_by ms) found ≡ option_map (value_by ls) found
    by_found None is = refl
    by_found (Some working.Absent) is = refl
    by_found (Some (working.Own v)) is = refl
    by_found (Some (working.Through name)) is = ap (λ x. Some (option_map (λ l. l.value) x)) (alike name (apart q name is))

apart-shared : (ls ms : NameMap Locator) (at : List ℕ) (rows : NameMap Working) → AlikeBeside ls ms at → Apart rows at → AreShared ls rows → AreShared ms rows
apart-shared ls ms at rows alike apart shared = record { stands = λ row name is. ap (λ x. option_map (λ l. l.row) x) (alike name (apart row name is)) ∙ shared.stands row name is }

pub alike_with : (ls ms : NameMap Locator) (at : List ℕ) (l : Locator) → ms ≡ with_entry ls at l → AlikeBeside ls ms at
alike_with ls ms at l is q apart = ap (λ m. get m q) is ∙ with_other name_cmp nat_list_cmp_total exact ls at l q apart

pub alike_without : (ls ms : NameMap Locator) (at : List ℕ) → IsStrictlySortedBy name_cmp (keys_of ls) → ms ≡ without_entry ls at → AlikeBeside ls ms at
alike_without ls ms at rising is q apart = ap (λ m. get m q) is ∙ without_other name_cmp nat_list_cmp_total exact ls at q (sorted_from_ordered name_cmp ls rising) apart

pub not_row_value : (ls : NameMap Locator) (rows : NameMap Working) (at : List ℕ) → get ls at ≡ None → is_row_value ls rows at ≡ false
not_row_value ls rows at none = ap (λ x. option_map_or (λ l. option_map_or (is_through at) (get rows l.row) false) x false) none

-- a locator that keeps no row's value
not_kept : (ls : NameMap Locator) (rows : NameMap Working) (at : List ℕ) → AreShared ls rows → is_row_value ls rows at ≡ false → Apart rows at
not_kept ls rows at shared not_row row name is =
    other name at (λ one. by_found (get ls at) refl (subst (λ x. option_map (λ l. l.row) (get ls x) ≡ Some row) one (shared.stands row name is)) one)
  where
    by_found : (found : Option Locator) → get ls at ≡ found → option_map (λ l. l.row) found ≡ Some row → name ≡ at → ⊥
    by_found None there rowed one = cc
    by_found (Some l) there rowed one =
        let here : get rows l.row ≡ Some (working.Through name) = ap (get rows) (some l.row row rowed) ∙ is in
        let is_so : is_row_value ls rows at ≡ true =
        ap (λ x. option_map_or (λ l. option_map_or (is_through at) (get rows l.row) false) x false) there
        ∙ ap (λ x. option_map_or (is_through at) x false) here
        ∙ ap (is_same_name at) one ∙ own_key name_cmp nat_list_cmp_total exact at in
        let bad : true ≡ false = sym is_so ∙ not_row in cc

-- a locator that keeps its row's value gives it back
module _ (ls : NameMap Locator) (rows : NameMap Working) (at : List ℕ) (l : Locator) (shared : AreShared ls rows) (there : get ls at ≡ Some l) (is_row : is_row_value ls rows at ≡ true) where
  abbrev back : NameMap Working
  back = with_entry rows l.row (working.Own l.value)

  back-value : (q : List ℕ) → option_map (value_by ls) (get back q) ≡ option_map (value_by ls) (get rows q)
  back-value q =
      ap (option_map (value_by ls)) (value_for-with name_cmp nat_list_cmp_total rows l.row (working.Own l.value) q)
      ∙ elim (is_same_name q l.row) as (λ b. is_same_name q l.row ≡ b → option_map (value_by ls) (cond b (Some (working.Own l.value)) (get rows q)) ≡ option_map (value_by ls) (get rows q)) [
        | true ↦ λ tie. sym (ap (λ x. option_map (value_by ls) (get rows x)) (same q l.row tie) ∙ by_found (get rows l.row) (sym (ap (λ x. option_map_or (λ l. option_map_or (is_through at) (get rows l.row) false) x false) there) ∙ is_row))
        | false ↦ λ _. refl
      ] refl
    where
      by_found : (found : Option Working) → option_map_or (is_through at) found false ≡ true → option_map (value_by ls) found ≡ Some (Some l.value)
      by_found None is_so = absurd cc
      by_found (Some working.Absent) is_so = absurd cc
      by_found (Some (working.Own v)) is_so = absurd cc
      by_found (Some (working.Through name)) is_so = ap (λ x. Some (option_map (λ l. l.value) (get ls x))) (sym (same at name is_so)) ∙ ap (λ x. Some (option_map (λ l. l.value) x)) there

  back-apart : Apart back at
  back-apart row name is =
      ⊎_elim (λ here. absurd (own_is_not here.1))
      (λ elsewhere. other name at (λ one.
      not_own name_cmp nat_list_cmp_total exact row l.row elsewhere.0
      (sym (some l.row row (sym (ap (λ x. option_map (λ l. l.row) x) there) ∙ ap (λ x. option_map (λ l. l.row) (get ls x)) (sym one) ∙ shared.stands row name elsewhere.1)))))
      (with_cases name_cmp nat_list_cmp_total exact rows l.row (working.Own l.value) row (working.Through name) is)
    where
      own_is_not : working.Own l.value ≡ working.Through name → ⊥
      own_is_not is = cc

  back-shared : AreShared ls back
  back-shared = shared_set ls rows l.row (Some l.value) shared

-- What another locator in the place of one, or none, leaves of the rows.
pub taken-rows : (ls ms : NameMap Locator) (rows : NameMap Working) (at : List ℕ) (l : Locator) → AreShared ls rows → IsStrictlySortedBy name_cmp (keys_of rows) → get ls at ≡ Some l → is_row_value ls rows at ≡ true
    → ((q : List ℕ) → is_same_name q at ≡ false → get ms q ≡ get ls q)
    → rows_by ms (with_entry rows l.row (working.Own l.value)) ≡ rows_by ls rows
taken-rows ls ms rows at l shared rising there is_row alike =
    let sorted = sorted_from_ordered name_cmp rows rising in
    same_rows ms ls (back ls rows at l shared there is_row) rows (sorted_with name_cmp nat_list_cmp_total rows l.row (working.Own l.value) sorted) sorted
    (λ q. apart-value ls ms at (back ls rows at l shared there is_row) alike (back-apart ls rows at l shared there is_row) q ∙ back-value ls rows at l shared there is_row q)

pub taken-shared : (ls ms : NameMap Locator) (rows : NameMap Working) (at : List ℕ) (l : Locator) → AreShared ls rows → get ls at ≡ Some l → is_row_value ls rows at ≡ true
    → ((q : List ℕ) → is_same_name q at ≡ false → get ms q ≡ get ls q)
    → AreShared ms (with_entry rows l.row (working.Own l.value))
taken-shared ls ms rows at l shared there is_row alike =
    apart-shared ls ms at (back ls rows at l shared there is_row) alike (back-apart ls rows at l shared there is_row) (back-shared ls rows at l shared there is_row)

pub left-rows : (ls ms : NameMap Locator) (rows : NameMap Working) (at : List ℕ) → AreShared ls rows → IsStrictlySortedBy name_cmp (keys_of rows) → is_row_value ls rows at ≡ false
    → ((q : List ℕ) → is_same_name q at ≡ false → get ms q ≡ get ls q)
    → rows_by ms rows ≡ rows_by ls rows
left-rows ls ms rows at shared rising not_row alike =
    let sorted = sorted_from_ordered name_cmp rows rising in
    same_rows ms ls rows rows sorted sorted (apart-value ls ms at rows alike (not_kept ls rows at shared not_row))

pub left-shared : (ls ms : NameMap Locator) (rows : NameMap Working) (at : List ℕ) → AreShared ls rows → is_row_value ls rows at ≡ false
    → ((q : List ℕ) → is_same_name q at ≡ false → get ms q ≡ get ls q)
    → AreShared ms rows
left-shared ls ms rows at shared not_row alike = apart-shared ls ms at rows alike (not_kept ls rows at shared not_row) shared

-- What a write through a locator leaves.
module _ (ls : NameMap Locator) (rows : NameMap Working) (at row : List ℕ) (l n : Locator) (shared : AreShared ls rows) (there : get ls at ≡ Some l) (own_row : l.row ≡ row) (same_row : n.row ≡ l.row) where
  others : (q name : List ℕ) → is_same_name q row ≡ false → get rows q ≡ Some (working.Through name) → is_same_name name at ≡ false
  others q name apart is = other name at (λ one.
      not_own name_cmp nat_list_cmp_total exact q row apart
      (some q row (sym (shared.stands q name is) ∙ ap (λ x. option_map (λ l. l.row) (get ls x)) one ∙ ap (λ x. option_map (λ l. l.row) x) there ∙ ap Some own_row)))

  pub written-shared : AreShared (with_entry ls at n) (with_entry rows row (working.Through at))
  written-shared = record {
    stands = λ q name is.
        ⊎_elim
        (λ here. ap (λ x. option_map (λ l. l.row) (get (with_entry ls at n) x)) (sym (through at name here.1))
        ∙ ap (λ x. option_map (λ l. l.row) x) (with_here name_cmp nat_list_cmp_total exact ls at n)
        ∙ ap Some (same_row ∙ own_row ∙ sym here.0))
        (λ elsewhere. ap (λ x. option_map (λ l. l.row) x) (with_other name_cmp nat_list_cmp_total exact ls at n name (others q name elsewhere.0 elsewhere.1)) ∙ shared.stands q name elsewhere.1)
        (with_cases name_cmp nat_list_cmp_total exact rows row (working.Through at) q (working.Through name) is);
  }
    where
      through : (a b : List ℕ) → working.Through a ≡ working.Through b → a ≡ b
      through a b is = cc

  pub written-rows : IsStrictlySortedBy name_cmp (keys_of rows) → rows_by (with_entry ls at n) (with_entry rows row (working.Through at)) ≡ with_entry (rows_by ls rows) row (Some n.value)
  written-rows rising =
      let ms = with_entry ls at n in
      let sorted = sorted_from_ordered name_cmp rows rising in
      same_values name_cmp nat_list_cmp_total exact (rows_by ms (with_entry rows row (working.Through at))) (with_entry (rows_by ls rows) row (Some n.value))
      (sorted-values name_cmp (value_by ms) (with_entry rows row (working.Through at)) (sorted_with name_cmp nat_list_cmp_total rows row (working.Through at) sorted))
      (sorted_with name_cmp nat_list_cmp_total (rows_by ls rows) row (Some n.value) (sorted_rows ls rows rising))
      (λ q. get-rows ms (with_entry rows row (working.Through at)) q
      ∙ ap (option_map (value_by ms)) (value_for-with name_cmp nat_list_cmp_total rows row (working.Through at) q)
      ∙ elim (is_same_name q row) as (λ b. is_same_name q row ≡ b → option_map (value_by ms) (cond b (Some (working.Through at)) (get rows q)) ≡ cond b (Some (Some n.value)) (get (rows_by ls rows) q)) [
        | true ↦ λ _. ap (λ x. Some (option_map (λ l. l.value) x)) (with_here name_cmp nat_list_cmp_total exact ls at n)
        | false ↦ λ apart. by_found q apart (get rows q) refl ∙ sym (get-rows ls rows q)
      ] refl
      ∙ sym (value_for-with name_cmp nat_list_cmp_total (rows_by ls rows) row (Some n.value) q))
    where
      by_found : (q : List ℕ) → is_same_name q row ≡ false → (found : Option Working) → get rows q ≡ found → option_map (value_by (with_entry ls at n)) found ≡ option_map (value_by ls) (get rows q)
      by_found q apart None is = sym (ap (option_map (value_by ls)) is)
      by_found q apart (Some working.Absent) is = sym (ap (option_map (value_by ls)) is)
      by_found q apart (Some (working.Own v)) is = sym (ap (option_map (value_by ls)) is)
      by_found q apart (Some (working.Through name)) is =
          ap (λ x. Some (option_map (λ l. l.value) x)) (with_other name_cmp nat_list_cmp_total exact ls at n name (others q name apart is))
          ∙ sym (ap (option_map (value_by ls)) is)

-- Rows with values of their own are the same by any locators.
pub unshared-rows : (ms : NameMap Locator) (rows : NameMap Working) → NoneShared rows → IsStrictlySortedBy name_cmp (keys_of rows) → rows_by ms rows ≡ rows_by [] rows
unshared-rows ms rows none rising =
    let sorted = sorted_from_ordered name_cmp rows rising in
    same_rows ms [] rows rows sorted sorted (λ q. by_found q (get rows q) refl)
  where
    by_found : (q : List ℕ) (found : Option Working) → get rows q ≡ found → option_map (value_by ms) found ≡ option_map (value_by []) found
    by_found q None is = refl
    by_found q (Some working.Absent) is = refl
    by_found q (Some (working.Own v)) is = refl
    by_found q (Some (working.Through name)) is = absurd (none.own q name is)

pub unshared-shared : (ms : NameMap Locator) (rows : NameMap Working) → NoneShared rows → AreShared ms rows
unshared-shared ms rows none = record { stands = λ q at is. absurd (none.own q at is) }
