-- The births of rows and locators but one of each, by those of rows' own values.
use Rattle.std.proofs.Common.{◌≡◌, ℕ, Bool, true, false, cond, List, [], ◌∷◌, ◌++◌, Option, Some, None, refl, sym, ap, subst, ◌∙◌}
use Rattle.std.specs.Prelude.{Contains, T, flat_map}
use Rattle.std.specs.List.{AllByRecursion as Each}
use Rattle.std.specs.Map.{keys_of}
use Rattle.std.specs.List.Sorted.{IsStrictlySortedBy}
use Rattle.std.specs.Option.{option_map, option_map_or}
use Rattle.std.specs.Cmp.Lexicographic.{nat_list_cmp_total}
use Rattle.std.specs.FinMap.{IsAntisymmetric, nat_cmp-IsAntisymmetric, slice_cmp-IsAntisymmetric}
use Rattle.std.specs.FinMap.Entries as fin
use Rattle.sf_types.specs.Inside.Births.{rising_births}
use Rattle.sf_types.specs.Inside.NameMaps.{NameMap, is_same_name, get, without_entry}
use Rattle.sf_types.specs.Table.Parts.{Locator, Rows}
use Rattle.sf_types.specs.Values.Marks.{Value, births_in}
use Rattle.sf_types.specs.Values.Names.{name_cmp}
use Rattle.sf_types.proofs.BoolLemmas.{second}
use Rattle.sf_types.proofs.NameMapLemmas.{sorted_from_ordered}
use Rattle.sf_laws.proofs.EachLemmas.{each_itself, each-append, each_left, each_right}
use Rattle.sf_laws.proofs.ReachLemmas.{each-rising, each_from_rising}
use Rattle.sf_laws.proofs.SessionBirthLemmas.{same_rising}
use Rattle.sf_laws.proofs.SumLemmas.{rising_rises}
use Rattle.sf_room_map.proofs.EntryLemmas.{later_found, other_key, own_found, same_key, not_own, sorted-values, sorted_without, values-without, without_cases, without_other}
use Rattle.sf_session_values.specs.Values.{ValuesView}
use Rattle.sf_session_values.specs.ValueBirths.{rows_beside, locators_beside, births_of_rows, births_of_locators}
use Rattle.sf_session_values.specs.declared.working.Working.{Working}
use Rattle.sf_session_values.specs.declared.working.Working.TheVariants as working
use Rattle.sf_session_values.specs.Inside.EntryBirths.{births_of_row_through, births_of_value, is_left_out}
use Rattle.sf_session_values.specs.Inside.Sharing.{AreShared, rows_by, value_by}
use Rattle.sf_session_values.specs.Inside.Counting.{births_of_own_rows, births_of_working, workings_beside}
use Rattle.sf_session_values.proofs.EntryBirthLemmas.{locator_by_locator, row_by_row}
use Rattle.sf_session_values.proofs.SharingLemmas.{get-rows}

exact : IsAntisymmetric name_cmp
exact = slice_cmp-IsAntisymmetric nat_cmp-IsAntisymmetric

some : {X : Type 0} (x y : X) → ◌≡◌ {A = Option X} (Some x) (Some y) → x ≡ y
some x y is = cc

-- ---- what holds of all births that the entries of a map have
each_got : {X : Type 0} (P : ℕ → Type 0) (f : X → List ℕ) (m : NameMap X) → Each P (flat_map (λ (e : List ℕ × X). f e.1) m) → (q : List ℕ) (x : X) → get m q ≡ Some x → Each P (f x)
each_got P f [] all q x is = absurd cc
each_got {X = X} P f (e ∷ m) all q x is =
    let rest = flat_map (λ (e : List ℕ × X). f e.1) m in
    elim (is_same_name q e.0) as (λ b. cond b (Some e.1) (get m q) ≡ Some x → Each P (f x)) [
      | true ↦ λ here. subst (λ y. Each P (f y)) (some e.1 x here) (each_left P (f e.1) rest all)
      | false ↦ λ later. each_got P f m (each_right P (f e.1) rest all) q x later
    ] is

each_of_gets : {X : Type 0} (P : ℕ → Type 0) (f : X → List ℕ) (m : NameMap X) → T (fin.is_sorted name_cmp m) → ((q : List ℕ) (x : X) → get m q ≡ Some x → Each P (f x)) → Each P (flat_map (λ (e : List ℕ × X). f e.1) m)
each_of_gets P f [] sorted all = tt
each_of_gets {X = X} P f (e ∷ m) sorted all =
    each-append P (f e.1) (flat_map (λ (x : List ℕ × X). f x.1) m) (all e.0 e.1 (own_found name_cmp nat_list_cmp_total exact e m))
    (each_of_gets P f m (tail e m sorted) (λ q x is. all q x (later_found name_cmp nat_list_cmp_total exact e m q x sorted is)))
  where
    tail : (e : List ℕ × X) (m : NameMap X) → T (fin.is_sorted name_cmp (e ∷ m)) → T (fin.is_sorted name_cmp m)
    tail e m sorted = second (fin.below_all name_cmp e.0 m) (fin.is_sorted name_cmp m) sorted

module _ (ls : NameMap Locator) (rows : NameMap Working) (shared : AreShared ls rows) (rising : IsStrictlySortedBy name_cmp (keys_of rows)) (rising_ls : IsStrictlySortedBy name_cmp (keys_of ls)) (row at : Option (List ℕ)) where
  abbrev rest : NameMap Working
  rest = workings_beside row rows

  abbrev values : Rows
  values = rows_beside row (rows_by ls rows)

  abbrev view : ValuesView
  view = record { working = rows_by ls rows; locators = ls }

  sorted : T (fin.is_sorted name_cmp rows)
  sorted = sorted_from_ordered name_cmp rows rising

  sorted_rest : (row : Option (List ℕ)) → T (fin.is_sorted name_cmp (workings_beside row rows))
  sorted_rest None = sorted
  sorted_rest (Some name) = sorted_without name_cmp nat_list_cmp_total name rows sorted

  values_are : (row : Option (List ℕ)) → rows_beside row (rows_by ls rows) ≡ rows_by ls (workings_beside row rows)
  values_are None = refl
  values_are (Some name) = sym (values-without name_cmp (value_by ls) rows name)

  sorted_values : T (fin.is_sorted name_cmp values)
  sorted_values = subst (λ (m : Rows). T (fin.is_sorted name_cmp m)) (sym (values_are row)) (sorted-values name_cmp (value_by ls) rest (sorted_rest row))

  get_value : (q : List ℕ) → get values q ≡ option_map (value_by ls) (get rest q)
  get_value q = ap (λ (m : Rows). get m q) (values_are row) ∙ get-rows ls rest q

  -- a row that isn't left out
  stays : (row : Option (List ℕ)) (q : List ℕ) (w : Working) → get (workings_beside row rows) q ≡ Some w → (get rows q ≡ Some w) × (is_left_out row q ≡ false)
  stays None q w is = (is, refl)
  stays (Some name) q w is =
      let cases = without_cases name_cmp nat_list_cmp_total exact rows name q w sorted is in
      (cases.1, other_key name_cmp nat_list_cmp_total exact name q (λ same. not_own name_cmp nat_list_cmp_total exact q name cases.0 (sym same)))

  kept : (row : Option (List ℕ)) (q : List ℕ) → is_left_out row q ≡ false → get (workings_beside row rows) q ≡ get rows q
  kept None q other = refl
  kept (Some name) q other =
      without_other name_cmp nat_list_cmp_total exact rows name q sorted
      (other_key name_cmp nat_list_cmp_total exact q name (λ same. not_own name_cmp nat_list_cmp_total exact name q other (sym same)))

  -- what holds of the births of all values holds of those of own values, and of the row's through the locator
  own_of : (P : ℕ → Type 0) → Each P (births_of_rows values) → Each P (rising_births (births_of_own_rows rest))
  own_of P all =
      each-rising P (births_of_own_rows rest) (each_of_gets P births_of_working rest (sorted_rest row) (λ q w is. of_working q w is))
    where
      of_working : (q : List ℕ) (w : Working) → get rest q ≡ Some w → Each P (births_of_working w)
      of_working q working.Absent is = tt
      of_working q (working.Own v) is = each_got P births_of_value values (subst (Each P) (row_by_row values) all) q (Some v) (get_value q ∙ ap (option_map (value_by ls)) is)
      of_working q (working.Through a) is = tt

  through_of : (P : ℕ → Type 0) (a : List ℕ) → Each P (births_of_rows values) → Each P (births_of_row_through view row a)
  through_of P a all = of_locator (get ls a)
    where
      of_value : (l : Locator) (found : Option (Option Value)) → get (rows_by ls rows) l.row ≡ found → is_left_out row l.row ≡ false → Each P (option_map_or births_of_value found [])
      of_value l None is other = tt
      of_value l (Some x) is other =
          each_got P births_of_value values (subst (Each P) (row_by_row values) all) l.row x (get_value l.row ∙ ap (option_map (value_by ls)) (kept row l.row other) ∙ sym (get-rows ls rows l.row) ∙ is)

      of_row : (l : Locator) (b : Bool) → is_left_out row l.row ≡ b → Each P (cond b [] (option_map_or births_of_value (get (rows_by ls rows) l.row) []))
      of_row l true out = tt
      of_row l false other = of_value l (get (rows_by ls rows) l.row) refl other

      of_locator : (found : Option Locator) → Each P (option_map_or (λ l. cond (is_left_out row l.row) [] (option_map_or births_of_value (get (rows_by ls rows) l.row) [])) found [])
      of_locator None = tt
      of_locator (Some l) = of_row l (is_left_out row l.row) refl

  -- and back
  values_of : (P : ℕ → Type 0) → Each P (rising_births (births_of_own_rows rest)) → Each P (option_map_or (births_of_row_through view row) at []) → Each P (births_of_locators (locators_beside at ls)) → Each P (births_of_rows values)
  values_of P own through located =
      subst (Each P) (sym (row_by_row values)) (each_of_gets P births_of_value values sorted_values (λ q x is. of_row q x (get rest q) refl (sym (get_value q) ∙ is)))
    where
      by_locators : (L : NameMap Locator) → Each P (births_of_locators L) → (a : List ℕ) (l : Locator) → get L a ≡ Some l → Each P (births_in l.value)
      by_locators L all a l there = each_got P (λ (x : Locator). births_in x.value) L (subst (Each P) (locator_by_locator L) all) a l there

      of_shared : (a : List ℕ) (q : List ℕ) (l : Locator) → get rest q ≡ Some (working.Through a) → get ls a ≡ Some l → Each P (births_of_row_through view row a) → Each P (births_in l.value)
      of_shared a q l is there all =
          let standing = stays row q (working.Through a) is in
          let rowed : l.row ≡ q = some l.row q (sym (ap (λ o. option_map (λ x. x.row) o) there) ∙ shared.stands q a standing.0) in
          let value : get (rows_by ls rows) q ≡ Some (Some l.value) = get-rows ls rows q ∙ ap (option_map (value_by ls)) standing.0 ∙ ap (λ o. Some (option_map (λ (x : Locator). x.value) o)) there in
          let births : births_of_row_through view row a ≡ births_in l.value =
          ap (λ o. option_map_or (λ x. cond (is_left_out row x.row) [] (option_map_or births_of_value (get (rows_by ls rows) x.row) [])) o []) there
          ∙ ap (λ n. cond (is_left_out row n) [] (option_map_or births_of_value (get (rows_by ls rows) n) [])) rowed
          ∙ ap (λ b. cond b [] (option_map_or births_of_value (get (rows_by ls rows) q) [])) standing.1
          ∙ ap (λ o. option_map_or births_of_value o []) value in
          subst (Each P) births all

      by_name : (at : Option (List ℕ)) (a : List ℕ) (q : List ℕ) (l : Locator) → get rest q ≡ Some (working.Through a) → get ls a ≡ Some l
          → Each P (option_map_or (births_of_row_through view row) at []) → Each P (births_of_locators (locators_beside at ls)) → Each P (births_in l.value)
      by_name None a q l is there through located = by_locators ls located a l there
      by_name (Some b) a q l is there through located =
          elim (is_same_name a b) as (λ t. is_same_name a b ≡ t → Each P (births_in l.value)) [
            | true ↦ λ same. of_shared a q l is there (subst (λ n. Each P (births_of_row_through view row n)) (sym (same_key name_cmp nat_list_cmp_total exact a b same)) through)
            | false ↦ λ other. by_locators (without_entry ls b) located a l (without_other name_cmp nat_list_cmp_total exact ls b a (sorted_from_ordered name_cmp ls rising_ls) other ∙ there)
          ] refl

      of_through : (a q : List ℕ) (v : Value) (found : Option Locator) → get rest q ≡ Some (working.Through a) → get ls a ≡ found → option_map (λ (l : Locator). l.value) found ≡ Some v → Each P (births_in v)
      of_through a q v None is there has = absurd cc
      of_through a q v (Some l) is there has = subst (λ (x : Value). Each P (births_in x)) (some l.value v has) (by_name at a q l is there through located)

      of_value : (q : List ℕ) (x : Option Value) (w : Working) → get rest q ≡ Some w → value_by ls w ≡ x → Each P (births_of_value x)
      of_value q None w is has = tt
      of_value q (Some v) working.Absent is has = absurd cc
      of_value q (Some v) (working.Own u) is has =
          subst (λ (x : Value). Each P (births_in x)) (some u v has) (each_got P births_of_working rest (each_from_rising P (births_of_own_rows rest) own) q (working.Own u) is)
      of_value q (Some v) (working.Through a) is has = of_through a q v (get ls a) is refl has

      of_row : (q : List ℕ) (x : Option Value) (found : Option Working) → get rest q ≡ found → option_map (value_by ls) found ≡ Some x → Each P (births_of_value x)
      of_row q x None is has = absurd cc
      of_row q x (Some w) is has = of_value q x w is (some (value_by ls w) x has)

  -- So the births that are put together are the same.
  pub beside_same : (into own through : List ℕ) → own ≡ rising_births (births_of_own_rows rest) → through ≡ option_map_or (births_of_row_through view row) at []
      → rising_births (((into ++ own) ++ through) ++ births_of_locators (locators_beside at ls)) ≡ rising_births ((into ++ births_of_rows values) ++ births_of_locators (locators_beside at ls))
  beside_same into own through own_is through_is =
      let located = births_of_locators (locators_beside at ls) in
      let left = ((into ++ own) ++ through) ++ located in
      let right = (into ++ births_of_rows values) ++ located in
      same_rising (rising_births left) (rising_births right) (rising_rises left) (rising_rises right)
      (let P : ℕ → Type 0 = Contains (rising_births right) in
      let all = each_from_rising P right (each_itself (rising_births right)) in
      let front = each_left P (into ++ births_of_rows values) located all in
      let of = each_right P into (births_of_rows values) front in
      each-rising P left
      (each-append P ((into ++ own) ++ through) located
      (each-append P (into ++ own) through (each-append P into own (each_left P into (births_of_rows values) front) (subst (Each P) (sym own_is) (own_of P of))) (subst (Each P) (sym through_is) (at_of P at of)))
      (each_right P (into ++ births_of_rows values) located all)))
      (let P : ℕ → Type 0 = Contains (rising_births left) in
      let all = each_from_rising P left (each_itself (rising_births left)) in
      let front = each_left P ((into ++ own) ++ through) located all in
      let first = each_left P (into ++ own) through front in
      let last = each_right P ((into ++ own) ++ through) located all in
      each-rising P right
      (each-append P (into ++ births_of_rows values) located
      (each-append P into (births_of_rows values) (each_left P into own first)
      (values_of P (subst (Each P) own_is (each_right P into own first)) (subst (Each P) through_is (each_right P (into ++ own) through front)) last))
      last))
    where
      at_of : (P : ℕ → Type 0) (at : Option (List ℕ)) → Each P (births_of_rows values) → Each P (option_map_or (births_of_row_through view row) at [])
      at_of P None all = tt
      at_of P (Some a) all = through_of P a all
