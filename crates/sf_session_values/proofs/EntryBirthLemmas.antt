-- Births that are added entry by entry are those of all entries.
use Rattle.std.proofs.Common.{◌≡◌, ℕ, zero, suc, ◌+◌, ◌≤◌, true, false, cond, List, [], ◌∷◌, ◌++◌, length, drop, Option, Some, None, refl, sym, ap, subst, ◌∙◌, append_assoc, append-nil, add-one}
use Rattle.std.specs.Prelude.{flat_map, slice_get, if◌then◌else◌}
use Rattle.std.specs.List.{AllByRecursion as Each}
use Rattle.std.specs.Option.{option_map_or}
use Rattle.std.specs.Map.{keys_of}
use Rattle.std.specs.List.Sorted.{IsStrictlySortedBy}
use Rattle.std.specs.declared.cmp.Ordering.TheVariants.{Less}
use Rattle.std.proofs.lemmas.List.{drop_all}
use Rattle.sf_types.specs.Values.Names.{name_cmp}
use Rattle.sf_types.specs.Values.Marks.{births_in}
use Rattle.sf_types.specs.Inside.NameMaps.{NameMap, is_same_name, without_entry}
use Rattle.sf_types.specs.Table.Parts.{Locator, Rows}
use Rattle.sf_types.specs.Calls.Savepoints.{lost_locator, with_losses}
use Rattle.sf_types.proofs.NameMapLemmas.{same_name}
use Rattle.sf_session_values.specs.ValueBirths.{rows_beside, locators_beside, is_lost, births_of_rows, births_of_locators}
use Rattle.sf_session_values.specs.Inside.EntryBirths.{births_of_value, births_of_row, births_of_locator, births_kept}

rest_at : {X : Type 0} (f : X → List ℕ) (xs : List X) (k : ℕ) → flat_map f (drop k xs) ≡ option_map_or f (slice_get xs k) [] ++ flat_map f (drop (suc k) xs)
rest_at f [] zero = refl
rest_at f [] (suc k) = refl
rest_at f (x ∷ xs) zero = refl
rest_at f (x ∷ xs) (suc k) = rest_at f xs k

-- the births of the k-th entry were added to those before it
pub births_added : {X : Type 0} (f : X → List ℕ) (xs : List X) (k : ℕ) (before after all : List ℕ) → before ++ flat_map f (drop k xs) ≡ all → after ≡ before ++ option_map_or f (slice_get xs k) [] → after ++ flat_map f (drop (k + 1) xs) ≡ all
births_added f xs k before after all is added =
    let here = option_map_or f (slice_get xs k) [] in
    let later = flat_map f (drop (suc k) xs) in
    ap (λ j. after ++ flat_map f (drop j xs)) (add-one k)
    ∙ ap (λ bs. bs ++ later) added
    ∙ append_assoc before here later
    ∙ ap (λ bs. before ++ bs) (sym (rest_at f xs k))
    ∙ is

-- no entry is left
pub all_births_added : {X : Type 0} (f : X → List ℕ) (xs : List X) (k : ℕ) (added all : List ℕ) → added ++ flat_map f (drop k xs) ≡ all → length xs ≤ k → added ≡ all
all_births_added f xs k added all is most =
    sym (append-nil added) ∙ ap (λ ys. added ++ flat_map f ys) (sym (drop_all k xs most)) ∙ is

pub row_by_row : (rows : Rows) → births_of_rows rows ≡ flat_map (λ row. births_of_value row.1) rows
row_by_row [] = refl
row_by_row ((name, None) ∷ rows) = row_by_row rows
row_by_row ((name, Some value) ∷ rows) = ap (λ bs. births_in value ++ bs) (row_by_row rows)

pub locator_by_locator : (locators : NameMap Locator) → births_of_locators locators ≡ flat_map (λ locator. births_in locator.1.value) locators
locator_by_locator [] = refl
locator_by_locator (l ∷ locators) = ap (λ bs. births_in l.1.value ++ bs) (locator_by_locator locators)

not_there : {X : Type 0} (f : List ℕ × X → List ℕ) (name : List ℕ) (m : NameMap X) → Each (λ other. name_cmp name other ≡ Less) (keys_of m) → flat_map f m ≡ flat_map (λ e. if is_same_name name e.0 then [] else f e) m
not_there f name [] all = refl
not_there f name (e ∷ m) all = rw all.0 (ap (λ bs. f e ++ bs) (not_there f name m all.1))

left_out : {X : Type 0} (f : List ℕ × X → List ℕ) (name : List ℕ) (m : NameMap X) → IsStrictlySortedBy name_cmp (keys_of m) → flat_map f (without_entry m name) ≡ flat_map (λ e. if is_same_name name e.0 then [] else f e) m
unfolding IsStrictlySortedBy
left_out f name [] rising = refl
left_out {X = X} f name (e ∷ m) rising =
    let beside : List ℕ × X → List ℕ = λ x. if is_same_name name x.0 then [] else f x in
    elim (is_same_name name e.0) as (λ b. is_same_name name e.0 ≡ b → flat_map f (cond b m (e ∷ without_entry m name)) ≡ cond b [] (f e) ++ flat_map beside m) [
      | true ↦ λ same. not_there f name m (subst (λ n. Each (λ other. name_cmp n other ≡ Less) (keys_of m)) (sym (same_name name e.0 same)) rising.0)
      | false ↦ λ other. ap (λ bs. f e ++ bs) (left_out f name m rising.1)
    ] refl

-- the births of the rows but one, row by row
pub rows_beside-births : (except : Option (List ℕ)) (rows : Rows) → IsStrictlySortedBy name_cmp (keys_of rows) → births_of_rows (rows_beside except rows) ≡ flat_map (births_of_row except) rows
rows_beside-births None rows rising = row_by_row rows
rows_beside-births (Some name) rows rising = row_by_row (without_entry rows name) ∙ left_out (λ row. births_of_value row.1) name rows rising

-- the births of the locators but one, locator by locator
pub locators_beside-births : (except : Option (List ℕ)) (locators : NameMap Locator) → IsStrictlySortedBy name_cmp (keys_of locators) → births_of_locators (locators_beside except locators) ≡ flat_map (births_of_locator except) locators
locators_beside-births None locators rising = locator_by_locator locators
locators_beside-births (Some name) locators rising =
    locator_by_locator (without_entry locators name) ∙ left_out (λ locator. births_in locator.1.value) name locators rising

-- a lost locator has no births
pub kept-births : (since : Option ℕ) (locators : NameMap Locator) → births_of_locators (with_losses (is_lost since) locators) ≡ flat_map (births_kept since) locators
kept-births since [] = refl
kept-births since (l ∷ locators) =
    let rest = births_of_locators (with_losses (is_lost since) locators) in
    let kept = flat_map (births_kept since) locators in
    elim (is_lost since l.1) as (λ b. births_in (cond b (lost_locator l.1) l.1).value ++ rest ≡ cond b [] (births_in l.1.value) ++ kept) [
      | true ↦ kept-births since locators
      | false ↦ ap (λ bs. births_in l.1.value ++ bs) (kept-births since locators)
    ]
