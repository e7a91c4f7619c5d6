-- The names of rows, one after the other, and savepoints up to one.
use Rattle.std.proofs.Common.{◌≡◌, ℕ, zero, suc, ◌+◌, ◌≤◌, arith, append_assoc, append-nil, drop, Bool, true, false, cond, not, length, List, [], ◌∷◌, ◌++◌, map, take, Option, Some, None, refl, sym, ap, ◌∙◌, add-one}
use Rattle.std.specs.Prelude.{slice_get, slice_index_or, nat_lt, find, filter, flat_map, is_some, ◌||◌}
use Rattle.std.specs.Option.{option_map_or}
use Rattle.std.proofs.lemmas.List.{drop_all, take_all, map-append}
use Rattle.std.specs.List.{list_any, position, position_or_len}
use Rattle.std.proofs.lemmas.List.Folds.{find_at}
use Rattle.std.specs.Map.{keys_of}
use Rattle.sf_types.specs.Inside.NameMaps.{NameMap, is_same_name, get, has}
use Rattle.sf_types.proofs.NameMapLemmas.{same_name}
use Rattle.sf_types.specs.Values.Marks.{Value}
use Rattle.sf_types.specs.Table.Parts.{Rows, Savepoint, Session}
use Rattle.sf_types.specs.Calls.Savepoints.{savepoints_up_to, is_since, with_losses, after_rollback_to}
use Rattle.sf_types.specs.Halves.Own.{Own}
use Rattle.sf_session_values.specs.Values.{ValuesView}
use Rattle.sf_own_part.specs.Inside.Unlocking.{unlocked}

-- the names of the first k + 1 rows
pub name_taken : {X Y : Type 0} (rows : List (X × Y)) (k : ℕ) (e : X × Y) → slice_get rows k ≡ Some e → take (k + 1) (map (λ e. e.0) rows) ≡ take k (map (λ e. e.0) rows) ++ e.0 ∷ []
name_taken {X = X} {Y = Y} rows k e is = ap (λ j. take j (map (λ (e : X × Y). e.0) rows)) (add-one k) ∙ next rows k is
  where
    next : (rows : List (X × Y)) (k : ℕ) → slice_get rows k ≡ Some e → take (suc k) (map (λ (e : X × Y). e.0) rows) ≡ take k (map (λ (e : X × Y). e.0) rows) ++ e.0 ∷ []
    next [] k is = absurd cc
    next (f ∷ rows) zero is = let same : f ≡ e = cc in ap (λ (z : X × Y). z.0 ∷ []) same
    next (f ∷ rows) (suc k) is = ap (λ (zs : List X). f.0 ∷ zs) (next rows k is)

-- behind the last row there is none
pub none_taken : {X Y : Type 0} (rows : List (X × Y)) (k : ℕ) → slice_get rows k ≡ None → take k (map (λ e. e.0) rows) ≡ take (k + 1) (map (λ e. e.0) rows)
none_taken {X = X} {Y = Y} rows k is = sym (ap (λ j. take j (map (λ (e : X × Y). e.0) rows)) (add-one k) ∙ next rows k is)
  where
    next : (rows : List (X × Y)) (k : ℕ) → slice_get rows k ≡ None → take (suc k) (map (λ (e : X × Y). e.0) rows) ≡ take k (map (λ (e : X × Y). e.0) rows)
    next [] zero is = refl
    next [] (suc k) is = refl
    next (f ∷ rows) zero is = absurd cc
    next (f ∷ rows) (suc k) is = ap (λ (zs : List X). f.0 ∷ zs) (next rows k is)

-- the place of the first element that passes, and that element
beyond : {X : Type 0} (xs : List X) (n : ℕ) → nat_lt n (length xs) ≡ false → slice_get xs n ≡ None
beyond [] zero is = refl
beyond [] (suc n) is = refl
beyond (x ∷ xs) zero is = let more : nat_lt 0 (length (x ∷ xs)) ≡ true = grind arith in absurd (let bad : true ≡ false = sym more ∙ is in cc)
beyond (x ∷ xs) (suc n) is = beyond xs n (elim (nat_lt n (length xs)) as (λ b. nat_lt n (length xs) ≡ b → b ≡ false) [
  | true ↦ λ less. absurd (let more : nat_lt (suc n) (length (x ∷ xs)) ≡ true = grind (arith, less) in let bad : true ≡ false = sym more ∙ is in cc)
  | false ↦ λ _. refl
] refl)

pub not_placed : {X : Type 0} (p : X → Bool) (xs : List X) (x : X) → position p xs ≡ None → find p xs ≡ Some x → ⊥
not_placed p xs x none found =
    elim (nat_lt (position_or_len p xs) (length xs)) as (λ b. nat_lt (position_or_len p xs) (length xs) ≡ b → cond b (Some (position_or_len p xs)) None ≡ None → ⊥) [
      | true ↦ λ _ bad. cc
      | false ↦ λ past _. let bad = sym found ∙ find_at p xs ∙ beyond xs (position_or_len p xs) past in cc
    ] refl none

place_is : {X : Type 0} (p : X → Bool) (xs : List X) (at : ℕ) → position p xs ≡ Some at → position_or_len p xs ≡ at
place_is p xs at is =
    elim (nat_lt (position_or_len p xs) (length xs)) as (λ b. cond b (Some (position_or_len p xs)) None ≡ Some at → position_or_len p xs ≡ at) [ true ↦ λ same. cc | false ↦ λ bad. absurd cc ] is

pub placed : {X : Type 0} (p : X → Bool) (xs : List X) (at : ℕ) (x : X) → position p xs ≡ Some at → find p xs ≡ Some x → slice_get xs at ≡ Some x
placed p xs at x is found = ap (slice_get xs) (sym (place_is p xs at is)) ∙ sym (find_at p xs) ∙ found

find_passes : {X : Type 0} (p : X → Bool) (xs : List X) (x : X) → find p xs ≡ Some x → p x ≡ true
find_passes p [] x is = absurd cc
find_passes p (y ∷ xs) x is =
    elim (p y) as (λ b. p y ≡ b → cond b (Some y) (find p xs) ≡ Some x → p x ≡ true) [
      | true ↦ λ passes found. let same : y ≡ x = cc in ap p (sym same) ∙ passes
      | false ↦ λ _ found. find_passes p xs x found
    ] refl is

abbrev is_named : List ℕ → Savepoint → Bool
is_named name x = is_same_name name x.name

take_more : {X : Type 0} (x : X) (xs : List X) (n : ℕ) → take (1 + n + 1) (x ∷ xs) ≡ x ∷ take (n + 1) xs
take_more x xs n = let more : 1 + n + 1 ≡ suc (n + 1) = omega arith in ap (λ j. take j (x ∷ xs)) more

up_to_taken : (name : List ℕ) (xs : List Savepoint) → savepoints_up_to name xs ≡ take (position_or_len (is_named name) xs + 1) xs
up_to_taken name [] = refl
up_to_taken name (x ∷ xs) =
    elim (is_same_name name x.name) as (λ b. cond b (x ∷ []) (x ∷ savepoints_up_to name xs) ≡ take (cond (not b) (1 + position_or_len (is_named name) xs) 0 + 1) (x ∷ xs)) [
      | true ↦ refl
      | false ↦ ap (λ zs. x ∷ zs) (up_to_taken name xs) ∙ sym (take_more x xs (position_or_len (is_named name) xs))
    ]

pub up_to_placed : (name : List ℕ) (xs : List Savepoint) (at : ℕ) (x : Savepoint) → position (is_named name) xs ≡ Some at → find (is_named name) xs ≡ Some x → take (at + 1) xs ≡ savepoints_up_to x.name xs
up_to_placed name xs at x is found =
    ap (λ n. take (n + 1) xs) (sym (place_is (is_named name) xs at is)) ∙ sym (up_to_taken name xs)
    ∙ ap (λ n. savepoints_up_to n xs) (same_name name x.name (find_passes (is_named name) xs x found))

pub up_to_place : (name : List ℕ) (xs : List Savepoint) (at : ℕ) → position (λ x. is_same_name name x.name) xs ≡ Some at → take (at + 1) xs ≡ savepoints_up_to name xs
up_to_place name xs at is = ap (λ n. take (n + 1) xs) (sym (place_is (is_named name) xs at is)) ∙ sym (up_to_taken name xs)

past_all : {X : Type 0} (p : X → Bool) (xs : List X) → position p xs ≡ None → nat_lt (position_or_len p xs) (length xs) ≡ false
past_all p xs is =
    elim (nat_lt (position_or_len p xs) (length xs)) as (λ b. cond b (Some (position_or_len p xs)) None ≡ None → b ≡ false) [ true ↦ λ bad. absurd cc | false ↦ λ _. refl ] is

pub up_to_all : (name : List ℕ) (xs : List Savepoint) → position (λ x. is_same_name name x.name) xs ≡ None → xs ≡ savepoints_up_to name xs
up_to_all name xs is =
    let most : length xs ≤ position_or_len (is_named name) xs = grind (arith, past_all (is_named name) xs is) in
    sym (up_to_taken name xs ∙ take_all (position_or_len (is_named name) xs + 1) xs (omega (arith, most)))

pub indexed : {X : Type 0} (xs : List X) (k : ℕ) (x d : X) → slice_get xs k ≡ Some x → slice_index_or xs k d ≡ x
indexed [] k x d is = absurd cc
indexed (y ∷ xs) zero x d is = cc
indexed (y ∷ xs) (suc k) x d is = indexed xs k x d is

-- the own part by what a rollback to a savepoint makes of its values, savepoints and rows
abbrev own_by : Session → ValuesView → List Savepoint → Rows → Own
own_by p v savepoints rows = record { part = record p { working = v.working; locators = v.locators; savepoints = savepoints }; rows = rows }

pub rolled_back_to : (p : Session) (before rows after : Rows) (v : ValuesView) (savepoints : List Savepoint) (x : Savepoint) → rows ≡ x.working
    → v ≡ record { working = rows; locators = with_losses (is_since x) p.locators } → savepoints ≡ savepoints_up_to x.name p.savepoints
    → after ≡ filter (λ e. list_any (is_same_name e.0) x.locked) before
    → own_by p v savepoints after ≡ record { part = after_rollback_to p x; rows = filter (λ e. list_any (is_same_name e.0) x.locked) before }
rolled_back_to p before rows after v savepoints x restored values kept left =
    ap (λ w. own_by p w savepoints after) values
    ∙ ap (λ (r : Rows). own_by p (record { working = r; locators = with_losses (is_since x) p.locators }) savepoints after) restored
    ∙ ap (λ s. own_by p (record { working = x.working; locators = with_losses (is_since x) p.locators }) s after) kept
    ∙ ap (own_by p (record { working = x.working; locators = with_losses (is_since x) p.locators }) (savepoints_up_to x.name p.savepoints)) left

-- What is added row by row.
rest_at : {X Y : Type 0} (f : X → List Y) (xs : List X) (k : ℕ) → flat_map f (drop k xs) ≡ option_map_or f (slice_get xs k) [] ++ flat_map f (drop (suc k) xs)
rest_at f [] zero = refl
rest_at f [] (suc k) = refl
rest_at f (x ∷ xs) zero = refl
rest_at f (x ∷ xs) (suc k) = rest_at f xs k

pub part_added : {X Y : Type 0} (f : X → List Y) (xs : List X) (k : ℕ) (before after all : List Y) → before ++ flat_map f (drop k xs) ≡ all → after ≡ before ++ option_map_or f (slice_get xs k) [] → after ++ flat_map f (drop (k + 1) xs) ≡ all
part_added f xs k before after all is added =
    let here = option_map_or f (slice_get xs k) [] in
    let later = flat_map f (drop (suc k) xs) in
    ap (λ j. after ++ flat_map f (drop j xs)) (add-one k)
    ∙ ap (λ ys. ys ++ later) added
    ∙ append_assoc before here later
    ∙ ap (λ ys. before ++ ys) (sym (rest_at f xs k))
    ∙ is

pub all_added : {X Y : Type 0} (f : X → List Y) (xs : List X) (k : ℕ) (added all : List Y) → added ++ flat_map f (drop k xs) ≡ all → length xs ≤ k → added ≡ all
all_added f xs k added all is most = sym (append-nil added) ∙ ap (λ ys. added ++ flat_map f ys) (sym (drop_all k xs most)) ∙ is

pub unlocked_rows : (named : List (List ℕ)) (rows : Rows) → flat_map (unlocked named) rows ≡ filter (λ row. not (list_any (is_same_name row) named)) (map (λ e. e.0) rows)
unlocked_rows named [] = refl
unlocked_rows named (row ∷ rows) =
    elim (list_any (is_same_name row.0) named) as (λ b. cond b [] (row.0 ∷ []) ++ flat_map (unlocked named) rows ≡ cond (not b) (row.0 ∷ filter (λ name. not (list_any (is_same_name name) named)) (map (λ (e : List ℕ × Option Value). e.0) rows)) (filter (λ name. not (list_any (is_same_name name) named)) (map (λ (e : List ℕ × Option Value). e.0) rows))) [
      | true ↦ unlocked_rows named rows
      | false ↦ ap (λ (names : List (List ℕ)). row.0 ∷ names) (unlocked_rows named rows)
    ]

-- A name is among those of a map where the map has something at it.
pub named_is_there : {X : Type 0} (m : NameMap X) (row : List ℕ) → has m row ≡ list_any (is_same_name row) (keys_of m)
named_is_there [] row = refl
named_is_there (e ∷ m) row =
    elim (is_same_name row e.0) as (λ b. is_some (cond b (Some e.1) (get m row)) ≡ (b || list_any (is_same_name row) (keys_of m))) [
      | true ↦ refl
      | false ↦ named_is_there m row
    ]

pub keys-push : {X Y : Type 0} (xs : List (X × Y)) (e : X × Y) → keys_of (xs ++ e ∷ []) ≡ keys_of xs ++ e.0 ∷ []
keys-push {X = X} {Y = Y} xs e = map-append (λ (p : X × Y). p.0) xs (e ∷ [])
