-- Savepoints up to one.
use Rattle.std.proofs.Common.{◌≡◌, ℕ, suc, ◌+◌, ◌≤◌, arith, Bool, true, false, cond, not, length, List, [], ◌∷◌, take, Some, None, refl, sym, ap, ◌∙◌}
use Rattle.std.specs.Prelude.{nat_lt}
use Rattle.std.specs.List.{position, position_or_len}
use Rattle.std.proofs.lemmas.List.{take_all}
use Rattle.std.proofs.lemmas.Bool.{ltb-false}
use Rattle.sf_types.specs.Inside.NameMaps.{is_same_name}
use Rattle.sf_types.specs.Table.Parts.{Savepoint}
use Rattle.sf_types.specs.Calls.Savepoints.{savepoints_up_to}

abbrev is_named : List ℕ → Savepoint → Bool
is_named name x = is_same_name name x.name

take_more : {X : Type 0} (x : X) (xs : List X) (n : ℕ) → take (1 + n + 1) (x ∷ xs) ≡ x ∷ take (n + 1) xs
take_more x xs n = let more : 1 + n + 1 ≡ suc (n + 1) = omega arith in ap (λ j. take j (x ∷ xs)) more

up_to_taken : (name : List ℕ) (xs : List Savepoint) → savepoints_up_to name xs ≡ take (position_or_len (is_named name) xs + 1) xs
up_to_taken name [] = refl
up_to_taken name (x ∷ xs) =
    elim (is_same_name name x.name) as (λ b. cond b (x ∷ []) (x ∷ savepoints_up_to name xs) ≡ take (cond (not b) (1 + position_or_len (is_named name) xs) 0 + 1) (x ∷ xs)) [
      | true ↦ refl
      | false ↦ ap (λ zs. x ∷ zs) (up_to_taken name xs) ∙ sym (take_more x xs (position_or_len (is_named name) xs))
    ]

place_is : {X : Type 0} (p : X → Bool) (xs : List X) (at : ℕ) → position p xs ≡ Some at → position_or_len p xs ≡ at
place_is p xs at is =
    elim (nat_lt (position_or_len p xs) (length xs)) as (λ b. cond b (Some (position_or_len p xs)) None ≡ Some at → position_or_len p xs ≡ at) [ true ↦ λ same. cc | false ↦ λ bad. absurd cc ] is

beyond : {X : Type 0} (p : X → Bool) (xs : List X) → position p xs ≡ None → length xs ≤ position_or_len p xs
beyond p xs is =
    elim (nat_lt (position_or_len p xs) (length xs)) as (λ b. nat_lt (position_or_len p xs) (length xs) ≡ b → cond b (Some (position_or_len p xs)) None ≡ None → length xs ≤ position_or_len p xs) [
      | true ↦ λ _ bad. absurd cc
      | false ↦ λ past _. ltb-false (position_or_len p xs) (length xs) past
    ] refl is

-- the savepoints up to the one that stands at a place
pub up_to_found : (name : List ℕ) (xs : List Savepoint) (at : ℕ) → position (is_named name) xs ≡ Some at → take (at + 1) xs ≡ savepoints_up_to name xs
up_to_found name xs at is = ap (λ n. take (n + 1) xs) (sym (place_is (is_named name) xs at is)) ∙ sym (up_to_taken name xs)

-- where there is none of the name all stay
pub up_to_none : (name : List ℕ) (xs : List Savepoint) → position (is_named name) xs ≡ None → xs ≡ savepoints_up_to name xs
up_to_none name xs is =
    sym (up_to_taken name xs ∙ take_all (position_or_len (is_named name) xs + 1) xs (let past = beyond (is_named name) xs is in omega (arith, past)))
