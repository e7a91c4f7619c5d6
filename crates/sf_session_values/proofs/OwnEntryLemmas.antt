-- Entries whose rows have values of their own.
use Rattle.std.proofs.Common.{◌≡◌, ℕ, true, false, cond, List, [], ◌∷◌, map, Option, Some, None, refl, ap}
use Rattle.std.specs.Map.{keys_of}
use Rattle.sf_types.specs.Values.Marks.{Value}
use Rattle.sf_types.specs.Inside.NameMaps.{NameMap, is_same_name, get}
use Rattle.sf_types.specs.Table.Parts.{Rows}
use Rattle.sf_session_values.specs.declared.working.Working.{Working}
use Rattle.sf_session_values.specs.declared.working.Working.TheVariants as working
use Rattle.sf_session_values.specs.Inside.Sharing.{rows_by, own_value, NoneShared}

abbrev pub owned : Rows → NameMap Working
owned rows = map (λ row. (row.0, own_value row.1)) rows

pub keys_of-owned : (rows : Rows) → keys_of (owned rows) ≡ keys_of rows
keys_of-owned [] = refl
keys_of-owned (row ∷ rows) = ap (λ names. row.0 ∷ names) (keys_of-owned rows)

pub rows_by-owned : (rows : Rows) → rows_by [] (owned rows) ≡ rows
rows_by-owned [] = refl
rows_by-owned ((name, None) ∷ rows) = ap (λ rest. (name, None) ∷ rest) (rows_by-owned rows)
rows_by-owned ((name, Some value) ∷ rows) = ap (λ rest. (name, Some value) ∷ rest) (rows_by-owned rows)

not_through : (value : Option Value) (at : List ℕ) → Some (own_value value) ≡ Some (working.Through at) → ⊥
not_through None at is = cc
not_through (Some value) at is = cc

not_shared : (rows : Rows) (row at : List ℕ) → get (owned rows) row ≡ Some (working.Through at) → ⊥
not_shared [] row at is = cc
not_shared (e ∷ rows) row at is =
    elim (is_same_name row e.0) as (λ b. cond b (Some (own_value e.1)) (get (owned rows) row) ≡ Some (working.Through at) → ⊥) [
      | true ↦ not_through e.1 at
      | false ↦ not_shared rows row at
    ] is

pub none_shared : (rows : Rows) → NoneShared (owned rows)
none_shared rows = record { own = not_shared rows }
