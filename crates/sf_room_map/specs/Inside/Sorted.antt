-- Entries put in the order of their keys, and how they are stored (our own).
use Rattle.std.specs.Prelude.{ℕ, List, [], ◌∷◌, refl}
use Rattle.std.specs.Coded.{Coded, code_by, coded×, coded_ℕ}
use Rattle.std.specs.declared.cmp.Ordering.{Ordering}
use Rattle.std.specs.BTreeMap.{insert_entry}
use Rattle.sf_types.specs.Rooms.{Roomy}

-- The entries of any list in the order of their keys. At a key that stands twice the first value counts.
abbrev pub sorted_entries : {K X : Type 0} → (K → K → Ordering) → List (K × X) → List (K × X)
sorted_entries order [] = []
sorted_entries order (e ∷ es) = insert_entry order (sorted_entries order es) e.0 e.1

-- An object with room is stored as what it holds and its spare.
abbrev pub roomy_code : {X : Type 0} → Coded X → Coded (Roomy X)
roomy_code {X} code = code_by (X × ℕ) (coded× code coded_ℕ) (λ r. (r.held, r.spare)) (λ p. record { held = p.0; spare = p.1 }) (λ _. refl)
