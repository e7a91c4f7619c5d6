-- Finite maps as lists of entries whose keys rise in some order, each once (our own). At the order of names they are the
-- rules' maps from names.
use Rattle.std.specs.Prelude.{ℕ, List, Option, is_some, if◌then◌else◌}
use Rattle.std.specs.declared.cmp.Ordering.{Ordering}
use Rattle.std.specs.Ordering.{is_eq}
use Rattle.std.specs.Map.{lookup, remove_entry}
use Rattle.std.specs.BTreeMap.{insert_entry}

-- What a map has at a key.
abbrev pub value_for : {K X : Type 0} → (K → K → Ordering) → List (K × X) → K → Option X
value_for order entries key = lookup (λ other. is_eq (order key other)) entries

-- The map with this value at a key, and all else as before.
abbrev pub with_value : {K X : Type 0} → (K → K → Ordering) → List (K × X) → K → X → List (K × X)
with_value order entries key value = insert_entry order entries key value

-- The map with nothing at a key, and all else as before.
abbrev pub without_key : {K X : Type 0} → (K → K → Ordering) → List (K × X) → K → List (K × X)
without_key order entries key = remove_entry (λ other. is_eq (order key other)) entries

-- The number of entries that a value put at a key adds: one where the key is new.
abbrev pub added_at : {K X : Type 0} → (K → K → Ordering) → List (K × X) → K → ℕ
added_at order entries key = if is_some (value_for order entries key) then 0 else 1
