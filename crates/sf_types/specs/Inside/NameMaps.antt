-- Finite maps from names: a map is the list of its entries, whose names rise in byte order, each once (our own).
use Rattle.std.specs.Prelude.{ℕ, Bool, List, Option, is_some}
use Rattle.std.specs.Ordering.{is_eq}
use Rattle.std.specs.Map.{lookup, remove_entry}
use Rattle.std.specs.BTreeMap.{insert_entry}
use Rattle.sf_types.specs.Values.Names.{name_cmp}

-- A finite map from names.
abbrev pub NameMap : Type 0 → Type 0
NameMap X = List (List ℕ × X)

-- Whether two names are the same.
abbrev pub is_same_name : List ℕ → List ℕ → Bool
is_same_name name other = is_eq (name_cmp name other)

-- What a map has at a name.
abbrev pub get : {X : Type 0} → NameMap X → List ℕ → Option X
get m name = lookup (is_same_name name) m

-- Whether a map has something at a name.
abbrev pub has : {X : Type 0} → NameMap X → List ℕ → Bool
has m name = is_some (get m name)

-- The map with this value at a name, and all else as before.
abbrev pub with_entry : {X : Type 0} → NameMap X → List ℕ → X → NameMap X
with_entry m name x = insert_entry name_cmp m name x

-- The map with nothing at a name, and all else as before.
abbrev pub without_entry : {X : Type 0} → NameMap X → List ℕ → NameMap X
without_entry m name = remove_entry (is_same_name name) m
