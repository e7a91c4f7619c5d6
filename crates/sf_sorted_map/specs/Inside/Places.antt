-- Where a key stands among entries whose keys rise, counted from 0 (our own).
use Rattle.std.specs.Prelude.{◌≡◌, ℕ, zero, suc, List, [], ◌∷◌}
use Rattle.std.specs.List.{AllByRecursion}
use Rattle.std.specs.Map.{keys_of}
use Rattle.std.specs.declared.cmp.Ordering.{Ordering}
use Rattle.std.specs.declared.cmp.Ordering.TheVariants.{Less, Equal, Greater}

-- The entry at a place has the key, those before it have lesser ones, and those behind it greater ones.
abbrev pub IsFound : {K X : Type 0} → (K → K → Ordering) → List (K × X) → K → ℕ → Type 0
IsFound order [] key at = ⊥
IsFound order (e ∷ es) key zero = (order key e.0 ≡ Equal) × AllByRecursion (λ other. order key other ≡ Less) (keys_of es)
IsFound order (e ∷ es) key (suc at) = (order key e.0 ≡ Greater) × IsFound order es key at

-- No entry has the key, which would go to a place: the entries before it have lesser keys, and those from it on greater ones.
abbrev pub IsGap : {K X : Type 0} → (K → K → Ordering) → List (K × X) → K → ℕ → Type 0
IsGap order es key zero = AllByRecursion (λ other. order key other ≡ Less) (keys_of es)
IsGap order [] key (suc at) = ⊥
IsGap order (e ∷ es) key (suc at) = (order key e.0 ≡ Greater) × IsGap order es key at
