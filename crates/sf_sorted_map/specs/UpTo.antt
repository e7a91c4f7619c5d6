-- Entries up to a key (our own).
use Rattle.std.specs.Prelude.{List, [], ◌∷◌, Option, Some, None, if◌then◌else◌}
use Rattle.std.specs.declared.cmp.Ordering.{Ordering}
use Rattle.std.specs.Ordering.{is_lt}

-- The later of two entries, where there is one.
abbrev pub later_entry : {A : Type 0} → Option A → Option A → Option A
later_entry earlier None = earlier
later_entry earlier (Some entry) = Some entry

-- The last entry whose key is at most a key, or none where all keys are greater.
abbrev pub entry_up_to : {K X : Type 0} → (K → K → Ordering) → List (K × X) → K → Option (K × X)
entry_up_to order [] key = None
entry_up_to order (e ∷ es) key = later_entry (if is_lt (order key e.0) then None else Some e) (entry_up_to order es key)
