-- What always holds of the fields of a store's half (our own).
use Rattle.std.specs.Prelude.{◌≡◌, ℕ, ◌≤◌, sum_by}
use Rattle.std.specs.Option.{option_map_or}
use Rattle.sf_types.specs.Limits.{IsInRange}
use Rattle.sf_types.specs.Halves.Asks.{Half}
use Rattle.sf_store_half.specs.declared.session_fields.Promised.{Promised}
use Rattle.sf_store_half.specs.declared.session_fields.SessionField.{SessionField}
use Rattle.sf_store_half.specs.Fields.{Fields, Keeps}

-- The blocks that are promised to a session.
abbrev pub promised_blocks : SessionField → ℕ
promised_blocks field = option_map_or (λ (promised : Promised). promised.blocks) field.promise 0

-- The floor is no later than the last commit; the promised blocks are counted, and no more than the capacity; and the fields keep
-- some half of a table.
pub record AreKept (f : Fields) (promised : ℕ) : Type 0 where
  pub in_range : IsInRange f.options
  pub reached : f.floor ≤ f.versions.now
  pub count : promised ≡ sum_by promised_blocks f.sessions
  pub few : promised ≤ f.options.capacity
  pub half : Half
  pub keeps : Keeps f half
