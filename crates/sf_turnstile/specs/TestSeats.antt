-- Seats of the tests (our own).
use Rattle.std.specs.Prelude.{◌≡◌, ◌≢◌, false}
use Rattle.atomic_table.specs.Seated.{TableId}
use Rattle.sf_turnstile.specs.Sittings.{Sitting}

-- A seat of this turnstile that may take a turn and add entries: it doesn't have the value, and isn't the first seat.
pub record MayAdd (id : TableId) (seat : Sitting) : Type 0 where
  pub turnstile : seat.id ≡ id
  pub idle : seat.has_value ≡ false
  pub session : seat.number ≢ 0
