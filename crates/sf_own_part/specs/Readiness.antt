-- An own part on which a call can end without memory (our own).
use Rattle.std.specs.Prelude.{◌≤◌, ◌<◌, ◌^◌, ◌-◌}
use Rattle.sf_types.specs.Rooms.{Roomy}
use Rattle.sf_types.specs.Halves.Own.{Own}

-- There is room for one working value, locator and locked row more, and one transaction and epoch more can be counted.
pub record IsReady (o : Roomy Own) : Type 0 where
  pub room : 1 ≤ o.spare
  pub opened : o.held.part.opened < 2 ^ 64 - 1
  pub epoch : o.held.part.epoch < 2 ^ 64 - 1
