-- The values of a session (our own).
use Rattle.sf_types.specs.Inside.NameMaps.{NameMap}
use Rattle.sf_types.specs.Table.Parts.{Locator, Rows}

-- The working values of a session's rows, and its locators.
pub record ValuesView : Type 0 where
  pub working : Rows
  pub locators : NameMap Locator
