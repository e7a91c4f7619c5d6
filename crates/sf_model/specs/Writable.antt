-- What a writing call works on (our own).
use Rattle.std.specs.Prelude.{◌≡◌, ℕ, Bool, List, [], ◌∷◌, Option, Some, None}
use Rattle.sf_types.specs.Values.Marks.{Value}
use Rattle.sf_types.specs.Table.Parts.{Locator, Session}
use Rattle.sf_types.specs.Table.Sessions.{row_value}
use Rattle.sf_types.specs.Calls.LocatorCalls.{locator_named}
use Rattle.sf_types.specs.Calls.WritingCalls.{writing_refusals}
use Rattle.sf_types.specs.Calls.Refusals.{first_refusal}

-- Nothing refuses a writing call before its arguments, and these are its locator and the row's value.
pub record IsWritable (p : Session) (is_held : Bool) (current : Option Value) (at : List ℕ) (l : Locator) (value : Value) : Type 0 where
  pub not_refused : first_refusal (writing_refusals p is_held current at (at ∷ [])) ≡ None
  pub through : locator_named p at ≡ Some l
  pub on : row_value p current l.row ≡ Some value
