-- What the reading of an input gives (our own).
use Rattle.sf_outside.specs.Causes.{EndsAtFault}
use Rattle.sf_script.specs.declared.limits.TheConstants.{SCRIPT_BYTES}
use Rattle.sf_script.specs.Parts.{ScriptParts}
use Rattle.sf_script.specs.declared.fault.Reason.{Reason}
use Rattle.sf_script.specs.declared.fault.Reason.TheVariants.{Size}
use Rattle.sf_script.specs.declared.fault.ScriptFault.{ScriptFault}
use Rattle.sf_program.specs.declared.input.TheConstants.{READ_LIMIT}
use Rattle.sf_program.specs.declared.input.ReadError.{ReadError}
use Rattle.sf_program.specs.declared.input.ReadError.TheVariants as errors
use Rattle.std.specs.Prelude.{◌≡◌, ℕ, ◌<◌, Bool, List, [], length, take, drop, Option, Some, Result, Ok, Err}

-- The first bytes of an input were read, as many as are read at most, or all where it has no more. The others are left.
pub record IsRead (input : List ℕ) (left : Option (List ℕ)) (read : List ℕ) : Type 0 where
  pub first : read ≡ take READ_LIMIT input
  pub others : left ≡ Some (drop READ_LIMIT input)

-- How far a refused input was read. For the reason `size` it has more bytes than a script may have, and those after the
-- first `READ_LIMIT` are left. For each other reason it was read to its end.
abbrev pub IsReadFor : Reason → List ℕ → Option (List ℕ) → Type 0
IsReadFor Size input left = (SCRIPT_BYTES < length input) × (left ≡ Some (drop READ_LIMIT input))
IsReadFor _ input left = left ≡ Some []

-- How far any input was read: a script to its end.
abbrev pub IsReadAs : Result ScriptParts ScriptFault → List ℕ → Option (List ℕ) → Type 0
IsReadAs (Ok script) input left = left ≡ Some []
IsReadAs (Err fault) input left = IsReadFor fault.reason input left

-- Why reading stopped: the last call of the source failed, and no other did. Where memory was wanted none had failed.
abbrev pub IsCause : ℕ → ℕ → Bool → ReadError → Type 0
IsCause before now has_failed errors.Memory = now ≡ before
IsCause before now has_failed errors.Failed = EndsAtFault before now has_failed
