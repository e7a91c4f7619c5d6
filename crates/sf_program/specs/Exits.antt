-- How the process ends. The rules are our own.
use Rattle.std.specs.Prelude.{◌≡◌, ℕ}
use Rattle.sf_program.specs.declared.status.Status.{Status}
use Rattle.sf_program.specs.Program.{IsDue}
use Rattle.sf_program.specs.StatusNumbers.{number_of}

-- The process ends with the number of the status that is due, or of a fault or of want of memory.
abbrev pub ExitsDue : ℕ → Status → Type 0
ExitsDue number due = (status : Status) × (number ≡ number_of status) × IsDue status due
