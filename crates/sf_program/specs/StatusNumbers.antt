-- The numbers of the statuses (our own).
use Rattle.std.specs.Prelude.{ℕ}
use Rattle.sf_program.specs.declared.status.Status.{Status}
use Rattle.sf_program.specs.declared.status.Status.TheVariants.{Done, Usage, ScriptRefused, ReadFault, WriteFault, OutOfMemory}

-- The number of each status.
abbrev pub number_of : Status → ℕ
number_of Done = 0
number_of Usage = 2
number_of ScriptRefused = 3
number_of ReadFault = 4
number_of WriteFault = 5
number_of OutOfMemory = 8
