-- The script of a text, or its first wrong line and the reason (our own).
use Rattle.std.specs.Prelude.{ℕ, ◌+◌, nat_lt, List, [], ◌∷◌, length, Option, Some, None, Result, Ok, Err, if◌then◌else◌}
use Rattle.sf_script.specs.declared.fault.Reason.{Reason}
use Rattle.sf_script.specs.declared.fault.Reason.TheVariants.{Size, Short}
use Rattle.sf_script.specs.declared.fault.ScriptFault.{ScriptFault}
use Rattle.sf_script.specs.declared.reading.Reading.{Reading}
use Rattle.sf_script.specs.declared.reading.Reading.TheVariants as reads
use Rattle.sf_script.specs.declared.limits.TheConstants.{SCRIPT_BYTES}
use Rattle.sf_script.specs.Lines.{Line, lines_of}
use Rattle.sf_script.specs.Parts.{ScriptParts}
use Rattle.sf_script.specs.Reasons.{reason_of, after_line}

-- The fault of a line.
abbrev pub fault_at : ℕ → Reason → Result ScriptParts ScriptFault
fault_at line reason = Err (record { line = line; reason = reason })

-- The script where no line is left. Without a sessions line it is short, at the line after the last.
abbrev pub script_at_end : ℕ → Reading → Result ScriptParts ScriptFault
script_at_end line (reads.Sessions parts) = Ok parts
script_at_end line _ = fault_at line Short

-- The fault of a line that is refused, else the script that follows.
abbrev pub fault_or : ℕ → Option Reason → Result ScriptParts ScriptFault → Result ScriptParts ScriptFault
fault_or line (Some reason) script = fault_at line reason
fault_or line None script = script

-- The script of the lines from this number on, after what was read before them.
unfoldable pub script_from : ℕ → Reading → List Line → Result ScriptParts ScriptFault
script_from number reading [] = script_at_end number reading
script_from number reading (line ∷ lines) =
    fault_or number (reason_of reading line) (script_from (number + 1) (after_line reading line.text) lines)

-- The script of a text: line 0 is refused where the text has too many bytes, else the first wrong line counted from 1.
unfoldable pub script_of : List ℕ → Result ScriptParts ScriptFault
script_of bytes = if nat_lt SCRIPT_BYTES (length bytes) then fault_at 0 Size else script_from 1 reads.Nothing (lines_of bytes)
