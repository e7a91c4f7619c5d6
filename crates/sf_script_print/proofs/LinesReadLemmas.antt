-- Lines that are read one after the other.
use Rattle.std.proofs.Common.{◌≡◌, ℕ, ◌+◌, true, List, [], ◌∷◌, ◌++◌, Option, Some, None, Result, Ok, refl, ap, ◌∙◌}
use Rattle.std.specs.List.{list_all}
use Rattle.sf_script.specs.declared.fault.Reason.{Reason}
use Rattle.sf_script.specs.declared.fault.ScriptFault.{ScriptFault}
use Rattle.sf_script.specs.declared.reading.Reading.{Reading}
use Rattle.sf_script.specs.Lines.{Line, is_line_byte, lines_of}
use Rattle.sf_script.specs.Parts.{ScriptParts}
use Rattle.sf_script.specs.Reasons.{after_line, reason_of}
use Rattle.sf_script.specs.Scripts.{fault_or, script_at_end, script_from}
use Rattle.sf_script_print.proofs.RightLineLemmas.{IsRight, is_right}
use Rattle.sf_script_print.proofs.TextLineLemmas.{lines_behind, no_lines}

-- a line that is read
went : (number : ℕ) (reason : Option Reason) (rest : Result ScriptParts ScriptFault) (script : ScriptParts) → fault_or number reason rest ≡ Ok script → (reason ≡ None) × (rest ≡ Ok script)
went number (Some reason) rest script e = absurd cc
went number None rest script e = (refl, e)

pub line_read : (number : ℕ) (reading : Reading) (line : Line) (lines : List Line) (script : ScriptParts) → script_from number reading (line ∷ lines) ≡ Ok script
    → IsRight reading line × (script_from (number + 1) (after_line reading line.text) lines ≡ Ok script)
unfolding script_from
line_read number reading line lines script e =
    let p = went number (reason_of reading line) (script_from (number + 1) (after_line reading line.text) lines) script e in
    (is_right reading line p.0, p.1)

-- a line, and the lines behind it
pub lines_read : (number : ℕ) (reading next : Reading) (text rest : List ℕ) (script : ScriptParts) → list_all is_line_byte text ≡ true
    → reason_of reading (record { text = text; ended = true }) ≡ None → after_line reading text ≡ next
    → script_from (number + 1) next (lines_of rest) ≡ Ok script → script_from number reading (lines_of (text ++ 10 ∷ rest)) ≡ Ok script
unfolding script_from
lines_read number reading next text rest script in-line right after others =
    ap (script_from number reading) (lines_behind text rest in-line)
    ∙ ap (λ (o : Option Reason). fault_or number o (script_from (number + 1) (after_line reading text) (lines_of rest))) right
    ∙ ap (λ (r : Reading). script_from (number + 1) r (lines_of rest)) after
    ∙ others

pub none_read : (number : ℕ) (reading : Reading) → script_from number reading [] ≡ script_at_end number reading
unfolding script_from
none_read number reading = refl

pub no_text_read : (number : ℕ) (reading : Reading) → script_from number reading (lines_of []) ≡ script_at_end number reading
no_text_read number reading = ap (script_from number reading) no_lines ∙ none_read number reading

-- a script that was read
abbrev pub right_script : ScriptParts → Result ScriptParts ScriptFault
right_script script = Ok script

pub same_script : (a b : ScriptParts) → right_script a ≡ Ok b → a ≡ b
same_script a b e = cc
