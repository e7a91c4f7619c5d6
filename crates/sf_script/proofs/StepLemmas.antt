-- What a line makes of what was read before it.
use Rattle.std.proofs.Common.{◌≡◌, ℕ, ◌+◌, Bool, true, false, List, [], ◌∷◌, Option, Some, None, Result, Ok, Err, refl, sym, ap, ◌∙◌}
use Rattle.std.specs.Prelude.{is_none}
use Rattle.std.specs.Option.{option_or, option_map_or}
use Rattle.sf_script.specs.declared.fault.Reason.{Reason}
use Rattle.sf_script.specs.declared.fault.Reason.TheVariants.{Bytes, Place, Session, Form, Limit}
use Rattle.sf_script.specs.declared.fault.ScriptFault.{ScriptFault}
use Rattle.sf_script.specs.declared.reading.Reading.{Reading}
use Rattle.sf_script.specs.LineForms.{LineForm, form_of}
use Rattle.sf_script.specs.Lines.{Line}
use Rattle.sf_script.specs.Parts.{ScriptParts}
use Rattle.sf_script.specs.Reasons.{has_wrong_bytes, is_misplaced, names_no_session, has_no_form, passes_limit, form_passes_limit, first_reason, reason_of, after_form, after_line}
use Rattle.sf_script.specs.Inside.Readings.{reason_or, next_reading, early_reason, form_reason, reading_with}
use Rattle.sf_script.specs.Scripts.{fault_at, fault_or, script_at_end, script_from}

-- the first reason of a table is one of its first three, or else the first of the others
split : (a b c : Bool) (x y z : Reason) (others : List (Bool × Reason))
    → first_reason ((a, x) ∷ (b, y) ∷ (c, z) ∷ others) ≡ option_or (first_reason ((a, x) ∷ (b, y) ∷ (c, z) ∷ [])) (first_reason others)
split true b c x y z others = refl
split false true c x y z others = refl
split false false true x y z others = refl
split false false false x y z others = refl

-- what is made of a line by its early reason and its form
abbrev made_of : Reading → Option Reason → Option LineForm → Result Reading Reason
made_of reading early form =
    reason_or
    (option_or early (first_reason ((is_none form, Form) ∷ (option_map_or (form_passes_limit reading) form false, Limit) ∷ [])))
    (option_map_or (after_form reading) form reading)

whole : (reading : Reading) (line : Line) → next_reading reading line ≡ made_of reading (early_reason reading line) (form_of reading line.text)
unfolding next_reading early_reason
whole reading line =
    ap (λ (o : Option Reason). reason_or o (after_line reading line.text)) (split (has_wrong_bytes line) (is_misplaced reading line.text) (names_no_session reading line.text) Bytes Place Session ((has_no_form reading line.text, Form) ∷ (passes_limit reading line.text, Limit) ∷ []))

by_parts : (reading : Reading) (line : Line) (early : Option Reason) (form : Option LineForm) → early_reason reading line ≡ early → form_of reading line.text ≡ form → next_reading reading line ≡ made_of reading early form
by_parts reading line early form is has =
    whole reading line ∙ ap (λ (o : Option Reason). made_of reading o (form_of reading line.text)) is ∙ ap (made_of reading early) has

-- a line that is refused before its form is looked at
pub stopped_early : (reading : Reading) (line : Line) (reason : Reason) → early_reason reading line ≡ Some reason → next_reading reading line ≡ Err reason
stopped_early reading line reason is = by_parts reading line (Some reason) (form_of reading line.text) is refl

-- a line of no form
pub stopped_by_form : (reading : Reading) (line : Line) → early_reason reading line ≡ None → form_of reading line.text ≡ None → next_reading reading line ≡ Err Form
stopped_by_form reading line is has = by_parts reading line None None is has

-- a line of a form
pub by_form : (reading : Reading) (line : Line) (form : LineForm) → early_reason reading line ≡ None → form_of reading line.text ≡ Some form → next_reading reading line ≡ reading_with reading form
unfolding reading_with form_reason
by_form reading line form is has = by_parts reading line None (Some form) is has

-- a form that is refused, and one that isn't
reason_first : (o : Option Reason) (reading : Reading) (reason : Reason) → o ≡ Some reason → reason_or o reading ≡ Err reason
reason_first o reading reason is = ap (λ (r : Option Reason). reason_or r reading) is

reason_none : (o : Option Reason) (reading next : Reading) → o ≡ None → next ≡ reading → reason_or o reading ≡ Ok next
reason_none o reading next is same = ap (λ (r : Option Reason). reason_or r reading) is ∙ ap (λ (r : Reading). Ok r) (sym same)

pub with_reason : (reading : Reading) (form : LineForm) (reason : Reason) → form_reason reading form ≡ Some reason → reading_with reading form ≡ Err reason
unfolding reading_with
with_reason reading form reason is = reason_first (form_reason reading form) (after_form reading form) reason is

pub with_none : (reading : Reading) (form : LineForm) (next : Reading) → form_reason reading form ≡ None → next ≡ after_form reading form → reading_with reading form ≡ Ok next
unfolding reading_with
with_none reading form next is same = reason_none (form_reason reading form) (after_form reading form) next is same

went : (o : Option Reason) (after next : Reading) (number : ℕ) (script : Reading → Result ScriptParts ScriptFault) → reason_or o after ≡ Ok next → fault_or number o (script after) ≡ script next
went None after next number script e = let same : after ≡ next = cc in ap script same
went (Some reason) after next number script e = absurd cc

stopped : (o : Option Reason) (after : Reading) (number : ℕ) (reason : Reason) (script : Result ScriptParts ScriptFault) → reason_or o after ≡ Err reason → fault_or number o script ≡ fault_at number reason
stopped None after number reason script e = absurd cc
stopped (Some due) after number reason script e = let same : due ≡ reason = cc in ap (fault_at number) same

-- a right line, and the lines behind it
pub line_goes_on : (number : ℕ) (reading next : Reading) (line : Line) (lines : List Line) → next_reading reading line ≡ Ok next → script_from number reading (line ∷ lines) ≡ script_from (number + 1) next lines
unfolding next_reading script_from
line_goes_on number reading next line lines e =
    went (reason_of reading line) (after_line reading line.text) next number (λ r. script_from (number + 1) r lines) e

-- a wrong line
pub lines_end : (number : ℕ) (reading : Reading) (reason : Reason) (line : Line) (lines : List Line) → next_reading reading line ≡ Err reason → script_from number reading (line ∷ lines) ≡ fault_at number reason
unfolding next_reading script_from
lines_end number reading reason line lines e =
    stopped (reason_of reading line) (after_line reading line.text) number reason (script_from (number + 1) (after_line reading line.text) lines) e

-- no line is left
pub at_end : (number : ℕ) (reading : Reading) → script_from number reading [] ≡ script_at_end number reading
unfolding script_from
at_end number reading = refl
