-- What passes a limit is refused for it.
use Rattle.std.proofs.Common.{◌≡◌, ℕ, ◌+◌, List, refl, ap, ◌∙◌}
use Rattle.std.specs.Prelude.{Bool, true, false, ◌||◌, nat_lt, Option, Some, None, if◌then◌else◌}
use Rattle.std.proofs.lemmas.List.{length-replicate}
use Rattle.sf_types.proofs.BoolLemmas.{or-true}
use Rattle.sf_script_calls.specs.declared.call.PayloadCall.TheVariants as wants
use Rattle.sf_script_calls.specs.Calls.{WithPayload}
use Rattle.sf_script_calls.specs.Payloads.{Copies}
use Rattle.sf_script.specs.declared.fault.Reason.{Reason}
use Rattle.sf_script.specs.declared.fault.Reason.TheVariants.{Limit}
use Rattle.sf_script.specs.declared.reading.Reading.TheVariants as reads
use Rattle.sf_script.specs.LineForms.{CallLine}
use Rattle.sf_script.specs.Parts.{ScriptParts, call_count, payload_bytes}
use Rattle.sf_script.specs.Reasons.{form_passes_limit, passes_call_limit}

abbrev pub limit_or_none : Bool → Option Reason
limit_or_none passes = if passes then Some Limit else None

-- the last test of a call of one payload byte, by the calls and the payload bytes before it
abbrev pub last_test : ℕ → ℕ → Option Reason
last_test calls bytes = limit_or_none (nat_lt 32767 1 || nat_lt 20000 (calls + 1) || nat_lt 67108864 (bytes + 1))

pub many-bytes : (calls : ℕ) → last_test calls 67108864 ≡ Some Limit
many-bytes calls = ap limit_or_none (or-true (nat_lt 20000 (calls + 1)) true refl)

left-of : (a b c : Bool) → a ≡ true → (a || b || c) ≡ true
left-of true b c is = refl
left-of false b c is = absurd cc

pub many-copies : (parts : ScriptParts) (session : ℕ) (at : List ℕ) (number byte : ℕ) → nat_lt 32767 number ≡ true
    → form_passes_limit (reads.Sessions parts) (CallLine session (WithPayload (wants.WriteAppend at) (Copies number byte))) ≡ true
unfolding form_passes_limit
many-copies parts session at number byte many =
    ap (λ (bytes : ℕ). passes_call_limit parts bytes) (length-replicate number byte)
    ∙ left-of (nat_lt 32767 number) (nat_lt 20000 (call_count parts.calls + 1)) (nat_lt 67108864 (payload_bytes parts.calls + number)) many
