-- What is spelled in a text, without where it lies in memory (our own).
use Rattle.sf_script_calls.specs.declared.payload.SpelledPayload.{SpelledPayload}
use Rattle.sf_script_calls.specs.declared.payload.SpelledPayload.TheVariants as payloads
use Rattle.sf_script_calls.specs.declared.call.SpelledCall.{SpelledCall}
use Rattle.sf_script_calls.specs.declared.call.SpelledCall.TheVariants as spelled
use Rattle.sf_script_calls.specs.Calls.{CallForm, Plain, WithPayload}
use Rattle.sf_script_calls.specs.Payloads.{Payload, Text, Hex, Copies}

-- A payload.
abbrev pub payload_view : SpelledPayload → Payload
payload_view (payloads.Text bytes) = Text bytes.now
payload_view (payloads.Hex digits) = Hex digits.digits.now
payload_view (payloads.Copies number byte) = Copies number byte

-- A call.
abbrev pub call_view : SpelledCall → CallForm
call_view (spelled.Plain call) = Plain call
call_view (spelled.WithPayload call payload) = WithPayload call (payload_view payload)
