-- How calls are spelled, each shape of a call once (our own). A shape is given the call that its fields make.
use Rattle.std.specs.Prelude.{ℕ, true, false, List, length, Option, Some, None, if◌then◌else◌, codes}
use Rattle.sf_types.specs.declared.limits.TheConstants.{ROW_NAME_BYTES, LOCATOR_NAME_BYTES}
use Rattle.sf_types.specs.Values.Names.{name_of}
use Rattle.sf_types.specs.declared.call.Call.{Call}
use Rattle.sf_types.specs.declared.call.Call.TheVariants as calls
use Rattle.sf_script_calls.specs.declared.call.PayloadCall.{PayloadCall}
use Rattle.sf_script_calls.specs.declared.call.PayloadCall.TheVariants as wants
use Rattle.sf_script_calls.specs.Numbers.{number_of}
use Rattle.sf_script_calls.specs.Payloads.{Payload, bytes_of, payload_of}
use Rattle.sf_script_calls.specs.Reads.{◌>>=◌}
use Rattle.sf_script_calls.specs.Words.{word_at, is_word}

-- A call is spelled without a payload, or with one.
pub data CallForm : Type 0 where
  Plain : Call → CallForm
  WithPayload : PayloadCall → Payload → CallForm

-- The call with the bytes of its payload.
abbrev pub call_with : PayloadCall → List ℕ → Call
call_with (wants.Instr at offset) bytes = calls.Instr at bytes offset
call_with (wants.Write at offset) bytes = calls.Write at offset bytes
call_with (wants.WriteAppend at) bytes = calls.WriteAppend at bytes
call_with (wants.FragInsert at offset) bytes = calls.FragInsert at offset bytes
call_with (wants.FragReplace at old_amount offset) bytes = calls.FragReplace at old_amount offset bytes

-- The call that is spelled so.
abbrev pub spelled_call : CallForm → Call
spelled_call (Plain call) = call
spelled_call (WithPayload call payload) = call_with call (bytes_of payload)

-- The number of bytes of a call's payload.
abbrev pub payload_length : Call → ℕ
payload_length (calls.Instr at pattern offset) = length pattern
payload_length (calls.Write at offset bytes) = length bytes
payload_length (calls.WriteAppend at bytes) = length bytes
payload_length (calls.FragInsert at offset bytes) = length bytes
payload_length (calls.FragReplace at old_amount offset bytes) = length bytes
payload_length _ = 0

-- LOC as a word that a space ends.
unfoldable pub locator_at : List ℕ → Option (List ℕ × List ℕ)
locator_at text = do
  word ← word_at text
  name ← name_of LOCATOR_NAME_BYTES word.0
  Some (name, word.1)

-- ROW as a word that a space ends.
unfoldable pub row_at : List ℕ → Option (List ℕ × List ℕ)
row_at text = do
  word ← word_at text
  name ← name_of ROW_NAME_BYTES word.0
  Some (name, word.1)

-- A number as a word that a space ends.
unfoldable pub number_at : List ℕ → Option (ℕ × List ℕ)
number_at text = do
  word ← word_at text
  number ← number_of word.0
  Some (number, word.1)

-- Two numbers.
unfoldable pub two_numbers_of : List ℕ → Option (ℕ × ℕ)
two_numbers_of text = do
  first ← number_at text
  second ← number_of first.1
  Some (first.0, second)

-- Three numbers.
unfoldable pub three_numbers_of : List ℕ → Option (ℕ × ℕ × ℕ)
three_numbers_of text = do
  first ← number_at text
  others ← two_numbers_of first.1
  Some (first.0, others.0, others.1)

-- A number and a payload.
unfoldable pub number_payload_of : List ℕ → Option (ℕ × Payload)
number_payload_of text = do
  number ← number_at text
  payload ← payload_of number.1
  Some (number.0, payload)

-- ROW
unfoldable pub row_form : (List ℕ → Call) → List ℕ → Option CallForm
row_form call text = do
  row ← name_of ROW_NAME_BYTES text
  Some (Plain (call row))

-- LOC ROW
unfoldable pub locator_row_form : (List ℕ → List ℕ → Call) → List ℕ → Option CallForm
locator_row_form call text = do
  to ← locator_at text
  row ← name_of ROW_NAME_BYTES to.1
  Some (Plain (call to.0 row))

-- LOC ROW NUMBER
unfoldable pub locator_row_number_form : (List ℕ → List ℕ → ℕ → Call) → List ℕ → Option CallForm
locator_row_number_form call text = do
  to ← locator_at text
  row ← row_at to.1
  number ← number_of row.1
  Some (Plain (call to.0 row.0 number))

-- LOC
unfoldable pub locator_form : (List ℕ → Call) → List ℕ → Option CallForm
locator_form call text = do
  at ← name_of LOCATOR_NAME_BYTES text
  Some (Plain (call at))

-- LOC LOC
unfoldable pub two_locators_form : (List ℕ → List ℕ → Call) → List ℕ → Option CallForm
two_locators_form call text = do
  at ← locator_at text
  from ← name_of LOCATOR_NAME_BYTES at.1
  Some (Plain (call at.0 from))

-- LOC NUMBER
unfoldable pub locator_number_form : (List ℕ → ℕ → Call) → List ℕ → Option CallForm
locator_number_form call text = do
  at ← locator_at text
  number ← number_of at.1
  Some (Plain (call at.0 number))

-- LOC NUMBER NUMBER
unfoldable pub locator_two_numbers_form : (List ℕ → ℕ → ℕ → Call) → List ℕ → Option CallForm
locator_two_numbers_form call text = do
  at ← locator_at text
  numbers ← two_numbers_of at.1
  Some (Plain (call at.0 numbers.0 numbers.1))

-- LOC NUMBER NUMBER NUMBER
unfoldable pub locator_three_numbers_form : (List ℕ → ℕ → ℕ → ℕ → Call) → List ℕ → Option CallForm
locator_three_numbers_form call text = do
  at ← locator_at text
  numbers ← three_numbers_of at.1
  Some (Plain (call at.0 numbers.0 numbers.1 numbers.2))

-- LOC LOC NUMBER NUMBER NUMBER
unfoldable pub two_locators_three_numbers_form : (List ℕ → List ℕ → ℕ → ℕ → ℕ → Call) → List ℕ → Option CallForm
two_locators_three_numbers_form call text = do
  at ← locator_at text
  from ← locator_at at.1
  numbers ← three_numbers_of from.1
  Some (Plain (call at.0 from.0 numbers.0 numbers.1 numbers.2))

-- LOC PAYLOAD
unfoldable pub locator_payload_form : (List ℕ → PayloadCall) → List ℕ → Option CallForm
locator_payload_form call text = do
  at ← locator_at text
  payload ← payload_of at.1
  Some (WithPayload (call at.0) payload)

-- LOC NUMBER PAYLOAD
unfoldable pub locator_number_payload_form : (List ℕ → ℕ → PayloadCall) → List ℕ → Option CallForm
locator_number_payload_form call text = do
  at ← locator_at text
  fields ← number_payload_of at.1
  Some (WithPayload (call at.0 fields.0) fields.1)

-- LOC NUMBER NUMBER PAYLOAD
unfoldable pub locator_two_numbers_payload_form : (List ℕ → ℕ → ℕ → PayloadCall) → List ℕ → Option CallForm
locator_two_numbers_payload_form call text = do
  at ← locator_at text
  number ← number_at at.1
  fields ← number_payload_of number.1
  Some (WithPayload (call at.0 number.0 fields.0) fields.1)

-- LOC `dedup on`, LOC `dedup off`
unfoldable pub setoptions_form : List ℕ → Option CallForm
setoptions_form text = do
  at ← locator_at text
  if is_word (codes "dedup on") at.1 then Some (Plain (calls.SetOptions at.0 true))
      else if is_word (codes "dedup off") at.1 then Some (Plain (calls.SetOptions at.0 false))
      else None

-- `to` NAME
unfoldable pub rollback_to_form : List ℕ → Option CallForm
rollback_to_form text = do
  word ← word_at text
  if is_word (codes "to") word.0 then locator_form calls.RollbackTo word.1 else None
