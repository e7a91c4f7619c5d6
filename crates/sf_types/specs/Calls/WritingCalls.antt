-- Writing calls: WRITE, WRITEAPPEND, APPEND, COPY, ERASE, TRIM, the four FRAGMENT calls and SETOPTIONS of DBMS_LOB. What
-- such a call does is a function of the session's own part, of whether it holds the lock of the locator's row, and of what
-- that row holds. (The order of refusals and what SETOPTIONS turns on or off are our own.)
use Rattle.std.specs.Prelude.{ℕ, ◌==◌, Bool, true, not, ◌&&◌, List, [], ◌∷◌, ◌++◌, Option, Some, None, is_none, unwrap_or, if◌then◌else◌}
use Rattle.std.specs.Option.{option_map_or}
use Rattle.sf_types.specs.declared.call.Call.{Call}
use Rattle.sf_types.specs.declared.call.Call.TheVariants as call
use Rattle.sf_types.specs.declared.options.Choice.{Choice}
use Rattle.sf_types.specs.declared.options.Choice.TheVariants as choice
use Rattle.sf_types.specs.declared.reply.Fault.{Fault}
use Rattle.sf_types.specs.declared.reply.Fault.TheVariants as fault
use Rattle.sf_types.specs.declared.reply.Reply.{Reply}
use Rattle.sf_types.specs.declared.reply.Reply.TheVariants as reply
use Rattle.sf_types.specs.Inside.NameMaps.{with_entry}
use Rattle.sf_types.specs.Values.Marks.{Marked, Value, empty_value, zero_byte, fresh_bytes, size_of}
use Rattle.sf_types.specs.Values.Edits as edits
use Rattle.sf_types.specs.Calls.Arguments.{argument_refusals}
use Rattle.sf_types.specs.Table.Parts.{Locator, Session}
use Rattle.sf_types.specs.Table.Sessions.{transaction_number, row_value}
use Rattle.sf_types.specs.Calls.LocatorCalls.{locator, locator_refusals}
use Rattle.sf_types.specs.Calls.Refusals.{first_refusal, refusal_or}

-- The name of the locator through which a call writes, or none where it is no writing call.
abbrev pub written_name : Call → Option (List ℕ)
written_name (call.Write at offset buffer) = Some at
written_name (call.WriteAppend at buffer) = Some at
written_name (call.Append at from) = Some at
written_name (call.Copy at from amount to_offset from_offset) = Some at
written_name (call.Erase at amount offset) = Some at
written_name (call.Trim at new_size) = Some at
written_name (call.FragInsert at offset buffer) = Some at
written_name (call.FragDelete at amount offset) = Some at
written_name (call.FragMove at amount from_offset to_offset) = Some at
written_name (call.FragReplace at old_amount offset buffer) = Some at
written_name (call.SetOptions at share) = Some at
written_name _ = None

-- The name of the source locator of Append and Copy.
abbrev pub source_name : Call → Option (List ℕ)
source_name (call.Append at from) = Some from
source_name (call.Copy at from amount to_offset from_offset) = Some from
source_name _ = None

-- The names of the locators that a writing call names, the written one first.
abbrev pub names_in : List ℕ → Call → List (List ℕ)
names_in at c = at ∷ option_map_or (λ from. from ∷ []) (source_name c) []

-- The source's own value before the call, with its marks.
abbrev pub source_value : Session → Call → Value
source_value p c = option_map_or (λ from. (locator p from).value) (source_name c) empty_value

-- A locator whose transaction's number isn't 0 is written through in that transaction alone.
abbrev pub spans_transactions : Session → Locator → Bool
spans_transactions p l = not (l.transaction == 0) && not (l.transaction == transaction_number p)

-- The refusals of every writing call, before those of its arguments. `names` are the locators that it names.
abbrev pub writing_refusals : Session → Bool → Option Value → List ℕ → List (List ℕ) → List (Bool × Fault)
writing_refusals p is_held current at names =
    locator_refusals p names
    ++ ((locator p at).is_read_only, fault.ReadOnly)
    ∷ (spans_transactions p (locator p at), fault.SpansTransactions)
    ∷ (not is_held, fault.RowNotLocked)
    ∷ (is_none (row_value p current (locator p at).row), fault.NoSuchRow)
    ∷ []

-- The value that a writing call works on: the row's value in the transaction.
abbrev pub old_value : Session → Option Value → List ℕ → Value
old_value p current at = unwrap_or (row_value p current (locator p at).row) empty_value

-- The bytes that each writing call makes of a value's and its source's. Bytes of a buffer are fresh; padding and erased
-- bytes are zero.
abbrev pub result_bytes : Call → List Marked → List Marked → List Marked
result_bytes (call.Write at offset buffer) v source = edits.put zero_byte v offset (fresh_bytes buffer)
result_bytes (call.WriteAppend at buffer) v source = v ++ fresh_bytes buffer
result_bytes (call.Append at from) v source = v ++ source
result_bytes (call.Copy at from amount to_offset from_offset) v source =
    edits.put zero_byte v to_offset (edits.part source amount from_offset)
result_bytes (call.Erase at amount offset) v source = edits.erase zero_byte v amount offset
result_bytes (call.Trim at new_size) v source = edits.trim v new_size
result_bytes (call.FragInsert at offset buffer) v source = edits.insert v offset (fresh_bytes buffer)
result_bytes (call.FragDelete at amount offset) v source = edits.delete v amount offset
result_bytes (call.FragMove at amount from_offset to_offset) v source = edits.move v amount from_offset to_offset
result_bytes (call.FragReplace at old_amount offset buffer) v source = edits.replace v old_amount offset (fresh_bytes buffer)
result_bytes _ v source = v

-- The choice after a call: SetOptions makes it Share for `on` and Keep for `off`, and every other call keeps it.
abbrev pub result_choice : Call → Choice → Choice
result_choice (call.SetOptions at share) before = if share then choice.Share else choice.Keep
result_choice _ before = before

-- The value that a writing call makes of a row's value and its source's.
abbrev pub result_value : Call → Value → Value → Value
result_value c value source = record { bytes = result_bytes c value.bytes source.bytes; choice = result_choice c value.choice }

-- The reply to a writing call that is done: Erase answers how many bytes it erased, every other call Done.
abbrev pub write_reply : Call → Value → Reply
write_reply (call.Erase at amount offset) value = reply.Number (edits.erased_count value.bytes amount offset)
write_reply _ value = reply.Done

-- The first refusal of a writing call before that for want of space.
abbrev pub writing_refusal : Session → Bool → Option Value → List ℕ → Call → Option Fault
writing_refusal p is_held current at c =
    first_refusal (writing_refusals p is_held current at (names_in at c)
    ++ argument_refusals c (size_of (old_value p current at)) (size_of (source_value p c)))

-- The value that a writing call makes.
abbrev pub result_of : Session → Option Value → List ℕ → Call → Value
result_of p current at c = result_value c (old_value p current at) (source_value p c)

-- The written locator has the result, the open transaction's number and the session's epoch, and is dirty.
abbrev pub written_locator : Session → Locator → Value → Locator
written_locator p l value =
    record l { value = value; transaction = transaction_number p; epoch = p.epoch; is_dirty = true }

-- What a writing call does to its session: the result is the working value of the locator's row, and the locator's own.
abbrev pub after_write : Session → List ℕ → Value → Session
after_write p at value = record p {
  working = with_entry p.working (locator p at).row (Some value);
  locators = with_entry p.locators at (written_locator p (locator p at) value);
}

-- A writing call that flushes nothing.
abbrev pub write_call : Session → Bool → Option Value → List ℕ → Call → Session × Reply
write_call p is_held current at c =
    refusal_or (writing_refusal p is_held current at c) p
    (after_write p at (result_of p current at c), write_reply c (old_value p current at))
