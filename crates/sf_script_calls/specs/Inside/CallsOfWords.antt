-- Which call each word makes of the fields of its shape (our own).
use Rattle.std.specs.Prelude.{ℕ, List, Option, Some, None}
use Rattle.sf_types.specs.declared.call.Call.{Call}
use Rattle.sf_types.specs.declared.call.Call.TheVariants as calls
use Rattle.sf_script_calls.specs.declared.call.PayloadCall.{PayloadCall}
use Rattle.sf_script_calls.specs.declared.call.PayloadCall.TheVariants as wants
use Rattle.sf_script_calls.specs.declared.call_word.CallWord.{CallWord}
use Rattle.sf_script_calls.specs.declared.call_word.CallWord.TheVariants as words
use Rattle.sf_script_calls.specs.declared.call_word.RowWord.{RowWord}
use Rattle.sf_script_calls.specs.declared.call_word.RowWord.TheVariants as row_words
use Rattle.sf_script_calls.specs.declared.call_word.LocatorRowWord.{LocatorRowWord}
use Rattle.sf_script_calls.specs.declared.call_word.LocatorRowWord.TheVariants as locator_row_words
use Rattle.sf_script_calls.specs.declared.call_word.LocatorWord.{LocatorWord}
use Rattle.sf_script_calls.specs.declared.call_word.LocatorWord.TheVariants as locator_words
use Rattle.sf_script_calls.specs.declared.call_word.TwoLocatorsWord.{TwoLocatorsWord}
use Rattle.sf_script_calls.specs.declared.call_word.TwoLocatorsWord.TheVariants as two_locators_words
use Rattle.sf_script_calls.specs.declared.call_word.TwoNumbersWord.{TwoNumbersWord}
use Rattle.sf_script_calls.specs.declared.call_word.TwoNumbersWord.TheVariants as two_numbers_words
use Rattle.sf_script_calls.specs.declared.call_word.TwoPartsWord.{TwoPartsWord}
use Rattle.sf_script_calls.specs.declared.call_word.TwoPartsWord.TheVariants as two_parts_words
use Rattle.sf_script_calls.specs.declared.call_word.PayloadWord.{PayloadWord}
use Rattle.sf_script_calls.specs.declared.call_word.PayloadWord.TheVariants as payload_words
use Rattle.sf_script_calls.specs.CallTable.{FormBehind, no_form}
use Rattle.sf_script_calls.specs.Calls.{row_form, locator_row_form, locator_row_number_form, locator_form, two_locators_form, locator_number_form, locator_two_numbers_form, locator_three_numbers_form, two_locators_three_numbers_form, locator_payload_form, locator_number_payload_form, locator_two_numbers_payload_form, setoptions_form, rollback_to_form}

-- A call on a row.
abbrev pub row_call : RowWord → List ℕ → Call
row_call row_words.Insert = calls.Insert
row_call row_words.Delete = calls.Delete

-- A call that sets a locator to a row.
abbrev pub locator_row_call : LocatorRowWord → List ℕ → List ℕ → Call
locator_row_call locator_row_words.Lock = calls.Lock
locator_row_call locator_row_words.Select = calls.Select

-- A call on a locator, or on a savepoint.
abbrev pub locator_call : LocatorWord → List ℕ → Call
locator_call locator_words.Free = calls.Free
locator_call locator_words.Length = calls.Length
locator_call locator_words.Savepoint = calls.Savepoint

-- A call on two locators.
abbrev pub two_locators_call : TwoLocatorsWord → List ℕ → List ℕ → Call
two_locators_call two_locators_words.Assign = calls.Assign
two_locators_call two_locators_words.Append = calls.Append

-- A call on an amount of bytes at an offset.
abbrev pub two_numbers_call : TwoNumbersWord → List ℕ → ℕ → ℕ → Call
two_numbers_call two_numbers_words.Read = calls.Read
two_numbers_call two_numbers_words.Erase = calls.Erase
two_numbers_call two_numbers_words.FragDelete = calls.FragDelete

-- A call on parts of two values.
abbrev pub two_parts_call : TwoPartsWord → List ℕ → List ℕ → ℕ → ℕ → ℕ → Call
two_parts_call two_parts_words.Compare = calls.Compare
two_parts_call two_parts_words.Copy = calls.Copy

-- A call with a payload at an offset.
abbrev pub payload_call : PayloadWord → List ℕ → ℕ → PayloadCall
payload_call payload_words.Instr = wants.Instr
payload_call payload_words.Write = wants.Write
payload_call payload_words.FragInsert = wants.FragInsert

-- How the words behind a call's word are read.
abbrev pub form_of_word : CallWord → FormBehind
form_of_word (words.Row word) = row_form (row_call word)
form_of_word (words.LocatorRow word) = locator_row_form (locator_row_call word)
form_of_word words.AsOf = locator_row_number_form calls.SelectAsOf
form_of_word (words.Locator word) = locator_form (locator_call word)
form_of_word (words.TwoLocators word) = two_locators_form (two_locators_call word)
form_of_word words.Trim = locator_number_form calls.Trim
form_of_word (words.TwoNumbers word) = locator_two_numbers_form (two_numbers_call word)
form_of_word words.FragMove = locator_three_numbers_form calls.FragMove
form_of_word (words.TwoParts word) = two_locators_three_numbers_form (two_parts_call word)
form_of_word words.WriteAppend = locator_payload_form wants.WriteAppend
form_of_word (words.Payload word) = locator_number_payload_form (payload_call word)
form_of_word words.FragReplace = locator_two_numbers_payload_form wants.FragReplace
form_of_word words.SetOptions = setoptions_form
form_of_word words.RollbackTo = rollback_to_form

-- How the words behind a first word are read: there is no form where it is no call's word.
abbrev pub form_of_first : Option CallWord → FormBehind
form_of_first None = no_form
form_of_first (Some word) = form_of_word word
