-- The words of the grammar have to be opened.
use Rattle.std.proofs.Common.{ℕ, ◌+◌, ap, ◌∙◌}
use Rattle.sf_script_calls.specs.Words.{word_at, is_word}
use Rattle.sf_script_calls.specs.Numbers.{number_of}
use Rattle.sf_script_calls.specs.Payloads.{payload_of, text_of, hex_of, copies_of, star_byte_of}
use Rattle.sf_script_calls.specs.Calls.{locator_at, number_at, number_payload_of, row_form, locator_payload_form, locator_number_payload_form}
use Rattle.sf_script_calls.specs.CallTable.{call_form, form_behind, reading_form, writing_form, fragment_form}
use Rattle.sf_script.specs.OptionLines.{option_rank, option_of}
use Rattle.sf_script.specs.Schedules.{session_number, session_of, turn_of, are_turns}
use Rattle.sf_script.specs.LineForms.{header_line, option_line, call_line, schedule_line}
use Rattle.sf_script.specs.Reasons.{has_wrong_bytes, is_misplaced, names_no_session, form_passes_limit}
use Rattle.std.specs.Prelude.{nat_lt}
use Rattle.sf_script.specs.Parts.{call_count, payload_bytes}
use Rattle.sf_script_print.proofs.ReasonLemmas.{last_test, many-bytes}
use Rattle.sf_script_print.proofs.reason_examples.limits_of_scripts.Goals as goal

pub returns-clause-last_call : goal.returns-clause-last_call
unfolding word_at is_word number_of payload_of text_of hex_of copies_of star_byte_of locator_at number_at number_payload_of row_form locator_payload_form locator_number_payload_form call_form form_behind reading_form writing_form fragment_form option_rank option_of session_number session_of turn_of are_turns header_line option_line call_line schedule_line has_wrong_bytes is_misplaced names_no_session form_passes_limit
returns-clause-last_call c = λ options calls count bytes. ap (λ (n : ℕ). last_test n (payload_bytes calls)) count ∙ ap (λ (n : ℕ). last_test 19999 n) bytes

pub returns-clause-calls : goal.returns-clause-calls
unfolding word_at is_word number_of payload_of text_of hex_of copies_of star_byte_of locator_at number_at number_payload_of row_form locator_payload_form locator_number_payload_form call_form form_behind reading_form writing_form fragment_form option_rank option_of session_number session_of turn_of are_turns header_line option_line call_line schedule_line has_wrong_bytes is_misplaced names_no_session form_passes_limit
returns-clause-calls c = λ options calls count. ap (λ (n : ℕ). last_test n (payload_bytes calls)) count

pub returns-clause-bytes : goal.returns-clause-bytes
unfolding word_at is_word number_of payload_of text_of hex_of copies_of star_byte_of locator_at number_at number_payload_of row_form locator_payload_form locator_number_payload_form call_form form_behind reading_form writing_form fragment_form option_rank option_of session_number session_of turn_of are_turns header_line option_line call_line schedule_line has_wrong_bytes is_misplaced names_no_session form_passes_limit
returns-clause-bytes c = λ options calls bytes. ap (λ (n : ℕ). last_test (call_count calls) n) bytes ∙ many-bytes (call_count calls)

pub returns-clause-last_turn : goal.returns-clause-last_turn
returns-clause-last_turn c = λ script count. ap (λ (n : ℕ). nat_lt 200000 (n + 1)) count

pub returns-clause-turns : goal.returns-clause-turns
returns-clause-turns c = λ script count. ap (λ (n : ℕ). nat_lt 200000 (n + 1)) count
