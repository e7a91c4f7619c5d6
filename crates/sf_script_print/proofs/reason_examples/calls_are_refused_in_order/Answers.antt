-- The words of the grammar have to be opened.
use Rattle.std.proofs.Common.{refl, ap}
use Rattle.sf_script_calls.specs.Words.{word_at, is_word}
use Rattle.sf_script_calls.specs.Numbers.{number_of}
use Rattle.sf_script_calls.specs.Payloads.{payload_of, text_of, hex_of, copies_of, star_byte_of}
use Rattle.sf_script_calls.specs.Calls.{locator_at, number_at, number_payload_of, row_form, locator_payload_form, locator_number_payload_form}
use Rattle.sf_script_calls.specs.CallTable.{call_form, form_behind, reading_form, writing_form, fragment_form}
use Rattle.sf_script.specs.OptionLines.{option_rank, option_of}
use Rattle.sf_script.specs.Schedules.{session_number, session_of, turn_of, are_turns}
use Rattle.sf_script.specs.LineForms.{header_line, option_line, call_line, schedule_line}
use Rattle.sf_script.specs.Reasons.{has_wrong_bytes, is_misplaced, names_no_session, form_passes_limit, new_script}
use Rattle.std.specs.Prelude.{codes}
use Rattle.sf_types.specs.Limits.{standard_options}
use Rattle.sf_script_print.proofs.ReasonLemmas.{limit_or_none, many-copies}
use Rattle.sf_script_print.proofs.reason_examples.calls_are_refused_in_order.Goals as goal

pub returns-clause-session_first : goal.returns-clause-session_first
unfolding word_at is_word number_of payload_of text_of hex_of copies_of star_byte_of locator_at number_at number_payload_of row_form locator_payload_form locator_number_payload_form call_form form_behind reading_form writing_form fragment_form option_rank option_of session_number session_of turn_of are_turns header_line option_line call_line schedule_line has_wrong_bytes is_misplaced names_no_session form_passes_limit
returns-clause-session_first c = refl

pub returns-clause-no_form : goal.returns-clause-no_form
unfolding word_at is_word number_of payload_of text_of hex_of copies_of star_byte_of locator_at number_at number_payload_of row_form locator_payload_form locator_number_payload_form call_form form_behind reading_form writing_form fragment_form option_rank option_of session_number session_of turn_of are_turns header_line option_line call_line schedule_line has_wrong_bytes is_misplaced names_no_session form_passes_limit
returns-clause-no_form c = refl

pub returns-clause-no_copies : goal.returns-clause-no_copies
unfolding word_at is_word number_of payload_of text_of hex_of copies_of star_byte_of locator_at number_at number_payload_of row_form locator_payload_form locator_number_payload_form call_form form_behind reading_form writing_form fragment_form option_rank option_of session_number session_of turn_of are_turns header_line option_line call_line schedule_line has_wrong_bytes is_misplaced names_no_session form_passes_limit
returns-clause-no_copies c = refl

pub returns-clause-most_copies : goal.returns-clause-most_copies
unfolding word_at is_word number_of payload_of text_of hex_of copies_of star_byte_of locator_at number_at number_payload_of row_form locator_payload_form locator_number_payload_form call_form form_behind reading_form writing_form fragment_form option_rank option_of session_number session_of turn_of are_turns header_line option_line call_line schedule_line has_wrong_bytes is_misplaced names_no_session
returns-clause-most_copies c = ap limit_or_none (many-copies (new_script standard_options 2) 1 (codes "p") 18446744073709551615 65 refl)

pub returns-clause-past_copies : goal.returns-clause-past_copies
unfolding word_at is_word number_of payload_of text_of hex_of copies_of star_byte_of locator_at number_at number_payload_of row_form locator_payload_form locator_number_payload_form call_form form_behind reading_form writing_form fragment_form option_rank option_of session_number session_of turn_of are_turns header_line option_line call_line schedule_line has_wrong_bytes is_misplaced names_no_session form_passes_limit
returns-clause-past_copies c = refl

pub returns-clause-no_payload : goal.returns-clause-no_payload
unfolding word_at is_word number_of payload_of text_of hex_of copies_of star_byte_of locator_at number_at number_payload_of row_form locator_payload_form locator_number_payload_form call_form form_behind reading_form writing_form fragment_form option_rank option_of session_number session_of turn_of are_turns header_line option_line call_line schedule_line has_wrong_bytes is_misplaced names_no_session form_passes_limit
returns-clause-no_payload c = refl
