-- The words of the grammar have to be opened.
use Rattle.std.proofs.Common.{refl}
use Rattle.sf_script_calls.specs.Words.{word_at, is_word}
use Rattle.sf_script_calls.specs.Numbers.{number_of}
use Rattle.sf_script_calls.specs.Payloads.{payload_of, text_of, hex_of, copies_of, star_byte_of}
use Rattle.sf_script_calls.specs.Calls.{locator_at, number_at, number_payload_of, row_form, locator_payload_form, locator_number_payload_form}
use Rattle.sf_script_calls.specs.CallTable.{call_form, form_behind, reading_form, writing_form, fragment_form}
use Rattle.sf_script.specs.OptionLines.{option_rank, option_of}
use Rattle.sf_script.specs.Schedules.{session_number, session_of, turn_of, are_turns}
use Rattle.sf_script.specs.LineForms.{header_line, option_line, call_line, schedule_line}
use Rattle.sf_script.specs.Reasons.{has_wrong_bytes, is_misplaced, names_no_session, form_passes_limit}
use Rattle.sf_script_print.proofs.reason_examples.schedules_are_refused.Goals as goal

pub returns : goal.returns
unfolding word_at is_word number_of payload_of text_of hex_of copies_of star_byte_of locator_at number_at number_payload_of row_form locator_payload_form locator_number_payload_form call_form form_behind reading_form writing_form fragment_form option_rank option_of session_number session_of turn_of are_turns header_line option_line call_line schedule_line has_wrong_bytes is_misplaced names_no_session form_passes_limit
returns c = record { wrong_word = refl; no_session = refl; trailing_space = refl; empty_word = refl; alone = refl; before_sessions = refl; right = refl }
