-- What is spelled in a text, without where it lies in memory (our own).
use Rattle.sf_script.specs.declared.line_form.SpelledLine.{SpelledLine}
use Rattle.sf_script.specs.declared.line_form.SpelledLine.TheVariants as lines
use Rattle.sf_script.specs.declared.lines.TextLine.{TextLine}
use Rattle.sf_script_calls.specs.Views.{call_view}
use Rattle.sf_script_calls.specs.Words.{parts_of}
use Rattle.sf_script.specs.LineForms.{LineForm, HeaderLine, SetsOption, SessionsLine, CallLine, ScheduleLine}
use Rattle.sf_script.specs.Lines.{Line}
use Rattle.sf_script.specs.Schedules.{turns_of}

-- What a line says.
abbrev pub line_view : SpelledLine → LineForm
line_view lines.Header = HeaderLine
line_view (lines.Setting option) = SetsOption option
line_view (lines.Sessions number) = SessionsLine number
line_view (lines.Call session form) = CallLine session (call_view form)
line_view (lines.Schedule sessions words) = ScheduleLine (turns_of sessions (parts_of words.now))

-- A line.
abbrev pub text_line : TextLine → Line
text_line line = record { text = line.text.now; ended = line.ended }
