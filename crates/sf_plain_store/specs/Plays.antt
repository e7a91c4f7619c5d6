-- What the play of a script gives (our own).
use Rattle.std.specs.Prelude.{◌≡◌, ℕ, ◌-◌, List, map, length}
use Rattle.sf_types.specs.declared.history.Token.{Token}
use Rattle.sf_types.specs.declared.played.Played.{Played}
use Rattle.sf_types.specs.Orders.RowEnds.{row_ends_of}
use Rattle.sf_types.specs.Orders.Transcripts.{all_replies}
use Rattle.sf_types.specs.Space.Placings.{Placed, all_blocks}
use Rattle.sf_types.specs.Table.Versions.{commit_count}
use Rattle.sf_types.specs.Play.Turns as rule
use Rattle.sf_laws.specs.PlayTranscripts.{play_transcript, written_places}
use Rattle.sf_book.specs.Books.{BookView}
use Rattle.sf_script.specs.Parts.{ScriptParts}
use Rattle.sf_script.specs.declared.turn.Turn.{Turn}
use Rattle.sf_script.specs.declared.turn.Turn.TheVariants as turn

-- The turn that a turn of a schedule is.
abbrev pub turn_of : Turn → rule.Turn
turn_of (turn.Session session) = rule.OfSession session
turn_of turn.Reclaim = rule.Reclaims
turn_of turn.Shrink = rule.Shrinks

-- The turns of a script's schedule.
abbrev pub schedule_of : ScriptParts → List rule.Turn
schedule_of script = map turn_of script.turns

-- The stage at the end of a script's play.
abbrev pub end_of : ScriptParts → rule.Stage
end_of script = rule.play_end script.options script.calls (schedule_of script)

-- The order of a script's play.
abbrev pub order_of : ScriptParts → List Token
order_of script = rule.play_order script.options script.calls (schedule_of script)

-- The places at the end of a script's play.
abbrev pub places_of : ScriptParts → List Placed
places_of script = rule.play_places script.options script.calls (schedule_of script)

-- The transcript of a script's play.
abbrev pub transcript_of : ScriptParts → List ℕ
transcript_of script = play_transcript script.options script.calls (schedule_of script)

-- What is told of a script's play: its order, the replies to each session's calls, where the contents stand at its end, the
-- capacity less their blocks, and the rows and the number of commits at its end.
pub record IsPlayed (script : ScriptParts) (played : Played) : Type 0 where
  pub order : played.order ≡ order_of script
  pub replies : played.replies ≡ all_replies script.options (length script.calls) (end_of script).history
  pub places : played.places ≡ written_places (end_of script)
  pub free : played.free ≡ script.options.capacity - length (all_blocks (places_of script))
  pub rows : played.rows ≡ row_ends_of (end_of script).table
  pub commits : played.now ≡ commit_count (end_of script).table

-- The Book over which a script was played: of its options and sessions, with the history and the places of the play's end.
pub record IsBookOf (script : ScriptParts) (book : BookView) : Type 0 where
  pub options : book.options ≡ script.options
  pub sessions : book.sessions ≡ script.sessions
  pub history : book.history ≡ (end_of script).history
  pub places : book.places ≡ places_of script
