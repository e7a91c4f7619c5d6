use Rattle.std.proofs.Common.{◌≡◌, ◌++◌, ◌+◌, drop}
use Rattle.sf_types.specs.Orders.Transcripts.{session_lines}
use Rattle.sf_transcript.proofs.lines.push_sessions.Given as goal

-- what was written, and what is still written
abbrev pub invariant-loop-at : goal.invariant-loop-at
invariant-loop-at l =
    l.text.items ++ session_lines (l.at + 1) (drop l.at l.replies) ≡ l.fn.text.items ++ session_lines 1 l.replies
