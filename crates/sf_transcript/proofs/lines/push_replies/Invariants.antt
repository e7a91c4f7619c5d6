use Rattle.std.proofs.Common.{◌≡◌, ◌++◌, ◌+◌, drop}
use Rattle.sf_types.specs.Orders.Transcripts.{reply_lines}
use Rattle.sf_transcript.proofs.lines.push_replies.Given as goal

-- what was written, and what is still written
abbrev pub invariant-loop-at : goal.invariant-loop-at
invariant-loop-at l =
    l.text.items ++ reply_lines l.session (l.at + 1) (drop l.at l.replies) ≡ l.fn.text.items ++ reply_lines l.session 1 l.replies
