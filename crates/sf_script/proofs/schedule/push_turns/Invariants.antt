use Rattle.std.proofs.Common.{◌≡◌, ◌++◌, length}
use Rattle.sf_script_calls.specs.Words.{parts_of}
use Rattle.sf_script.specs.Schedules.{turns_of}
use Rattle.sf_script.proofs.schedule.push_turns.Given as goal

abbrev pub invariant-loop-word : goal.invariant-loop-word
invariant-loop-word l =
    l.turns.items ++ turns_of l.sessions (parts_of l.rest) ≡ l.fn.turns.items ++ turns_of l.sessions (parts_of l.text)

abbrev pub decreases-loop-word : goal.decreases-loop-word
decreases-loop-word l = length l.rest
