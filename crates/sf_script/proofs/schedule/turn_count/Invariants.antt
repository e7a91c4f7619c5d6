use Rattle.std.proofs.Common.{◌≡◌, ◌+◌, ◌≤◌, length}
use Rattle.sf_script_calls.specs.Words.{parts_of}
use Rattle.sf_script.specs.Schedules.{turns_of}
use Rattle.sf_script.proofs.schedule.turn_count.Given as goal

abbrev pub invariant-loop-word : goal.invariant-loop-word
invariant-loop-word l = record {
  counted : l.count + length (turns_of l.sessions (parts_of l.rest)) ≡ length (turns_of l.sessions (parts_of l.text));
  within : l.count + length l.rest ≤ length l.text;
}

abbrev pub decreases-loop-word : goal.decreases-loop-word
decreases-loop-word l = length l.rest
