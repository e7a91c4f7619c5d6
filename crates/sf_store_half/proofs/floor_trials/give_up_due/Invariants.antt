use Rattle.std.proofs.Common.{◌≡◌, ◌-◌, ◌≤◌, ◌++◌, length, drop, map}
use Rattle.sf_retention.specs.Notes.{due_pairs}
use Rattle.sf_store_half.specs.Inside.Trials.{version_of}
use Rattle.sf_store_half.proofs.floor_trials.give_up_due.Given as goal

-- the holders that are given up, and the versions that are still to be
abbrev pub invariant-loop-note : goal.invariant-loop-note
invariant-loop-note l = record {
  ledger : l.given.ledger ≡ l.initial.given.ledger;
  holders : l.given.holders ++ map version_of (drop l.at (due_pairs l.notes.held l.floor)) ≡ l.initial.given.holders ++ map version_of (drop l.from (due_pairs l.notes.held l.floor));
  few : l.at ≤ length (due_pairs l.notes.held l.floor);
}

abbrev pub decreases-loop-note : goal.decreases-loop-note
decreases-loop-note l = length (due_pairs l.notes.held l.floor) - l.at
