use Rattle.std.proofs.Common.{◌≡◌, take}
use Rattle.sf_plain_store.proofs.store.copied_history.Given as goal

-- the entries before this one
abbrev pub invariant-loop-entry : goal.invariant-loop-entry
invariant-loop-entry l = l.history ≡ take l.entry-index l.entries
