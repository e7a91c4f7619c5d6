use Rattle.std.proofs.Common.{◌≡◌, take}
use Rattle.sf_session.proofs.session_core.SessionCore.batch.Given as goal

abbrev pub invariant-loop-call : goal.invariant-loop-call
invariant-loop-call l = l.calls ≡ take l.call-index l.call-items
