use Rattle.std.proofs.Common.{◌≡◌, take}
use Rattle.std.specs.Prelude.{sum_by}
use Rattle.sf_types.specs.Space.Use.{promised_blocks}
use Rattle.sf_plain_table.proofs.space.all_promised.Given as goal

abbrev pub invariant-loop-session : goal.invariant-loop-session
invariant-loop-session l = l.blocks ≡ sum_by promised_blocks (take l.session-index l.sessions)
