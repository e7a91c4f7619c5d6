use Rattle.std.proofs.Common.{◌≡◌, ◌+◌, length, take, drop}
use Rattle.std.specs.Prelude.{sum_by}
use Rattle.sf_types.specs.Space.Contents.{blocks_of}
use Rattle.sf_types.specs.Space.Cuts.{Cut}
use Rattle.sf_types.specs.Space.Promises.{new_cuts, wanted_blocks}
use Rattle.sf_plain.proofs.wants.wanted_blocks.Given as goal

abbrev pub invariant-loop-at : goal.invariant-loop-at
invariant-loop-at l = l.blocks + sum_by (λ (cut : Cut). blocks_of (length cut.bytes)) (new_cuts l.contents l.reached (take l.at l.of) (drop l.at l.of)) ≡ wanted_blocks l.contents l.reached l.of
