use Rattle.std.proofs.Common.{◌≡◌, ◌≤◌, ◌-◌, vec_len}
use Rattle.sf_outside.specs.Source.{Gave}
use Rattle.sf_program.specs.declared.input.TheConstants.{READ_LIMIT, PIECE}
use Rattle.sf_program.proofs.input.read_input.Given as goal

abbrev pub invariant-loop-bytes : goal.invariant-loop-bytes
invariant-loop-bytes g l = record {
  gave : Gave (g.S.Source.left l.fn.source) (g.S.Source.left l.source) l.bytes.items;
  steady : g.S.Source.faults l.source ≡ g.S.Source.faults l.fn.source;
  most : vec_len l.bytes ≤ READ_LIMIT;
  piece : vec_len l.buffer ≡ PIECE;
}

abbrev pub decreases-loop-bytes : goal.decreases-loop-bytes
decreases-loop-bytes g l = READ_LIMIT - vec_len l.bytes
