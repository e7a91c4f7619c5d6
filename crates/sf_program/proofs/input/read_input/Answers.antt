use Rattle.std.proofs.Common.{rules, ◌≤◌, length, take, arith}
use Rattle.sf_program.specs.declared.input.TheConstants.{READ_LIMIT}
use Rattle.sf_program.proofs.ReadLemmas.{read_full, read_ended}
use Rattle.sf_program.proofs.input.read_input.Goals as goal
use Rattle.sf_program.proofs.input.read_input.Goals.{else-loop-bytes-test, then-loop-bytes-test+in-Ok-eq0}

pub returns-clause-read : goal.returns-clause-read
returns-clause-read g c =
    let items = c.loop-bytes.bytes.items in
    let most : length items ≤ READ_LIMIT = omega (arith, c.loop-bytes.invariant.most, c.loop-bytes.bytes.ok.0) in
    let gave = c.loop-bytes.invariant.gave in
    elim c.loop-bytes-test.branch [
      | else-loop-bytes-test w ↦ rw w.source-is (read_full _ _ items gave (search rules))
      | then-loop-bytes-test+in-Ok-eq0 w ↦ rw w.source-is (read_ended _ (g.S.Source.left c.loop-bytes.source) _ items (take w.min-room.result w.deref_mut.result.now) w.read.new.into gave most (search rules) (search rules))
    ]
