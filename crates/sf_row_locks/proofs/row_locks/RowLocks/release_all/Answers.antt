use Rattle.std.proofs.Common.{◌∙◌, ap, sym, length, arith}
use Rattle.sf_types.specs.Table.Sessions.{without_locks}
use Rattle.sf_row_locks.proofs.LockLemmas.{released_rest, fewer_locks}
use Rattle.sf_row_locks.proofs.row_locks.RowLocks.release_all.Goals as goal

pub loop-smaller : goal.loop-smaller
loop-smaller c =
    let one = c.loop-test.ensures.released in
    omega (arith, fewer_locks c.loop.self.held c.args.session one.row one.held, ap length one.released)

pub loop-preserved : goal.loop-preserved
loop-preserved c =
    let one = c.loop-test.ensures.released in
    record {
      others = ap (λ m. without_locks m c.args.session) one.released ∙ released_rest c.loop.self.held c.args.session one.row one.held ∙ c.loop.invariant.others;
      spare = omega (arith, c.loop.invariant.spare, c.release_last.ensures.spare);
    }

pub returns-clause-held : goal.returns-clause-held
returns-clause-held c = c.loop-test.ensures.unchanged ∙ sym c.loop-test.ensures.none ∙ c.loop.invariant.others

pub returns-clause-spare : goal.returns-clause-spare
returns-clause-spare c = omega (arith, c.loop.invariant.spare, c.release_last.ensures.spare)
