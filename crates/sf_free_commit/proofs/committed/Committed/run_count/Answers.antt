use Rattle.std.proofs.Common.{arith, ap, length}
use Rattle.sf_types.specs.Space.BlockRuns.{blocks_in}
use Rattle.sf_free_commit.proofs.ParkLemmas.{few-parked}
use Rattle.sf_free_commit.proofs.committed.Committed.run_count.Goals as goal

pub returns-clause-few : goal.returns-clause-few
returns-clause-few c = omega (arith, c.len.ensures.len, few-parked c.self.inside.queue.held c.len.ensures.parkable, ap (λ v. length (blocks_in v.held)) c.self.view_is)
