use Rattle.std.proofs.Common.{List, ap, sym}
use Rattle.sf_types.specs.declared.run.Run.{Run}
use Rattle.sf_types.specs.Space.BlockRuns.{blocks_in}
use Rattle.sf_types.specs.Space.Grants.{granted_runs}
use Rattle.sf_block_space.proofs.GrantRunLemmas.{free-maximal}
use Rattle.sf_block_space.proofs.laws.a_grant_is_by_the_free_blocks.Goals as goal

pub returns : goal.returns
returns c = record {
  runs = free-maximal;
  blocks = λ capacity n runs free. ap (λ (xs : List Run). blocks_in (granted_runs xs n)) (sym (free-maximal capacity runs free));
}
