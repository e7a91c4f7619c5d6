use Rattle.std.proofs.Common.{◌≡◌, ◌++◌, map}
use Rattle.std.specs.List.{AllByRecursion as Each}
use Rattle.sf_types.specs.Space.BlockRuns.{blocks_in}
use Rattle.sf_types.specs.Space.Cuts.{Cut}
use Rattle.sf_chunk_map.specs.Contents.{StoredContent}
use Rattle.sf_store_half.specs.Inside.Plans.{IsPlan, planned_all, planned_births, planned_by, unplanned}
use Rattle.sf_store_half.proofs.GrownLemmas.{OfSize}
use Rattle.sf_store_half.proofs.plans.plan_cuts.Given as goal

abbrev pub invariant-loop-cut : goal.invariant-loop-cut
invariant-loop-cut l = record {
  births : map (λ (chunk : StoredContent). chunk.birth) l.chunks.items ++ planned_births (planned_by l.stock.held l.plan) l.cut-iterator.rest.items ≡ planned_births (unplanned l.stock.held (blocks_in l.runs.held)) l.fn.cuts.items;
  bytes : map (λ (chunk : StoredContent). chunk.bytes) l.chunks.items ++ map (λ (cut : Cut). cut.bytes) l.cut-iterator.rest.items ≡ map (λ (cut : Cut). cut.bytes) l.fn.cuts.items;
  planned : planned_all (planned_by l.stock.held l.plan) l.cut-iterator.rest.items ≡ planned_all (unplanned l.stock.held (blocks_in l.runs.held)) l.fn.cuts.items;
  plan : IsPlan l.stock.held l.plan;
  sizes : Each (λ (cut : Cut). OfSize cut.bytes) l.cut-iterator.rest.items;
}
