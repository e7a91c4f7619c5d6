use Rattle.std.proofs.Common.{ap, arith}
use Rattle.std.specs.FinMap as fin
use Rattle.sf_types.specs.Inside.Holders.{holder_cmp, holder_cmp_total}
use Rattle.sf_lifetimes.proofs.EntryMapLemmas.{len-le}
use Rattle.sf_lifetimes.proofs.holding_map.HoldingMap.bound.Goals as goal

pub returns : goal.returns
returns c = omega (arith, len-le holder_cmp holder_cmp_total c.self.inside.entries.held, c.len.ensures.len, c.len.ensures.few, ap (λ v. fin.len v.held) c.self.view_is)
