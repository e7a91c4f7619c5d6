use Rattle.std.proofs.Common.{◌∙◌, ap, sym, arith, length}
use Rattle.std.specs.Ordering.{nat_cmp}
use Rattle.std.specs.Cmp.{nat_cmp_total}
use Rattle.std.specs.FinMap as fin
use Rattle.sf_types.specs.Space.BlockRuns.{blocks_in}
use Rattle.sf_lifetimes.specs.Inside.Counts.{runs_in}
use Rattle.sf_lifetimes.proofs.EntryMapLemmas.{get_is}
use Rattle.sf_lifetimes.proofs.CountLemmas.{few_at}
use Rattle.sf_lifetimes.proofs.place_map.PlaceMap.blocks_of.Goals as goal

pub blocks_at-requires : goal.blocks_at-requires
blocks_at-requires c =
    let es = c.self.inside.entries.held in
    omega (arith, few_at (fin.from_entries es) c.self.inside.live c.args.birth c.self.invariant, ap (λ x. length (blocks_in (runs_in x))) (get_is nat_cmp nat_cmp_total es c.args.birth))

pub returns : goal.returns
returns c =
    c.blocks_at.ensures
    ∙ ap (λ x. length (blocks_in (runs_in x))) (sym (get_is nat_cmp nat_cmp_total c.self.inside.entries.held c.args.birth))
    ∙ ap (λ v. length (blocks_in (runs_in (fin.get v.held c.args.birth)))) c.self.view_is
