use Rattle.std.proofs.Common.{◌∙◌, ap, sym}
use Rattle.std.specs.Ordering.{nat_cmp}
use Rattle.std.specs.Cmp.{nat_cmp_total}
use Rattle.std.specs.FinMap as fin
use Rattle.sf_lifetimes.proofs.EntryMapLemmas.{get_is}
use Rattle.sf_lifetimes.proofs.place_map.PlaceMap.get.Goals as goal

pub returns : goal.returns
returns c = c.get.ensures ∙ sym (get_is nat_cmp nat_cmp_total c.self.inside.entries.held c.args.birth) ∙ ap (λ v. fin.get v.held c.args.birth) c.self.view_is
