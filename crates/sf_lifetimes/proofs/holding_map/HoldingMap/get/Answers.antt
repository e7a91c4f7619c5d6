use Rattle.std.proofs.Common.{◌∙◌, ap, sym}
use Rattle.std.specs.FinMap as fin
use Rattle.sf_types.specs.Inside.Holders.{holder_cmp, holder_cmp_total}
use Rattle.sf_room_map.specs.Entries.{value_for}
use Rattle.sf_lifetimes.proofs.EntryMapLemmas.{get_is}
use Rattle.sf_lifetimes.proofs.holding_map.HoldingMap.get.Goals as goal

pub returns : goal.returns
returns c =
    let es = c.self.inside.entries.held in
    c.get.ensures
    ∙ ap (value_for holder_cmp es) c.of.ensures
    ∙ sym (get_is holder_cmp holder_cmp_total es c.args.holder.now)
    ∙ ap (λ v. fin.get v.held c.args.holder.now) c.self.view_is
