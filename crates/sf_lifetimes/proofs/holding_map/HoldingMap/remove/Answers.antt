use Rattle.std.proofs.Common.{◌∙◌, ap, List, ℕ}
use Rattle.std.specs.FinMap as fin
use Rattle.sf_types.specs.declared.holder.Holder.{Holder}
use Rattle.sf_types.specs.Inside.Holders.{holder_cmp, holder_cmp_total, holder_cmp-IsAntisymmetric}
use Rattle.sf_types.proofs.NameMapLemmas.{sorted_from_ordered}
use Rattle.sf_room_map.specs.Entries.{without_key}
use Rattle.sf_lifetimes.proofs.EntryMapLemmas.{taken_out}
use Rattle.sf_lifetimes.proofs.holding_map.HoldingMap.remove.Goals as goal

pub returns-clause-held : goal.returns-clause-held
returns-clause-held c =
    let es = c.self.inside.entries.held in
    ap (λ (xs : List (Holder × List ℕ)). fin.from_entries {R = holder_cmp} xs) c.remove.ensures.held
    ∙ ap (λ (k : Holder). fin.from_entries {R = holder_cmp} (without_key holder_cmp es k)) c.of.ensures
    ∙ taken_out holder_cmp holder_cmp_total holder_cmp-IsAntisymmetric es c.args.holder.now (sorted_from_ordered holder_cmp es c.len.ensures.rising)
    ∙ ap (λ v. fin.remove v.held c.args.holder.now) c.self.view_is
