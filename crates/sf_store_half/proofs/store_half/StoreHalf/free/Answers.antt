use Rattle.std.proofs.Common.{◌+◌, ◌-◌, subst, sym, ap, ◌∙◌}
use Rattle.sf_store_half.specs.Fields.{Fields, Keeps}
use Rattle.sf_store_half.specs.contracts.store_half.StoreHalf.{the_view}
use Rattle.sf_store_half.proofs.FreeLemmas.{free_is}
use Rattle.sf_store_half.proofs.store_half.StoreHalf.free.Goals as goal

pub returns : goal.returns
returns c h keeps =
    let own = subst (λ (x : Fields). Keeps x h) (sym c.self.view_is) keeps in
    c.saturating_sub.ensures ∙ ap (λ n. n - (c.live_blocks.result + c.self.inside.promised)) c.from.ensures ∙ free_is (the_view c.self.inside) c.self.inside.promised c.live_blocks.result h c.self.invariant own c.next_birth-sound.ensures.sound c.live_blocks.ensures.live
