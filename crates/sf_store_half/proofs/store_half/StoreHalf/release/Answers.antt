use Rattle.std.proofs.Common.{ap, ◌∙◌}
use Rattle.sf_types.specs.Table.Sessions.{without_locks}
use Rattle.sf_store_half.specs.contracts.store_half.StoreHalf.{the_view}
use Rattle.sf_store_half.proofs.SetLemmas.{kept_locked}
use Rattle.sf_store_half.proofs.store_half.StoreHalf.release.Goals as goal

pub invariant_of-self : goal.invariant_of-self
invariant_of-self c =
    let f = the_view c.self.inside in
    kept_locked f c.self.inside.promised c.release_all.new.self.held (without_locks c.self.invariant.half.locks c.args.session) c.self.invariant
    (c.release_all.ensures.held ∙ ap (λ m. without_locks m c.args.session) c.self.invariant.keeps.locks)
