use Rattle.std.proofs.Common.{ap, ◌∙◌}
use Rattle.sf_types.specs.Halves.Asks.{without_row_locks}
use Rattle.sf_store_half.specs.contracts.store_half.StoreHalf.{the_view}
use Rattle.sf_store_half.proofs.SetLemmas.{kept_locked}
use Rattle.sf_store_half.proofs.store_half.StoreHalf.release_rows.Goals as goal

pub invariant_of-self : goal.invariant_of-self
invariant_of-self c =
    let f = the_view c.self.inside in
    kept_locked f c.self.inside.promised c.release_listed.new.self.held (without_row_locks c.self.invariant.half.locks c.args.session c.args.rows.now) c.self.invariant
    (c.release_listed.ensures.held ∙ ap (λ m. without_row_locks m c.args.session c.as_slice.result.now) c.self.invariant.keeps.locks ∙ ap (λ rows. without_row_locks c.self.invariant.half.locks c.args.session rows) c.as_slice.ensures)
