use Rattle.std.proofs.Common.{[], ap, subst, ◌∙◌}
use Rattle.sf_types.specs.declared.holder.Holder.TheVariants as holder
use Rattle.sf_stock.specs.Stocks.{StockView, IsSound, with_holder}
use Rattle.sf_store_half.proofs.placing.publish_births.Goals as goal

pub returns-clause-between : goal.returns-clause-between
returns-clause-between c =
    let s = c.args.session in
    subst IsSound
    (c.drop_holder.ensures.held
    ∙ ap (λ (x : StockView). with_holder x (holder.Promise s) []) (c.hold.ensures.held ∙ ap (λ (x : StockView). with_holder x (holder.Session s) c.args.births) c.place_all.ensures.held))
    c.next_birth-between.ensures.sound
