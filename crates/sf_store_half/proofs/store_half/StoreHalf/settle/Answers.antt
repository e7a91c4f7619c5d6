use Rattle.std.proofs.Common.{[], ap, sym, subst, ◌∙◌, refl}
use Rattle.sf_types.specs.declared.holder.Holder.TheVariants as holder
use Rattle.sf_types.specs.Halves.Asks.{kept_at}
use Rattle.sf_stock.specs.Stocks.{StockView, IsSound, with_holder, with_left_parked}
use Rattle.sf_store_half.specs.Fields.{Fields, Keeps}
use Rattle.sf_store_half.specs.HalfMoves.{HasField, IsRepacked}
use Rattle.sf_store_half.specs.Inside.Answered.{kept_as}
use Rattle.sf_store_half.specs.contracts.store_half.StoreHalf.{the_view}
use Rattle.sf_store_half.proofs.SetLemmas.{kept_settled, set_is, set_to}
use Rattle.sf_store_half.proofs.SettledLemmas.{keeps_settled, has_session, repacked_by}
use Rattle.sf_store_half.proofs.store_half.StoreHalf.settle.Goals as goal

pub invariant_of-self-2 : goal.invariant_of-self-2
invariant_of-self-2 c =
    let f = the_view c.self.inside in
    let has = subst (λ (x : Fields). HasField x c.args.session) (sym c.self.view_is) c.requires.session in
    kept_settled f c.self.inside.promised c.args.session c.args.births c.args.is_open c.args.has_ended c.set_field.new.fields.items c.keep_births.new.stock.held c.self.invariant has
    (subst IsSound c.make_room.ensures.held c.keep_births.ensures.sound) c.set_field.ensures
    (c.keep_births.ensures.held ∙ ap (λ (s : StockView). with_left_parked (with_holder s (holder.Session c.args.session) c.args.births)) c.make_room.ensures.held)

pub returns-clause-kept : goal.returns-clause-kept
returns-clause-kept c h keeps =
    let s = c.args.session in
    let f = c.args.self.now in
    let same = c.make_room.ensures.held ∙ ap (λ (x : Fields). x.stock) c.self.view_is in
    let is = c.keep_births.ensures.held ∙ ap (λ (x : StockView). with_left_parked (with_holder x (holder.Session s) c.args.births)) same in
    let k = record (kept_at h s) { births = c.args.births; is_open = c.args.is_open; has_ended = c.args.has_ended } in
    subst (λ (x : Fields). Keeps (record x { sessions = c.set_field.new.fields.items; stock = c.keep_births.new.stock.held }) (kept_as h s c.args.births c.args.is_open c.args.has_ended)) (sym c.self.view_is)
    (keeps_settled f h s k keeps (has_session f h s keeps c.requires.session) f.locks h.locks c.set_field.new.fields.items c.keep_births.new.stock.held (subst IsSound same c.keep_births.ensures.sound) keeps.locks refl
    (c.set_field.ensures ∙ ap (λ (x : Fields). set_to x.sessions s c.args.is_open c.args.has_ended) c.self.view_is ∙ set_is f h s c.args.births c.args.is_open c.args.has_ended keeps) is)

pub returns-clause-repacked : goal.returns-clause-repacked
returns-clause-repacked c =
    let f = c.self.inside in
    let s = c.args.session in
    let same = c.make_room.ensures.held in
    subst (λ (x : Fields). IsRepacked x.stock c.keep_births.new.stock.held []) c.self.view_is
    (repacked_by f.stock.held c.keep_births.new.stock.held (holder.Session s) c.args.births c.self.invariant.keeps.none_left c.self.invariant.keeps.live (subst IsSound same c.keep_births.ensures.sound)
    (subst (λ (x : StockView). IsSound (with_holder x (holder.Session s) c.args.births)) same c.keep_births.ensures.between)
    (c.keep_births.ensures.held ∙ ap (λ (x : StockView). with_left_parked (with_holder x (holder.Session s) c.args.births)) same))
