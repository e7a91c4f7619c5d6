use Rattle.std.proofs.Common.{◌≡◌, Bool, true, false, [], ap, sym, subst, ◌∙◌, refl}
use Rattle.std.specs.Prelude.{All}
use Rattle.sf_types.specs.declared.holder.Holder.TheVariants as holder
use Rattle.sf_types.specs.Table.Sessions.{is_busy, with_lock}
use Rattle.sf_types.specs.Halves.Asks.{kept_at, with_kept_births_open}
use Rattle.sf_stock.specs.Stocks.{StockView, IsSound, is_stocked, with_holder, with_left_parked}
use Rattle.sf_store_half.specs.Fields.{Fields, Keeps}
use Rattle.sf_store_half.specs.HalfMoves.{HasField, IsRepacked}
use Rattle.sf_store_half.specs.Inside.Answered.{kept_as}
use Rattle.sf_store_half.specs.contracts.store_half.StoreHalf.{the_view}
use Rattle.sf_store_half.proofs.SetLemmas.{asked_free, kept_taken, set_is, set_to}
use Rattle.sf_store_half.proofs.SettledLemmas.{field_is, keeps_settled, has_session, repacked_by}
use Rattle.sf_store_half.proofs.store_half.StoreHalf.lock_row.Goals as goal

pub keep_births-requires-clause-births : goal.keep_births-requires-clause-births
keep_births-requires-clause-births c =
    subst (λ (x : StockView). All (λ b. is_stocked x.stocked b ≡ true) c.args.births) (sym (c.make_room.ensures.held ∙ ap (λ (x : Fields). x.stock) c.self.view_is)) c.requires.births

pub invariant_of-self-2 : goal.invariant_of-self-2
invariant_of-self-2 c =
    let s = c.args.session in
    let has = subst (λ (x : Fields). HasField x s) (sym c.self.view_is) c.requires.session in
    let free = subst (λ (x : Fields). is_busy x.locks s c.args.row.now ≡ false) (sym c.self.view_is) c.requires.free in
    kept_taken (the_view c.self.inside) c.self.inside.promised s c.args.births c.args.row.now c.has_ended-has_ended.result c.take.new.self.held c.set_field.new.fields.items c.keep_births.new.stock.held c.self.invariant has
    (subst IsSound c.make_room.ensures.held c.keep_births.ensures.sound)
    (c.in_ok-take.ensures.held ∙ asked_free c.self.inside.locks.held s c.args.row.now c.in_ok-name.name c.in_ok-name.ensures free) c.set_field.ensures
    (c.keep_births.ensures.held ∙ ap (λ (x : StockView). with_left_parked (with_holder x (holder.Session s) c.args.births)) c.make_room.ensures.held)

pub returns-clause-kept : goal.returns-clause-kept
returns-clause-kept c h keeps =
    let s = c.args.session in
    let row = c.args.row.now in
    let births = c.args.births in
    let f = c.args.self.now in
    let same = c.make_room.ensures.held ∙ ap (λ (x : Fields). x.stock) c.self.view_is in
    let is = c.keep_births.ensures.held ∙ ap (λ (x : StockView). with_left_parked (with_holder x (holder.Session s) births)) same in
    let free = subst (λ (x : Fields). is_busy x.locks s row ≡ false) (sym c.self.view_is) c.requires.free in
    let locked =
    c.in_ok-take.ensures.held ∙ asked_free c.self.inside.locks.held s row c.in_ok-name.name c.in_ok-name.ensures free
    ∙ ap (λ (x : Fields). with_lock x.locks s row) c.self.view_is ∙ ap (λ m. with_lock m s row) keeps.locks in
    let ended = c.has_ended-has_ended.ensures ∙ ap (λ x. x.has_ended) (field_is f h s keeps) in
    let k = record (kept_at h s) { births = births; is_open = true; has_ended = c.has_ended-has_ended.result } in
    let done = keeps_settled f h s k keeps (has_session f h s keeps c.requires.session) c.take.new.self.held (with_lock h.locks s row) c.set_field.new.fields.items c.keep_births.new.stock.held (subst IsSound same c.keep_births.ensures.sound) locked refl
    (c.set_field.ensures ∙ ap (λ (x : Fields). set_to x.sessions s true c.has_ended-has_ended.result) c.self.view_is ∙ set_is f h s births true c.has_ended-has_ended.result keeps) is in
    subst (λ (x : Fields). Keeps (record x { locks = c.take.new.self.held; sessions = c.set_field.new.fields.items; stock = c.keep_births.new.stock.held }) (record (with_kept_births_open h s births true) { locks = with_lock h.locks s row })) (sym c.self.view_is)
    (subst (λ (b : Bool). Keeps (record f { locks = c.take.new.self.held; sessions = c.set_field.new.fields.items; stock = c.keep_births.new.stock.held }) (record (kept_as h s births true b) { locks = with_lock h.locks s row })) ended done)

pub returns-clause-repacked : goal.returns-clause-repacked
returns-clause-repacked c =
    let f = c.self.inside in
    let s = c.args.session in
    let same = c.make_room.ensures.held in
    subst (λ (x : Fields). IsRepacked x.stock c.keep_births.new.stock.held []) c.self.view_is
    (repacked_by f.stock.held c.keep_births.new.stock.held (holder.Session s) c.args.births c.self.invariant.keeps.none_left c.self.invariant.keeps.live (subst IsSound same c.keep_births.ensures.sound)
    (subst (λ (x : StockView). IsSound (with_holder x (holder.Session s) c.args.births)) same c.keep_births.ensures.between)
    (c.keep_births.ensures.held ∙ ap (λ (x : StockView). with_left_parked (with_holder x (holder.Session s) c.args.births)) same))
