use Rattle.std.proofs.Common.{◌-◌, [], None, ap, sym, subst, ◌∙◌, refl, arith}
use Rattle.std.specs.Prelude.{slice_get, slice_set, unwrap_or}
use Rattle.sf_types.specs.declared.holder.Holder.TheVariants as holder
use Rattle.sf_types.specs.Halves.Asks.{kept_at, new_kept}
use Rattle.sf_types.specs.Halves.Flushes.{half_cancel}
use Rattle.sf_stock.specs.Stocks.{StockView, IsSound, with_holder, with_left_parked}
use Rattle.sf_store_half.specs.Fields.{Fields, Keeps, session_field}
use Rattle.sf_store_half.specs.HalfMoves.{HasField, IsRepacked}
use Rattle.sf_store_half.specs.declared.session_fields.SessionField.{SessionField}
use Rattle.sf_store_half.specs.contracts.store_half.StoreHalf.{the_view}
use Rattle.sf_store_half.proofs.SetLemmas.{kept_cancelled}
use Rattle.sf_store_half.proofs.SettledLemmas.{promise_taken, keeps_cancelled, has_session, field_is, repacked_by}
use Rattle.sf_store_half.proofs.store_half.StoreHalf.cancel.Goals as goal

pub overflow_sub-self : goal.overflow_sub-self
overflow_sub-self c =
    let has = subst (λ (x : Fields). HasField x c.args.session) (sym c.self.view_is) c.requires.session in
    let taken = promise_taken c.self.inside.sessions.items c.take_promise.new.fields.items c.args.session c.in-Some.promised has.low has.high (sym c.take_promise.ensures.promise ∙ c.in-Some.is) c.take_promise.ensures.fields in
    omega (arith, taken, c.self.invariant.count)

pub invariant_of-self : goal.invariant_of-self
invariant_of-self c =
    let has = subst (λ (x : Fields). HasField x c.args.session) (sym c.self.view_is) c.requires.session in
    kept_cancelled (the_view c.self.inside) c.self.inside.promised c.args.session c.in-Some.promised c.take_promise.new.fields.items c.drop_promise.new.stock.held c.self.invariant has
    c.drop_promise.ensures.sound (sym c.take_promise.ensures.promise ∙ c.in-Some.is) c.take_promise.ensures.fields c.drop_promise.ensures.held

pub returns-clause-kept : goal.returns-clause-kept
returns-clause-kept c h keeps =
    let s = c.args.session in
    let f = c.args.self.now in
    let stock = ap (λ (x : Fields). x.stock) c.self.view_is in
    let sessions = ap (λ (x : Fields). x.sessions) c.self.view_is in
    subst (λ (x : Fields). Keeps (record x { sessions = c.take_promise.new.fields.items; stock = c.drop_promise.new.stock.held }) (half_cancel h s)) (sym c.self.view_is)
    (keeps_cancelled f h s (record (kept_at h s) { promise = None }) keeps (has_session f h s keeps c.requires.session) c.take_promise.new.fields.items c.drop_promise.new.stock.held
    (subst IsSound stock c.drop_promise.ensures.sound) refl refl
    (c.take_promise.ensures.fields
    ∙ ap (λ (xs : _). slice_set xs (s - 1) (record (unwrap_or (slice_get xs (s - 1)) (session_field new_kept)) { promise = None })) sessions
    ∙ ap (λ (x : SessionField). slice_set f.sessions (s - 1) (record x { promise = None })) (field_is f h s keeps))
    (c.drop_promise.ensures.held ∙ ap (λ (x : StockView). with_left_parked (with_holder x (holder.Promise s) [])) stock))

pub returns-clause-repacked : goal.returns-clause-repacked
returns-clause-repacked c =
    let f = c.self.inside in
    subst (λ (x : Fields). IsRepacked x.stock c.drop_promise.new.stock.held []) c.self.view_is
    (repacked_by f.stock.held c.drop_promise.new.stock.held (holder.Promise c.args.session) [] c.self.invariant.keeps.none_left c.self.invariant.keeps.live c.drop_promise.ensures.sound c.drop_promise.ensures.between c.drop_promise.ensures.held)
