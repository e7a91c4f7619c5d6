use Rattle.std.proofs.Common.{◌+◌, ◌-◌, [], List, length, ap, sym, subst, ◌∙◌, arith}
use Rattle.sf_types.specs.declared.call.Call.{Call}
use Rattle.sf_stock.specs.Stocks.{StockView, IsSound, with_left_parked}
use Rattle.sf_store_half.specs.Fields.{Fields, Keeps}
use Rattle.sf_store_half.specs.HalfMoves.{HasField, IsRepacked}
use Rattle.sf_store_half.specs.Inside.Fields.{AreKept}
use Rattle.sf_store_half.specs.Inside.Floors.{AreDisplaced, stock_promised}
use Rattle.sf_store_half.specs.Inside.Promises.{CanGrant}
use Rattle.sf_store_half.specs.contracts.store_half.StoreHalf.{the_view}
use Rattle.sf_store_half.proofs.BetweenLemmas.{between_itself}
use Rattle.sf_store_half.proofs.DueLemmas.{few_due}
use Rattle.sf_store_half.proofs.GrantLemmas.{keeps_granted, own_part, repacked_granted, sessions_granted, still_kept}
use Rattle.sf_store_half.proofs.RaisedKeepsLemmas.{is_raised}
use Rattle.sf_store_half.proofs.store_half.StoreHalf.grant.Goals as goal

pub overflow_sub-self : goal.overflow_sub-self
overflow_sub-self c =
    let own = own_part c.self.inside.sessions.items (c.args.session - 1) in
    omega (arith, c.set_promise-before.ensures.before, own, c.self.invariant.count)

pub keep_grant-requires-clause-due : goal.keep_grant-requires-clause-due
keep_grant-requires-clause-due c =
    let f = the_view c.self.inside in
    let kept = c.self.invariant in
    let can = subst (λ (x : Fields). CanGrant x c.args.session c.args.births c.args.grant) (sym c.self.view_is) c.requires.grant in
    subst (AreDisplaced f.versions) (sym can.due)
    (is_raised f kept.half c.args.grant.floor kept.keeps (omega (arith, kept.keeps.floor, can.low)) (omega (arith, kept.keeps.now, can.high))).displaced_each

pub keep_grant-requires-clause-count : goal.keep_grant-requires-clause-count
keep_grant-requires-clause-count c =
    let f = the_view c.self.inside in
    let can = subst (λ (x : Fields). CanGrant x c.args.session c.args.births c.args.grant) (sym c.self.view_is) c.requires.grant in
    omega (arith, ap (λ (ps : List _). length ps) can.due, few_due f.notes c.args.grant.floor)

pub invariant_of-self-2 : goal.invariant_of-self-2
invariant_of-self-2 c =
    let f = the_view c.self.inside in
    let s = c.args.session in
    let grant = c.args.grant in
    let has = subst (λ (x : Fields). HasField x s) (sym c.self.view_is) c.requires.session in
    let can = subst (λ (x : Fields). CanGrant x s c.args.births grant) (sym c.self.view_is) c.requires.grant in
    let same = c.make_room.ensures.held in
    subst (λ n. AreKept (record {
      options = f.options;
      locks = f.locks;
      versions = c.keep_grant.new.versions.held;
      notes = c.keep_grant.new.notes.held;
      floor = grant.floor;
      sessions = c.set_promise-before.new.fields.items;
      stock = c.keep_grant.new.stock.held;
    }) (c.self.inside.promised - n + grant.wanted)) (sym c.set_promise-before.ensures.before)
    (still_kept f c.self.inside.promised s c.args.births c.args.call.now grant c.keep_grant.new.versions.held c.keep_grant.new.notes.held c.set_promise-before.new.fields.items c.keep_grant.new.stock.held
    c.self.invariant has can (subst IsSound same c.keep_grant.ensures.sound) c.keep_grant.ensures.versions c.keep_grant.ensures.notes
    (c.set_promise-before.ensures.fields ∙ ap (λ (call : Call). sessions_granted f.sessions s call grant.wanted) c.in_ok-call.ensures)
    (c.keep_grant.ensures.held ∙ ap (λ (x : StockView). with_left_parked (stock_promised x s c.args.births grant.found grant.due)) same))

pub returns-clause-kept : goal.returns-clause-kept
returns-clause-kept c h keeps =
    let f = the_view c.self.inside in
    let s = c.args.session in
    let grant = c.args.grant in
    let has = subst (λ (x : Fields). HasField x s) (sym c.self.view_is) c.requires.session in
    let can = subst (λ (x : Fields). CanGrant x s c.args.births grant) (sym c.self.view_is) c.requires.grant in
    let own = subst (λ (x : Fields). Keeps x h) (sym c.self.view_is) keeps in
    let same = c.make_room.ensures.held in
    keeps_granted f h s c.args.births c.args.call.now grant c.keep_grant.new.versions.held c.keep_grant.new.notes.held c.set_promise-before.new.fields.items c.keep_grant.new.stock.held
    own has can (subst IsSound same c.keep_grant.ensures.sound) c.keep_grant.ensures.versions c.keep_grant.ensures.notes
    (c.set_promise-before.ensures.fields ∙ ap (λ (call : Call). sessions_granted f.sessions s call grant.wanted) c.in_ok-call.ensures)
    (c.keep_grant.ensures.held ∙ ap (λ (x : StockView). with_left_parked (stock_promised x s c.args.births grant.found grant.due)) same)

pub returns-clause-repacked : goal.returns-clause-repacked
returns-clause-repacked c =
    let f = the_view c.self.inside in
    let s = c.args.session in
    let grant = c.args.grant in
    let same = c.make_room.ensures.held in
    subst (λ (x : Fields). IsRepacked x.stock c.keep_grant.new.stock.held []) c.self.view_is
    (repacked_granted f.stock c.keep_grant.new.stock.held s c.args.births grant.found grant.due
    (between_itself f.stock c.self.invariant.keeps.none_left (subst IsSound same c.keep_grant.ensures.sound) c.self.invariant.keeps.live)
    (subst (λ (x : StockView). IsSound (stock_promised x s c.args.births grant.found grant.due)) same c.keep_grant.ensures.between)
    (c.keep_grant.ensures.held ∙ ap (λ (x : StockView). with_left_parked (stock_promised x s c.args.births grant.found grant.due)) same))
