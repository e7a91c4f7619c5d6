use Rattle.std.proofs.Common.{◌≡◌, length, sym, subst, arith}
use Rattle.sf_types.proofs.NumberLemmas.{from_one}
use Rattle.sf_plain_store.specs.Stores.{IsAtHomeIn, StoreView, stage_of}
use Rattle.sf_plain_store.specs.Turns.{IsTurn}
use Rattle.sf_plain_store.specs.Inside.Bodies.{store_of}
use Rattle.sf_plain_store.proofs.EntryTurnLemmas.{due_inside}
use Rattle.sf_plain_store.proofs.PromiseTurnLemmas.{can_reserve, reserve_turn_of}
use Rattle.sf_plain_store.proofs.store.PlainStore.promise.Goals as goal

pub reserve_with-requires-clause-due : goal.reserve_with-requires-clause-due
reserve_with-requires-clause-due c =
    let b = c.self.inside.book in
    let free = c.self.inside.free.held in
    let due_calls = c.self.inside.due_calls.items in
    let core = c.args.core.now in
    let at = subst (λ (v : StoreView). IsAtHomeIn v core) (sym c.self.view_is) c.requires.home in
    (can_reserve b free due_calls core c.session-session.result c.in_ok-batch.batch c.in_ok-flush.flush c.self.invariant at c.requires.need c.session-session.ensures c.in_ok-batch.ensures.calls (c.in_ok-flush.ensures b.options)).due

pub reserve_with-requires-clause-flush : goal.reserve_with-requires-clause-flush
reserve_with-requires-clause-flush c =
    let b = c.self.inside.book in
    let free = c.self.inside.free.held in
    let due_calls = c.self.inside.due_calls.items in
    let core = c.args.core.now in
    let at = subst (λ (v : StoreView). IsAtHomeIn v core) (sym c.self.view_is) c.requires.home in
    (can_reserve b free due_calls core c.session-session.result c.in_ok-batch.batch c.in_ok-flush.flush c.self.invariant at c.requires.need c.session-session.ensures c.in_ok-batch.ensures.calls (c.in_ok-flush.ensures b.options)).flush_is

pub reserve_with-requires-clause-prints : goal.reserve_with-requires-clause-prints
reserve_with-requires-clause-prints c = (c.in_ok-flush.ensures c.self.inside.book.options).prints

pub set_flush-requires-clause-low : goal.set_flush-requires-clause-low
set_flush-requires-clause-low c = omega (arith, c.session-session.ensures, from_one c.args.core.now.session (length (stage_of c.args.self.now).table.sessions) c.requires.home.home.home.session)

pub set_flush-requires-clause-high : goal.set_flush-requires-clause-high
set_flush-requires-clause-high c =
    let b = c.self.inside.book in
    let free = c.self.inside.free.held in
    let due_calls = c.self.inside.due_calls.items in
    let core = c.args.core.now in
    let at = subst (λ (v : StoreView). IsAtHomeIn v core) (sym c.self.view_is) c.requires.home in
    omega (arith, c.session-session.ensures, due_inside b free due_calls core.session c.self.invariant at.home.home.session)

pub invariant_of-self : goal.invariant_of-self
invariant_of-self c =
    let b = c.self.inside.book in
    let free = c.self.inside.free.held in
    let due_calls = c.self.inside.due_calls.items in
    let core = c.args.core.now in
    let at = subst (λ (v : StoreView). IsAtHomeIn v core) (sym c.self.view_is) c.requires.home in
    let turn = reserve_turn_of b c.reserve_with.new.self free due_calls c.set_flush.new.due_calls.items core c.promised.new.self c.in_ok-batch.batch c.in_ok-flush.flush c.in-Ok.verdict c.promised.result c.session-session.result c.flush_to_keep-kept.result
    c.self.invariant at c.requires.need c.session-session.ensures c.in_ok-batch.ensures.calls (c.in_ok-flush.ensures b.options) c.in-Ok.ensures.moved c.in-Ok.ensures.verdict c.flush_to_keep-kept.ensures c.set_flush.ensures c.promised.ensures.granted c.promised.ensures.refused c.promised.ensures.reply in
    turn.store

pub returns-in-Ok-clause-done : goal.returns-in-Ok-clause-done
returns-in-Ok-clause-done c =
    let b = c.self.inside.book in
    let free = c.self.inside.free.held in
    let due_calls = c.self.inside.due_calls.items in
    let core = c.args.core.now in
    let at = subst (λ (v : StoreView). IsAtHomeIn v core) (sym c.self.view_is) c.requires.home in
    let turn = reserve_turn_of b c.reserve_with.new.self free due_calls c.set_flush.new.due_calls.items core c.promised.new.self c.in_ok-batch.batch c.in_ok-flush.flush c.in-Ok.verdict c.promised.result c.session-session.result c.flush_to_keep-kept.result
    c.self.invariant at c.requires.need c.session-session.ensures c.in_ok-batch.ensures.calls (c.in_ok-flush.ensures b.options) c.in-Ok.ensures.moved c.in-Ok.ensures.verdict c.flush_to_keep-kept.ensures c.set_flush.ensures c.promised.ensures.granted c.promised.ensures.refused c.promised.ensures.reply in
    subst (λ (v : StoreView). IsTurn v (store_of c.reserve_with.new.self free c.set_flush.new.due_calls.items) core c.promised.new.self c.promised.result) c.self.view_is turn.turn
