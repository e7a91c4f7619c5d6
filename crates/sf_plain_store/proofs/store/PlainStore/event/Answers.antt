use Rattle.std.proofs.Common.{◌≡◌, List, [], Some, sym, subst}
use Rattle.sf_types.specs.declared.history.Kind.TheVariants as kind
use Rattle.sf_plain_store.specs.Stores.{IsAtHomeIn, StoreView}
use Rattle.sf_plain_store.specs.Turns.{IsTurn}
use Rattle.sf_plain_store.specs.Inside.Bodies.{store_of}
use Rattle.sf_plain_store.proofs.EventTurnLemmas.{event_answered, event_is_turn, event_turn}
use Rattle.sf_plain_store.proofs.PendingLemmas.{moved_here}
use Rattle.sf_plain_store.proofs.store.PlainStore.event.Goals as goal

pub invariant_of-self-2 : goal.invariant_of-self-2
invariant_of-self-2 c =
    let b = c.self.inside.book in
    let a = c.answer_with.new.self in
    let free = c.self.inside.free.held in
    let due_calls = c.self.inside.due_calls.items in
    let core = c.args.core.now in
    let call = c.in_ok-ask.ask.call in
    let at = subst (λ (v : StoreView). IsAtHomeIn v core) (sym c.self.view_is) c.requires.home in
    let moved = moved_here b a core c.session.result c.in_ok-batch.batch.calls kind.Call call [] c.session.ensures c.in_ok-batch.ensures.calls c.in_ok-answer.ensures.moved in
    (event_turn b a free due_calls core call c.self.invariant at c.in_ok-ask.ensures.call c.requires.need moved).store

pub returns-clause-done : goal.returns-clause-done
returns-clause-done c =
    let b = c.self.inside.book in
    let a = c.answer_with.new.self in
    let free = c.self.inside.free.held in
    let due_calls = c.self.inside.due_calls.items in
    let core = c.args.core.now in
    let call = c.in_ok-ask.ask.call in
    let at = subst (λ (v : StoreView). IsAtHomeIn v core) (sym c.self.view_is) c.requires.home in
    let moved = moved_here b a core c.session.result c.in_ok-batch.batch.calls kind.Call call [] c.session.ensures c.in_ok-batch.ensures.calls c.in_ok-answer.ensures.moved in
    let turn = event_turn b a free due_calls core call c.self.invariant at c.in_ok-ask.ensures.call c.requires.need moved in
    let answered = event_answered b core c.session.result c.in_ok-batch.batch call c.in_ok-answer.answer c.session.ensures at.home.home c.in_ok-batch.ensures.calls c.in_ok-answer.ensures.answer in
    subst (λ (v : StoreView). IsTurn v (store_of a free due_calls) core c.accept.new.self (Some c.accept.result)) c.self.view_is
    (event_is_turn b a free due_calls core c.accept.new.self call c.accept.result turn c.in_ok-ask.ensures.call (c.accept.ensures.core call _ c.in_ok-ask.ensures.call answered) (c.accept.ensures.reply call _ c.in_ok-ask.ensures.call answered))
