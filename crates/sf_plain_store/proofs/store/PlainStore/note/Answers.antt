use Rattle.std.proofs.Common.{◌≡◌, sym, ap, subst, ◌∙◌}
use Rattle.sf_types.specs.Orders.Histories.{call_entries}
use Rattle.sf_types.specs.Play.Turns.{with_entries}
use Rattle.sf_session.specs.Cores.{CoreView}
use Rattle.sf_plain_store.specs.Stores.{IsAtHomeIn, StoreView, stage_of, with_stage}
use Rattle.sf_plain_store.specs.Turns.{KeepsOthers}
use Rattle.sf_plain_store.specs.Inside.Bodies.{store_of}
use Rattle.sf_plain_store.proofs.NoteLemmas.{note_here, note_turn}
use Rattle.sf_plain_store.proofs.store.PlainStore.note.Goals as goal

pub invariant_of-self-2 : goal.invariant_of-self-2
invariant_of-self-2 c =
    let b = c.self.inside.book in
    let a = c.note_with.new.self in
    let free = c.self.inside.free.held in
    let due_calls = c.self.inside.due_calls.items in
    let core = c.args.core.now in
    let at = subst (λ (v : StoreView). IsAtHomeIn v core) (sym c.self.view_is) c.requires.home in
    let moved = note_here b a core c.session.result c.in_ok-batch.batch.calls c.session.ensures c.in_ok-batch.ensures.calls c.in_ok-note_with.ensures.moved in
    let turn = note_turn b a free due_calls core c.self.invariant at c.requires.need moved in
    turn.store

pub returns-clause-store : goal.returns-clause-store
returns-clause-store c =
    let b = c.self.inside.book in
    let a = c.note_with.new.self in
    let free = c.self.inside.free.held in
    let due_calls = c.self.inside.due_calls.items in
    let core = c.args.core.now in
    let at = subst (λ (v : StoreView). IsAtHomeIn v core) (sym c.self.view_is) c.requires.home in
    let moved = note_here b a core c.session.result c.in_ok-batch.batch.calls c.session.ensures c.in_ok-batch.ensures.calls c.in_ok-note_with.ensures.moved in
    let turn = note_turn b a free due_calls core c.self.invariant at c.requires.need moved in
    turn.after ∙ ap (λ (v : StoreView). with_stage v (with_entries (stage_of v) core.session (call_entries core.session core.pending))) c.self.view_is

pub returns-clause-home : goal.returns-clause-home
returns-clause-home c =
    let b = c.self.inside.book in
    let a = c.note_with.new.self in
    let free = c.self.inside.free.held in
    let due_calls = c.self.inside.due_calls.items in
    let core = c.args.core.now in
    let at = subst (λ (v : StoreView). IsAtHomeIn v core) (sym c.self.view_is) c.requires.home in
    let moved = note_here b a core c.session.result c.in_ok-batch.batch.calls c.session.ensures c.in_ok-batch.ensures.calls c.in_ok-note_with.ensures.moved in
    let turn = note_turn b a free due_calls core c.self.invariant at c.requires.need moved in
    subst (IsAtHomeIn (store_of a free due_calls)) (sym c.noted.ensures) turn.home

pub returns-clause-others : goal.returns-clause-others
returns-clause-others c =
    let b = c.self.inside.book in
    let a = c.note_with.new.self in
    let free = c.self.inside.free.held in
    let due_calls = c.self.inside.due_calls.items in
    let core = c.args.core.now in
    let at = subst (λ (v : StoreView). IsAtHomeIn v core) (sym c.self.view_is) c.requires.home in
    let moved = note_here b a core c.session.result c.in_ok-batch.batch.calls c.session.ensures c.in_ok-batch.ensures.calls c.in_ok-note_with.ensures.moved in
    let turn = note_turn b a free due_calls core c.self.invariant at c.requires.need moved in
    subst (λ (v : StoreView). KeepsOthers v (store_of a free due_calls) core.session) c.self.view_is turn.others
