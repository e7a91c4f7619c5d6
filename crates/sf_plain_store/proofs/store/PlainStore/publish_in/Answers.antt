use Rattle.std.proofs.Common.{◌≡◌, ℕ, ◌≤◌, ◌<◌, ◌^◌, List, length, Some, sym, ap, subst, ◌∙◌, arith}
use Rattle.sf_types.proofs.NumberLemmas.{from_one}
use Rattle.sf_types.specs.Space.BlockRuns.{blocks_in}
use Rattle.sf_types.specs.Play.Blocks.{collected_by, unused_blocks}
use Rattle.sf_types.specs.Halves.Own.{own_of}
use Rattle.sf_block_space.specs.Free.{AreOut, FreeSpace, Gains}
use Rattle.sf_versions.specs.Asks.{IsFlush}
use Rattle.sf_book.specs.Books.{table_of}
use Rattle.sf_book.specs.Moves.{AreAway, Stands}
use Rattle.sf_plain_store.specs.Stores.{IsAtHomeIn, StoreView, stage_of}
use Rattle.sf_plain_store.specs.Turns.{IsTurn}
use Rattle.sf_plain_store.specs.Inside.Bodies.{store_of}
use Rattle.sf_plain_store.specs.Inside.Flushes.{IsFlushOf}
use Rattle.sf_plain_store.proofs.EntryTurnLemmas.{due_inside}
use Rattle.sf_plain_store.proofs.PublishStepLemmas.{can_publish, comes_back, publication}
use Rattle.sf_plain_store.proofs.store.PlainStore.publish_in.Goals as goal

pub block_count-requires : goal.block_count-requires
block_count-requires c =
    let b = c.self.inside.book in
    let free = c.self.inside.free.held in
    let due_calls = c.self.inside.due_calls.items in
    let core = c.args.core.now in
    let at = subst (λ (v : StoreView). IsAtHomeIn v core) (sym c.self.view_is) c.requires.home in
    let collected = c.requires.runs ∙ ap (λ (v : StoreView). collected_by v.space core.session) (sym c.self.view_is) in
    let of = subst (λ (v : StoreView). IsFlushOf v.options core c.args.flush) (sym c.self.view_is) c.requires.flush in
    let can = can_publish b free due_calls core c.args.flush c.self.invariant at c.requires.need of in
    omega (arith, can.few, ap (λ (bs : List ℕ). length bs) collected)

pub publish_with-requires-clause-promise : goal.publish_with-requires-clause-promise
publish_with-requires-clause-promise c =
    let b = c.self.inside.book in
    let free = c.self.inside.free.held in
    let due_calls = c.self.inside.due_calls.items in
    let core = c.args.core.now in
    let at = subst (λ (v : StoreView). IsAtHomeIn v core) (sym c.self.view_is) c.requires.home in
    let collected = c.requires.runs ∙ ap (λ (v : StoreView). collected_by v.space core.session) (sym c.self.view_is) in
    let of = subst (λ (v : StoreView). IsFlushOf v.options core c.args.flush) (sym c.self.view_is) c.requires.flush in
    let can = can_publish b free due_calls core c.args.flush c.self.invariant at c.requires.need of in
    subst (λ (n : ℕ). Stands (table_of b) n c.args.flush.ask.call (length (blocks_in c.args.runs.held))) (sym c.session-session.ensures)
    (subst (λ (bs : List ℕ). Stands (table_of b) core.session c.args.flush.ask.call (length bs)) (sym collected) can.promise)

pub publish_with-requires-clause-flush : goal.publish_with-requires-clause-flush
publish_with-requires-clause-flush c =
    let b = c.self.inside.book in
    let free = c.self.inside.free.held in
    let due_calls = c.self.inside.due_calls.items in
    let core = c.args.core.now in
    let at = subst (λ (v : StoreView). IsAtHomeIn v core) (sym c.self.view_is) c.requires.home in
    let collected = c.requires.runs ∙ ap (λ (v : StoreView). collected_by v.space core.session) (sym c.self.view_is) in
    let of = subst (λ (v : StoreView). IsFlushOf v.options core c.args.flush) (sym c.self.view_is) c.requires.flush in
    let can = can_publish b free due_calls core c.args.flush c.self.invariant at c.requires.need of in
    subst (λ (n : ℕ). IsFlush b.options (own_of (table_of b) n) c.args.flush) (sym c.session-session.ensures) can.flush_is

pub publish_with-requires-clause-away : goal.publish_with-requires-clause-away
publish_with-requires-clause-away c =
    let b = c.self.inside.book in
    let free = c.self.inside.free.held in
    let due_calls = c.self.inside.due_calls.items in
    let core = c.args.core.now in
    let at = subst (λ (v : StoreView). IsAtHomeIn v core) (sym c.self.view_is) c.requires.home in
    let collected = c.requires.runs ∙ ap (λ (v : StoreView). collected_by v.space core.session) (sym c.self.view_is) in
    let of = subst (λ (v : StoreView). IsFlushOf v.options core c.args.flush) (sym c.self.view_is) c.requires.flush in
    let can = can_publish b free due_calls core c.args.flush c.self.invariant at c.requires.need of in
    subst (AreAway b) (sym collected) can.away

pub give_back_within-requires-clause-out : goal.give_back_within-requires-clause-out
give_back_within-requires-clause-out c =
    let b = c.self.inside.book in
    let free = c.self.inside.free.held in
    let due_calls = c.self.inside.due_calls.items in
    let core = c.args.core.now in
    let at = subst (λ (v : StoreView). IsAtHomeIn v core) (sym c.self.view_is) c.requires.home in
    let collected = c.requires.runs ∙ ap (λ (v : StoreView). collected_by v.space core.session) (sym c.self.view_is) in
    let of = subst (λ (v : StoreView). IsFlushOf v.options core c.args.flush) (sym c.self.view_is) c.requires.flush in
    let can = can_publish b free due_calls core c.args.flush c.self.invariant at c.requires.need of in
    let left = c.in_ok-answer.ensures.unused ∙ ap (unused_blocks (table_of b) (table_of c.publish_with.new.self)) collected in
    let enough : length (collected_by (store_of b free due_calls).space core.session) ≤ c.make_room.new.self.spare = omega (arith, c.in_default.ensures, c.block_count.ensures, ap (λ (bs : List ℕ). length bs) collected) in
    let back = comes_back b c.publish_with.new.self free due_calls core c.in_ok-answer.field-0.unused.held c.make_room.new.self.spare c.self.invariant left enough in
    subst (λ (f : FreeSpace). AreOut f (blocks_in c.in_ok-answer.field-0.unused.held)) (sym c.make_room.ensures.held) back.out

pub give_back_within-requires-clause-room : goal.give_back_within-requires-clause-room
give_back_within-requires-clause-room c =
    let b = c.self.inside.book in
    let free = c.self.inside.free.held in
    let due_calls = c.self.inside.due_calls.items in
    let core = c.args.core.now in
    let at = subst (λ (v : StoreView). IsAtHomeIn v core) (sym c.self.view_is) c.requires.home in
    let collected = c.requires.runs ∙ ap (λ (v : StoreView). collected_by v.space core.session) (sym c.self.view_is) in
    let of = subst (λ (v : StoreView). IsFlushOf v.options core c.args.flush) (sym c.self.view_is) c.requires.flush in
    let can = can_publish b free due_calls core c.args.flush c.self.invariant at c.requires.need of in
    let left = c.in_ok-answer.ensures.unused ∙ ap (unused_blocks (table_of b) (table_of c.publish_with.new.self)) collected in
    let enough : length (collected_by (store_of b free due_calls).space core.session) ≤ c.make_room.new.self.spare = omega (arith, c.in_default.ensures, c.block_count.ensures, ap (λ (bs : List ℕ). length bs) collected) in
    let back = comes_back b c.publish_with.new.self free due_calls core c.in_ok-answer.field-0.unused.held c.make_room.new.self.spare c.self.invariant left enough in
    back.room

pub set_blocks-requires-clause-low : goal.set_blocks-requires-clause-low
set_blocks-requires-clause-low c = omega (arith, c.session-session.ensures, from_one c.args.core.now.session (length (stage_of c.args.self.now).table.sessions) c.requires.home.home.home.session)

pub set_blocks-requires-clause-high : goal.set_blocks-requires-clause-high
set_blocks-requires-clause-high c =
    let b = c.self.inside.book in
    let free = c.self.inside.free.held in
    let due_calls = c.self.inside.due_calls.items in
    let core = c.args.core.now in
    let at = subst (λ (v : StoreView). IsAtHomeIn v core) (sym c.self.view_is) c.requires.home in
    omega (arith, c.session-session.ensures, due_inside b free due_calls core.session c.self.invariant at.home.home.session)

pub invariant_of-self-2 : goal.invariant_of-self-2
invariant_of-self-2 c =
    let b = c.self.inside.book in
    let free = c.self.inside.free.held in
    let due_calls = c.self.inside.due_calls.items in
    let core = c.args.core.now in
    let at = subst (λ (v : StoreView). IsAtHomeIn v core) (sym c.self.view_is) c.requires.home in
    let collected = c.requires.runs ∙ ap (λ (v : StoreView). collected_by v.space core.session) (sym c.self.view_is) in
    let of = subst (λ (v : StoreView). IsFlushOf v.options core c.args.flush) (sym c.self.view_is) c.requires.flush in
    let can = can_publish b free due_calls core c.args.flush c.self.invariant at c.requires.need of in
    let capacity = c.give_back_within.ensures.capacity ∙ ap (λ (f : FreeSpace). f.capacity) c.make_room.ensures.held in
    let gains = subst (λ (f : FreeSpace). Gains f.runs c.give_back_within.new.self.held.runs c.in_ok-answer.field-0.unused.held) c.make_room.ensures.held c.give_back_within.ensures.blocks in
    let turn = publication b c.publish_with.new.self free c.give_back_within.new.self.held due_calls c.set_blocks.new.due_calls.items core c.accept.new.self c.args.flush c.in_ok-answer.field-0.answer c.accept.result c.session-session.result c.args.runs.held c.in_ok-answer.field-0.unused.held c.new.result
    c.self.invariant at c.requires.need of c.session-session.ensures collected c.in_ok-answer.ensures.moved c.in_ok-answer.ensures.answer c.in_ok-answer.ensures.unused c.give_back_within.ensures.order capacity gains c.set_blocks.ensures c.new.ensures.items c.accept.ensures.core c.accept.ensures.reply in
    turn.store

pub returns-clause-done : goal.returns-clause-done
returns-clause-done c =
    let b = c.self.inside.book in
    let free = c.self.inside.free.held in
    let due_calls = c.self.inside.due_calls.items in
    let core = c.args.core.now in
    let at = subst (λ (v : StoreView). IsAtHomeIn v core) (sym c.self.view_is) c.requires.home in
    let collected = c.requires.runs ∙ ap (λ (v : StoreView). collected_by v.space core.session) (sym c.self.view_is) in
    let of = subst (λ (v : StoreView). IsFlushOf v.options core c.args.flush) (sym c.self.view_is) c.requires.flush in
    let can = can_publish b free due_calls core c.args.flush c.self.invariant at c.requires.need of in
    let capacity = c.give_back_within.ensures.capacity ∙ ap (λ (f : FreeSpace). f.capacity) c.make_room.ensures.held in
    let gains = subst (λ (f : FreeSpace). Gains f.runs c.give_back_within.new.self.held.runs c.in_ok-answer.field-0.unused.held) c.make_room.ensures.held c.give_back_within.ensures.blocks in
    let turn = publication b c.publish_with.new.self free c.give_back_within.new.self.held due_calls c.set_blocks.new.due_calls.items core c.accept.new.self c.args.flush c.in_ok-answer.field-0.answer c.accept.result c.session-session.result c.args.runs.held c.in_ok-answer.field-0.unused.held c.new.result
    c.self.invariant at c.requires.need of c.session-session.ensures collected c.in_ok-answer.ensures.moved c.in_ok-answer.ensures.answer c.in_ok-answer.ensures.unused c.give_back_within.ensures.order capacity gains c.set_blocks.ensures c.new.ensures.items c.accept.ensures.core c.accept.ensures.reply in
    subst (λ (v : StoreView). IsTurn v (store_of c.publish_with.new.self c.give_back_within.new.self.held c.set_blocks.new.due_calls.items) core c.accept.new.self (Some c.accept.result)) c.self.view_is turn.turn
