use Rattle.std.proofs.Common.{◌≡◌, ℕ, List, ◌++◌, length, take, refl, sym, ap, subst, ◌∙◌, arith}
use Rattle.sf_types.specs.declared.run.Run.{Run}
use Rattle.sf_types.specs.Space.BlockRuns.{blocks_in}
use Rattle.sf_block_space.specs.Free.{AreOut, FreeSpace, Gains}
use Rattle.sf_block_space.proofs.FilledRunLemmas.{filled_by_blocks}
use Rattle.std.proofs.lemmas.List.{length-take}
use Rattle.sf_plain_store.specs.Stores.{StoreView}
use Rattle.sf_plain_store.specs.Turns.{KeepsCores, store_after_reclaim}
use Rattle.sf_plain_store.specs.Inside.Bodies.{store_of}
use Rattle.sf_plain_store.proofs.ReclaimLemmas.{parked_out, reclaimed}
use Rattle.sf_plain_store.proofs.store.PlainStore.reclaim_turn.Goals as goal

pub give_back_within-requires-clause-out : goal.give_back_within-requires-clause-out
give_back_within-requires-clause-out c =
    let b = c.self.inside.book in
    let taken = c.take_ripe-taken.ensures.taken ∙ ap (λ (rs : List Run). blocks_in rs ++ take c.take_ripe-taken.result b.parked) (c.make_room.ensures.held ∙ c.new-ripe.ensures.items) in
    subst (λ (f : FreeSpace). AreOut f (blocks_in c.take_ripe-taken.new.into.held)) (sym c.make_room-2.ensures.held)
    (parked_out b c.self.inside.free.held c.self.inside.due_calls.items c.take_ripe-taken.result c.take_ripe-taken.new.into.held c.self.invariant taken)

pub give_back_within-requires-clause-room : goal.give_back_within-requires-clause-room
give_back_within-requires-clause-room c =
    let b = c.self.inside.book in
    let taken = c.take_ripe-taken.ensures.taken ∙ ap (λ (rs : List Run). blocks_in rs ++ take c.take_ripe-taken.result b.parked) (c.make_room.ensures.held ∙ c.new-ripe.ensures.items) in
    omega (arith, filled_by_blocks c.take_ripe-taken.new.into.held, ap (λ (bs : List ℕ). length bs) taken, length-take c.take_ripe-taken.result b.parked, c.take_ripe-taken.ensures.count, c.min-count.ensures, c.parked.ensures, c.in_ok-make_room-2.ensures)

pub invariant_of-self-2 : goal.invariant_of-self-2
invariant_of-self-2 c =
    let b = c.self.inside.book in
    let free = c.self.inside.free.held in
    let ripe = c.take_ripe-taken.new.into.held in
    let next = c.give_back_within.new.self.held in
    let taken = c.take_ripe-taken.ensures.taken ∙ ap (λ (rs : List Run). blocks_in rs ++ take c.take_ripe-taken.result b.parked) (c.make_room.ensures.held ∙ c.new-ripe.ensures.items) in
    let capacity = c.give_back_within.ensures.capacity ∙ ap (λ (f : FreeSpace). f.capacity) c.make_room-2.ensures.held in
    let gains = subst (λ (f : FreeSpace). Gains f.runs next.runs ripe) c.make_room-2.ensures.held c.give_back_within.ensures.blocks in
    (reclaimed b c.take_ripe-taken.new.self free next c.self.inside.due_calls.items c.args.max c.take_ripe-taken.result ripe c.self.invariant c.take_ripe-taken.ensures.count c.take_ripe-taken.ensures.book taken c.give_back_within.ensures.order capacity gains).store

pub returns-clause-store : goal.returns-clause-store
returns-clause-store c =
    let b = c.self.inside.book in
    let free = c.self.inside.free.held in
    let due_calls = c.self.inside.due_calls.items in
    let ripe = c.take_ripe-taken.new.into.held in
    let next = c.give_back_within.new.self.held in
    let taken = c.take_ripe-taken.ensures.taken ∙ ap (λ (rs : List Run). blocks_in rs ++ take c.take_ripe-taken.result b.parked) (c.make_room.ensures.held ∙ c.new-ripe.ensures.items) in
    let capacity = c.give_back_within.ensures.capacity ∙ ap (λ (f : FreeSpace). f.capacity) c.make_room-2.ensures.held in
    let gains = subst (λ (f : FreeSpace). Gains f.runs next.runs ripe) c.make_room-2.ensures.held c.give_back_within.ensures.blocks in
    (reclaimed b c.take_ripe-taken.new.self free next due_calls c.args.max c.take_ripe-taken.result ripe c.self.invariant c.take_ripe-taken.ensures.count c.take_ripe-taken.ensures.book taken c.give_back_within.ensures.order capacity gains).after
    ∙ ap (store_after_reclaim c.args.max) c.self.view_is

pub returns-clause-cores : goal.returns-clause-cores
returns-clause-cores c =
    let b = c.self.inside.book in
    let free = c.self.inside.free.held in
    let due_calls = c.self.inside.due_calls.items in
    let ripe = c.take_ripe-taken.new.into.held in
    let next = c.give_back_within.new.self.held in
    let taken = c.take_ripe-taken.ensures.taken ∙ ap (λ (rs : List Run). blocks_in rs ++ take c.take_ripe-taken.result b.parked) (c.make_room.ensures.held ∙ c.new-ripe.ensures.items) in
    let capacity = c.give_back_within.ensures.capacity ∙ ap (λ (f : FreeSpace). f.capacity) c.make_room-2.ensures.held in
    let gains = subst (λ (f : FreeSpace). Gains f.runs next.runs ripe) c.make_room-2.ensures.held c.give_back_within.ensures.blocks in
    subst (λ (v : StoreView). KeepsCores v (store_of c.take_ripe-taken.new.self next due_calls)) c.self.view_is
    (reclaimed b c.take_ripe-taken.new.self free next due_calls c.args.max c.take_ripe-taken.result ripe c.self.invariant c.take_ripe-taken.ensures.count c.take_ripe-taken.ensures.book taken c.give_back_within.ensures.order capacity gains).cores
