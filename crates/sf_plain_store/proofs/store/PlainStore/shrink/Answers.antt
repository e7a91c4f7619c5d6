use Rattle.std.proofs.Common.{◌≡◌, ℕ, ◌-◌, sym, ap, ◌∙◌, arith}
use Rattle.std.specs.List.{range_with_len}
use Rattle.sf_types.specs.Play.Turns.{stage_after_shrink}
use Rattle.sf_plain_store.specs.Stores.{StoreView, stage_of, with_stage}
use Rattle.sf_plain_store.proofs.ListedPlaceLemmas.{are_listed}
use Rattle.sf_plain_store.proofs.SmallStoreLemmas.{book_shrunk, can_plan, can_shift, shrunk}
use Rattle.sf_plain_store.proofs.store.PlainStore.shrink.Goals as goal

pub placed_blocks-used-requires : goal.placed_blocks-used-requires
placed_blocks-used-requires c =
    let b = c.self.inside.book in
    let free = c.self.inside.free.held in
    let due_calls = c.self.inside.due_calls.items in
    let places = c.in_ok-places.places in
    let listed = are_listed b free due_calls places c.self.invariant c.in_ok-places.ensures in
    omega (arith, listed.count, listed.within, listed.few)

pub shifts_of-requires : goal.shifts_of-requires
shifts_of-requires c =
    let b = c.self.inside.book in
    let free = c.self.inside.free.held in
    let due_calls = c.self.inside.due_calls.items in
    let places = c.in_ok-places.places in
    can_plan b free due_calls places c.self.invariant c.in_ok-places.ensures

pub room_behind-requires-clause-used : goal.room_behind-requires-clause-used
room_behind-requires-clause-used c =
    let b = c.self.inside.book in
    let free = c.self.inside.free.held in
    let due_calls = c.self.inside.due_calls.items in
    let places = c.in_ok-places.places in
    let listed = are_listed b free due_calls places c.self.invariant c.in_ok-places.ensures in
    omega (arith, listed.count, listed.within, c.placed_blocks-used.ensures, c.capacity.ensures)

pub shift-requires-clause-runs : goal.shift-requires-clause-runs
shift-requires-clause-runs c =
    let b = c.self.inside.book in
    let free = c.self.inside.free.held in
    let due_calls = c.self.inside.due_calls.items in
    let places = c.in_ok-places.places in
    let none = sym c.has_promise.ensures ∙ c.if-has_promise.false in
    let can = can_shift b c.take_ripe-count.new.self free due_calls places c.in_ok-shifts.shifts c.parked-in-Ok.result c.take_ripe-count.result c.self.invariant none c.in_ok-places.ensures
    c.in_ok-shifts.ensures.plan c.in_ok-shifts.ensures.rule c.parked-in-Ok.ensures c.take_ripe-count.ensures.count c.take_ripe-count.ensures.book in
    can.runs

pub shift-requires-clause-safe : goal.shift-requires-clause-safe
shift-requires-clause-safe c =
    let b = c.self.inside.book in
    let free = c.self.inside.free.held in
    let due_calls = c.self.inside.due_calls.items in
    let places = c.in_ok-places.places in
    let none = sym c.has_promise.ensures ∙ c.if-has_promise.false in
    let can = can_shift b c.take_ripe-count.new.self free due_calls places c.in_ok-shifts.shifts c.parked-in-Ok.result c.take_ripe-count.result c.self.invariant none c.in_ok-places.ensures
    c.in_ok-shifts.ensures.plan c.in_ok-shifts.ensures.rule c.parked-in-Ok.ensures c.take_ripe-count.ensures.count c.take_ripe-count.ensures.book in
    can.safe

pub invariant_of-self : goal.invariant_of-self
invariant_of-self c =
    let b = c.self.inside.book in
    let free = c.self.inside.free.held in
    let due_calls = c.self.inside.due_calls.items in
    let places = c.in_ok-places.places in
    let listed = are_listed b free due_calls places c.self.invariant c.in_ok-places.ensures in
    let none = sym c.has_promise.ensures ∙ c.if-has_promise.false in
    let can = can_shift b c.take_ripe-count.new.self free due_calls places c.in_ok-shifts.shifts c.parked-in-Ok.result c.take_ripe-count.result c.self.invariant none c.in_ok-places.ensures
    c.in_ok-shifts.ensures.plan c.in_ok-shifts.ensures.rule c.parked-in-Ok.ensures c.take_ripe-count.ensures.count c.take_ripe-count.ensures.book in
    let used = c.placed_blocks-used.result in
    let next = c.in-Ok.free.held in
    let book = book_shrunk b c.take_ripe-count.new.self c.shift.new.self c.in_ok-shifts.shifts c.take_ripe-count.result can c.take_ripe-count.ensures.book c.shift.ensures in
    let left = c.in-Ok.ensures.blocks ∙ ap (λ n. range_with_len used (n - used)) c.capacity.ensures in
    let done = shrunk b c.shift.new.self free next due_calls used c.self.invariant none book (c.placed_blocks-used.ensures ∙ listed.count) c.in-Ok.ensures.order (c.in-Ok.ensures.capacity ∙ c.capacity.ensures) left in
    done.store

pub returns-in-Ok-clause-store : goal.returns-in-Ok-clause-store
returns-in-Ok-clause-store c =
    let b = c.self.inside.book in
    let free = c.self.inside.free.held in
    let due_calls = c.self.inside.due_calls.items in
    let places = c.in_ok-places.places in
    let listed = are_listed b free due_calls places c.self.invariant c.in_ok-places.ensures in
    let none = sym c.has_promise.ensures ∙ c.if-has_promise.false in
    let can = can_shift b c.take_ripe-count.new.self free due_calls places c.in_ok-shifts.shifts c.parked-in-Ok.result c.take_ripe-count.result c.self.invariant none c.in_ok-places.ensures
    c.in_ok-shifts.ensures.plan c.in_ok-shifts.ensures.rule c.parked-in-Ok.ensures c.take_ripe-count.ensures.count c.take_ripe-count.ensures.book in
    let used = c.placed_blocks-used.result in
    let next = c.in-Ok.free.held in
    let book = book_shrunk b c.take_ripe-count.new.self c.shift.new.self c.in_ok-shifts.shifts c.take_ripe-count.result can c.take_ripe-count.ensures.book c.shift.ensures in
    let left = c.in-Ok.ensures.blocks ∙ ap (λ n. range_with_len used (n - used)) c.capacity.ensures in
    let done = shrunk b c.shift.new.self free next due_calls used c.self.invariant none book (c.placed_blocks-used.ensures ∙ listed.count) c.in-Ok.ensures.order (c.in-Ok.ensures.capacity ∙ c.capacity.ensures) left in
    done.after ∙ ap (λ (v : StoreView). with_stage v (stage_after_shrink (stage_of v))) c.self.view_is
