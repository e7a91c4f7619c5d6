use Rattle.std.proofs.Common.{◌≡◌, ℕ, ◌-◌, length, subst, arith}
use Rattle.sf_types.specs.Space.Placings.{all_blocks}
use Rattle.sf_plain_store.specs.Stores.{StoreView}
use Rattle.sf_plain_store.proofs.ListedPlaceLemmas.{are_listed}
use Rattle.sf_plain_store.proofs.store.PlainStore.close.Goals as goal

pub placed_blocks-requires : goal.placed_blocks-requires
placed_blocks-requires c =
    let listed = are_listed c.self.inside.book c.self.inside.free.held c.self.inside.due_calls.items c.in_ok-places.places c.self.invariant c.in_ok-places.ensures in
    omega (arith, listed.count, listed.within, listed.few)

pub overflow_sub-free : goal.overflow_sub-free
overflow_sub-free c =
    let listed = are_listed c.self.inside.book c.self.inside.free.held c.self.inside.due_calls.items c.in_ok-places.places c.self.invariant c.in_ok-places.ensures in
    omega (arith, listed.count, listed.within, c.placed_blocks.ensures, c.from.ensures, c.capacity.ensures)

pub returns-clause-free : goal.returns-clause-free
returns-clause-free c =
    let listed = are_listed c.self.inside.book c.self.inside.free.held c.self.inside.due_calls.items c.in_ok-places.places c.self.invariant c.in_ok-places.ensures in
    subst (λ (v : StoreView). c.from.result - c.placed_blocks.result ≡ v.options.capacity - length (all_blocks v.space.places)) c.self.view_is
    (omega (arith, listed.count, c.placed_blocks.ensures, c.from.ensures, c.capacity.ensures))
