use Rattle.std.proofs.Common.{◌≡◌, ℕ, ◌-◌, IsTrue, List, length, None, refl, sym, ap, subst, ◌∙◌, arith}
use Rattle.std.specs.Prelude.{Result, Ok, Err, OnErr}
use Rattle.sf_types.specs.Inside.Births.{IsRising}
use Rattle.sf_types.specs.Table.Sessions.{has_session}
use Rattle.sf_types.proofs.NumberLemmas.{from_one}
use Rattle.sf_plain_store.specs.Stores.{IsAtHomeIn, StoreView, stage_of}
use Rattle.sf_plain_store.specs.Turns.{IsTurn, store_after_reclaim}
use Rattle.sf_plain_store.specs.Inside.Bodies.{store_of}
use Rattle.sf_plain_store.proofs.CollectStepLemmas.{can_collect, collection, collection_of, enough_free}
use Rattle.sf_plain_store.proofs.EntryTurnLemmas.{due_inside}
use Rattle.sf_plain_store.proofs.ReclaimLemmas.{none_reclaimed}
use Rattle.sf_plain_store.proofs.store.PlainStore.collect.Goals as goal

pub grant-requires : goal.grant-requires
grant-requires c =
    let b = c.self.inside.book in
    let free = c.self.inside.free.held in
    let due_calls = c.self.inside.due_calls.items in
    let core = c.args.core.now in
    let v = store_of b free due_calls in
    let at = subst (λ (w : StoreView). IsAtHomeIn w core) (sym c.self.view_is) c.requires.home in
    let can = can_collect b free due_calls core c.args.blocks c.self.invariant at c.requires.need in
    let wanting = c.saturating_sub-wanting.ensures ∙ ap (λ n. c.args.blocks - n) c.free.ensures in
    let is = c.self-2.view_is ∙ c.in_ok-reclaim_turn.ensures.store ∙ ap (λ n. store_after_reclaim n c.args.self.now) wanting ∙ ap (store_after_reclaim (c.args.blocks - length v.space.free)) (sym c.self.view_is) in
    enough_free v core c.args.blocks c.self-2.inside.book c.self-2.inside.free.held c.self-2.inside.due_calls.items can is

pub set_blocks-requires-clause-low : goal.set_blocks-requires-clause-low
set_blocks-requires-clause-low c = omega (arith, c.session.ensures, from_one c.args.core.now.session (length (stage_of c.args.self.now).table.sessions) c.requires.home.home.home.session)

pub set_blocks-requires-clause-high : goal.set_blocks-requires-clause-high
set_blocks-requires-clause-high c =
    let core = c.args.core.now in
    let is = c.self-2.view_is ∙ c.in_ok-reclaim_turn.ensures.store in
    let there = subst (λ (w : StoreView). IsTrue (has_session (stage_of w).table core.session)) (sym is) c.requires.home.home.home.session in
    omega (arith, c.session.ensures, due_inside c.self-2.inside.book c.self-2.inside.free.held c.self-2.inside.due_calls.items core.session c.self-2.invariant there)

pub invariant_of-self-2 : goal.invariant_of-self-2
invariant_of-self-2 c =
    let b = c.self.inside.book in
    let free = c.self.inside.free.held in
    let due_calls = c.self.inside.due_calls.items in
    let core = c.args.core.now in
    let v = store_of b free due_calls in
    let at = subst (λ (w : StoreView). IsAtHomeIn w core) (sym c.self.view_is) c.requires.home in
    let can = can_collect b free due_calls core c.args.blocks c.self.invariant at c.requires.need in
    let wanting = c.saturating_sub-wanting.ensures ∙ ap (λ n. c.args.blocks - n) c.free.ensures in
    let is = c.self-2.view_is ∙ c.in_ok-reclaim_turn.ensures.store ∙ ap (λ n. store_after_reclaim n c.args.self.now) wanting ∙ ap (store_after_reclaim (c.args.blocks - length v.space.free)) (sym c.self.view_is) in
    (collection_of v c.self-2.inside.book c.self-2.inside.free.held c.grant.new.self.held c.self-2.inside.due_calls.items c.set_blocks.new.due_calls.items core c.collected.new.self c.args.blocks c.in_ok-runs.runs c.session.result c.session.ensures at c.requires.need can c.self-2.invariant is
    c.in_ok-runs.ensures.granted c.in_ok-runs.ensures.order c.in_ok-runs.ensures.capacity c.in_ok-runs.ensures.left c.in_ok-runs.ensures.out c.set_blocks.ensures (c.collected.ensures c.args.blocks c.requires.need)).store

pub returns-clause-done : goal.returns-clause-done
returns-clause-done c =
    let b = c.self.inside.book in
    let free = c.self.inside.free.held in
    let due_calls = c.self.inside.due_calls.items in
    let core = c.args.core.now in
    let v = store_of b free due_calls in
    let at = subst (λ (w : StoreView). IsAtHomeIn w core) (sym c.self.view_is) c.requires.home in
    let can = can_collect b free due_calls core c.args.blocks c.self.invariant at c.requires.need in
    let wanting = c.saturating_sub-wanting.ensures ∙ ap (λ n. c.args.blocks - n) c.free.ensures in
    let is = c.self-2.view_is ∙ c.in_ok-reclaim_turn.ensures.store ∙ ap (λ n. store_after_reclaim n c.args.self.now) wanting ∙ ap (store_after_reclaim (c.args.blocks - length v.space.free)) (sym c.self.view_is) in
    subst (λ (w : StoreView). IsTurn w (store_of c.self-2.inside.book c.grant.new.self.held c.set_blocks.new.due_calls.items) core c.collected.new.self None) c.self.view_is
    (collection_of v c.self-2.inside.book c.self-2.inside.free.held c.grant.new.self.held c.self-2.inside.due_calls.items c.set_blocks.new.due_calls.items core c.collected.new.self c.args.blocks c.in_ok-runs.runs c.session.result c.session.ensures at c.requires.need can c.self-2.invariant is
    c.in_ok-runs.ensures.granted c.in_ok-runs.ensures.order c.in_ok-runs.ensures.capacity c.in_ok-runs.ensures.left c.in_ok-runs.ensures.out c.set_blocks.ensures (c.collected.ensures c.args.blocks c.requires.need)).turn

pub returns-in_err-reclaim_turn-clause-err : goal.returns-in_err-reclaim_turn-clause-err
returns-in_err-reclaim_turn-clause-err c =
    let rises = c.self.invariant.sound.rising in
    err_of c.args.self.now c.reclaim_turn.new.self c.from_residual.result c.in_err-reclaim_turn.ensures.err (none_reclaimed c.args.self.now (subst (λ (w : StoreView). IsRising w.space.free) c.self.view_is rises))
  where
    err_of : {R E : Type 0} (v w : StoreView) (result : Result R E) → w ≡ v → store_after_reclaim 0 v ≡ v → OnErr result ((x : ℕ) × (w ≡ store_after_reclaim x v))
    err_of v w (Ok r) same none = tt
    err_of v w (Err e) same none = (0, same ∙ sym none)
