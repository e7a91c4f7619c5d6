use Rattle.std.proofs.Common.{◌≡◌, ℕ, List, length, sym, ap, subst, ◌∙◌, arith}
use Rattle.std.specs.Prelude.{IfOk, OnErr}
use Rattle.sf_types.proofs.NumberLemmas.{from_one}
use Rattle.sf_types.specs.Space.BlockRuns.{blocks_in}
use Rattle.sf_types.specs.Table.Sessions.{has_session}
use Rattle.sf_session.specs.declared.need.Need.TheVariants as need
use Rattle.sf_plain_store.specs.declared.due_calls.DueCall.{DueCall}
use Rattle.sf_plain_store.specs.Stores.{IsAtHomeIn, StoreView, stage_of}
use Rattle.sf_plain_store.specs.Turns.{IsTurn}
use Rattle.sf_plain_store.specs.Inside.Bodies.{IsStore, store_of}
use Rattle.sf_plain_store.specs.Inside.DueCalls.{due_call_of}
use Rattle.sf_plain_store.proofs.EntryTurnLemmas.{due_inside}
use Rattle.sf_plain_store.proofs.KeptFlushLemmas.{collected_here}
use Rattle.sf_plain_store.proofs.PublishStepLemmas.{has_call, kept_is_flush, on_err, unflushed, unflushed_store, without_flush}
use Rattle.sf_plain_store.proofs.store.PlainStore.publish.Goals as goal

pub kept_flush-requires-clause-low : goal.kept_flush-requires-clause-low
kept_flush-requires-clause-low c = from_one c.args.core.now.session (length (stage_of c.args.self.now).table.sessions) c.requires.home.home.home.session

pub kept_flush-requires-clause-high : goal.kept_flush-requires-clause-high
kept_flush-requires-clause-high c =
    let b = c.self.inside.book in
    let free = c.self.inside.free.held in
    let due_calls = c.self.inside.due_calls.items in
    let core = c.args.core.now in
    let at = subst (λ (v : StoreView). IsAtHomeIn v core) (sym c.self.view_is) c.requires.home in
    omega (arith, due_inside b free due_calls core.session c.self.invariant at.home.home.session)

pub invariant_of-self : goal.invariant_of-self
invariant_of-self c =
    let b = c.self.inside.book in
    let free = c.self.inside.free.held in
    let due_calls = c.self.inside.due_calls.items in
    let core = c.args.core.now in
    let at = subst (λ (v : StoreView). IsAtHomeIn v core) (sym c.self.view_is) c.requires.home in
    let s = core.session in
    let left = c.kept_flush.new.due_calls.items in
    let taken : left ≡ unflushed due_calls s = c.kept_flush.ensures.taken in
    let store = subst (λ (ds : List DueCall). IsStore b free ds) (sym taken) (without_flush b free due_calls s at.home.home.session c.self.invariant) in
    let same = ap (store_of b free) taken ∙ unflushed_store b free due_calls s ∙ c.self.view_is in
    store

pub returns-in_err-flush-clause-err : goal.returns-in_err-flush-clause-err
returns-in_err-flush-clause-err c =
    let b = c.self.inside.book in
    let free = c.self.inside.free.held in
    let due_calls = c.self.inside.due_calls.items in
    let core = c.args.core.now in
    let at = subst (λ (v : StoreView). IsAtHomeIn v core) (sym c.self.view_is) c.requires.home in
    let s = core.session in
    let left = c.kept_flush.new.due_calls.items in
    let taken : left ≡ unflushed due_calls s = c.kept_flush.ensures.taken in
    let store = subst (λ (ds : List DueCall). IsStore b free ds) (sym taken) (without_flush b free due_calls s at.home.home.session c.self.invariant) in
    let same = ap (store_of b free) taken ∙ unflushed_store b free due_calls s ∙ c.self.view_is in
    on_err (store_of b free left ≡ c.args.self.now) c.from_residual.result same

pub copied_blocks-requires-clause-low : goal.copied_blocks-requires-clause-low
copied_blocks-requires-clause-low c = omega (arith, c.session.ensures, from_one c.args.core.now.session (length (stage_of c.args.self.now).table.sessions) c.requires.home.home.home.session)

pub copied_blocks-requires-clause-high : goal.copied_blocks-requires-clause-high
copied_blocks-requires-clause-high c =
    let b = c.self.inside.book in
    let free = c.self.inside.free.held in
    let due_calls = c.self.inside.due_calls.items in
    let core = c.args.core.now in
    let at = subst (λ (v : StoreView). IsAtHomeIn v core) (sym c.self.view_is) c.requires.home in
    let s = core.session in
    let left = c.kept_flush.new.due_calls.items in
    let taken : left ≡ unflushed due_calls s = c.kept_flush.ensures.taken in
    let store = subst (λ (ds : List DueCall). IsStore b free ds) (sym taken) (without_flush b free due_calls s at.home.home.session c.self.invariant) in
    let same = ap (store_of b free) taken ∙ unflushed_store b free due_calls s ∙ c.self.view_is in
    omega (arith, c.session.ensures, due_inside b free left s store at.home.home.session, ap (λ (ds : List DueCall). length ds) c.deref.ensures.value)

pub invariant_of-self-in-Ok : goal.invariant_of-self-in-Ok
invariant_of-self-in-Ok c =
    let b = c.self.inside.book in
    let free = c.self.inside.free.held in
    let due_calls = c.self.inside.due_calls.items in
    let core = c.args.core.now in
    let at = subst (λ (v : StoreView). IsAtHomeIn v core) (sym c.self.view_is) c.requires.home in
    let s = core.session in
    let left = c.kept_flush.new.due_calls.items in
    let taken : left ≡ unflushed due_calls s = c.kept_flush.ensures.taken in
    let store = subst (λ (ds : List DueCall). IsStore b free ds) (sym taken) (without_flush b free due_calls s at.home.home.session c.self.invariant) in
    let same = ap (store_of b free) taken ∙ unflushed_store b free due_calls s ∙ c.self.view_is in
    store

pub invariant_of-self-in-Err : goal.invariant_of-self-in-Err
invariant_of-self-in-Err c =
    let b = c.self.inside.book in
    let free = c.self.inside.free.held in
    let due_calls = c.self.inside.due_calls.items in
    let core = c.args.core.now in
    let at = subst (λ (v : StoreView). IsAtHomeIn v core) (sym c.self.view_is) c.requires.home in
    let s = core.session in
    let left = c.kept_flush.new.due_calls.items in
    let taken : left ≡ unflushed due_calls s = c.kept_flush.ensures.taken in
    let store = subst (λ (ds : List DueCall). IsStore b free ds) (sym taken) (without_flush b free due_calls s at.home.home.session c.self.invariant) in
    let same = ap (store_of b free) taken ∙ unflushed_store b free due_calls s ∙ c.self.view_is in
    store

pub publish_in-requires-clause-home : goal.publish_in-requires-clause-home
publish_in-requires-clause-home c =
    let b = c.self.inside.book in
    let free = c.self.inside.free.held in
    let due_calls = c.self.inside.due_calls.items in
    let core = c.args.core.now in
    let at = subst (λ (v : StoreView). IsAtHomeIn v core) (sym c.self.view_is) c.requires.home in
    let s = core.session in
    let left = c.kept_flush.new.due_calls.items in
    let taken : left ≡ unflushed due_calls s = c.kept_flush.ensures.taken in
    let store = subst (λ (ds : List DueCall). IsStore b free ds) (sym taken) (without_flush b free due_calls s at.home.home.session c.self.invariant) in
    let same = ap (store_of b free) taken ∙ unflushed_store b free due_calls s ∙ c.self.view_is in
    subst (λ (v : StoreView). IsAtHomeIn v core) (sym same) c.requires.home

pub publish_in-requires-clause-runs : goal.publish_in-requires-clause-runs
publish_in-requires-clause-runs c =
    let b = c.self.inside.book in
    let free = c.self.inside.free.held in
    let due_calls = c.self.inside.due_calls.items in
    let core = c.args.core.now in
    let at = subst (λ (v : StoreView). IsAtHomeIn v core) (sym c.self.view_is) c.requires.home in
    let s = core.session in
    let left = c.kept_flush.new.due_calls.items in
    let taken : left ≡ unflushed due_calls s = c.kept_flush.ensures.taken in
    let store = subst (λ (ds : List DueCall). IsStore b free ds) (sym taken) (without_flush b free due_calls s at.home.home.session c.self.invariant) in
    let same = ap (store_of b free) taken ∙ unflushed_store b free due_calls s ∙ c.self.view_is in
    ap blocks_in (c.in-Ok.ensures ∙ ap (λ (ds : List DueCall). (due_call_of ds c.session.result).blocks.held) c.deref.ensures.value ∙ ap (λ (n : ℕ). (due_call_of left n).blocks.held) c.session.ensures)
    ∙ sym (collected_here left s)

pub publish_in-requires-clause-flush : goal.publish_in-requires-clause-flush
publish_in-requires-clause-flush c =
    let b = c.self.inside.book in
    let free = c.self.inside.free.held in
    let due_calls = c.self.inside.due_calls.items in
    let core = c.args.core.now in
    let at = subst (λ (v : StoreView). IsAtHomeIn v core) (sym c.self.view_is) c.requires.home in
    let has = has_call core need.Publish c.requires.need (λ same. absurd cc) (λ same. absurd cc) in
    c.in_ok-flush.ensures.flush b.options (kept_is_flush b free due_calls core has.call c.self.invariant at has.is c.requires.need)

pub returns-in-Ok-clause-done : goal.returns-in-Ok-clause-done
returns-in-Ok-clause-done c =
    let b = c.self.inside.book in
    let free = c.self.inside.free.held in
    let due_calls = c.self.inside.due_calls.items in
    let core = c.args.core.now in
    let at = subst (λ (v : StoreView). IsAtHomeIn v core) (sym c.self.view_is) c.requires.home in
    let s = core.session in
    let left = c.kept_flush.new.due_calls.items in
    let taken : left ≡ unflushed due_calls s = c.kept_flush.ensures.taken in
    let store = subst (λ (ds : List DueCall). IsStore b free ds) (sym taken) (without_flush b free due_calls s at.home.home.session c.self.invariant) in
    let same = ap (store_of b free) taken ∙ unflushed_store b free due_calls s ∙ c.self.view_is in
    subst (λ (v : StoreView). IfOk c.publish_in.result (IsTurn v c.publish_in.new.self core c.publish_in.new.core)) same c.publish_in.ensures.done

pub returns-in-Ok-clause-err : goal.returns-in-Ok-clause-err
returns-in-Ok-clause-err c =
    let b = c.self.inside.book in
    let free = c.self.inside.free.held in
    let due_calls = c.self.inside.due_calls.items in
    let core = c.args.core.now in
    let at = subst (λ (v : StoreView). IsAtHomeIn v core) (sym c.self.view_is) c.requires.home in
    let s = core.session in
    let left = c.kept_flush.new.due_calls.items in
    let taken : left ≡ unflushed due_calls s = c.kept_flush.ensures.taken in
    let store = subst (λ (ds : List DueCall). IsStore b free ds) (sym taken) (without_flush b free due_calls s at.home.home.session c.self.invariant) in
    let same = ap (store_of b free) taken ∙ unflushed_store b free due_calls s ∙ c.self.view_is in
    subst (λ (v : StoreView). OnErr c.publish_in.result (c.publish_in.new.self ≡ v)) same c.publish_in.ensures.err

pub returns-in-Err-clause-err : goal.returns-in-Err-clause-err
returns-in-Err-clause-err c =
    let b = c.self.inside.book in
    let free = c.self.inside.free.held in
    let due_calls = c.self.inside.due_calls.items in
    let core = c.args.core.now in
    let at = subst (λ (v : StoreView). IsAtHomeIn v core) (sym c.self.view_is) c.requires.home in
    let s = core.session in
    let left = c.kept_flush.new.due_calls.items in
    let taken : left ≡ unflushed due_calls s = c.kept_flush.ensures.taken in
    let store = subst (λ (ds : List DueCall). IsStore b free ds) (sym taken) (without_flush b free due_calls s at.home.home.session c.self.invariant) in
    let same = ap (store_of b free) taken ∙ unflushed_store b free due_calls s ∙ c.self.view_is in
    same
