use Rattle.std.proofs.Common.{◌≡◌, ℕ, sym, ap, subst}
use Rattle.sf_block_space.specs.Free.{AreFreeRuns}
use Rattle.sf_session.specs.Cores.{new_core}
use Rattle.sf_plain_store.specs.Stores.{IsAtHomeIn, StoreView, stage_of}
use Rattle.sf_plain_store.proofs.OpeningLemmas.{new_at_home, opening_stands, opening_store}
use Rattle.sf_plain_store.proofs.store.PlainStore.new.Goals as goal

pub invariant_of-result : goal.invariant_of-result
invariant_of-result c =
    let free = c.in_ok-free.free.held in
    opening_stands c.in-Ok.book free c.in_ok-due_calls.due_calls.items c.args.options c.args.sessions c.requires.options c.in-Ok.ensures
    (subst (λ n. AreFreeRuns n free.runs) (sym c.in_ok-free.ensures.capacity) c.in_ok-free.ensures.order) c.in_ok-free.ensures.capacity c.in_ok-free.ensures.blocks c.in_ok-due_calls.ensures

pub returns-in-Ok-clause-stage : goal.returns-in-Ok-clause-stage
returns-in-Ok-clause-stage c = ap stage_of (opening_store c.in-Ok.book c.in_ok-free.free.held c.in_ok-due_calls.due_calls.items c.args.options c.args.sessions c.in-Ok.ensures c.in_ok-free.ensures.blocks c.in_ok-due_calls.ensures)

pub returns-in-Ok-clause-home : goal.returns-in-Ok-clause-home
returns-in-Ok-clause-home c = λ s low high.
    subst (λ (v : StoreView). IsAtHomeIn v (new_core s c.args.options.gather)) (sym (opening_store c.in-Ok.book c.in_ok-free.free.held c.in_ok-due_calls.due_calls.items c.args.options c.args.sessions c.in-Ok.ensures c.in_ok-free.ensures.blocks c.in_ok-due_calls.ensures))
    (new_at_home c.args.options c.args.sessions s low high)
