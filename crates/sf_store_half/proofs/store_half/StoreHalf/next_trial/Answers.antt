use Rattle.std.proofs.Common.{◌≡◌, ◌≤◌, ◌++◌, length, drop, map, sym, ap, subst, ◌∙◌, arith}
use Rattle.sf_retention.proofs.NoteLemmas.{IsInOrder}
use Rattle.sf_retention.specs.Notes.{due_pairs}
use Rattle.sf_store_half.specs.Fields.{Fields}
use Rattle.sf_store_half.specs.Inside.Promises.{holders_at}
use Rattle.sf_store_half.specs.Inside.Trials.{AreHoldersOnce, version_of}
use Rattle.sf_store_half.specs.contracts.store_half.StoreHalf.{the_view}
use Rattle.sf_store_half.proofs.FloorTrialLemmas.{due_next, holders_next, same_ledger, trial_is}
use Rattle.sf_store_half.proofs.OnceLemmas.{holders_once}
use Rattle.sf_store_half.proofs.store_half.StoreHalf.next_trial.Goals as goal

pub give_up_due-requires-clause-from : goal.give_up_due-requires-clause-from
give_up_due-requires-clause-from c =
    let f = c.args.self.now in
    let notes = ap (λ (x : Fields). x.notes) c.self.view_is in
    let some = c.requires.trial in
    subst (λ ns. c.args.trial.due ≤ length (due_pairs ns c.args.floor)) (sym notes)
    (due_next f some.0 c.args.births.now c.args.cuts.now c.args.trial c.args.floor (subst IsInOrder notes c.get-first.ensures.rising) some.1 c.requires.later)

pub give_up_due-requires-clause-once : goal.give_up_due-requires-clause-once
give_up_due-requires-clause-once c =
    let f = c.args.self.now in
    let own = the_view c.self.inside in
    let kept = c.self.invariant in
    let notes = ap (λ (x : Fields). x.notes) c.self.view_is in
    let some = c.requires.trial in
    let once = holders_once own kept.half some.0 c.args.floor kept.keeps (omega (arith, kept.keeps.floor, ap (λ (x : Fields). x.floor) c.self.view_is, c.requires.low, c.requires.later)) (omega (arith, c.requires.high, kept.keeps.now, ap (λ (x : Fields). x.versions.now) c.self.view_is)) in
    subst AreHoldersOnce
    (ap (λ (x : Fields). holders_at x some.0 c.args.floor) c.self.view_is
    ∙ sym (holders_next f some.0 c.args.births.now c.args.cuts.now c.args.trial c.args.floor (subst IsInOrder notes c.get-first.ensures.rising) some.1 c.requires.later)
    ∙ ap (λ ns. c.args.trial.given.holders ++ map version_of (drop c.args.trial.due (due_pairs ns c.args.floor))) (sym notes)) once

pub returns-clause-trial : goal.returns-clause-trial
returns-clause-trial c s tried =
    let f = c.args.self.now in
    let given = c.in_ok-given.given in
    let notes = ap (λ (x : Fields). x.notes) c.self.view_is in
    let holders : given.holders ≡ holders_at f s c.args.floor =
    c.in_ok-given.ensures.holders
    ∙ ap (λ ns. c.args.trial.given.holders ++ map version_of (drop c.args.trial.due (due_pairs ns c.args.floor))) notes
    ∙ holders_next f s c.args.births.now c.args.cuts.now c.args.trial c.args.floor (subst IsInOrder notes c.get-first.ensures.rising) tried c.requires.later in
    trial_is f s c.args.births.now c.args.cuts.now c.args.floor given c.in_ok-next.next (same_ledger f.stock c.args.trial.given given c.in_ok-given.ensures.ledger tried.given) holders
    c.in_ok-next.ensures.floor c.in_ok-next.ensures.given (c.in_ok-next.ensures.due ∙ c.in_ok-given.ensures.count ∙ ap (λ ns. length (due_pairs ns c.args.floor)) notes) c.in_ok-next.ensures.wanted c.in_ok-next.ensures.free
