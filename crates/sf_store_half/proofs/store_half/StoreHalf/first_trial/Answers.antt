use Rattle.std.proofs.Common.{◌≡◌, ◌++◌, ◌∷◌, [], List, length, map, sym, ap, subst, ◌∙◌, arith}
use Rattle.sf_types.specs.declared.holder.Holder.{Holder}
use Rattle.sf_types.specs.declared.holder.Holder.TheVariants as holder
use Rattle.sf_lifetimes.specs.Ledgers.{GivenUpView}
use Rattle.sf_retention.specs.Notes.{due_pairs}
use Rattle.sf_store_half.specs.Fields.{Fields}
use Rattle.sf_store_half.specs.Inside.Promises.{holders_at}
use Rattle.sf_store_half.specs.Inside.Trials.{AreHoldersOnce, IsGivenUpOf, version_of}
use Rattle.sf_store_half.specs.contracts.store_half.StoreHalf.{the_view}
use Rattle.sf_store_half.proofs.FloorTrialLemmas.{same_ledger, trial_is}
use Rattle.sf_store_half.proofs.OnceLemmas.{holders_once}
use Rattle.sf_store_half.proofs.store_half.StoreHalf.first_trial.Goals as goal

pub give_up_due-requires-clause-once : goal.give_up_due-requires-clause-once
give_up_due-requires-clause-once c =
    let f = the_view c.self.inside in
    let kept = c.self.invariant in
    let own : c.in_ok-given.given.holders ≡ holder.Session c.args.session ∷ [] =
    ap (λ (g : GivenUpView). g.holders) c.in_ok-given.ensures ∙ ap (λ (hs : List Holder). hs ++ holder.Session c.args.session ∷ []) c.give_up.ensures.holders in
    subst (λ (hs : List Holder). AreHoldersOnce (hs ++ map version_of (due_pairs f.notes f.floor))) (sym own)
    (holders_once f kept.half c.args.session f.floor kept.keeps (omega (arith, kept.keeps.floor)) (omega (arith, kept.reached, kept.keeps.now)))

pub returns-clause-trial : goal.returns-clause-trial
returns-clause-trial c =
    let f = c.args.self.now in
    let s = c.args.session in
    let given = c.in_ok-given-2.given in
    let own : c.in_ok-given.given.holders ≡ holder.Session s ∷ [] =
    ap (λ (g : GivenUpView). g.holders) c.in_ok-given.ensures ∙ ap (λ (hs : List Holder). hs ++ holder.Session s ∷ []) c.give_up.ensures.holders in
    let holders : given.holders ≡ holders_at f s f.floor =
    c.in_ok-given-2.ensures.holders
    ∙ ap (λ (hs : List Holder). hs ++ map version_of (due_pairs c.self.inside.notes.held c.self.inside.floor)) own
    ∙ ap (λ (x : Fields). holders_at x s x.floor) c.self.view_is in
    let first : IsGivenUpOf c.self.inside.stock.held c.give_up.result = record { holdings = c.give_up.ensures.holdings; freed = c.give_up.ensures.freed } in
    let of : IsGivenUpOf f.stock given =
    subst (λ (x : Fields). IsGivenUpOf x.stock given) c.self.view_is
    (same_ledger c.self.inside.stock.held c.in_ok-given.given given c.in_ok-given-2.ensures.ledger
    (same_ledger c.self.inside.stock.held c.give_up.result c.in_ok-given.given (ap (λ (g : GivenUpView). g.ledger) c.in_ok-given.ensures) first)) in
    let due = c.in_ok-given-2.ensures.count ∙ ap (λ (x : Fields). length (due_pairs x.notes x.floor)) c.self.view_is in
    trial_is f s c.args.births.now c.args.cuts.now f.floor given c.in_ok-trial.trial of holders
    (c.in_ok-trial.ensures.floor ∙ ap (λ (x : Fields). x.floor) c.self.view_is) c.in_ok-trial.ensures.given (c.in_ok-trial.ensures.due ∙ due) c.in_ok-trial.ensures.wanted c.in_ok-trial.ensures.free
