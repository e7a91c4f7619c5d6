-- Cores at home behind events, promises, publications and cancels.
use Rattle.std.proofs.Common.{◌≡◌, ℕ, ◌-◌, IsTrue, List, [], ◌∷◌, ◌++◌, Option, Some, None, refl, sym, ap, subst, ◌∙◌}
use Rattle.std.specs.Prelude.{slice_set}
use Rattle.sf_types.specs.declared.call.Call.{Call}
use Rattle.sf_types.specs.declared.history.Entry.{Entry}
use Rattle.sf_types.specs.declared.history.Kind.TheVariants as kind
use Rattle.sf_types.specs.declared.options.Options.{Options}
use Rattle.sf_types.specs.declared.reply.Reply.{Reply}
use Rattle.sf_types.specs.Table.Parts.{Promise, Session, Table}
use Rattle.sf_types.specs.Table.Sessions.{has_session, session_of}
use Rattle.sf_types.specs.Calls.Steps.{step}
use Rattle.sf_types.specs.Space.Due.{is_due}
use Rattle.sf_types.specs.Space.Promises.{promise}
use Rattle.sf_types.specs.Orders.Histories.{IsLegal, IsLegalBeside, history_table, effect_of, entry_of, call_effect, with_reply}
use Rattle.sf_types.specs.Halves.Own.{Own, own_of, own_due}
use Rattle.sf_types.specs.Halves.Asks.{half_of, half_answer, request_of, kept_births, after_answer}
use Rattle.sf_laws.specs.Halves.{Agrees}
use Rattle.sf_laws.proofs.ChangeLemmas.{step_changed}
use Rattle.sf_laws.proofs.HalfLemmas.{stands_where, event_law}
use Rattle.sf_laws.proofs.OwnLemmas.{due_by_own}
use Rattle.sf_laws.proofs.PromiseLemmas.{own_session}
use Rattle.sf_session.specs.declared.need.Need.TheVariants as need
use Rattle.sf_session.specs.Cores.{CoreView, need_of, accepted}
use Rattle.sf_session.specs.AtHome.{IsAtHomeAfter, with_pending, reply_after, event_answer}
use Rattle.sf_session.proofs.HomeLemmas.{IsBehindPending, behind_pending, IsHeld, home_after}
use Rattle.sf_session.proofs.NeedLemmas.{event_need, unpromised_is}

-- whether a call is due behind the pending calls
pub due_behind : (options : Options) (sessions : ℕ) (history : List Entry) (core : CoreView) (c : Call) → IsBehindPending options sessions history core
    → is_due (history_table options sessions (with_pending history core)) core.session c ≡ own_due core.gather core.own c
due_behind options sessions history core c behind =
    let u = history_table options sessions (with_pending history core) in
    due_by_own u core.session c (stands_where options sessions (with_pending history core) behind.legal).rising
    ∙ ap (λ g. own_due g (own_of u core.session) c) (sym behind.gather)
    ∙ ap (λ (o : Own). own_due core.gather o c) behind.own

-- the promise of a session after a call
pub record IsPart (t u : Table) (s : ℕ) (q : Option Promise) : Type 0 where
  pub part : Session
  pub promised : part.promise ≡ q
  pub sessions : u.sessions ≡ slice_set t.sessions (s - 1) part

pub promise_changed : (t u : Table) (s : ℕ) (q : Option Promise) (r : Option Promise) → IsTrue (has_session t s) → (changed : IsPart t u s q) → q ≡ r → (session_of u s).promise ≡ r
promise_changed t u s q r has changed same = ap (λ (p : Session). p.promise) (own_session t u s changed.part has changed.sessions) ∙ changed.promised ∙ same

-- an event
pub record IsEventDone (options : Options) (sessions : ℕ) (history : List Entry) (core : CoreView) (c : Call) : Type 0 where
  pub home : IsAtHomeAfter options sessions (with_pending history core ++ entry_of core.session kind.Call c ∷ [])
      (accepted core c (event_answer (history_table options sessions (with_pending history core)) core c))
  pub told : reply_after options sessions (with_pending history core) (entry_of core.session kind.Call c)
      ≡ Some (after_answer core.own c (event_answer (history_table options sessions (with_pending history core)) core c)).1

pub event_done : (options : Options) (sessions : ℕ) (history : List Entry) (core : CoreView) (c : Call) → IsAtHomeAfter options sessions history core → core.standing ≡ Some c → need_of core ≡ need.Event
    → IsEventDone options sessions history core c
event_done options sessions history core c at standing needs =
    let s = core.session in
    let parts = event_need core c standing needs in
    let none = unpromised_is (session_of (history_table options sessions history) s).promise core.pending core.standing core.phase parts.phase at.home.promised in
    let behind = behind_pending options sessions history core at parts.goes_on none in
    let u = history_table options sessions (with_pending history core) in
    let e = entry_of s kind.Call c in
    let not_due = due_behind options sessions history core c behind ∙ parts.due_is in
    let legal : IsLegal u s kind.Call c = record { session = behind.session; goes_on = behind.goes_on; standing = subst (λ (o : Option Promise). IsLegalBeside o (is_due u s c) kind.Call c) (sym behind.unpromised) not_due } in
    let agrees : Agrees core.own s c (step u s c) (half_answer (half_of u) s c (request_of core.own c) (kept_births core.own c)) =
    subst (λ (o : Own). Agrees o s c (step u s c) (half_answer (half_of u) s c (request_of o c) (kept_births o c))) behind.own
    (event_law options sessions s (with_pending history core) c behind.legal behind.session parts.event_is) in
    let done : effect_of u e ≡ with_reply (step u s c) = ap (λ (o : Option Promise). with_reply (call_effect o u s c)) behind.unpromised in
    let after : (effect_of u e).0 ≡ (step u s c).0 = ap (λ (x : Table × Option Reply). x.0) done in
    let changed = step_changed u s c behind.session in
    let free : (session_of (effect_of u e).0 s).promise ≡ None =
    ap (λ (x : Table). (session_of x s).promise) after ∙ promise_changed u (step u s c).0 s (session_of u s).promise None behind.session (record { part = changed.part; promised = changed.promised; sessions = changed.sessions }) behind.unpromised in
    let next = accepted core c (event_answer u core c) in
    record {
      home = home_after options sessions (with_pending history core) e next behind.legal legal behind.session behind.gather refl
          (ap (λ (x : Table). own_of x s) after ∙ agrees.own)
          (λ o is. subst (λ (q : Option Promise). IsHeld q next) (sym free ∙ is) tt);
      told = ap (λ (x : Table × Option Reply). x.1) done ∙ ap (λ (r : Reply). Some r) agrees.reply;
    }
