-- Cores at home behind promises, publications and cancels.
use Rattle.std.proofs.Common.{◌≡◌, ℕ, ◌-◌, true, false, List, [], ◌∷◌, ◌++◌, Option, Some, None, refl, sym, ap, subst, ◌∙◌}
use Rattle.std.specs.Prelude.{IfSome}
use Rattle.sf_types.specs.declared.call.Call.{Call}
use Rattle.sf_types.specs.declared.history.Entry.{Entry}
use Rattle.sf_types.specs.declared.history.Kind.TheVariants as kind
use Rattle.sf_types.specs.declared.options.Options.{Options}
use Rattle.sf_types.specs.declared.reply.Reply.{Reply}
use Rattle.sf_types.specs.Table.Parts.{Promise, Session, Table}
use Rattle.sf_types.specs.Table.Sessions.{session_of}
use Rattle.sf_types.specs.Space.Cuts.{Cut, cuts}
use Rattle.sf_types.specs.Space.Due.{is_due}
use Rattle.sf_types.specs.Space.Promises.{flush_cuts, found_births, with_floor, promise, cancel}
use Rattle.sf_types.specs.Space.Publications.{publish}
use Rattle.sf_types.specs.Space.Reach.{reach}
use Rattle.sf_types.specs.Orders.Histories.{IsLegal, IsLegalBeside, history_table, effect_of, entry_of, call_effect, with_reply}
use Rattle.sf_types.specs.Halves.Own.{Own, own_of, own_after}
use Rattle.sf_types.specs.Halves.Asks.{half_of, request_of, kept_births, after_answer}
use Rattle.sf_types.specs.Halves.Flushes.{Granted, NoSpace, half_promise, half_publish, own_flush, refusal_of}
use Rattle.sf_laws.specs.Halves.{Agrees, Promises, IsGranted, IsRefused}
use Rattle.sf_laws.specs.UseWithinCapacity.{IsEnough}
use Rattle.sf_laws.proofs.ChangeLemmas.{publish_changed}
use Rattle.sf_laws.proofs.FloorLemmas.{floor_in_run}
use Rattle.sf_laws.proofs.FlushLemmas.{promise_by_half, cancel_own}
use Rattle.sf_laws.proofs.HalfLemmas.{asks_after, stands_where}
use Rattle.sf_laws.proofs.PromiseLemmas.{own_session}
use Rattle.sf_laws.proofs.PublicationLemmas.{cuts_by_own, publication_by_half}
use Rattle.sf_laws.proofs.VerdictLemmas.{granted_where, refused_where}
use Rattle.sf_session.specs.declared.need.Need.TheVariants as need
use Rattle.sf_session.specs.declared.phase.Phase.TheVariants.{Promised}
use Rattle.sf_session.specs.Cores.{CoreView, need_of, accepted, promised, not_promised, abandoned}
use Rattle.sf_session.specs.AtHome.{IsPromised, IsAtHome, IsAtHomeAfter, with_pending, reply_after, verdict, publication_answer}
use Rattle.sf_session.proofs.EventLemmas.{due_behind, promise_changed}
use Rattle.sf_session.proofs.HomeLemmas.{IsBehindPending, behind_pending, IsHeld, home_after}
use Rattle.sf_session.proofs.NeedLemmas.{reserve_need, IsPromisedCall, HasPromise, unpromised_is, promised_is}

-- a due call behind the pending calls
record IsReserving (options : Options) (sessions : ℕ) (history : List Entry) (core : CoreView) (c : Call) : Type 0 where
  behind : IsBehindPending options sessions history core
  due : is_due (history_table options sessions (with_pending history core)) core.session c ≡ true
  legal : IsLegal (history_table options sessions (with_pending history core)) core.session kind.Promise c
  of_call : cuts (history_table options sessions (with_pending history core)).options (own_flush core.own c) ≡ flush_cuts (history_table options sessions (with_pending history core)) core.session c

reserving : (options : Options) (sessions : ℕ) (history : List Entry) (core : CoreView) (c : Call) → IsAtHomeAfter options sessions history core → core.standing ≡ Some c → need_of core ≡ need.Reserve → IsReserving options sessions history core c
reserving options sessions history core c at standing needs =
    let s = core.session in
    let parts = reserve_need core c standing needs in
    let none = unpromised_is (session_of (history_table options sessions history) s).promise core.pending core.standing core.phase parts.phase at.home.promised in
    let behind = behind_pending options sessions history core at parts.goes_on none in
    let u = history_table options sessions (with_pending history core) in
    let due = due_behind options sessions history core c behind ∙ parts.due in
    record {
      behind = behind;
      due = due;
      legal = record { session = behind.session; goes_on = behind.goes_on; standing = subst (λ (o : Option Promise). IsLegalBeside o (is_due u s c) kind.Promise c) (sym behind.unpromised) due };
      of_call = ap (λ (o : Own). cuts u.options (own_flush o c)) (sym behind.own) ∙ cuts_by_own u s c (stands_where options sessions (with_pending history core) behind.legal).rising due;
    }

-- a promise
pub record IsReserved (options : Options) (sessions : ℕ) (history : List Entry) (core next : CoreView) (c : Call) (told : Option Reply) : Type 0 where
  pub home : IsAtHomeAfter options sessions (with_pending history core ++ entry_of core.session kind.Promise c ∷ []) next
  pub reply : reply_after options sessions (with_pending history core) (entry_of core.session kind.Promise c) ≡ told

pub granted_done : (options : Options) (sessions blocks : ℕ) (history : List Entry) (core : CoreView) (c : Call) → IsAtHomeAfter options sessions history core → core.standing ≡ Some c → need_of core ≡ need.Reserve
    → verdict (history_table options sessions (with_pending history core)) core c ≡ Granted blocks → IsReserved options sessions history core (promised core blocks) c None
granted_done options sessions blocks history core c at standing needs is =
    let s = core.session in
    let h = with_pending history core in
    let u = history_table options sessions h in
    let all = reserving options sessions history core c at standing needs in
    let done : IsGranted u s c (flush_cuts u s c) blocks (promise u s c) =
    granted_where u s c (flush_cuts u s c) blocks (floor_in_run options sessions h all.behind.legal) (ap (λ (of : List Cut). (half_promise (half_of u) s c of).1) (sym all.of_call) ∙ is) in
    let told : Promises (own_of u s) s (half_promise (half_of u) s c (flush_cuts u s c)) (promise u s c) = promise_by_half u s c (flush_cuts u s c) all.behind.session in
    let next = promised core blocks in
    let births = found_births u.contents (reach (with_floor u (promise u s c).0.floor)) (flush_cuts u s c) in
    let here = ap (λ (p : Session). p.promise) (own_session u (promise u s c).0 s _ all.behind.session (ap (λ (x : Table). x.sessions) done.stands)) in
    record {
      home = home_after options sessions h (entry_of s kind.Promise c) next all.behind.legal all.legal all.behind.session all.behind.gather refl (told.own ∙ all.behind.own)
          (λ o e. subst (λ (q : Option Promise). IsHeld q next) (sym here ∙ e) (subst (λ (standing : Option Call). IsPromised (Some (record { call = c; blocks = blocks; births = births })) [] standing (Promised blocks)) (sym standing) (refl, refl, refl)));
      reply = done.reply;
    }

pub refused_done : (options : Options) (sessions wanted free : ℕ) (history : List Entry) (core : CoreView) (c : Call) → IsAtHomeAfter options sessions history core → core.standing ≡ Some c → need_of core ≡ need.Reserve
    → verdict (history_table options sessions (with_pending history core)) core c ≡ NoSpace wanted free → IsReserved options sessions history core (not_promised core) c (refusal_of (NoSpace wanted free))
refused_done options sessions wanted free history core c at standing needs is =
    let s = core.session in
    let h = with_pending history core in
    let u = history_table options sessions h in
    let all = reserving options sessions history core c at standing needs in
    let done : IsRefused u (flush_cuts u s c) wanted free (promise u s c) =
    refused_where u s c (flush_cuts u s c) wanted free (floor_in_run options sessions h all.behind.legal) (ap (λ (of : List Cut). (half_promise (half_of u) s c of).1) (sym all.of_call) ∙ is) in
    let next = not_promised core in
    let here : (session_of (promise u s c).0 s).promise ≡ None = ap (λ (x : Table). (session_of x s).promise) done.same ∙ all.behind.unpromised in
    record {
      home = home_after options sessions h (entry_of s kind.Promise c) next all.behind.legal all.legal all.behind.session all.behind.gather refl (ap (λ (x : Table). own_of x s) done.same ∙ all.behind.own)
          (λ o e. subst (λ (q : Option Promise). IsHeld q next) (sym here ∙ e) tt);
      reply = done.reply;
    }

-- a call for which a promise of the table stands
record IsPublishing (t : Table) (core : CoreView) (c : Call) : Type 0 where
  has : HasPromise (session_of t core.session).promise core.pending c
  own : own_of t core.session ≡ core.own
  goes_on : (session_of t core.session).has_ended ≡ false

publishing : (t : Table) (core : CoreView) (c : Call) → IsAtHome t core → core.standing ≡ Some c → IsPromisedCall core → IsPublishing t core c
publishing t core c home standing parts =
    let has = promised_is (session_of t core.session).promise core.pending core.standing core.phase c parts.phase standing home.promised in
    record {
      has = has;
      own = ap (own_after (own_of t core.session)) (sym has.none) ∙ sym home.own;
      goes_on = home.goes_on ∙ parts.goes_on;
    }

-- a publication
pub record IsPublished (options : Options) (sessions : ℕ) (history : List Entry) (core : CoreView) (c : Call) : Type 0 where
  pub home : IsAtHomeAfter options sessions (history ++ entry_of core.session kind.Call c ∷ []) (accepted core c (publication_answer (history_table options sessions history) core c))
  pub told : reply_after options sessions history (entry_of core.session kind.Call c) ≡ Some (after_answer core.own c (publication_answer (history_table options sessions history) core c)).1

pub publication_done : (options : Options) (sessions : ℕ) (history : List Entry) (core : CoreView) (c : Call) → IsAtHomeAfter options sessions history core → core.standing ≡ Some c → IsPromisedCall core → IsPublished options sessions history core c
publication_done options sessions history core c at standing parts =
    let s = core.session in
    let t = history_table options sessions history in
    let e = entry_of s kind.Call c in
    let all = publishing t core c at.home standing parts in
    let q = all.has.promise in
    let enough : IsEnough t s q = subst (λ (o : Option Promise). IfSome o (IsEnough t s)) all.has.is ((stands_where options sessions history at.legal).within.promises s at.home.session) in
    let due : is_due t s c ≡ true = ap (is_due t s) (sym all.has.call) ∙ enough.due in
    let legal : IsLegal t s kind.Call c = record { session = at.home.session; goes_on = all.goes_on; standing = subst (λ (o : Option Promise). IsLegalBeside o (is_due t s c) kind.Call c) (sym all.has.is) (sym all.has.call) } in
    let agrees : Agrees core.own s c (publish t s c) (half_publish (half_of t) s (request_of core.own c) (cuts t.options (own_flush core.own c)) (kept_births core.own c)) =
    subst (λ (o : Own). Agrees o s c (publish t s c) (half_publish (half_of t) s (request_of o c) (cuts t.options (own_flush o c)) (kept_births o c))) all.own
    (publication_by_half t s c (asks_after options sessions s history at.legal at.home.session) due) in
    let done : effect_of t e ≡ with_reply (publish t s c) = ap (λ (o : Option Promise). with_reply (call_effect o t s c)) all.has.is in
    let after : (effect_of t e).0 ≡ (publish t s c).0 = ap (λ (x : Table × Option Reply). x.0) done in
    let changed = publish_changed t s c in
    let free : (session_of (effect_of t e).0 s).promise ≡ None =
    ap (λ (x : Table). (session_of x s).promise) after ∙ promise_changed t (publish t s c).0 s None None at.home.session (record { part = changed.part; promised = changed.promised; sessions = changed.sessions }) refl in
    let next = accepted core c (publication_answer t core c) in
    record {
      home = home_after options sessions history e next at.legal legal at.home.session at.home.gather refl
          (ap (λ (x : Table). own_of x s) after ∙ agrees.own)
          (λ o is. subst (λ (p : Option Promise). IsHeld p next) (sym free ∙ is) tt);
      told = ap (λ (x : Table × Option Reply). x.1) done ∙ ap (λ (r : Reply). Some r) agrees.reply;
    }

-- a cancel
pub cancel_done : (options : Options) (sessions : ℕ) (history : List Entry) (core : CoreView) (c : Call) → IsAtHomeAfter options sessions history core → core.standing ≡ Some c → IsPromisedCall core
    → IsAtHomeAfter options sessions (history ++ entry_of core.session kind.Cancel c ∷ []) (abandoned core)
cancel_done options sessions history core c at standing parts =
    let s = core.session in
    let t = history_table options sessions history in
    let all = publishing t core c at.home standing parts in
    let legal : IsLegal t s kind.Cancel c = record { session = at.home.session; goes_on = all.goes_on; standing = subst (λ (o : Option Promise). IsLegalBeside o (is_due t s c) kind.Cancel c) (sym all.has.is) (sym all.has.call) } in
    let free : (session_of (cancel t s) s).promise ≡ None = ap (λ (p : Session). p.promise) (own_session t (cancel t s) s (record (session_of t s) { promise = None }) at.home.session refl) in
    home_after options sessions history (entry_of s kind.Cancel c) (abandoned core) at.legal legal at.home.session at.home.gather all.has.none (cancel_own t s at.home.session ∙ all.own)
    (λ o is. subst (λ (p : Option Promise). IsHeld p (abandoned core)) (sym free ∙ is) tt)
