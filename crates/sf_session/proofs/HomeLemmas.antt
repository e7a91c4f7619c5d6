-- Cores at home, behind their pending calls and behind one more entry.
use Rattle.std.proofs.Common.{◌≡◌, ℕ, ◌-◌, ◌&&◌, IsTrue, true, false, List, [], ◌∷◌, ◌++◌, Option, None, refl, sym, ap, subst, ◌∙◌}
use Rattle.std.specs.Prelude.{nat_le}
use Rattle.sf_types.specs.declared.call.Call.{Call}
use Rattle.sf_types.specs.declared.history.Entry.{Entry}
use Rattle.sf_types.specs.declared.options.Options.{Options}
use Rattle.sf_types.specs.Table.Parts.{Promise, Session, Table, opening_table}
use Rattle.sf_types.specs.Table.Sessions.{has_session, session_of}
use Rattle.sf_types.specs.Orders.Histories.{IsLegal, IsLegalHistory, history_table, table_after, effect_of, call_entries}
use Rattle.sf_types.specs.Halves.Own.{Own, own_of, own_after, own_step, is_own_local, AreLocal}
use Rattle.sf_laws.proofs.HalfLemmas.{stands_where}
use Rattle.sf_laws.proofs.OwnLemmas.{goes_on, local_run}
use Rattle.sf_laws.proofs.OwnRunLemmas.{run-append, legal-joined, shape_entry, shape_after}
use Rattle.sf_laws.proofs.PromiseLemmas.{own_session}
use Rattle.sf_laws.proofs.StageLemmas.{goes_after}
use Rattle.sf_session.specs.Cores.{CoreView}
use Rattle.sf_session.specs.AtHome.{IsPromised, IsAtHome, IsAtHomeAfter, with_pending}

-- local calls keep a promise
pub promise_after : (o : Own) (cs : List Call) → (own_after o cs).part.promise ≡ o.part.promise
promise_after o [] = refl
promise_after o (c ∷ cs) = promise_after (own_step o c) cs ∙ (goes_on o c).1

-- local calls one after the other, and one more
pub after_more : (o : Own) (cs : List Call) (c : Call) → own_after o (cs ++ c ∷ []) ≡ own_step (own_after o cs) c
after_more o [] c = refl
after_more o (d ∷ cs) c = after_more (own_step o d) cs c

pub local_more : (gather : ℕ) (o : Own) (cs : List Call) (c : Call) → AreLocal gather o cs → is_own_local gather (own_after o cs) c ≡ true → AreLocal gather o (cs ++ c ∷ [])
local_more gather o [] c all is = (is, tt)
local_more gather o (d ∷ cs) c all is = (all.0, local_more gather (own_step o d) cs c all.1 is)

-- the table with the pending calls of a core that has no promise
pub record IsBehindPending (options : Options) (sessions : ℕ) (history : List Entry) (core : CoreView) : Type 0 where
  pub legal : IsLegalHistory (opening_table options sessions) (with_pending history core)
  pub session : IsTrue (has_session (history_table options sessions (with_pending history core)) core.session)
  pub gather : core.gather ≡ (history_table options sessions (with_pending history core)).options.gather
  pub own : own_of (history_table options sessions (with_pending history core)) core.session ≡ core.own
  pub unpromised : (session_of (history_table options sessions (with_pending history core)) core.session).promise ≡ None
  pub goes_on : (session_of (history_table options sessions (with_pending history core)) core.session).has_ended ≡ false

pub behind_pending : (options : Options) (sessions : ℕ) (history : List Entry) (core : CoreView) → IsAtHomeAfter options sessions history core → core.own.part.has_ended ≡ false
    → (session_of (history_table options sessions history) core.session).promise ≡ None → IsBehindPending options sessions history core
behind_pending options sessions history core at going none =
    let s = core.session in
    let o = opening_table options sessions in
    let t = history_table options sessions history in
    let entries = call_entries s core.pending in
    let u = table_after t entries in
    let stands = stands_where options sessions history at.legal in
    let run = local_run t s core.pending at.home.session stands.rising (record { goes_on = at.home.goes_on ∙ going; unpromised = none }) at.home.local in
    let whole : history_table options sessions (with_pending history core) ≡ u = run-append o history entries in
    let part = (own_after (own_of t s) core.pending).part in
    let is : session_of u s ≡ part = own_session t u s part at.home.session (ap (λ (x : Table). x.sessions) run.same) in
    let shape = shape_after t entries run.legal in
    record {
      legal = legal-joined o history entries at.legal run.legal;
      session = subst (λ (x : Table). IsTrue (has_session x s)) (sym whole) (subst (λ n. IsTrue (nat_le 1 s && nat_le s n)) (sym shape.0) at.home.session);
      gather = at.home.gather ∙ ap (λ (x : Options). x.gather) (sym shape.1) ∙ ap (λ (x : Table). x.options.gather) (sym whole);
      own = ap (λ (x : Table). own_of x s) whole ∙ run.own ∙ sym at.home.own;
      unpromised = ap (λ (x : Table). (session_of x s).promise) whole ∙ ap (λ (p : Session). p.promise) is ∙ promise_after (own_of t s) core.pending;
      goes_on = ap (λ (x : Table). (session_of x s).has_ended) whole ∙ ap (λ (p : Session). p.has_ended) is ∙ goes_after (own_of t s) core.pending ∙ at.home.goes_on ∙ going;
    }

-- one more entry
pub after_one : (options : Options) (sessions : ℕ) (history : List Entry) (e : Entry) → history_table options sessions (history ++ e ∷ []) ≡ (effect_of (history_table options sessions history) e).0
after_one options sessions history e = run-append (opening_table options sessions) history (e ∷ [])

-- the promise that a table has of a core
abbrev pub IsHeld : Option Promise → CoreView → Type 0
IsHeld o core = IsPromised o core.pending core.standing core.phase

-- a core without pending calls is at home where its own part is the table's
pub home_after : (options : Options) (sessions : ℕ) (history : List Entry) (e : Entry) (core : CoreView) → IsLegalHistory (opening_table options sessions) history
    → IsLegal (history_table options sessions history) e.token.session e.token.kind e.call
    → IsTrue (has_session (history_table options sessions history) core.session) → core.gather ≡ (history_table options sessions history).options.gather
    → core.pending ≡ [] → own_of (effect_of (history_table options sessions history) e).0 core.session ≡ core.own
    → ((o : Option Promise) → (session_of (effect_of (history_table options sessions history) e).0 core.session).promise ≡ o → IsHeld o core)
    → IsAtHomeAfter options sessions (history ++ e ∷ []) core
home_after options sessions history e core legal one has gather none own promised =
    let s = core.session in
    let t = history_table options sessions history in
    let u = (effect_of t e).0 in
    let whole = after_one options sessions history e in
    let shape = shape_entry t e one in
    let home : IsAtHome u core = record {
      session = subst (λ n. IsTrue (nat_le 1 s && nat_le s n)) (sym shape.0) has;
      gather = gather ∙ ap (λ (x : Options). x.gather) (sym shape.1);
      goes_on = ap (λ (o : Own). o.part.has_ended) own;
      local = subst (AreLocal u.options.gather (own_of u s)) (sym none) tt;
      own = sym own ∙ ap (own_after (own_of u s)) (sym none);
      promised = promised (session_of u s).promise refl;
    } in
    record { legal = legal-joined (opening_table options sessions) history (e ∷ []) legal (one, tt); home = subst (λ (x : Table). IsAtHome x core) (sym whole) home }
