-- Cores at home: at first, beside other sessions, behind local calls, and where no entry is made.
use Rattle.std.proofs.Common.{◌≡◌, ℕ, zero, suc, ◌-◌, ◌&&◌, IsTrue, true, List, [], ◌∷◌, ◌++◌, length, replicate, Option, Some, None, refl, sym, ap, subst, ◌∙◌}
use Rattle.std.specs.Prelude.{nat_le, slice_get, unwrap_or}
use Rattle.std.specs.List.{AllByRecursion}
use Rattle.sf_types.specs.declared.call.Call.{Call}
use Rattle.sf_types.specs.declared.history.Entry.{Entry}
use Rattle.sf_types.specs.declared.history.Kind.TheVariants as kind
use Rattle.sf_types.specs.declared.options.Options.{Options}
use Rattle.sf_types.specs.declared.reply.Reply.{Reply}
use Rattle.sf_types.specs.Table.Parts.{Promise, Session, Table, new_session, opening_table}
use Rattle.sf_types.specs.Table.Sessions.{has_session, session_of}
use Rattle.sf_types.specs.Orders.Histories.{IsLegalHistory, history_table, table_after, entry_of}
use Rattle.sf_types.specs.Halves.Own.{Own, own_of, own_after, own_call, is_own_local, AreLocal}
use Rattle.sf_types.specs.Space.Publications.{without_promise}
use Rattle.sf_laws.proofs.HalfLemmas.{stands_where}
use Rattle.sf_laws.proofs.OwnLemmas.{goes_on, local_entry}
use Rattle.sf_laws.proofs.OwnRunLemmas.{run-append, legal-append, legal-joined, shape_after, others_law, may_still}
use Rattle.sf_session.specs.declared.need.Need.TheVariants as need
use Rattle.sf_session.specs.declared.phase.Phase.{Phase}
use Rattle.sf_session.specs.declared.phase.Phase.TheVariants.{Unpromised}
use Rattle.sf_session.specs.Cores.{CoreView, new_core, need_of, started, ended_locally, collected, noted}
use Rattle.sf_session.specs.AtHome.{IsPromised, IsAtHome, IsAtHomeAfter, with_pending, reply_after}
use Rattle.sf_session.proofs.HomeLemmas.{behind_pending, after_more, local_more}
use Rattle.sf_session.proofs.NeedLemmas.{local_need, idle_need, collect_need, unpromised_is, idle_is, collected_is}

-- a session of the opening table
new_part : (n i : ℕ) → unwrap_or (slice_get (replicate n new_session) i) new_session ≡ new_session
new_part zero i = refl
new_part (suc n) zero = refl
new_part (suc n) (suc i) = new_part n i

pub new_home : (options : Options) (sessions s : ℕ) → IsTrue (has_session (opening_table options sessions) s) → IsAtHomeAfter options sessions [] (new_core s options.gather)
new_home options sessions s has =
    let t = opening_table options sessions in
    let part : session_of t s ≡ new_session = new_part sessions (s - 1) in
    let core = new_core s options.gather in
    record {
      legal = tt;
      home = record {
        session = has;
        gather = refl;
        goes_on = ap (λ (p : Session). p.has_ended) part;
        local = tt;
        own = sym (ap (λ (p : Session). record { part = without_promise p; rows = [] }) part);
        promised = subst (λ (o : Option Promise). IsPromised o [] None Unpromised) (sym (ap (λ (p : Session). p.promise) part)) tt;
      };
    }

-- beside other sessions
pub others_home : (options : Options) (sessions : ℕ) (history others : List Entry) (core : CoreView) → IsAtHomeAfter options sessions history core → IsLegalHistory (opening_table options sessions) (history ++ others)
    → AllByRecursion (λ e. core.session ≡ e.token.session → ⊥) others → IsAtHomeAfter options sessions (history ++ others) core
others_home options sessions history others core at legal apart =
    let s = core.session in
    let o = opening_table options sessions in
    let t = history_table options sessions history in
    let u = history_table options sessions (history ++ others) in
    let parts = legal-append o history others legal in
    let whole : u ≡ table_after t others = run-append o history others in
    let own : own_of u s ≡ own_of t s = others_law options sessions s history others legal at.home.session apart in
    let part : session_of u s ≡ session_of t s = ap (λ (x : Table). session_of x s) whole ∙ may_still t others s parts.1 at.home.session apart in
    let shape = shape_after t others parts.1 in
    let same : u.options ≡ t.options = ap (λ (x : Table). x.options) whole ∙ shape.1 in
    let count : length u.sessions ≡ length t.sessions = ap (λ (x : Table). length x.sessions) whole ∙ shape.0 in
    record {
      legal = legal;
      home = record {
        session = subst (λ n. IsTrue (nat_le 1 s && nat_le s n)) (sym count) at.home.session;
        gather = at.home.gather ∙ ap (λ (x : Options). x.gather) (sym same);
        goes_on = ap (λ (p : Session). p.has_ended) part ∙ at.home.goes_on;
        local = subst (λ (x : Options). AreLocal x.gather (own_of u s) core.pending) (sym same) (subst (λ (x : Own). AreLocal t.options.gather x core.pending) (sym own) at.home.local);
        own = at.home.own ∙ ap (λ (x : Own). own_after x core.pending) (sym own);
        promised = subst (λ (q : Option Promise). IsPromised q core.pending core.standing core.phase) (sym (ap (λ (p : Session). p.promise) part)) at.home.promised;
      };
    }

-- where no entry is made
pub started_home : (t : Table) (core : CoreView) (c : Call) → IsAtHome t core → need_of core ≡ need.Idle → IsAtHome t (started core c)
started_home t core c home needs =
    let none = (idle_is (session_of t core.session).promise core.pending core.standing core.phase (idle_need core needs).standing home.promised).0 in
    record {
      session = home.session;
      gather = home.gather;
      goes_on = home.goes_on;
      local = home.local;
      own = home.own;
      promised = subst (λ (q : Option Promise). IsPromised q core.pending (Some c) Unpromised) (sym none) tt;
    }

pub collected_home : (t : Table) (core : CoreView) (blocks : ℕ) → IsAtHome t core → need_of core ≡ need.Collect blocks → IsAtHome t (collected core blocks)
collected_home t core blocks home needs = record {
  session = home.session;
  gather = home.gather;
  goes_on = home.goes_on;
  local = home.local;
  own = home.own;
  promised = collected_is (session_of t core.session).promise core.pending core.standing core.phase blocks (collect_need core blocks needs).phase home.promised;
}

-- a local call
pub record IsLocalDone (options : Options) (sessions : ℕ) (history : List Entry) (core : CoreView) (c : Call) : Type 0 where
  pub home : IsAtHomeAfter options sessions history (ended_locally core c)
  pub legal : IsLegalHistory (opening_table options sessions) (with_pending history core ++ entry_of core.session kind.Call c ∷ [])
  pub reply : reply_after options sessions (with_pending history core) (entry_of core.session kind.Call c) ≡ Some (own_call core.own c).1

pub local_done : (options : Options) (sessions : ℕ) (history : List Entry) (core : CoreView) (c : Call) → IsAtHomeAfter options sessions history core → core.standing ≡ Some c → need_of core ≡ need.Local → IsLocalDone options sessions history core c
local_done options sessions history core c at standing needs =
    let s = core.session in
    let t = history_table options sessions history in
    let parts = local_need core c standing needs in
    let none = unpromised_is (session_of t s).promise core.pending core.standing core.phase parts.phase at.home.promised in
    let behind = behind_pending options sessions history core at parts.goes_on none in
    let u = history_table options sessions (with_pending history core) in
    let is : is_own_local core.gather core.own c ≡ true = rw (parts.event_is, parts.due_is) refl in
    let there : is_own_local u.options.gather (own_of u s) c ≡ true = ap (λ (g : ℕ). is_own_local g (own_of u s) c) (sym behind.gather) ∙ ap (λ (o : Own). is_own_local core.gather o c) behind.own ∙ is in
    let here : is_own_local t.options.gather (own_after (own_of t s) core.pending) c ≡ true = ap (λ (g : ℕ). is_own_local g (own_after (own_of t s) core.pending) c) (sym at.home.gather) ∙ ap (λ (o : Own). is_own_local core.gather o c) (sym at.home.own) ∙ is in
    let entry = local_entry u s c behind.session (stands_where options sessions (with_pending history core) behind.legal).rising (record { goes_on = behind.goes_on; unpromised = behind.unpromised }) there in
    record {
      home = record {
        legal = at.legal;
        home = record {
          session = at.home.session;
          gather = at.home.gather;
          goes_on = at.home.goes_on ∙ sym (goes_on core.own c).0;
          local = local_more t.options.gather (own_of t s) core.pending c at.home.local here;
          own = ap (λ (o : Own). record o { part = (own_call o c).0 }) at.home.own ∙ sym (after_more (own_of t s) core.pending c);
          promised = subst (λ (q : Option Promise). IsPromised q (core.pending ++ c ∷ []) None core.phase) (sym none) (subst (λ (p : Phase). IsPromised None (core.pending ++ c ∷ []) None p) (sym parts.phase) tt);
        };
      };
      legal = legal-joined (opening_table options sessions) (with_pending history core) (entry_of s kind.Call c ∷ []) behind.legal (entry.0, tt);
      reply = ap (λ (x : Table × Option Reply). x.1) entry.1 ∙ ap (λ (o : Own). Some (own_call o c).1) behind.own;
    }

-- pending calls that the store gets
pub noted_home : (options : Options) (sessions : ℕ) (history : List Entry) (core : CoreView) → IsAtHomeAfter options sessions history core → need_of core ≡ need.Idle → IsAtHomeAfter options sessions (with_pending history core) (noted core)
noted_home options sessions history core at needs =
    let s = core.session in
    let idle = idle_need core needs in
    let both = idle_is (session_of (history_table options sessions history) s).promise core.pending core.standing core.phase idle.standing at.home.promised in
    let behind = behind_pending options sessions history core at idle.goes_on both.0 in
    record {
      legal = behind.legal;
      home = record {
        session = behind.session;
        gather = behind.gather;
        goes_on = behind.goes_on ∙ sym idle.goes_on;
        local = tt;
        own = sym behind.own;
        promised = subst (λ (q : Option Promise). IsPromised q [] core.standing core.phase) (sym behind.unpromised) (subst (λ (p : Phase). IsPromised None [] core.standing p) (sym both.1) tt);
      };
    }
