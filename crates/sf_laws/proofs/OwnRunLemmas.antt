-- The law of locality over legal runs.
use Rattle.std.proofs.Common.{◌≡◌, ℕ, ◌-◌, ◌&&◌, IsTrue, List, [], ◌∷◌, ◌++◌, length, length-set, refl, sym, ap, subst, ◌∙◌}
use Rattle.std.specs.Prelude.{nat_le}
use Rattle.std.specs.List.{AllByRecursion as Each}
use Rattle.sf_types.specs.declared.call.Call.{Call}
use Rattle.sf_types.specs.declared.history.Entry.{Entry}
use Rattle.sf_types.specs.declared.options.Options.{Options}
use Rattle.sf_types.proofs.NameMapLemmas.{IsRisingMap, rising_empty}
use Rattle.sf_types.specs.Table.Parts.{Table, opening_table}
use Rattle.sf_types.specs.Table.Sessions.{has_session, session_of}
use Rattle.sf_types.specs.Orders.Histories.{IsLegal, effect_of, table_after, history_table, IsLegalHistory, replies_from, replies_to, call_entries}
use Rattle.sf_laws.specs.UseWithinCapacity.{IsWithinCapacity}
use Rattle.sf_types.specs.Halves.Own.{own_of, own_after, own_replies, AreLocal, MayCall}
use Rattle.sf_laws.proofs.EntryCaseLemmas.{by_entry_cases}
use Rattle.sf_laws.proofs.ChangeLemmas.{step_changed, publish_changed}
use Rattle.sf_laws.proofs.UseStepLemmas.{within_entry, within_opening}
use Rattle.sf_laws.proofs.OwnLemmas.{others_leave_own, part_of_other, rising_entry, local_run}

-- What every table after a legal run has.
pub record Stands (t : Table) : Type 0 where
  pub within : IsWithinCapacity t
  pub rising : IsRisingMap t.locks

pub stands_opening : (options : Options) (sessions : ℕ) → Stands (opening_table options sessions)
stands_opening options sessions = record { within = within_opening options sessions; rising = rising_empty ℕ }

pub stands_entry : (t : Table) (e : Entry) → IsLegal t e.token.session e.token.kind e.call → Stands t → Stands (effect_of t e).0
stands_entry t e legal stands = record { within = within_entry t e legal stands.within; rising = rising_entry t e legal stands.rising }

pub stands_after : (t : Table) (es : List Entry) → IsLegalHistory t es → Stands t → Stands (table_after t es)
stands_after t [] legal stands = stands
stands_after t (e ∷ es) legal stands = stands_after (effect_of t e).0 es legal.1 (stands_entry t e legal.0 stands)

-- Runs, one after the other.
pub run-append : (t : Table) (xs ys : List Entry) → table_after t (xs ++ ys) ≡ table_after (table_after t xs) ys
run-append t [] ys = refl
run-append t (x ∷ xs) ys = run-append (effect_of t x).0 xs ys

pub legal-append : (t : Table) (xs ys : List Entry) → IsLegalHistory t (xs ++ ys) → IsLegalHistory t xs × IsLegalHistory (table_after t xs) ys
legal-append t [] ys legal = (tt, legal)
legal-append t (x ∷ xs) ys legal = let rest = legal-append (effect_of t x).0 xs ys legal.1 in ((legal.0, rest.0), rest.1)

pub legal-joined : (t : Table) (xs ys : List Entry) → IsLegalHistory t xs → IsLegalHistory (table_after t xs) ys → IsLegalHistory t (xs ++ ys)
legal-joined t [] ys first second = second
legal-joined t (x ∷ xs) ys first second = (first.0, legal-joined (effect_of t x).0 xs ys first.1 second)

-- An entry leaves the number of sessions and the options.
Shape : Table → Table → Type 0
Shape t u = (length u.sessions ≡ length t.sessions) × (u.options ≡ t.options)

pub shape_entry : (t : Table) (e : Entry) → IsLegal t e.token.session e.token.kind e.call → (length (effect_of t e).0.sessions ≡ length t.sessions) × ((effect_of t e).0.options ≡ t.options)
shape_entry t e legal =
    let s = e.token.session in
    by_entry_cases t s e.token.kind e.call (λ u. (length u.sessions ≡ length t.sessions) × (u.options ≡ t.options)) legal (record {
      stepped = λ none due. let changed = step_changed t s e.call legal.session in (ap (λ xs. length xs) changed.sessions ∙ length-set t.sessions (s - 1) changed.part, changed.options);
      published = λ q is same. let changed = publish_changed t s e.call in (ap (λ xs. length xs) changed.sessions ∙ length-set t.sessions (s - 1) changed.part, changed.options);
      refused = (refl, refl);
      granted = λ none due h le fits. (length-set t.sessions (s - 1) _, refl);
      cancelled = λ q is. (length-set t.sessions (s - 1) _, refl);
    })

pub shape_after : (t : Table) (es : List Entry) → IsLegalHistory t es → (length (table_after t es).sessions ≡ length t.sessions) × ((table_after t es).options ≡ t.options)
shape_after t [] legal = (refl, refl)
shape_after t (e ∷ es) legal =
    let one = shape_entry t e legal.0 in
    let rest = shape_after (effect_of t e).0 es legal.1 in
    (rest.0 ∙ one.0, rest.1 ∙ one.1)

-- No entry is of this session.
pub others_leave_own_after : (t : Table) (es : List Entry) (r : ℕ) → IsLegalHistory t es → Stands t → IsTrue (has_session t r) → Each (λ e. r ≡ e.token.session → ⊥) es → own_of (table_after t es) r ≡ own_of t r
others_leave_own_after t [] r legal stands has apart = refl
others_leave_own_after t (e ∷ es) r legal stands has apart =
    let one = shape_entry t e legal.0 in
    let there : IsTrue (has_session (effect_of t e).0 r) = subst (λ n. IsTrue (nat_le 1 r && nat_le r n)) (sym one.0) has in
    others_leave_own_after (effect_of t e).0 es r legal.1 (stands_entry t e legal.0 stands) there apart.1
    ∙ others_leave_own t e r legal.0 stands.within stands.rising has apart.0

session_there : (t : Table) (es : List Entry) (r : ℕ) → IsLegalHistory t es → IsTrue (has_session t r) → IsTrue (has_session (table_after t es) r)
session_there t es r legal has = subst (λ n. IsTrue (nat_le 1 r && nat_le r n)) (sym (shape_after t es legal).0) has

pub others_law : (options : Options) (sessions r : ℕ) (history others : List Entry) → IsLegalHistory (opening_table options sessions) (history ++ others) → IsTrue (has_session (history_table options sessions history) r)
    → Each (λ e. r ≡ e.token.session → ⊥) others → own_of (history_table options sessions (history ++ others)) r ≡ own_of (history_table options sessions history) r
others_law options sessions r history others legal has apart =
    let t = opening_table options sessions in
    let parts = legal-append t history others legal in
    ap (λ u. own_of u r) (run-append t history others)
    ∙ others_leave_own_after (table_after t history) others r parts.1 (stands_after t history parts.0 (stands_opening options sessions)) has apart

-- entries of others leave whether a session may go on
pub may_still : (t : Table) (es : List Entry) (r : ℕ) → IsLegalHistory t es → IsTrue (has_session t r) → Each (λ e. r ≡ e.token.session → ⊥) es → session_of (table_after t es) r ≡ session_of t r
may_still t [] r legal has apart = refl
may_still t (e ∷ es) r legal has apart =
    let one = shape_entry t e legal.0 in
    may_still (effect_of t e).0 es r legal.1 (subst (λ n. IsTrue (nat_le 1 r && nat_le r n)) (sym one.0) has) apart.1
    ∙ part_of_other t e r legal.0 has apart.0

pub local_law : (options : Options) (sessions r : ℕ) (history others : List Entry) (calls : List Call)
    → IsLegalHistory (opening_table options sessions) (history ++ others) → IsTrue (has_session (history_table options sessions history) r) → Each (λ e. r ≡ e.token.session → ⊥) others
    → MayCall (session_of (history_table options sessions history) r) → AreLocal options.gather (own_of (history_table options sessions history) r) calls
    → IsLegalHistory (opening_table options sessions) (history ++ others ++ call_entries r calls)
    × (own_of (history_table options sessions (history ++ others ++ call_entries r calls)) r ≡ own_after (own_of (history_table options sessions history) r) calls)
    × (replies_to r (replies_from (history_table options sessions (history ++ others)) (call_entries r calls)) ≡ own_replies (own_of (history_table options sessions history) r) calls)
local_law options sessions r history others calls legal has apart may local =
    let o = opening_table options sessions in
    let t = table_after o history in
    let u = table_after o (history ++ others) in
    let parts = legal-append o history others legal in
    let there : IsTrue (has_session u r) = subst (λ (x : Table). IsTrue (has_session x r)) (sym (run-append o history others)) (session_there t others r parts.1 has) in
    let own : own_of u r ≡ own_of t r = others_law options sessions r history others legal has apart in
    let part : session_of u r ≡ session_of t r = ap (λ x. session_of x r) (run-append o history others) ∙ may_still t others r parts.1 has apart in
    let stands : Stands u = stands_after o (history ++ others) legal (stands_opening options sessions) in
    let options_u : u.options ≡ options = (shape_after o (history ++ others) legal).1 in
    let run = local_run u r calls there stands.rising (record { goes_on = ap (λ p. p.has_ended) part ∙ may.goes_on; unpromised = ap (λ p. p.promise) part ∙ may.unpromised })
    (subst (λ g. AreLocal g (own_of u r) calls) (sym (ap (λ (x : Options). x.gather) options_u)) (subst (λ x. AreLocal options.gather x calls) (sym own) local)) in (
      legal-joined o (history ++ others) (call_entries r calls) legal run.legal,
      ap (λ x. own_of x r) (run-append o (history ++ others) (call_entries r calls)) ∙ run.own ∙ ap (λ x. own_after x calls) own,
      run.replies ∙ ap (λ x. own_replies x calls) own,
    )
