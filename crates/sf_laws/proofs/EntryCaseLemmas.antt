-- One case analysis over legal entries: a call that flushes nothing, a publication, a promise and a cancel.
use Rattle.std.proofs.Common.{◌≡◌, ℕ, zero, suc, ◌+◌, ◌-◌, ◌≤◌, true, false, cond, List, [], ◌∷◌, Option, Some, None, refl, arith}
use Rattle.std.specs.Prelude.{find, filter_map}
use Rattle.std.specs.List.{AllByRecursion as Each, range_with_len}
use Rattle.std.specs.Option.{IfSome}
use Rattle.sf_types.specs.declared.call.Call.{Call}
use Rattle.sf_types.specs.declared.history.Kind.{Kind}
use Rattle.sf_types.specs.declared.history.Kind.TheVariants as kind
use Rattle.sf_types.specs.Table.Parts.{Content, Promise, Table}
use Rattle.sf_types.specs.Table.Versions.{commit_count}
use Rattle.sf_types.specs.Table.Sessions.{session_of}
use Rattle.sf_types.specs.Space.Cuts.{Cut}
use Rattle.sf_types.specs.Space.Due.{is_due}
use Rattle.sf_types.specs.Space.Promises.{found_birth, found_births, floor_candidates, fits_at, flush_cuts, table_with_promise, promise_at, promise, cancel}
use Rattle.sf_types.specs.Space.Publications.{publish}
use Rattle.sf_types.specs.Calls.Steps.{step}
use Rattle.sf_types.specs.Orders.Histories.{IsLegalBeside, IsLegal, call_effect, entry_effect}
use Rattle.sf_laws.proofs.EachLemmas.{each_weaker, each-filter_map, each_found, each_contained, each_of_any}
use Rattle.sf_laws.proofs.GivenBirthLemmas.{found_at}
use Rattle.sf_laws.proofs.ReachLemmas.{each-rising}

-- Something holds of every table that a legal entry of session s may leave.
pub record EntryCases (t : Table) (s : ℕ) (c : Call) (Q : Table → Type 0) : Type 0 where
  pub stepped : (session_of t s).promise ≡ None → is_due t s c ≡ false → Q (step t s c).0
  pub published : (q : Promise) → (session_of t s).promise ≡ Some q → c ≡ q.call → Q (publish t s c).0
  pub refused : Q t
  pub granted : (session_of t s).promise ≡ None → is_due t s c ≡ true → (h : ℕ) → t.floor ≤ h → fits_at t (flush_cuts t s c) h ≡ true → Q (table_with_promise t s c (flush_cuts t s c) h)
  pub cancelled : (q : Promise) → (session_of t s).promise ≡ Some q → Q (cancel t s)

range_from : (a n : ℕ) → Each (λ h. a ≤ h) (range_with_len a n)
range_from a zero = tt
range_from a (suc n) = (omega arith, each_weaker (λ h. a + 1 ≤ h) (λ h. a ≤ h) (range_with_len (a + 1) n) (λ h le. omega arith) (range_from (a + 1) n))

-- the floors that a promise tries are at least the floor
pub candidates_from : (t : Table) → Each (λ h. t.floor ≤ h) (floor_candidates t)
candidates_from t =
    elim t.options.max as (λ b. Each (λ h. t.floor ≤ h) (cond b (range_with_len t.floor (commit_count t + 1 - t.floor)) (t.floor ∷ []))) [
      | true ↦ range_from t.floor (commit_count t + 1 - t.floor)
      | false ↦ (omega arith, tt)
    ]

promise_where : (t : Table) (s : ℕ) (c : Call) (Q : Table → Type 0) (o : Option ℕ) → find (fits_at t (flush_cuts t s c)) (floor_candidates t) ≡ o → Q t
    → ((h : ℕ) → t.floor ≤ h → fits_at t (flush_cuts t s c) h ≡ true → Q (table_with_promise t s c (flush_cuts t s c) h)) → Q (promise_at t s c (flush_cuts t s c) o).0
promise_where t s c Q None is same more = same
promise_where t s c Q (Some h) is same more =
    let both = each_found (λ n. t.floor ≤ n) (fits_at t (flush_cuts t s c)) (floor_candidates t) h is (candidates_from t) in
    more h both.0 both.1

call_where : (t : Table) (s : ℕ) (c : Call) (Q : Table → Type 0) (o : Option Promise) → (session_of t s).promise ≡ o → IsLegalBeside o (is_due t s c) kind.Call c → EntryCases t s c Q → Q (call_effect o t s c).0
call_where t s c Q None is legal cases = cases.stepped is legal
call_where t s c Q (Some q) is legal cases = cases.published q is legal

promised_where : (t : Table) (s : ℕ) (c : Call) (Q : Table → Type 0) (o : Option Promise) → (session_of t s).promise ≡ o → IsLegalBeside o (is_due t s c) kind.Promise c → EntryCases t s c Q → Q (promise t s c).0
promised_where t s c Q None is legal cases = promise_where t s c Q (find (fits_at t (flush_cuts t s c)) (floor_candidates t)) refl cases.refused (cases.granted is legal)
promised_where t s c Q (Some q) is legal cases = absurd legal

cancel_where : (t : Table) (s : ℕ) (c : Call) (Q : Table → Type 0) (o : Option Promise) → (session_of t s).promise ≡ o → IsLegalBeside o (is_due t s c) kind.Cancel c → EntryCases t s c Q → Q (cancel t s)
cancel_where t s c Q None is legal cases = absurd legal
cancel_where t s c Q (Some q) is legal cases = cases.cancelled q is

pub by_entry_cases : (t : Table) (s : ℕ) (k : Kind) (c : Call) (Q : Table → Type 0) → IsLegal t s k c → EntryCases t s c Q → Q (entry_effect t s k c).0
by_entry_cases t s kind.Call c Q legal cases = call_where t s c Q (session_of t s).promise refl legal.standing cases
by_entry_cases t s kind.Promise c Q legal cases = promised_where t s c Q (session_of t s).promise refl legal.standing cases
by_entry_cases t s kind.Cancel c Q legal cases = cancel_where t s c Q (session_of t s).promise refl legal.standing cases

found_in : (P : ℕ → Type 0) (contents : List Content) (reached : List ℕ) (cut : Cut) (o : Option ℕ) → found_birth contents reached cut ≡ o → Each P reached → IfSome o P
found_in P contents reached cut None is all = tt
found_in P contents reached cut (Some b) is all = each_contained P reached b all (found_at contents reached cut b is).within

-- what holds of each birth reached holds of each that is found
pub each-found_births : (P : ℕ → Type 0) (contents : List Content) (reached : List ℕ) (of : List Cut) → Each P reached → Each P (found_births contents reached of)
each-found_births P contents reached of all =
    each-rising P (filter_map (found_birth contents reached) of)
    (each-filter_map P (found_birth contents reached) of (each_of_any (λ cut. IfSome (found_birth contents reached cut) P) of (λ cut. found_in P contents reached cut (found_birth contents reached cut) refl all)))
