-- Which births an entry may leave in reach.
use Rattle.std.proofs.Common.{ℕ, ◌+◌, ◌-◌, ◌≤◌, IsTrue, List, [], ◌∷◌, Option, Some, None, refl, arith}
use Rattle.std.specs.List.{AllByRecursion as Each}
use Rattle.std.specs.Option.{option_map_or}
use Rattle.sf_types.specs.declared.call.Call.{Call}
use Rattle.sf_types.specs.Table.Parts.{Content, Promise, Session, Table, new_session}
use Rattle.sf_types.specs.Table.Sessions.{has_session, session_of, with_session}
use Rattle.sf_types.specs.Space.Cuts.{Cut, stored_bytes_from}
use Rattle.sf_types.specs.Space.Reach.{reach}
use Rattle.sf_types.specs.Space.Promises.{flush_cuts, with_floor, table_with_promise, cancel}
use Rattle.sf_types.specs.Space.Publications.{births_for, contents_after, publish}
use Rattle.sf_types.specs.Calls.Steps.{step}
use Rattle.sf_laws.specs.TrueMarks.{IsGivenOut}
use Rattle.sf_laws.proofs.EachLemmas.{each-set, each_at, each_contained}
use Rattle.sf_laws.proofs.HeldLemmas.{OfSession, Held}
use Rattle.sf_laws.proofs.HeldStepLemmas.{of_part, of_table, held_step, held_above}
use Rattle.sf_laws.proofs.SettleLemmas.{Paired, OfCut}
use Rattle.sf_laws.proofs.PublishCaseLemmas.{held_publish}
use Rattle.sf_laws.proofs.GivenBirthLemmas.{reached_after, reached_kept, IsGivenTo, births_given}
use Rattle.sf_laws.proofs.ReachLemmas.{OfBirth, unstored_birth, OfHeld, each-reach, each_from_reach}
use Rattle.sf_laws.proofs.ChangeLemmas.{IsChanged, step_changed, publish_changed, promises_hold}
use Rattle.sf_laws.proofs.EntryCaseLemmas.{each-found_births}

-- What a promise found.
abbrev OfFound : (ℕ → Type 0) → Option Promise → Type 0
OfFound P o = Each P (option_map_or (λ q. q.births) o [])

found_part : (P : ℕ → Type 0) (t : Table) (s : ℕ) → OfHeld P t → OfFound P (session_of t s).promise
found_part P t s of = each_at (λ x. OfFound P x.promise) t.sessions (s - 1) new_session tt of.found

reach_changed : (P : ℕ → Type 0) (t u : Table) (s : ℕ) (promise : Option Promise) (contents : List Content) → OfHeld P t → IsChanged t s promise contents u → OfFound P promise → Held (OfBirth P) t.floor u → Each P (reach u)
reach_changed P t u s promise contents of changed found held = each-reach P u (record {
  held = held_above (OfBirth P) t.floor u.floor u changed.floor held;
  found = promises_hold (OfFound P) t u s promise contents changed found of.found;
})

pub reach_stepped : (P : ℕ → Type 0) (t : Table) (s : ℕ) (c : Call) → IsTrue (has_session t s) → Each P (reach t) → Each P (reach (step t s c).0)
reach_stepped P t s c has all =
    let of = each_from_reach P t all in
    reach_changed P t (step t s c).0 s (session_of t s).promise t.contents of (step_changed t s c has) (found_part P t s of)
    (held_step (OfBirth P) (unstored_birth P) t.floor t s c has (omega arith) of.held)

stored_by : (P : ℕ → Type 0) (b i : ℕ) (bytes : List ℕ) → P b → Each (OfBirth P) (stored_bytes_from b i bytes)
stored_by P b i [] is = tt
stored_by P b i (x ∷ bytes) is = (is, stored_by P b (i + 1) bytes is)

paired_births : (P : ℕ → Type 0) (contents : List Content) (reached : List ℕ) (of : List Cut) (births : List ℕ) → Each P reached → Paired (IsGivenTo contents reached) of births → Paired (OfCut (OfBirth P)) of births
paired_births P contents reached [] births is all = tt
paired_births P contents reached (cut ∷ rest) [] is all = tt
paired_births P contents reached (cut ∷ rest) (b ∷ births) is all =
    (stored_by P b 0 cut.bytes (each_contained P reached b is all.0.within), paired_births P contents reached rest births is all.1)

pub reach_published : (P : ℕ → Type 0) (t : Table) (s : ℕ) (c : Call) → Each (IsGivenOut t.contents) (reach t) → Each P (reached_after t.contents (reach t) (flush_cuts t s c)) → Each P (reach (publish t s c).0)
reach_published P t s c given all =
    let cuts = flush_cuts t s c in
    let after = contents_after t.contents (reach t) cuts in
    let of = each_from_reach P t (reached_kept P t.contents (reach t) cuts all) in
    reach_changed P t (publish t s c).0 s None after of (publish_changed t s c) tt
    (held_publish (OfBirth P) (unstored_birth P) t.floor t s c of.held
    (paired_births P after (reached_after t.contents (reach t) cuts) cuts (births_for t.contents (reach t) cuts) all (births_given t.contents (reach t) cuts given)))

pub reach_at_floor : (P : ℕ → Type 0) (t : Table) (h : ℕ) → t.floor ≤ h → Each P (reach t) → Each P (reach (with_floor t h))
reach_at_floor P t h le all =
    let of = each_from_reach P t all in
    let held = held_above (OfBirth P) t.floor h t le of.held in
    each-reach P (with_floor t h) (record { held = record { versions = held.versions; sessions = held.sessions }; found = of.found })

with_promise : (P : ℕ → Type 0) (t : Table) (s : ℕ) (promise : Option Promise) → OfFound P promise → Each P (reach t) → Each P (reach (with_session t s (record (session_of t s) { promise = promise })))
with_promise P t s promise found all =
    let of = each_from_reach P t all in
    let own : OfSession (OfBirth P) (session_of t s) = of_part (OfBirth P) t.floor t s of.held in
    let part : Session = record (session_of t s) { promise = promise } in
    each-reach P (with_session t s part) (record {
      held = of_table (OfBirth P) t.floor t (with_session t s part) s part of.held refl refl (record { working = own.working; locators = own.locators; savepoints = own.savepoints });
      found = each-set (λ x. OfFound P x.promise) t.sessions (s - 1) part found of.found;
    })

pub reach_granted : (P : ℕ → Type 0) (t : Table) (s : ℕ) (c : Call) (cuts : List Cut) (h : ℕ) → Each P (reach (with_floor t h)) → Each P (reach (table_with_promise t s c cuts h))
reach_granted P t s c cuts h all = with_promise P (with_floor t h) s (Some _) (each-found_births P t.contents (reach (with_floor t h)) cuts all) all

pub reach_cancelled : (P : ℕ → Type 0) (t : Table) (s : ℕ) → Each P (reach t) → Each P (reach (cancel t s))
reach_cancelled P t s all = with_promise P t s None tt all
