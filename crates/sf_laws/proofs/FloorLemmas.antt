-- The floor is at most the number of commits.
use Rattle.std.proofs.Common.{◌≡◌, ℕ, zero, suc, ◌+◌, ◌-◌, ◌≤◌, ◌<◌, max, true, false, cond, IsTrue, List, [], ◌∷◌, ◌++◌, length, Option, Some, None, refl, arith, length-append}
use Rattle.std.specs.Prelude.{find}
use Rattle.std.specs.List.{AllByRecursion as Each, range_with_len}
use Rattle.sf_types.specs.declared.call.Call.{Call}
use Rattle.sf_types.specs.declared.history.Entry.{Entry}
use Rattle.sf_types.specs.declared.history.Kind.{Kind}
use Rattle.sf_types.specs.declared.history.Kind.TheVariants as kind
use Rattle.sf_types.specs.declared.options.Options.{Options}
use Rattle.sf_types.specs.Table.Parts.{Promise, Rows, Table, opening_table}
use Rattle.sf_types.specs.Table.Sessions.{has_session, session_of}
use Rattle.sf_types.specs.Table.Versions.{commit_count}
use Rattle.sf_types.specs.Space.Promises.{floor_candidates, fits_at, flush_cuts, promise_at}
use Rattle.sf_types.specs.Space.Publications.{publish}
use Rattle.sf_types.specs.Calls.TransactionEnds.{floor_after}
use Rattle.sf_types.specs.Calls.Steps.{step}
use Rattle.sf_types.specs.Orders.Histories.{IsLegalHistory, call_effect, entry_effect, effect_of, table_after}
use Rattle.sf_laws.proofs.EachLemmas.{each_found}
use Rattle.sf_laws.proofs.PublishCaseLemmas.{by_publish_cases}
use Rattle.sf_laws.proofs.StepCaseLemmas.{by_cases}

-- The floor of a table is at most the number of its commits.
abbrev pub HasFloorWithin : Table → Type 0
HasFloorWithin t = t.floor ≤ commit_count t

-- a commit raises the floor to no more than the number of commits
floor_within : (options : Options) (floor n : ℕ) → floor ≤ n → floor_after options floor (n + 1) ≤ n + 1
floor_within options floor n le =
    elim options.max as (λ b. cond b floor (max floor (n + 1 - options.retention)) ≤ n + 1) [
      | true ↦ omega (arith, le)
      | false ↦ omega (arith, le)
    ]

committed_within : (options : Options) (floor : ℕ) (commits : List Rows) (rows : Rows) → floor ≤ length commits → floor_after options floor (length commits + 1) ≤ length (commits ++ rows ∷ [])
committed_within options floor commits rows le = let inside = floor_within options floor (length commits) le in rw length-append (omega (arith, inside))

floor_stepped : (t : Table) (s : ℕ) (c : Call) → IsTrue (has_session t s) → HasFloorWithin t → HasFloorWithin (step t s c).0
floor_stepped t s c has within = by_cases t s HasFloorWithin has (record {
  refused = within;
  inserted = λ row busy. within;
  deleted = λ row busy. within;
  locked = λ to row busy. within;
  selected = λ to row. within;
  selected_as_of = λ to row n from. within;
  assigned = λ to from. within;
  freed = λ name. within;
  written = λ name c is. within;
  saved = λ name. within;
  gone_back = λ name x is. within;
  committed = committed_within t.options t.floor t.commits _ within;
  erased = within;
  rolled_back = within;
  ended = within;
}) c

floor_published : (t : Table) (s : ℕ) (c : Call) → HasFloorWithin t → HasFloorWithin (publish t s c).0
floor_published t s c within = by_publish_cases t s c HasFloorWithin (record {
  committed = λ is. committed_within t.options t.floor t.commits _ within;
  left_open = λ is. within;
  written = λ at is flush. within;
  nothing = λ is flush. within;
})

pub range_below : (a n bound : ℕ) → a + n ≤ bound → Each (λ h. h < bound) (range_with_len a n)
range_below a zero bound le = tt
range_below a (suc n) bound le = (omega (arith, le), range_below (a + 1) n bound (omega (arith, le)))

-- the floors that a promise tries are at most the number of commits
candidates_within : (t : Table) → HasFloorWithin t → Each (λ h. h < commit_count t + 1) (floor_candidates t)
candidates_within t within =
    elim t.options.max as (λ b. Each (λ h. h < commit_count t + 1) (cond b (range_with_len t.floor (commit_count t + 1 - t.floor)) (t.floor ∷ []))) [
      | true ↦ range_below t.floor (commit_count t + 1 - t.floor) (commit_count t + 1) (omega (arith, within))
      | false ↦ (omega (arith, within), tt)
    ]

floor_promised : (t : Table) (s : ℕ) (c : Call) (o : Option ℕ) → find (fits_at t (flush_cuts t s c)) (floor_candidates t) ≡ o → HasFloorWithin t → HasFloorWithin (promise_at t s c (flush_cuts t s c) o).0
floor_promised t s c None is within = within
floor_promised t s c (Some h) is within =
    let below = (each_found (λ n. n < commit_count t + 1) (fits_at t (flush_cuts t s c)) (floor_candidates t) h is (candidates_within t within)).0 in
    omega (arith, below)

floor_called : (t : Table) (s : ℕ) (c : Call) (o : Option Promise) → IsTrue (has_session t s) → HasFloorWithin t → HasFloorWithin (call_effect o t s c).0
floor_called t s c None has within = floor_stepped t s c has within
floor_called t s c (Some q) has within = floor_published t s c within

floor_entry : (t : Table) (s : ℕ) (k : Kind) (c : Call) → IsTrue (has_session t s) → HasFloorWithin t → HasFloorWithin (entry_effect t s k c).0
floor_entry t s kind.Call c has within = floor_called t s c (session_of t s).promise has within
floor_entry t s kind.Promise c has within = floor_promised t s c (find (fits_at t (flush_cuts t s c)) (floor_candidates t)) refl within
floor_entry t s kind.Cancel c has within = within

floor_run : (t : Table) (history : List Entry) → IsLegalHistory t history → HasFloorWithin t → HasFloorWithin (table_after t history)
floor_run t [] legal within = within
floor_run t (e ∷ es) legal within = floor_run (effect_of t e).0 es legal.1 (floor_entry t e.token.session e.token.kind e.call legal.0.session within)

pub floor_in_run : (options : Options) (sessions : ℕ) (history : List Entry) → IsLegalHistory (opening_table options sessions) history → HasFloorWithin (table_after (opening_table options sessions) history)
floor_in_run options sessions history legal = floor_run (opening_table options sessions) history legal (omega arith)
