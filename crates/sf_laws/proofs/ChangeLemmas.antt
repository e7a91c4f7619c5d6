-- What an entry changes of a table besides the values that it holds.
use Rattle.std.proofs.Common.{◌≡◌, ℕ, ◌+◌, ◌-◌, ◌≤◌, IsTrue, List, Option, None, refl, sym, ap, subst, arith}
use Rattle.std.specs.Prelude.{slice_set}
use Rattle.std.specs.List.{AllByRecursion as Each}
use Rattle.sf_types.specs.declared.call.Call.{Call}
use Rattle.sf_types.specs.Table.Parts.{Content, Promise, Session, Table}
use Rattle.sf_types.specs.Table.Sessions.{has_session, session_of}
use Rattle.sf_types.specs.Space.Reach.{reach}
use Rattle.sf_types.specs.Space.Promises.{flush_cuts}
use Rattle.sf_types.specs.Space.Publications.{contents_after, publish}
use Rattle.sf_types.specs.Calls.Steps.{step}
use Rattle.sf_laws.proofs.EachLemmas.{each-set}
use Rattle.sf_types.specs.Table.Versions.{commit_count}
use Rattle.sf_laws.proofs.HeldStepLemmas.{floor_rises}
use Rattle.sf_laws.proofs.StepCaseLemmas.{StepCases, by_cases}
use Rattle.sf_laws.proofs.PublishCaseLemmas.{by_publish_cases}
use Rattle.sf_types.proofs.RefusalLemmas.{same_part}

-- One session's part is changed, with this promise, and the contents are these.
pub record IsChanged (t : Table) (s : ℕ) (promise : Option Promise) (given : List Content) (u : Table) : Type 0 where
  pub part : Session
  pub promised : part.promise ≡ promise
  pub sessions : u.sessions ≡ slice_set t.sessions (s - 1) part
  pub options : u.options ≡ t.options
  pub contents : u.contents ≡ given
  pub floor : t.floor ≤ u.floor

step_changes : (t : Table) (s : ℕ) → IsTrue (has_session t s) → StepCases t s (IsChanged t s (session_of t s).promise t.contents)
step_changes t s has = record {
  refused = record { part = session_of t s; promised = refl; sessions = sym (ap (λ (u : Table). u.sessions) (same_part t s has)); options = refl; contents = refl; floor = omega arith };
  inserted = λ row busy. record { part = _; promised = refl; sessions = refl; options = refl; contents = refl; floor = omega arith };
  deleted = λ row busy. record { part = _; promised = refl; sessions = refl; options = refl; contents = refl; floor = omega arith };
  locked = λ to row busy. record { part = _; promised = refl; sessions = refl; options = refl; contents = refl; floor = omega arith };
  selected = λ to row. record { part = _; promised = refl; sessions = refl; options = refl; contents = refl; floor = omega arith };
  selected_as_of = λ to row n from. record { part = _; promised = refl; sessions = refl; options = refl; contents = refl; floor = omega arith };
  assigned = λ to from. record { part = _; promised = refl; sessions = refl; options = refl; contents = refl; floor = omega arith };
  freed = λ name. record { part = _; promised = refl; sessions = refl; options = refl; contents = refl; floor = omega arith };
  written = λ name c is. record { part = _; promised = refl; sessions = refl; options = refl; contents = refl; floor = omega arith };
  saved = λ name. record { part = _; promised = refl; sessions = refl; options = refl; contents = refl; floor = omega arith };
  gone_back = λ name x is. record { part = _; promised = refl; sessions = refl; options = refl; contents = refl; floor = omega arith };
  committed = record { part = _; promised = refl; sessions = refl; options = refl; contents = refl; floor = floor_rises t.options t.floor (commit_count t + 1) };
  erased = record { part = _; promised = refl; sessions = refl; options = refl; contents = refl; floor = omega arith };
  rolled_back = record { part = _; promised = refl; sessions = refl; options = refl; contents = refl; floor = omega arith };
  ended = record { part = _; promised = refl; sessions = refl; options = refl; contents = refl; floor = omega arith };
}

pub step_changed : (t : Table) (s : ℕ) (c : Call) → IsTrue (has_session t s) → IsChanged t s (session_of t s).promise t.contents (step t s c).0
step_changed t s c has = by_cases t s (IsChanged t s (session_of t s).promise t.contents) has (step_changes t s has) c

pub publish_changed : (t : Table) (s : ℕ) (c : Call) → IsChanged t s None (contents_after t.contents (reach t) (flush_cuts t s c)) (publish t s c).0
publish_changed t s c = by_publish_cases t s c (IsChanged t s None (contents_after t.contents (reach t) (flush_cuts t s c))) (record {
  committed = λ is. record { part = _; promised = refl; sessions = refl; options = refl; contents = ap (λ d. contents_after t.contents (reach t) (flush_cuts t s d)) (sym is); floor = floor_rises t.options t.floor (commit_count t + 1) };
  left_open = λ is. record { part = _; promised = refl; sessions = refl; options = refl; contents = ap (λ d. contents_after t.contents (reach t) (flush_cuts t s d)) (sym is); floor = omega arith };
  written = λ at is flush. record { part = _; promised = refl; sessions = refl; options = refl; contents = refl; floor = omega arith };
  nothing = λ is flush. record { part = _; promised = refl; sessions = refl; options = refl; contents = rw flush refl; floor = omega arith };
})

-- what holds of each session's promise
pub promises_hold : (R : Option Promise → Type 0) (t u : Table) (s : ℕ) (promise : Option Promise) (contents : List Content) → IsChanged t s promise contents u → R promise → Each (λ p. R p.promise) t.sessions → Each (λ p. R p.promise) u.sessions
promises_hold R t u s promise contents changed is all =
    subst (Each (λ p. R p.promise)) (sym changed.sessions) (each-set (λ p. R p.promise) t.sessions (s - 1) changed.part (subst R (sym changed.promised) is) all)
