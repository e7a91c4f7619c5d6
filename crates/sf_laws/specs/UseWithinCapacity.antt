-- What keeps the use of blocks within the capacity (our own).
use Rattle.std.specs.Prelude.{◌≡◌, ℕ, ◌≤◌, true, IsTrue, List, [], ◌∷◌}
use Rattle.std.specs.List.{AllByRecursion, list_any}
use Rattle.std.specs.Option.{IfSome}
use Rattle.sf_types.specs.Inside.NameMaps.{NameMap, is_same_name}
use Rattle.sf_types.specs.Table.Parts.{Promise, Rows, Savepoint, Session, Table}
use Rattle.sf_types.specs.Table.Sessions.{has_session, session_of, holds_lock}
use Rattle.sf_types.specs.Space.Due.{is_due}
use Rattle.sf_types.specs.Space.Use.{use_of}
use Rattle.sf_types.specs.Space.Promises.{wanted_blocks, flush_cuts}
use Rattle.sf_laws.specs.TrueMarks.{HasTrueMarks}

-- The session holds the lock of each row that some working values name.
abbrev pub AreLocked : NameMap ℕ → ℕ → Rows → Type 0
AreLocked locks s rows = AllByRecursion (λ e. holds_lock locks s e.0 ≡ true) rows

-- Each row that some working values name is one of these.
abbrev pub AreAmong : List (List ℕ) → Rows → Type 0
AreAmong named rows = AllByRecursion (λ e. list_any (is_same_name e.0) named ≡ true) rows

-- A savepoint's locked rows have all rows of its own working values and of those of the savepoints before it.
abbrev pub NameEarlier : List Savepoint → Type 0
NameEarlier [] = Unit {0}
NameEarlier (x ∷ xs) = AllByRecursion (λ later. AreAmong later.locked x.working) (x ∷ xs) × NameEarlier xs

-- What a session works on, or may go back to, is locked by it.
pub record HasLocked (locks : NameMap ℕ) (s : ℕ) (p : Session) : Type 0 where
  pub working : AreLocked locks s p.working
  pub saved : AllByRecursion (λ x. AreLocked locks s x.working) p.savepoints
  pub named : NameEarlier p.savepoints

-- A standing promise is enough: its call is still due, and what its cuts want, beside the births that it found, is at
-- most its blocks.
pub record IsEnough (t : Table) (s : ℕ) (q : Promise) : Type 0 where
  pub due : is_due t s q.call ≡ true
  pub blocks : wanted_blocks t.contents q.births (flush_cuts t s q.call) ≤ q.blocks

-- The use is at most the capacity, and what stands in the table keeps it so.
pub record IsWithinCapacity (t : Table) : Type 0 where
  pub within : use_of t ≤ t.options.capacity
  pub true_marks : HasTrueMarks t
  pub locks : (s : ℕ) → IsTrue (has_session t s) → HasLocked t.locks s (session_of t s)
  pub promises : (s : ℕ) → IsTrue (has_session t s) → IfSome (session_of t s).promise (IsEnough t s)
