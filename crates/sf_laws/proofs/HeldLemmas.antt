-- What holds of each marked byte that a table holds: of the values of its kept versions and of those of its sessions.
use Rattle.std.proofs.Common.{◌≡◌, ℕ, zero, suc, ◌+◌, ◌-◌, ◌≤◌, true, false, cond, List, [], ◌∷◌, ◌++◌, length, take, Option, Some, None, refl, subst, arith}
use Rattle.std.specs.List.{AllByRecursion as Each}
use Rattle.std.proofs.lemmas.List.{take_all}
use Rattle.sf_types.specs.Inside.NameMaps.{is_same_name, get}
use Rattle.sf_types.proofs.NameMapLemmas.{same_name}
use Rattle.sf_types.specs.Values.Marks.{Marked, Value}
use Rattle.sf_types.specs.Table.Parts.{Rows, Session, Table}
use Rattle.sf_types.specs.Table.Versions.{value_or_absent, later_change, last_change, value_at, current_value}
use Rattle.sf_laws.proofs.EachLemmas.{each_weaker}

abbrev pub OfOption : (Marked → Type 0) → Option Value → Type 0
OfOption M None = Unit {0}
OfOption M (Some v) = Each M v.bytes

abbrev pub OfRows : (Marked → Type 0) → Rows → Type 0
OfRows M rows = Each (λ e. OfOption M e.1) rows

-- Of an entry of a commit, where it is kept: where none of the commits after it up to the floor names its row.
abbrev pub OfKept : (Marked → Type 0) → List Rows → List ℕ × Option Value → Type 0
OfKept M upto e = last_change upto e.0 ≡ None → OfOption M e.1

abbrev pub OfVersions : (Marked → Type 0) → ℕ → List Rows → Type 0
OfVersions M floor [] = Unit {0}
OfVersions M floor (c ∷ cs) = Each (OfKept M (take (floor - 1) cs)) c × OfVersions M (floor - 1) cs

pub record OfSession (M : Marked → Type 0) (p : Session) : Type 0 where
  pub working : OfRows M p.working
  pub locators : Each (λ e. Each M e.1.value.bytes) p.locators
  pub savepoints : Each (λ x. OfRows M x.working) p.savepoints

pub record Held (M : Marked → Type 0) (floor : ℕ) (t : Table) : Type 0 where
  pub versions : OfVersions M floor t.commits
  pub sessions : Each (OfSession M) t.sessions

of_get : (M : Marked → Type 0) (upto : List Rows) (c : Rows) (row : List ℕ) → Each (OfKept M upto) c → last_change upto row ≡ None → OfOption M (value_or_absent (get c row))
of_get M upto [] row all none = tt
of_get M upto (e ∷ c) row all none =
    elim (is_same_name row e.0) as (λ b. is_same_name row e.0 ≡ b → OfOption M (value_or_absent (cond b (Some e.1) (get c row)))) [
      | true ↦ λ is. all.0 (subst (λ n. last_change upto n ≡ None) (same_name row e.0 is) none)
      | false ↦ λ is. of_get M upto c row all.1 none
    ] refl

-- commits that don't name a row
pub later_none : (a b : Option (Option Value)) → later_change a b ≡ None → (a ≡ None) × (b ≡ None)
later_none a None is = (is, refl)
later_none a (Some b) is = absurd cc

both_none : (a b : Option (Option Value)) → a ≡ None → b ≡ None → later_change a b ≡ None
both_none a b is none = rw (is, none) refl

pub said_none_front : (cs : List Rows) (row : List ℕ) (k m : ℕ) → k ≤ m → last_change (take m cs) row ≡ None → last_change (take k cs) row ≡ None
said_none_front cs row zero m le none = refl
said_none_front [] row (suc k) m le none = refl
said_none_front (c ∷ cs) row (suc k) zero le none = absurd (omega arith)
said_none_front (c ∷ cs) row (suc k) (suc m) le none =
    let parts = later_none (get c row) (last_change (take m cs) row) none in
    both_none (get c row) (last_change (take k cs) row) parts.0 (said_none_front cs row k m (omega arith) parts.1)

pub said_none_push : (cs ds : List Rows) (row : List ℕ) (k : ℕ) → last_change (take k (cs ++ ds)) row ≡ None → last_change (take k cs) row ≡ None
said_none_push cs ds row zero none = refl
said_none_push [] ds row (suc k) none = refl
said_none_push (c ∷ cs) ds row (suc k) none =
    let parts = later_none (get c row) (last_change (take k (cs ++ ds)) row) none in
    both_none (get c row) (last_change (take k cs) row) parts.0 (said_none_push cs ds row k parts.1)

-- what a row held after some commits that reach the floor
pub of_said : (M : Marked → Type 0) (floor : ℕ) (cs : List Rows) (row : List ℕ) (m : ℕ) → OfVersions M floor cs → floor ≤ m → OfOption M (value_or_absent (last_change (take m cs) row))
of_said M floor [] row zero all le = tt
of_said M floor [] row (suc m) all le = tt
of_said M floor (c ∷ cs) row zero all le = tt
of_said M floor (c ∷ cs) row (suc m) all le =
    elim (last_change (take m cs) row) as (λ o. last_change (take m cs) row ≡ o → OfOption M (value_or_absent (later_change (get c row) o))) [
      | None ↦ λ is. of_get M (take (floor - 1) cs) c row all.0 (said_none_front cs row (floor - 1) m (omega arith) is)
      | Some x ↦ λ is. subst (λ o. OfOption M (value_or_absent o)) is (of_said M (floor - 1) cs row m all.1 (omega arith))
    ] refl

pub of_at : (M : Marked → Type 0) (floor : ℕ) (t : Table) (row : List ℕ) (n : ℕ) → Held M floor t → floor ≤ n → OfOption M (value_at t row n)
of_at M floor t row n held le = of_said M floor t.commits row n held.versions le

pub of_current : (M : Marked → Type 0) (floor : ℕ) (t : Table) (row : List ℕ) → Held M floor t → OfOption M (current_value t row)
of_current M floor t row held =
    subst (λ cs. OfOption M (value_or_absent (last_change cs row))) (take_all (length t.commits + floor) t.commits (omega arith))
    (of_said M floor t.commits row (length t.commits + floor) held.versions (omega arith))

-- a higher floor keeps fewer versions
pub versions_above : (M : Marked → Type 0) (low high : ℕ) (cs : List Rows) → low ≤ high → OfVersions M low cs → OfVersions M high cs
versions_above M low high [] le all = tt
versions_above M low high (c ∷ cs) le all = (
  each_weaker (OfKept M (take (low - 1) cs)) (OfKept M (take (high - 1) cs)) c (λ e is none. is (said_none_front cs e.0 (low - 1) (high - 1) (omega arith) none)) all.0,
  versions_above M (low - 1) (high - 1) cs (omega arith) all.1,
)

-- a commit of working values
pub versions_push : (M : Marked → Type 0) (floor : ℕ) (cs : List Rows) (w : Rows) → OfVersions M floor cs → OfRows M w → OfVersions M floor (cs ++ w ∷ [])
versions_push M floor [] w all new = (each_weaker (λ e. OfOption M e.1) (OfKept M (take (floor - 1) [])) w (λ e is none. is) new, tt)
versions_push M floor (c ∷ cs) w all new = (
  each_weaker (OfKept M (take (floor - 1) cs)) (OfKept M (take (floor - 1) (cs ++ w ∷ []))) c (λ e is none. is (said_none_push cs (w ∷ []) e.0 (floor - 1) none)) all.0,
  versions_push M (floor - 1) cs w all.1 new,
)

-- what follows at each byte
option_weaker : (M N : Marked → Type 0) → ((m : Marked) → M m → N m) → (o : Option Value) → OfOption M o → OfOption N o
option_weaker M N f None is = tt
option_weaker M N f (Some v) is = each_weaker M N v.bytes f is

pub rows_weaker : (M N : Marked → Type 0) → ((m : Marked) → M m → N m) → (c : Rows) → OfRows M c → OfRows N c
rows_weaker M N f c is = each_weaker (λ e. OfOption M e.1) (λ e. OfOption N e.1) c (λ e h. option_weaker M N f e.1 h) is

pub part_weaker : (M N : Marked → Type 0) → ((m : Marked) → M m → N m) → (p : Session) → OfSession M p → OfSession N p
part_weaker M N f p own = record {
  working = rows_weaker M N f p.working own.working;
  locators = each_weaker (λ e. Each M e.1.value.bytes) (λ e. Each N e.1.value.bytes) p.locators (λ e is. each_weaker M N e.1.value.bytes f is) own.locators;
  savepoints = each_weaker (λ x. OfRows M x.working) (λ x. OfRows N x.working) p.savepoints (λ x is. rows_weaker M N f x.working is) own.savepoints;
}

versions_weaker : (M N : Marked → Type 0) → ((m : Marked) → M m → N m) → (floor : ℕ) (cs : List Rows) → OfVersions M floor cs → OfVersions N floor cs
versions_weaker M N f floor [] all = tt
versions_weaker M N f floor (c ∷ cs) all =
    (each_weaker (OfKept M (take (floor - 1) cs)) (OfKept N (take (floor - 1) cs)) c (λ e is none. option_weaker M N f e.1 (is none)) all.0, versions_weaker M N f (floor - 1) cs all.1)

pub held_weaker : (M N : Marked → Type 0) (floor : ℕ) (t : Table) → ((m : Marked) → M m → N m) → Held M floor t → Held N floor t
held_weaker M N floor t f held = record { versions = versions_weaker M N f floor t.commits held.versions; sessions = each_weaker (OfSession M) (OfSession N) t.sessions (part_weaker M N f) held.sessions }
