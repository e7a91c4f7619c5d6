-- Reach: the births that are still held (our own, after VLDB 2008).
use Rattle.std.specs.Prelude.{ℕ, ◌+◌, ◌-◌, Bool, ◌||◌, nat_lt, List, [], ◌∷◌, ◌++◌, map, take, drop, filter_map, flat_map, slice_index_or, Option, Some, None, is_none, if◌then◌else◌}
use Rattle.std.specs.List.{range_with_len}
use Rattle.std.specs.Option.{option_map_or}
use Rattle.sf_types.specs.declared.holder.Holder.{Holder}
use Rattle.sf_types.specs.declared.holder.Holder.TheVariants as holder
use Rattle.sf_types.specs.Inside.Births.{rising_births}
use Rattle.sf_types.specs.Values.Marks.{Value, births_in}
use Rattle.sf_types.specs.Table.Parts.{Rows, Session, Table}
use Rattle.sf_types.specs.Table.Versions.{last_change, commit_count, present_values}

-- What a holder holds: a rising list of births.
pub record Holding : Type 0 where
  pub holder : Holder
  pub births : List ℕ

-- The value that the n-th commit gave a row is kept while it is the row's value after some commit from the floor on:
-- where n is past the floor, or no later commit up to the floor names the row.
abbrev pub is_kept : Table → List ℕ → ℕ → Bool
is_kept t row n = nat_lt t.floor n || is_none (last_change (drop n (take t.floor t.commits)) row)

-- What a row's value of the n-th commit holds. An absent row and a version that isn't kept hold nothing.
abbrev pub version_holding : Table → ℕ → List ℕ × Option Value → Option Holding
version_holding t n (row, None) = None
version_holding t n (row, Some v) =
    if is_kept t row n then Some (record { holder = holder.Version row n; births = births_in v }) else None

-- The kept versions of all rows.
abbrev pub version_holdings : Table → List Holding
version_holdings t =
    flat_map (λ n. filter_map (version_holding t n) (slice_index_or t.commits (n - 1) [])) (range_with_len 1 (commit_count t))

-- The values that are present in a map.
abbrev pub values_in : Rows → List Value
values_in rows = map (λ e. e.1) (present_values rows)

-- A session's values: its working values, those of its locators and those of its savepoints.
abbrev pub session_values : Session → List Value
session_values p =
    values_in p.working
    ++ map (λ e. e.1.value) p.locators
    ++ flat_map (λ x. values_in x.working) p.savepoints

-- The births that a session's values name.
abbrev pub session_births : Session → List ℕ
session_births p = rising_births (flat_map births_in (session_values p))

-- A standing promise holds the births that it found.
abbrev pub promise_holding : ℕ → Session → List Holding
promise_holding s p = option_map_or (λ q. record { holder = holder.Promise s; births = q.births } ∷ []) p.promise []

-- What each session of a list and its promise hold. The first of the list has the number s.
abbrev pub session_holdings : ℕ → List Session → List Holding
session_holdings s [] = []
session_holdings s (p ∷ ps) =
    record { holder = holder.Session s; births = session_births p } ∷ promise_holding s p ++ session_holdings (s + 1) ps

-- What all holders hold.
abbrev pub holdings : Table → List Holding
holdings t = version_holdings t ++ session_holdings 1 t.sessions

-- The rising list of births that some holder holds.
abbrev pub reach : Table → List ℕ
reach t = rising_births (flat_map (λ h. h.births) (holdings t))
