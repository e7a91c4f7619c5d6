-- Locks of rows, by the rules of the table (after the SecureFiles and Large Objects Developer's Guide).
use Rattle.std.specs.Prelude.{ℕ, List, if◌then◌else◌}
use Rattle.sf_types.specs.Inside.NameMaps.{NameMap, has, without_entry}
use Rattle.sf_types.specs.Table.Sessions.{holds_lock, is_busy, with_lock}

-- The locks after a session asked for a row's lock: it has the lock, unless another session holds it.
abbrev pub locks_asked : NameMap ℕ → ℕ → List ℕ → NameMap ℕ
locks_asked locks s row = if is_busy locks s row then locks else with_lock locks s row

-- The number of locks that a call for a row's lock adds: one where nobody holds it.
abbrev pub locks_added : NameMap ℕ → List ℕ → ℕ
locks_added locks row = if has locks row then 0 else 1

-- The locks after a session gave a row's lock back, where it held it.
abbrev pub locks_released : NameMap ℕ → ℕ → List ℕ → NameMap ℕ
locks_released locks s row = if holds_lock locks s row then without_entry locks row else locks
