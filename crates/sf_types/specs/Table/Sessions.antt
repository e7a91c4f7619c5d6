-- The sessions of a table, their transactions and their locks (after the SecureFiles and Large Objects Developer's Guide;
-- the limit of locators is our own).
use Rattle.std.specs.Prelude.{ℕ, ◌+◌, ◌-◌, ◌==◌, Bool, true, false, not, ◌&&◌, nat_le, List, length, map, filter, slice_get, slice_set, Option, unwrap_or, if◌then◌else◌}
use Rattle.std.specs.Option.{option_map_or}
use Rattle.sf_types.specs.declared.limits.TheConstants.{SESSION_LOCATORS}
use Rattle.sf_types.specs.Inside.NameMaps.{NameMap, get, has, with_entry}
use Rattle.sf_types.specs.Values.Marks.{Value}
use Rattle.sf_types.specs.Table.Parts.{Session, Table, new_session}

-- Sessions are numbered from 1.
abbrev pub has_session : Table → ℕ → Bool
has_session t s = nat_le 1 s && nat_le s (length t.sessions)

-- The part of session s.
abbrev pub session_of : Table → ℕ → Session
session_of t s = unwrap_or (slice_get t.sessions (s - 1)) new_session

-- The table with another part of one session, and all else as before.
abbrev pub with_session : Table → ℕ → Session → Table
with_session t s p = record t { sessions = slice_set t.sessions (s - 1) p }

-- The session's part with a transaction open. Transactions are numbered from 1.
abbrev pub with_transaction : Session → Session
with_transaction p = record p { opened = if p.is_open then p.opened else p.opened + 1; is_open = true }

-- The number of the open transaction, or 0.
abbrev pub transaction_number : Session → ℕ
transaction_number p = if p.is_open then p.opened else 0

-- The row's value for a session: its working value where there is one, else what the row holds.
abbrev pub row_value : Session → Option Value → List ℕ → Option Value
row_value p current row = unwrap_or (get p.working row) current

-- Whether a session holds the row's lock.
abbrev pub holds_lock : NameMap ℕ → ℕ → List ℕ → Bool
holds_lock locks s row = option_map_or (λ holder. holder == s) (get locks row) false

-- Whether another session than this one holds the row's lock.
abbrev pub is_busy : NameMap ℕ → ℕ → List ℕ → Bool
is_busy locks s row = option_map_or (λ holder. not (holder == s)) (get locks row) false

-- The locks with one more of a session. A lock that it holds already stays.
abbrev pub with_lock : NameMap ℕ → ℕ → List ℕ → NameMap ℕ
with_lock locks s row = if holds_lock locks s row then locks else with_entry locks row s

-- The locks without those of a session.
abbrev pub without_locks : NameMap ℕ → ℕ → NameMap ℕ
without_locks locks s = filter (λ e. not (e.1 == s)) locks

-- The rows that a session has locked, in byte order of names.
abbrev pub locked_rows : NameMap ℕ → ℕ → List (List ℕ)
locked_rows locks s = map (λ e. e.0) (filter (λ e. e.1 == s) locks)

-- Whether a locator can't be set: the name is new, and the session has as many locators as it may have.
abbrev pub lacks_room : Session → List ℕ → Bool
lacks_room p to = not (has p.locators to) && nat_le SESSION_LOCATORS (length p.locators)
