-- Row calls: Insert, Delete, Lock, Select and SelectAsOf (after the SecureFiles and Large Objects Developer's Guide; the
-- order of refusals and SelectAsOf are our own).
use Rattle.std.specs.Prelude.{ℕ, true, false, nat_lt, List, [], ◌∷◌, Option, Some, None, is_some, is_none, unwrap_or}
use Rattle.sf_types.specs.declared.reply.Fault.{Fault}
use Rattle.sf_types.specs.declared.reply.Fault.TheVariants as fault
use Rattle.sf_types.specs.declared.reply.Reply.{Reply}
use Rattle.sf_types.specs.declared.reply.Reply.TheVariants.{Done}
use Rattle.sf_types.specs.Inside.NameMaps.{with_entry, has}
use Rattle.sf_types.specs.Values.Marks.{Value, empty_value}
use Rattle.sf_types.specs.Table.Parts.{Locator, Session, Table}
use Rattle.sf_types.specs.Table.Sessions.{with_session, with_transaction, transaction_number, row_value, is_busy, with_lock, lacks_room}
use Rattle.sf_types.specs.Calls.Refusals.{first_refusal, refusal_or}
use Rattle.sf_types.specs.Table.Versions.{commit_count, value_at, current_value}

-- Insert: Busy where another session holds the row's lock, Duplicate where the row's value is present.
abbrev pub insert_refusal : Table → ℕ → Session → List ℕ → Option Fault
insert_refusal t s p row = first_refusal (
    (is_busy t.locks s row, fault.Busy)
    ∷ (is_some (row_value p (current_value t row) row), fault.Duplicate)
    ∷ [])

-- What Insert does to its session: a transaction is open, and the row's working value is empty.
abbrev pub after_insert : Session → List ℕ → Session
after_insert p row = record (with_transaction p) { working = with_entry p.working row (Some empty_value) }

-- Insert: what it does to its session, and the row's lock is the session's.
abbrev pub insert_call : Table → ℕ → Session → List ℕ → Table × Reply
insert_call t s p row = refusal_or (insert_refusal t s p row) t
    (record (with_session t s (after_insert p row)) { locks = with_lock t.locks s row }, Done)

-- Delete: Busy where another session holds the row's lock, NoSuchRow where the row's value is absent.
abbrev pub delete_refusal : Table → ℕ → Session → List ℕ → Option Fault
delete_refusal t s p row = first_refusal (
    (is_busy t.locks s row, fault.Busy)
    ∷ (is_none (row_value p (current_value t row) row), fault.NoSuchRow)
    ∷ [])

-- What Delete does to its session: a transaction is open, and the row's working value is absent.
abbrev pub after_delete : Session → List ℕ → Session
after_delete p row = record (with_transaction p) { working = with_entry p.working row None }

-- Delete: what it does to its session, and the row's lock is the session's.
abbrev pub delete_call : Table → ℕ → Session → List ℕ → Table × Reply
delete_call t s p row = refusal_or (delete_refusal t s p row) t
    (record (with_session t s (after_delete p row)) { locks = with_lock t.locks s row }, Done)

-- A locator of a row's value in a session: it has the session's epoch, and is dirty where the row has a working value.
abbrev pub row_locator : Session → List ℕ → Value → ℕ → Locator
row_locator p row value number = record {
  row = row;
  value = value;
  transaction = number;
  epoch = p.epoch;
  is_dirty = has p.working row;
  is_lost = false;
  is_read_only = false;
}

-- Lock: TooManyLocators where the locator can't be set, then Busy where another session holds the row's lock, then NoSuchRow
-- where the row's value is absent.
abbrev pub lock_refusal : Table → ℕ → Session → List ℕ → List ℕ → Option Fault
lock_refusal t s p to row = first_refusal (
    (lacks_room p to, fault.TooManyLocators)
    ∷ (is_busy t.locks s row, fault.Busy)
    ∷ (is_none (row_value p (current_value t row) row), fault.NoSuchRow)
    ∷ [])

-- The locator that Lock sets: it has the row's value and the number of the transaction, which Lock opens if none is open.
abbrev pub lock_locator : Session → List ℕ → Value → Locator
lock_locator p row value = row_locator p row value (with_transaction p).opened

-- What Lock does to its session: a transaction is open, and the locator is set. No working value is made.
abbrev pub after_lock : Session → List ℕ → List ℕ → Value → Session
after_lock p to row value = record (with_transaction p) { locators = with_entry p.locators to (lock_locator p row value) }

-- Lock: what it does to its session, and the row's lock is the session's.
abbrev pub lock_call : Table → ℕ → Session → List ℕ → List ℕ → Table × Reply
lock_call t s p to row =
    let value = unwrap_or (row_value p (current_value t row) row) empty_value in
    refusal_or (lock_refusal t s p to row) t
    (record (with_session t s (after_lock p to row value)) { locks = with_lock t.locks s row }, Done)

-- Select: TooManyLocators where the locator can't be set, then NoSuchRow where the row's value is absent.
abbrev pub select_refusal : Table → Session → List ℕ → List ℕ → Option Fault
select_refusal t p to row = first_refusal (
    (lacks_room p to, fault.TooManyLocators)
    ∷ (is_none (row_value p (current_value t row) row), fault.NoSuchRow)
    ∷ [])

-- What Select does to its session: the locator has the row's value and the open transaction's number, or 0.
abbrev pub after_select : Session → List ℕ → List ℕ → Value → Session
after_select p to row value = record p { locators = with_entry p.locators to (row_locator p row value (transaction_number p)) }

-- Select takes no lock: the session's part alone changes.
abbrev pub select_call : Table → ℕ → Session → List ℕ → List ℕ → Table × Reply
select_call t s p to row =
    let value = unwrap_or (row_value p (current_value t row) row) empty_value in
    refusal_or (select_refusal t p to row) t (with_session t s (after_select p to row value), Done)

-- SelectAsOf: TooManyLocators where the locator can't be set, FutureCommit past the number of commits, TooOld below the floor, and NoSuchRow where
-- the row was absent then.
abbrev pub select_as_of_refusal : Table → Session → List ℕ → List ℕ → ℕ → Option Fault
select_as_of_refusal t p to row n = first_refusal (
    (lacks_room p to, fault.TooManyLocators)
    ∷ (nat_lt (commit_count t) n, fault.FutureCommit)
    ∷ (nat_lt n t.floor, fault.TooOld)
    ∷ (is_none (value_at t row n), fault.NoSuchRow)
    ∷ [])

-- A locator of an old value has the number 0, is clean and read-only.
abbrev pub old_locator : Session → List ℕ → Value → Locator
old_locator p row value = record {
  row = row;
  value = value;
  transaction = 0;
  epoch = p.epoch;
  is_dirty = false;
  is_lost = false;
  is_read_only = true;
}

-- What SelectAsOf does to its session: the locator is set, and nothing else changes.
abbrev pub after_select_as_of : Session → List ℕ → List ℕ → Value → Session
after_select_as_of p to row value = record p { locators = with_entry p.locators to (old_locator p row value) }

-- SelectAsOf: the row's value after the first n commits goes into the locator.
abbrev pub select_as_of_call : Table → ℕ → Session → List ℕ → List ℕ → ℕ → Table × Reply
select_as_of_call t s p to row n =
    let value = unwrap_or (value_at t row n) empty_value in
    refusal_or (select_as_of_refusal t p to row n) t (with_session t s (after_select_as_of p to row value), Done)
