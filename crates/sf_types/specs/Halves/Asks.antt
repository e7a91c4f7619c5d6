-- What a session asks of the store, what the store answers, and what the session makes of the answer (our own).
use Rattle.std.specs.Prelude.{ℕ, ◌+◌, ◌-◌, ◌==◌, Bool, true, false, not, ◌&&◌, ◌||◌, nat_lt, List, [], ◌∷◌, ◌++◌, map, filter, length, take, slice_get, slice_set, Option, Some, None, is_some, is_none, unwrap_or, if◌then◌else◌}
use Rattle.std.specs.List.{list_any}
use Rattle.std.specs.Option.{option_map_or}
use Rattle.sf_types.specs.declared.call.Call.{Call}
use Rattle.sf_types.specs.declared.call.Call.TheVariants as call
use Rattle.sf_types.specs.declared.options.Options.{Options}
use Rattle.sf_types.specs.declared.reply.Fault.{Fault}
use Rattle.sf_types.specs.declared.reply.Fault.TheVariants as fault
use Rattle.sf_types.specs.declared.reply.Reply.{Reply}
use Rattle.sf_types.specs.declared.reply.Reply.TheVariants as reply
use Rattle.sf_types.specs.Inside.Births.{rising_births}
use Rattle.sf_types.specs.Inside.NameMaps.{NameMap, is_same_name, get, has, with_entry, without_entry}
use Rattle.sf_types.specs.Values.Marks.{Value, empty_value, births_in}
use Rattle.sf_types.specs.Table.Parts.{Content, Promise, Rows, Session, Table}
use Rattle.sf_types.specs.Table.Sessions.{is_busy, with_lock, without_locks, lacks_room}
use Rattle.sf_types.specs.Table.Versions.{last_change, value_or_absent}
use Rattle.sf_types.specs.Calls.Refusals.{first_refusal}
use Rattle.sf_types.specs.Calls.RowCalls.{after_insert, after_delete, after_lock, after_select, after_select_as_of}
use Rattle.sf_types.specs.Calls.WritingCalls.{written_name, result_of, old_value, write_reply, after_write}
use Rattle.sf_types.specs.Calls.Savepoints.{savepoint_named, no_savepoint, after_rollback_to}
use Rattle.sf_types.specs.Calls.TransactionEnds.{after_commit, after_rollback, after_end, floor_after}
use Rattle.sf_types.specs.Space.Reach.{session_births}
use Rattle.sf_types.specs.Halves.Own.{Own, held_value, own_row}

-- What the store needs of a call beside the call itself.
pub data Request : Type 0 where
  -- The session knows the call's refusal.
  Known : (refusal : Fault) → Request
  -- The row of a row call has a working value, so that the session knows what the row holds.
  Working : Request
  -- The store has to tell what the row of a row call holds.
  Current : Request
  -- The rows that a RollbackTo unlocks.
  Unlock : (rows : List (List ℕ)) → Request
  -- The working values of a Commit.
  Commits : (rows : Rows) → Request
  -- A Rollback.
  RollsBack : Request
  -- An End.
  Ends : Request
  -- The result of a due writing call, whose fresh bytes are to be settled.
  Settles : (result : Value) → Request

-- What the store answers: the call's refusal, that it is done, the value that it gives, the number of commits, or the end.
pub data Answer : Type 0 where
  Refused : (refusal : Fault) → Answer
  Done : Answer
  Given : (value : Value) → Answer
  Committed : (commits : ℕ) → Answer
  Ended : Answer

-- The request of a row call by the row's working value, where there is one: the call is refused where it can't be done on
-- that value.
abbrev pub request_by_working : Option (Option Value) → (Option Value → Bool) → Fault → Request
request_by_working None refused fault = Current
request_by_working (Some value) refused fault = if refused value then Known fault else Working

-- The rows that a RollbackTo to a savepoint unlocks.
abbrev pub rows_to_unlock : Own → List ℕ → List (List ℕ)
rows_to_unlock o name =
    let named = (unwrap_or (savepoint_named o.part name) no_savepoint).locked in
    filter (λ row. not (list_any (is_same_name row) named)) (map (λ e. e.0) o.rows)

-- The request of each event and of each due call.
abbrev pub request_of : Own → Call → Request
request_of o (call.Insert row) = request_by_working (get o.part.working row) is_some fault.Duplicate
request_of o (call.Delete row) = request_by_working (get o.part.working row) is_none fault.NoSuchRow
request_of o (call.Lock to row) =
    if lacks_room o.part to then Known fault.TooManyLocators
    else request_by_working (get o.part.working row) is_none fault.NoSuchRow
request_of o (call.Select to row) =
    if lacks_room o.part to then Known fault.TooManyLocators
    else request_by_working (get o.part.working row) is_none fault.NoSuchRow
request_of o (call.SelectAsOf to row n) = if lacks_room o.part to then Known fault.TooManyLocators else Current
request_of o (call.RollbackTo name) =
    if is_none (savepoint_named o.part name) then Known fault.NoSavepoint else Unlock (rows_to_unlock o name)
request_of o call.Commit = Commits o.part.working
request_of o call.Rollback = RollsBack
request_of o call.End = Ends
request_of o c = option_map_or (λ at. Settles (result_of o.part (held_value o (own_row o at)) at c)) (written_name c) Working

-- The rows that a session has locked with one more, where it hasn't locked that one yet.
abbrev pub with_locked_row : Rows → List ℕ → Option Value → Rows
with_locked_row rows row value = if has rows row then rows else with_entry rows row value

-- The row's working value, for a row call that the store did by it.
abbrev pub working_value : Own → List ℕ → Value
working_value o row = unwrap_or (value_or_absent (get o.part.working row)) empty_value

-- An own part by its two fields, and a reply.
abbrev pub own_with : Own → Session → Rows → Reply → Own × Reply
own_with o part rows r = (record { part = part; rows = rows }, r)

-- The own part after the answer that a call is done, and the reply.
abbrev pub after_done : Own → Call → Own × Reply
after_done o (call.Insert row) =
    own_with o (after_insert o.part row) (with_locked_row o.rows row None) reply.Done
after_done o (call.Delete row) = own_with o (after_delete o.part row) o.rows reply.Done
after_done o (call.Lock to row) = own_with o (after_lock o.part to row (working_value o row)) o.rows reply.Done
after_done o (call.Select to row) = own_with o (after_select o.part to row (working_value o row)) o.rows reply.Done
after_done o (call.RollbackTo name) =
    let x = unwrap_or (savepoint_named o.part name) no_savepoint in
    own_with o (after_rollback_to o.part x) (filter (λ e. list_any (is_same_name e.0) x.locked) o.rows) reply.Done
after_done o call.Rollback = own_with o (after_rollback o.part) [] reply.Done
after_done o c = (o, reply.Done)

-- The own part after an answer that gives a value, and the reply. A Delete is given what its row held, Lock and Select what
-- the row holds, and a due writing call its result, settled.
abbrev pub after_value : Own → Call → Value → Own × Reply
after_value o (call.Delete row) v = own_with o (after_delete o.part row) (with_locked_row o.rows row (Some v)) reply.Done
after_value o (call.Lock to row) v = own_with o (after_lock o.part to row v) (with_locked_row o.rows row (Some v)) reply.Done
after_value o (call.Select to row) v = own_with o (after_select o.part to row v) o.rows reply.Done
after_value o (call.SelectAsOf to row n) v = own_with o (after_select_as_of o.part to row v) o.rows reply.Done
after_value o c v =
    option_map_or
    (λ at. own_with o (after_write o.part at v) o.rows (write_reply c (old_value o.part (held_value o (own_row o at)) at)))
    (written_name c) (o, reply.Done)

-- The own part after an answer, and the reply. A refusal changes nothing. A Commit of an open transaction ends it, and
-- another one forgets the savepoints alone.
abbrev pub after_answer : Own → Call → Answer → Own × Reply
after_answer o c (Refused f) = (o, reply.Refused f)
after_answer o c Done = after_done o c
after_answer o c (Given v) = after_value o c v
after_answer o c (Committed n) =
    if o.part.is_open
    then own_with o (after_commit o.part) [] (reply.Committed n)
    else own_with o (record o.part { savepoints = [] }) o.rows (reply.Committed n)
after_answer o c Ended = own_with o (after_end o.part) [] reply.Ended

-- What the store keeps of a session: the births that its values name, whether a transaction of it is open, its standing
-- promise, and whether it has ended.
pub record Kept : Type 0 where
  pub births : List ℕ
  pub is_open : Bool
  pub promise : Option Promise
  pub has_ended : Bool

-- The store's half of a table: all of it but the sessions' values.
pub record Half : Type 0 where
  pub options : Options
  pub contents : List Content
  pub commits : List Rows
  pub floor : ℕ
  pub locks : NameMap ℕ
  pub sessions : List Kept

-- What the store keeps of a session with this part.
abbrev pub kept_of : Session → Kept
kept_of p = record { births = session_births p; is_open = p.is_open; promise = p.promise; has_ended = p.has_ended }

-- The store's half of a table.
abbrev pub half_of : Table → Half
half_of t = record {
  options = t.options;
  contents = t.contents;
  commits = t.commits;
  floor = t.floor;
  locks = t.locks;
  sessions = map kept_of t.sessions;
}

-- What it keeps of a session that has done nothing yet.
abbrev pub new_kept : Kept
new_kept = record { births = []; is_open = false; promise = None; has_ended = false }

-- What it keeps of session s.
abbrev pub kept_at : Half → ℕ → Kept
kept_at h s = unwrap_or (slice_get h.sessions (s - 1)) new_kept

-- The half where this is kept of session s.
abbrev pub with_kept : Half → ℕ → Kept → Half
with_kept h s k = record h { sessions = slice_set h.sessions (s - 1) k }

-- The half where session s holds these births.
abbrev pub with_kept_births : Half → ℕ → List ℕ → Half
with_kept_births h s births = with_kept h s (record (kept_at h s) { births = births })

-- The half where session s holds these births and a transaction of it is open, or isn't.
abbrev pub with_kept_births_open : Half → ℕ → List ℕ → Bool → Half
with_kept_births_open h s births is_open = with_kept h s (record (kept_at h s) { births = births; is_open = is_open })

-- Some births with those of a value.
abbrev pub births_with : List ℕ → Value → List ℕ
births_with births v = rising_births (births ++ births_in v)

-- What is answered where no test refuses the call.
abbrev pub answer_or : Option Fault → Half → Half × Answer → Half × Answer
answer_or None h done = done
answer_or (Some f) h done = (h, Refused f)

-- The half after a row call for which the store tells what the row holds, and the answer. `births` are those that the
-- session holds after the call beside those of the value that it is given.
abbrev pub row_answer : Half → ℕ → Call → List ℕ → Half × Answer
row_answer h s (call.Insert row) births =
    let value = value_or_absent (last_change h.commits row) in
    answer_or (first_refusal ((is_busy h.locks s row, fault.Busy) ∷ (is_some value, fault.Duplicate) ∷ [])) h
    (record (with_kept_births_open h s births true) { locks = with_lock h.locks s row }, Done)
row_answer h s (call.Delete row) births =
    let value = value_or_absent (last_change h.commits row) in
    answer_or (first_refusal ((is_busy h.locks s row, fault.Busy) ∷ (is_none value, fault.NoSuchRow) ∷ [])) h
    (record (with_kept_births_open h s births true) { locks = with_lock h.locks s row }, Given (unwrap_or value empty_value))
row_answer h s (call.Lock to row) births =
    let value = value_or_absent (last_change h.commits row) in
    let given = unwrap_or value empty_value in
    answer_or (first_refusal ((is_busy h.locks s row, fault.Busy) ∷ (is_none value, fault.NoSuchRow) ∷ [])) h
    (record (with_kept_births_open h s (births_with births given) true) { locks = with_lock h.locks s row }, Given given)
row_answer h s (call.Select to row) births =
    let value = value_or_absent (last_change h.commits row) in
    let given = unwrap_or value empty_value in
    answer_or (first_refusal ((is_none value, fault.NoSuchRow) ∷ [])) h (with_kept_births h s (births_with births given), Given given)
row_answer h s (call.SelectAsOf to row n) births =
    let value = value_or_absent (last_change (take n h.commits) row) in
    let given = unwrap_or value empty_value in
    answer_or (first_refusal (
    (nat_lt (length h.commits) n, fault.FutureCommit)
    ∷ (nat_lt n h.floor, fault.TooOld)
    ∷ (is_none value, fault.NoSuchRow)
    ∷ [])) h (with_kept_births h s (births_with births given), Given given)
row_answer h s c births = (h, Done)

-- Whether a call that is done opens a transaction where none is open.
abbrev pub opens : Call → Bool
opens (call.Insert row) = true
opens (call.Delete row) = true
opens (call.Lock to row) = true
opens _ = false

-- The locks without those of session s on these rows.
abbrev pub without_row_locks : NameMap ℕ → ℕ → List (List ℕ) → NameMap ℕ
without_row_locks locks s rows = filter (λ e. not (e.1 == s && list_any (is_same_name e.0) rows)) locks

-- The half after a call that flushes nothing, and the answer, by the call's request and the births that the session holds
-- after it beside those of the value that it is given.
abbrev pub half_answer : Half → ℕ → Call → Request → List ℕ → Half × Answer
half_answer h s c (Known f) births = (h, Refused f)
half_answer h s c Working births = (with_kept_births_open h s births ((kept_at h s).is_open || opens c), Done)
half_answer h s c Current births = row_answer h s c births
half_answer h s c (Unlock rows) births = (record (with_kept_births h s births) { locks = without_row_locks h.locks s rows }, Done)
half_answer h s c (Commits rows) births =
    if (kept_at h s).is_open
    then (
      record (with_kept_births_open h s births false) {
        commits = h.commits ++ rows ∷ [];
        floor = floor_after h.options h.floor (length h.commits + 1);
        locks = without_locks h.locks s;
      },
      Committed (length h.commits + 1),
    )
    else (with_kept_births h s births, Committed (length h.commits))
half_answer h s c RollsBack births = (record (with_kept_births_open h s births false) { locks = without_locks h.locks s }, Done)
half_answer h s c Ends births = (
  record (with_kept h s (record (kept_at h s) { births = []; is_open = false; has_ended = true })) {
    locks = without_locks h.locks s;
  },
  Ended,
)
half_answer h s c (Settles v) births = (h, Done)

-- The births that a session holds beside those of one of its locators.
abbrev pub births_beside_locator : Own → List ℕ → List ℕ
births_beside_locator o at = session_births (record o.part { locators = without_entry o.part.locators at })

-- The births that a session holds after a call that isn't refused, beside those of the value that it is given.
abbrev pub kept_births : Own → Call → List ℕ
kept_births o (call.Insert row) = session_births (after_insert o.part row)
kept_births o (call.Delete row) = session_births (after_delete o.part row)
kept_births o (call.Lock to row) =
    option_map_or (λ value. session_births (after_lock o.part to row (unwrap_or value empty_value)))
    (get o.part.working row) (births_beside_locator o to)
kept_births o (call.Select to row) =
    option_map_or (λ value. session_births (after_select o.part to row (unwrap_or value empty_value)))
    (get o.part.working row) (births_beside_locator o to)
kept_births o (call.SelectAsOf to row n) = births_beside_locator o to
kept_births o (call.RollbackTo name) =
    session_births (after_rollback_to o.part (unwrap_or (savepoint_named o.part name) no_savepoint))
kept_births o call.Commit =
    session_births (if o.part.is_open then after_commit o.part else record o.part { savepoints = [] })
kept_births o call.Rollback = session_births (after_rollback o.part)
kept_births o call.End = []
kept_births o c =
    option_map_or (λ at. session_births (record o.part {
      working = without_entry o.part.working (own_row o at);
      locators = without_entry o.part.locators at;
    })) (written_name c) []
