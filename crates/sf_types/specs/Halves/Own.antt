-- What a session can tell by itself, and its local calls (our own).
use Rattle.std.specs.Prelude.{◌≡◌, ℕ, Bool, true, false, not, ◌&&◌, nat_le, List, [], ◌∷◌, map, Option, None, is_none}
use Rattle.std.specs.List.{list_any}
use Rattle.std.specs.Option.{option_map_or}
use Rattle.sf_types.specs.declared.call.Call.{Call}
use Rattle.sf_types.specs.declared.call.Call.TheVariants as call
use Rattle.sf_types.specs.declared.reply.Reply.{Reply}
use Rattle.sf_types.specs.declared.reply.Reply.TheVariants as reply
use Rattle.sf_types.specs.Inside.NameMaps.{get, has}
use Rattle.sf_types.specs.Values.Marks.{Value, fresh_count}
use Rattle.sf_types.specs.Table.Parts.{Rows, Session, Table}
use Rattle.sf_types.specs.Table.Sessions.{session_of, locked_rows}
use Rattle.sf_types.specs.Table.Versions.{current_value, value_or_absent}
use Rattle.sf_types.specs.Calls.LocatorCalls.{locator, assign_call, free_call, length_call, read_call, instr_call, compare_call}
use Rattle.sf_types.specs.Calls.WritingCalls.{written_name, writing_refusal, result_of, write_call}
use Rattle.sf_types.specs.Calls.Savepoints.{savepoint_call}
use Rattle.sf_types.specs.Space.Due.{has_fresh, is_due}
use Rattle.sf_types.specs.Space.Publications.{without_promise}

-- A session's own part of the table: its part, a standing promise aside, and each row that it has locked with what that
-- row holds, in byte order of names.
pub record Own : Type 0 where
  pub part : Session
  pub rows : Rows

-- The own part of session s.
abbrev pub own_of : Table → ℕ → Own
own_of t s = record { part = without_promise (session_of t s); rows = map (λ row. (row, current_value t row)) (locked_rows t.locks s) }

-- Whether the session holds a row's lock.
abbrev pub has_lock : Own → List ℕ → Bool
has_lock o row = has o.rows row

-- What a row holds whose lock the session holds.
abbrev pub held_value : Own → List ℕ → Option Value
held_value o row = value_or_absent (get o.rows row)

-- The row to which a locator of the session belongs.
abbrev pub own_row : Own → List ℕ → List ℕ
own_row o at = (locator o.part at).row

-- A row call, RollbackTo and each end of a transaction is an event. No other call is.
abbrev pub is_event : Call → Bool
is_event (call.Insert row) = true
is_event (call.Delete row) = true
is_event (call.Lock to row) = true
is_event (call.Select to row) = true
is_event (call.SelectAsOf to row n) = true
is_event (call.RollbackTo name) = true
is_event call.Commit = true
is_event call.Rollback = true
is_event call.End = true
is_event _ = false

-- A writing call through a locator, by the own part: the session's part after it, and the reply.
abbrev pub own_write_call : Own → List ℕ → Call → Session × Reply
own_write_call o at c = write_call o.part (has_lock o (own_row o at)) (held_value o (own_row o at)) at c

-- A call that is no event, by the own part: the session's part after it, and the reply.
abbrev pub own_call : Own → Call → Session × Reply
own_call o (call.Assign to from) = assign_call o.part to from
own_call o (call.Free at) = free_call o.part at
own_call o (call.Length at) = length_call o.part at
own_call o (call.Read at amount offset) = read_call o.part at amount offset
own_call o (call.Instr at pattern offset) = instr_call o.part at pattern offset
own_call o (call.Compare left right amount left_offset right_offset) =
    compare_call o.part left right amount left_offset right_offset
own_call o (call.Savepoint name) = savepoint_call o.part (map (λ e. e.0) o.rows) name
own_call o c = option_map_or (λ at. own_write_call o at c) (written_name c) (o.part, reply.Done)

-- A writing call is due where nothing but the want of space can refuse it and its result has `gather` fresh bytes or more.
abbrev pub own_write_due : ℕ → Own → List ℕ → Call → Bool
own_write_due gather o at c =
    is_none (writing_refusal o.part (has_lock o (own_row o at)) (held_value o (own_row o at)) at c)
    && nat_le gather (fresh_count (result_of o.part (held_value o (own_row o at)) at c))

-- Whether a call is due, by the own part: a Commit where some working value has fresh bytes, and a due writing call.
abbrev pub own_due : ℕ → Own → Call → Bool
own_due gather o call.Commit = list_any (λ e. has_fresh e.1) o.part.working
own_due gather o c = option_map_or (λ at. own_write_due gather o at c) (written_name c) false

-- A call is local where it is neither an event nor due.
abbrev pub is_local : Table → ℕ → Call → Bool
is_local t s c = not (is_event c) && not (is_due t s c)

-- Whether a call is local, by the own part: where it is neither an event nor due.
abbrev pub is_own_local : ℕ → Own → Call → Bool
is_own_local gather o c = not (is_event c) && not (own_due gather o c)

-- The own part after a local call, which takes no lock and changes no row.
abbrev pub own_step : Own → Call → Own
own_step o c = record o { part = (own_call o c).0 }

-- The own part after local calls, one after the other.
abbrev pub own_after : Own → List Call → Own
own_after o [] = o
own_after o (c ∷ cs) = own_after (own_step o c) cs

-- The replies to local calls, one after the other.
abbrev pub own_replies : Own → List Call → List Reply
own_replies o [] = []
own_replies o (c ∷ cs) = (own_call o c).1 ∷ own_replies (own_step o c) cs

-- Calls of which each is local after those before it.
abbrev pub AreLocal : ℕ → Own → List Call → Type 0
AreLocal gather o [] = Unit {0}
AreLocal gather o (c ∷ cs) = (is_own_local gather o c ≡ true) × AreLocal gather (own_step o c) cs

-- A session may call where it hasn't ended and no promise of it stands.
pub record MayCall (p : Session) : Type 0 where
  pub goes_on : p.has_ended ≡ false
  pub unpromised : p.promise ≡ None
