-- Which calls are due, and what they flush (our own, after VLDB 2008).
use Rattle.std.specs.Prelude.{ℕ, Bool, false, ◌&&◌, nat_le, nat_lt, List, [], ◌∷◌, Option, Some, is_none}
use Rattle.std.specs.List.{list_any}
use Rattle.std.specs.Option.{option_map_or}
use Rattle.sf_types.specs.declared.call.Call.{Call}
use Rattle.sf_types.specs.declared.call.Call.TheVariants as call
use Rattle.sf_types.specs.Values.Marks.{Value, fresh_count}
use Rattle.sf_types.specs.Table.Parts.{Rows, Session, Table}
use Rattle.sf_types.specs.Table.Sessions.{session_of, holds_lock}
use Rattle.sf_types.specs.Table.Versions.{current_value}
use Rattle.sf_types.specs.Calls.LocatorCalls.{locator}
use Rattle.sf_types.specs.Calls.WritingCalls.{written_name, writing_refusal, result_of}

-- The row through whose locator a session writes.
abbrev pub written_row : Session → List ℕ → List ℕ
written_row p at = (locator p at).row

-- The result of a writing call of a session in a table.
abbrev pub result_in : Table → Session → List ℕ → Call → Value
result_in t p at c = result_of p (current_value t (written_row p at)) at c

-- Whether nothing refuses a writing call but perhaps the want of space.
abbrev pub is_writable : Table → ℕ → Session → List ℕ → Call → Bool
is_writable t s p at c =
    let row = written_row p at in
    is_none (writing_refusal p (holds_lock t.locks s row) (current_value t row) at c)

-- A writing call is due where nothing refuses it before the want of space, and its result has at least as many fresh
-- bytes as the option gather says.
abbrev pub is_write_due : Table → ℕ → Session → List ℕ → Call → Bool
is_write_due t s p at c = is_writable t s p at c && nat_le t.options.gather (fresh_count (result_in t p at c))

-- A value with a fresh byte.
abbrev pub has_fresh : Option Value → Bool
has_fresh value = option_map_or (λ v. nat_lt 0 (fresh_count v)) value false

-- A Commit is due where some working value has a fresh byte. No call is due but writing calls and Commit.
abbrev pub is_due_by : Table → ℕ → Session → Call → Bool
is_due_by t s p call.Commit = list_any (λ e. has_fresh e.1) p.working
is_due_by t s p c = option_map_or (λ at. is_write_due t s p at c) (written_name c) false

-- Whether a call of session s is due.
abbrev pub is_due : Table → ℕ → Call → Bool
is_due t s c = is_due_by t s (session_of t s) c

-- What a due call flushes: a writing call its result, a Commit all working values.
abbrev pub flush_of : Table → Session → Call → Rows
flush_of t p call.Commit = p.working
flush_of t p c = option_map_or (λ at. (written_row p at, Some (result_in t p at c)) ∷ []) (written_name c) []
