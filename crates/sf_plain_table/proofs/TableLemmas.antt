-- Tables in which one session's part and locks were changed.
use Rattle.std.proofs.Common.{◌≡◌, ℕ, Bool, false, List, Option, Some, None, refl, sym, ap, ◌∙◌}
use Rattle.std.specs.Prelude.{is_some, is_none}
use Rattle.sf_types.specs.declared.reply.Reply.{Reply}
use Rattle.sf_types.specs.declared.reply.Reply.TheVariants.{Done, Refused}
use Rattle.sf_types.specs.declared.reply.Fault.TheVariants.{UnknownLocator}
use Rattle.sf_types.specs.declared.call.Call.{Call}
use Rattle.std.specs.Option.{option_map}
use Rattle.std.specs.Prelude.{IsTrue, unwrap_or}
use Rattle.sf_types.specs.Calls.LocatorCalls.{locator_named, locator, no_locator}
use Rattle.sf_types.specs.Calls.WritingCalls.{write_call}
use Rattle.sf_types.specs.Calls.Steps.{part_step, write_step}
use Rattle.sf_types.proofs.RefusalLemmas.{same_part}
use Rattle.sf_types.specs.Values.Marks.{Value}
use Rattle.sf_types.specs.Table.Parts.{Locator, Session, Table}
use Rattle.sf_types.specs.Table.Sessions.{session_of, has_session, holds_lock, with_session, row_value, is_busy, with_lock, lacks_room}
use Rattle.sf_types.specs.Table.Versions.{current_value}
use Rattle.sf_types.specs.Calls.RowCalls.{after_insert, after_delete, after_lock, insert_call, delete_call, lock_call}

pub insert_done : (t : Table) (s : ℕ) (row : List ℕ) (p : Session) (u : Table) → is_busy t.locks s row ≡ false → is_some (row_value (session_of t s) (current_value t row) row) ≡ false
    → p ≡ after_insert (session_of t s) row → u ≡ record (with_session t s p) { locks = with_lock t.locks s row }
    → ◌≡◌ {A = Table × Reply} (u, Done) (insert_call t s (session_of t s) row)
insert_done t s row p u busy there p-is u-is = rw (u-is, p-is, busy, there) refl

pub delete_done : (t : Table) (s : ℕ) (row : List ℕ) (p : Session) (u : Table) → is_busy t.locks s row ≡ false → is_none (row_value (session_of t s) (current_value t row) row) ≡ false
    → p ≡ after_delete (session_of t s) row → u ≡ record (with_session t s p) { locks = with_lock t.locks s row }
    → ◌≡◌ {A = Table × Reply} (u, Done) (delete_call t s (session_of t s) row)
delete_done t s row p u busy there p-is u-is = rw (u-is, p-is, busy, there) refl

pub lock_done : (t : Table) (s : ℕ) (to row : List ℕ) (value : Value) (p : Session) (u : Table) → lacks_room (session_of t s) to ≡ false → is_busy t.locks s row ≡ false → row_value (session_of t s) (current_value t row) row ≡ Some value
    → p ≡ after_lock (session_of t s) to row value → u ≡ record (with_session t s p) { locks = with_lock t.locks s row }
    → ◌≡◌ {A = Table × Reply} (u, Done) (lock_call t s (session_of t s) to row)
lock_done t s to row value p u lacks busy there p-is u-is = rw (u-is, p-is, lacks, busy, there) refl

none_named : (o : Option Locator) → option_map (λ l. l.row) o ≡ None → o ≡ None
none_named None is = refl
none_named (Some l) is = absurd cc

row_of_named : (o : Option Locator) (row : List ℕ) → option_map (λ l. l.row) o ≡ Some row → (unwrap_or o no_locator).row ≡ row
row_of_named None row is = absurd cc
row_of_named (Some l) row is = cc

unknown_written : (p : Session) (is_held : Bool) (value : Option Value) (at : List ℕ) (c : Call) → locator_named p at ≡ None → ◌≡◌ {A = Session × Reply} (p, Refused UnknownLocator) (write_call p is_held value at c)
unknown_written p is_held value at c none = rw none refl

-- a writing call through a locator that isn't there
pub write_unknown : (t : Table) (s : ℕ) (at : List ℕ) (c : Call) → IsTrue (has_session t s) → option_map (λ l. l.row) (locator_named (session_of t s) at) ≡ None
    → ◌≡◌ {A = Table × Reply} (t, Refused UnknownLocator) (write_step t s (session_of t s) at c)
write_unknown t s at c has none =
    let p = session_of t s in
    let row = (locator p at).row in
    ap (λ (u : Table). (u, Refused UnknownLocator)) (sym (same_part t s has))
    ∙ ap (part_step t s) (unknown_written p (holds_lock t.locks s row) (current_value t row) at c (none_named (locator_named p at) none))

-- a writing call through a locator of a row
pub write_done : (t u : Table) (s : ℕ) (at row : List ℕ) (c : Call) (is_held : Bool) (value : Option Value) (r : Reply) (done : Session × Reply) → option_map (λ l. l.row) (locator_named (session_of t s) at) ≡ Some row
    → is_held ≡ holds_lock t.locks s row → value ≡ current_value t row → done ≡ write_call (session_of t s) is_held value at c → ◌≡◌ {A = Table × Reply} (u, r) (part_step t s done)
    → ◌≡◌ {A = Table × Reply} (u, r) (write_step t s (session_of t s) at c)
write_done t u s at row c is_held value r done named held-is value-is done-is put =
    let q = session_of t s in
    let row-is = row_of_named (locator_named q at) row named in
    let there : ◌≡◌ {A = Session × Reply} (write_call q is_held value at c) (write_call q (holds_lock t.locks s (locator q at).row) (current_value t (locator q at).row) at c) =
    ap (λ b. write_call q b value at c) (held-is ∙ ap (holds_lock t.locks s) (sym row-is))
    ∙ ap (λ (v : Option Value). write_call q (holds_lock t.locks s (locator q at).row) v at c) (value-is ∙ ap (current_value t) (sym row-is)) in
    put ∙ ap (part_step t s) (done-is ∙ there)
