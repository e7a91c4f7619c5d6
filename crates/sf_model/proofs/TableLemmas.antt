-- Tables in which one session's part was changed.
use Rattle.std.proofs.Common.{◌≡◌, ℕ, ◌+◌, ◌-◌, ◌≤◌, ◌<◌, Bool, true, false, ◌&&◌, cond, IsTrue, List, [], ◌∷◌, ◌++◌, length, get_or, Option, Some, None, refl, sym, ap, ◌∙◌}
use Rattle.std.specs.Prelude.{is_some, unwrap_or}
use Rattle.std.proofs.lemmas.Option.{slice_get-get_or}
use Rattle.sf_types.specs.declared.reply.Reply.{Reply}
use Rattle.sf_types.specs.declared.reply.Reply.TheVariants as reply
use Rattle.sf_types.specs.Inside.NameMaps.{NameMap}
use Rattle.sf_types.specs.Values.Marks.{Value}
use Rattle.sf_types.specs.Table.Parts.{Locator, Rows, Savepoint, Session, Table, new_session}
use Rattle.sf_types.specs.Table.Sessions.{has_session, session_of, with_session, row_value, holds_lock, is_busy, with_lock, without_locks, lacks_room}
use Rattle.sf_types.specs.Calls.RowCalls.{after_insert, insert_call, after_lock, lock_call}
use Rattle.sf_types.specs.declared.reply.Fault.{Fault}
use Rattle.sf_types.specs.declared.reply.Fault.TheVariants as fault
use Rattle.std.specs.Option.{option_map}
use Rattle.sf_types.specs.Calls.LocatorCalls.{locator_named, no_locator, locator}
use Rattle.sf_types.specs.Calls.WritingCalls.{write_call}
use Rattle.sf_types.specs.Calls.TransactionEnds.{after_commit, floor_after, with_commit, commit_call, after_end, end_call}
use Rattle.sf_types.specs.declared.call.Call.{Call}
use Rattle.sf_types.specs.declared.call.Call.TheVariants.{WriteAppend}
use Rattle.sf_types.specs.declared.history.Kind.TheVariants as kind
use Rattle.sf_types.specs.Calls.Steps.{part_step, write_step, step}
use Rattle.sf_types.specs.Table.Versions.{commit_count, current_value}
use Rattle.sf_types.proofs.NumberLemmas.{one_less}
use Rattle.sf_types.proofs.RefusalLemmas.{same_part, some-is, step_refused}

-- the part that an index gives is the session's
pub session_at : (t : Table) (s : ℕ) (x : Session) → IsTrue (has_session t s) → x ≡ get_or t.sessions (s - 1) x → x ≡ session_of t s
session_at t s x has is =
    is ∙ sym (ap (λ o. unwrap_or o new_session) (slice_get-get_or t.sessions (s - 1) x (one_less s (length t.sessions) has)))

pub insert_done : (t : Table) (s : ℕ) (row : List ℕ) (locks : NameMap ℕ) (p : Session) → is_busy t.locks s row ≡ false → is_some (row_value (session_of t s) (current_value t row) row) ≡ false
    → locks ≡ with_lock t.locks s row → p ≡ after_insert (session_of t s) row
    → ◌≡◌ {A = Table × Reply} (record (with_session t s p) { locks = locks }, reply.Done) (insert_call t s (session_of t s) row)
insert_done t s row locks p busy there locks-is p-is = rw (locks-is, p-is, busy, there) refl

pub lock_done : (t : Table) (s : ℕ) (to row : List ℕ) (value : Value) (locks : NameMap ℕ) (p : Session) → lacks_room (session_of t s) to ≡ false → is_busy t.locks s row ≡ false → row_value (session_of t s) (current_value t row) row ≡ Some value
    → locks ≡ with_lock t.locks s row → p ≡ after_lock (session_of t s) to row value
    → ◌≡◌ {A = Table × Reply} (record (with_session t s p) { locks = locks }, reply.Done) (lock_call t s (session_of t s) to row)
lock_done t s to row value locks p lacks busy there locks-is p-is = rw (locks-is, p-is, lacks, busy, there) refl

pub end_done : (t : Table) (s : ℕ) (locks : NameMap ℕ) (p : Session) → locks ≡ without_locks t.locks s → p ≡ after_end (session_of t s)
    → ◌≡◌ {A = Table × Reply} (record (with_session t s p) { locks = locks }, reply.Ended) (end_call t s (session_of t s))
end_done t s locks p locks-is p-is = rw (locks-is, p-is) refl

-- a session's part as it was, and a reply, put into the table
pub put_own : (t : Table) (s : ℕ) (r : Reply) (done : Session × Reply) → IsTrue (has_session t s) → ◌≡◌ {A = Session × Reply} (session_of t s, r) done → ◌≡◌ {A = Table × Reply} (t, r) (part_step t s done)
put_own t s r done has is = ap (λ (u : Table). (u, r)) (sym (same_part t s has)) ∙ ap (part_step t s) is

pub append_unknown : (p : Session) (is_held : Bool) (value : Option Value) (at buffer : List ℕ) → locator_named p at ≡ None → ◌≡◌ {A = Session × Reply} (p, reply.Refused fault.UnknownLocator) (write_call p is_held value at (WriteAppend at buffer))
append_unknown p is_held value at buffer none = rw none refl

pub none_named : (o : Option Locator) → option_map (λ l. l.row) o ≡ None → o ≡ None
none_named None is = refl
none_named (Some l) is = absurd cc

pub row_of_named : (o : Option Locator) (row : List ℕ) → option_map (λ l. l.row) o ≡ Some row → (unwrap_or o no_locator).row ≡ row
row_of_named None row is = absurd cc
row_of_named (Some l) row is = cc

pub append_done : (t : Table) (s : ℕ) (at buffer row : List ℕ) (is_held : Bool) (value : Option Value) (p : Session) (r : Reply) → ◌≡◌ {A = Session × Reply} (p, r) (write_call (session_of t s) is_held value at (WriteAppend at buffer))
    → is_held ≡ holds_lock t.locks s row → value ≡ current_value t row → (locator (session_of t s) at).row ≡ row
    → ◌≡◌ {A = Table × Reply} (with_session t s p, r) (write_step t s (session_of t s) at (WriteAppend at buffer))
append_done t s at buffer row is_held value p r done held-is value-is row-is =
    let q = session_of t s in
    let c = WriteAppend at buffer in
    let there : ◌≡◌ {A = Session × Reply} (write_call q is_held value at c) (write_call q (holds_lock t.locks s (locator q at).row) (current_value t (locator q at).row) at c) =
    ap (λ b. write_call q b value at c) (held-is ∙ ap (holds_lock t.locks s) (sym row-is))
    ∙ ap (λ (v : Option Value). write_call q (holds_lock t.locks s (locator q at).row) v at c) (value-is ∙ ap (current_value t) (sym row-is)) in
    ap (part_step t s) (done ∙ there)

pub append_done_in : (u t : Table) (s : ℕ) (at buffer row : List ℕ) (is_held : Bool) (value : Option Value) (p : Session) (r : Reply) → t ≡ u → ◌≡◌ {A = Session × Reply} (p, r) (write_call (session_of t s) is_held value at (WriteAppend at buffer))
    → is_held ≡ holds_lock t.locks s row → value ≡ current_value t row → (locator (session_of t s) at).row ≡ row
    → ◌≡◌ {A = Table × Reply} (with_session t s p, r) (write_step u s (session_of u s) at (WriteAppend at buffer))
append_done_in u t s at buffer row is_held value p r same done held-is value-is row-is =
    append_done t s at buffer row is_held value p r done held-is value-is row-is
    ∙ ap (λ (x : Table). write_step x s (session_of x s) at (WriteAppend at buffer)) same

-- a commit where no transaction is open and no savepoint is set
pub commit_none : (t : Table) (s n : ℕ) → IsTrue (has_session t s) → (session_of t s).is_open ≡ false → (session_of t s).savepoints ≡ [] → n ≡ commit_count t
    → ◌≡◌ {A = Table × Reply} (t, reply.Committed n) (commit_call t s (session_of t s))
commit_none t s n has closed none n-is =
    let p = session_of t s in
    let erased : record p { savepoints = [] } ≡ p = ap (λ (points : List Savepoint). record p { savepoints = points }) (sym none) in
    let same : with_session t s (record p { savepoints = [] }) ≡ t = ap (with_session t s) erased ∙ same_part t s has in
    let chosen : commit_call t s p ≡ (with_session t s (record p { savepoints = [] }), reply.Committed (commit_count t)) =
    ap (λ b. cond {A = Table × Reply} b (with_commit t s p, reply.Committed (commit_count t + 1)) (with_session t s (record p { savepoints = [] }), reply.Committed (commit_count t))) closed in
    sym (chosen ∙ ap (λ (u : Table). (u, reply.Committed (commit_count t))) same ∙ ap (λ k. (t, reply.Committed k)) (sym n-is))

pub commit_done : (t : Table) (s n floor : ℕ) (commits : List Rows) (locks : NameMap ℕ) (p : Session) → (session_of t s).is_open ≡ true → commits ≡ t.commits ++ (session_of t s).working ∷ [] → n ≡ commit_count t + 1 → floor ≡ floor_after t.options t.floor (commit_count t + 1)
    → locks ≡ without_locks t.locks s → p ≡ after_commit (session_of t s)
    → ◌≡◌ {A = Table × Reply} (record (with_session t s p) { commits = commits; floor = floor; locks = locks }, reply.Committed n) (commit_call t s (session_of t s))
commit_done t s n floor commits locks p opened commits-is n-is floor-is locks-is p-is = rw (p-is, commits-is, n-is, floor-is, locks-is, opened) refl

-- a refused call leaves the table as it was
pub call_left : (t u : Table) (s : ℕ) (c : Call) (r : Reply) (f : Fault) → IsTrue (has_session t s) → ◌≡◌ {A = Table × Reply} (u, r) (step t s c) → ◌≡◌ {A = Option Reply} (Some r) (Some (reply.Refused f)) → u ≡ t
call_left t u s c r f has done is = ap (λ d. d.0) done ∙ step_refused t s c f has (ap (λ d. d.1) (sym done) ∙ some-is r (reply.Refused f) is)
