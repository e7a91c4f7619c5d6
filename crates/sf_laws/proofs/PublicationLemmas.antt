-- Publications by the store's half and the session's own part.
use Rattle.std.proofs.Common.{◌≡◌, ℕ, Bool, true, false, cond, List, [], ◌∷◌, Option, Some, None, refl, sym, ap, subst, ◌∙◌}
use Rattle.std.specs.List.{list_any}
use Rattle.std.specs.Option.{option_map_or}
use Rattle.sf_types.specs.declared.call.Call.{Call}
use Rattle.sf_types.specs.declared.call.Call.TheVariants as call
use Rattle.sf_types.specs.Inside.NameMaps.{get, without_entry}
use Rattle.sf_types.specs.Values.Marks.{Value}
use Rattle.sf_types.specs.Table.Parts.{Rows, Session, Table}
use Rattle.sf_types.specs.Table.Sessions.{session_of, holds_lock}
use Rattle.sf_types.specs.Table.Versions.{current_value}
use Rattle.sf_types.specs.Calls.WritingCalls.{written_name, result_of}
use Rattle.sf_types.specs.Calls.TransactionEnds.{after_commit}
use Rattle.sf_types.specs.Space.Cuts.{Cut, cuts}
use Rattle.sf_types.specs.Space.Due.{has_fresh, is_write_due, is_due, flush_of, written_row, result_in}
use Rattle.sf_types.specs.Space.Promises.{flush_cuts}
use Rattle.sf_types.specs.Space.Publications.{without_promise, publish}
use Rattle.sf_types.specs.Space.Reach.{session_births}
use Rattle.sf_types.specs.Halves.Own.{Own, own_of, held_value, own_row}
use Rattle.sf_types.specs.Halves.Asks.{Request, Working, Commits, Settles, half_of, request_of, kept_births}
use Rattle.sf_types.specs.Halves.Flushes.{own_flush, half_publish}
use Rattle.sf_types.proofs.NameMapLemmas.{IsRisingMap}
use Rattle.sf_laws.specs.Halves.{Agrees}
use Rattle.sf_laws.proofs.AskLemmas.{Asks}
use Rattle.sf_laws.proofs.FlushLemmas.{flush_where, commit_published, write_published}
use Rattle.sf_laws.proofs.LockLemmas.{own_name}
use Rattle.sf_laws.proofs.LockStepLemmas.{due_held}
use Rattle.sf_laws.proofs.OwnLemmas.{own_value}

part_where : (o : Own) (c : Call) (at : List ℕ) → written_name c ≡ Some at → request_of o c ≡ Settles (result_of o.part (held_value o (own_row o at)) at c)
part_where o (call.Insert row) at is = absurd cc
part_where o (call.Delete row) at is = absurd cc
part_where o (call.Lock to row) at is = absurd cc
part_where o (call.Select to row) at is = absurd cc
part_where o (call.SelectAsOf to row n) at is = absurd cc
part_where o (call.RollbackTo name) at is = absurd cc
part_where o call.Commit at is = absurd cc
part_where o call.Rollback at is = absurd cc
part_where o call.End at is = absurd cc
part_where o c at is = ap (λ (x : Option (List ℕ)). option_map_or {U = Request} (λ n. Settles (result_of o.part (held_value o (own_row o n)) n c)) x Working) is

kept_where : (o : Own) (c : Call) (at : List ℕ) → written_name c ≡ Some at → kept_births o c ≡ session_births (record o.part { working = without_entry o.part.working (own_row o at); locators = without_entry o.part.locators at })
kept_where o (call.Insert row) at is = absurd cc
kept_where o (call.Delete row) at is = absurd cc
kept_where o (call.Lock to row) at is = absurd cc
kept_where o (call.Select to row) at is = absurd cc
kept_where o (call.SelectAsOf to row n) at is = absurd cc
kept_where o (call.RollbackTo name) at is = absurd cc
kept_where o call.Commit at is = absurd cc
kept_where o call.Rollback at is = absurd cc
kept_where o call.End at is = absurd cc
kept_where o c at is = ap (λ (x : Option (List ℕ)). option_map_or {U = List ℕ} (λ n. session_births (record o.part { working = without_entry o.part.working (own_row o n); locators = without_entry o.part.locators n })) x []) is

own_flush_where : (o : Own) (c : Call) (at : List ℕ) → written_name c ≡ Some at → own_flush o c ≡ (own_row o at, Some (result_of o.part (held_value o (own_row o at)) at c)) ∷ []
own_flush_where o call.Commit at is = absurd cc
own_flush_where o c at is = ap (λ (x : Option (List ℕ)). option_map_or {U = Rows} (λ n. (own_row o n, Some (result_of o.part (held_value o (own_row o n)) n c)) ∷ []) x []) is

nothing_where : (o : Own) (t : Table) (p : Session) (c : Call) → written_name c ≡ None → o.part.working ≡ p.working → own_flush o c ≡ flush_of t p c
nothing_where o t p call.Commit is same = same
nothing_where o t p c is same =
    ap (λ (x : Option (List ℕ)). option_map_or {U = Rows} (λ n. (own_row o n, Some (result_of o.part (held_value o (own_row o n)) n c)) ∷ []) x []) is
    ∙ sym (ap (λ (x : Option (List ℕ)). option_map_or {U = Rows} (λ n. (written_row p n, Some (result_in t p n c)) ∷ []) x []) is)

held_same : (t : Table) (s : ℕ) (row : List ℕ) → IsRisingMap t.locks → holds_lock t.locks s row ≡ true → held_value (own_of t s) row ≡ current_value t row
held_same t s row rising held = own_value t s row rising ∙ ap (λ b. cond b (current_value t row) None) held

-- what a due call flushes is told by the own part
pub flush_by_own : (t : Table) (s : ℕ) (c : Call) → IsRisingMap t.locks → is_due t s c ≡ true → own_flush (own_of t s) c ≡ flush_of t (session_of t s) c
flush_by_own t s c rising due = by_name (written_name c) refl
  where
    by_name : (x : Option (List ℕ)) → written_name c ≡ x → own_flush (own_of t s) c ≡ flush_of t (session_of t s) c
    by_name None is = nothing_where (own_of t s) t (session_of t s) c is refl
    by_name (Some at) is =
        let p = session_of t s in
        let row = written_row p at in
        own_flush_where (own_of t s) c at is
        ∙ ap (λ (v : Option Value). (row, Some (result_of (without_promise p) v at c)) ∷ []) (held_same t s row rising (due_held t s p c at is due))
        ∙ sym (flush_where t p c at is)

pub cuts_by_own : (t : Table) (s : ℕ) (c : Call) → IsRisingMap t.locks → is_due t s c ≡ true → cuts t.options (own_flush (own_of t s) c) ≡ flush_cuts t s c
cuts_by_own t s c rising due = ap (cuts t.options) (flush_by_own t s c rising due)

-- a transaction is open where a Commit is due
open_where_due : (m : Rows) (b : Bool) → list_any (λ e. has_fresh e.1) m ≡ true → ((row : List ℕ) (w : Option Value) → get m row ≡ Some w → b ≡ true) → b ≡ true
open_where_due [] b due opened = absurd cc
open_where_due (e ∷ m) b due opened = opened e.0 e.1 (rw (own_name e.0) refl)

-- A publication is what the session asks, what the store answers by its half, and what the session makes of the answer.
abbrev IsByHalf : Table → ℕ → Call → List Cut → Type 0
IsByHalf t s c of = Agrees (own_of t s) s c (publish t s c) (half_publish (half_of t) s (request_of (own_of t s) c) of (kept_births (own_of t s) c))

by_half_where : (t : Table) (s : ℕ) (c : Call) → Asks t s → is_due t s c ≡ true → (x : Option (List ℕ)) → written_name c ≡ x → IsByHalf t s c (flush_cuts t s c)
by_half_where t s call.Commit asks due x is =
    let p = session_of t s in
    let opened : p.is_open ≡ true = open_where_due p.working p.is_open due asks.opened in
    let kept : session_births (after_commit p) ≡ kept_births (own_of t s) call.Commit = rw opened refl in
    subst (λ bs. Agrees (own_of t s) s call.Commit (publish t s call.Commit) (half_publish (half_of t) s (Commits p.working) (flush_cuts t s call.Commit) bs)) kept (commit_published t s asks opened)
by_half_where t s c asks due None is =
    let never : true ≡ false = sym due ∙ ap (λ (x : Option (List ℕ)). option_map_or (λ at. is_write_due t s (session_of t s) at c) x false) is in
    absurd cc
by_half_where t s c asks due (Some at) is =
    let p = session_of t s in
    let o = own_of t s in
    let held = due_held t s p c at is due in
    let part : Settles (result_in t p at c) ≡ request_of o c = sym (part_where o c at is ∙ ap (λ (v : Option Value). Settles (result_of (without_promise p) v at c)) (held_same t s (written_row p at) asks.rising held)) in
    subst (λ (x : Request). Agrees o s c (publish t s c) (half_publish (half_of t) s x (flush_cuts t s c) (kept_births o c))) part
    (subst (λ bs. Agrees o s c (publish t s c) (half_publish (half_of t) s (Settles (result_in t p at c)) (flush_cuts t s c) bs)) (sym (kept_where o c at is)) (write_published t s c at asks is held))

pub publication_by_half : (t : Table) (s : ℕ) (c : Call) → Asks t s → is_due t s c ≡ true → IsByHalf t s c (cuts t.options (own_flush (own_of t s) c))
publication_by_half t s c asks due = subst (IsByHalf t s c) (sym (cuts_by_own t s c asks.rising due)) (by_half_where t s c asks due (written_name c) refl)
