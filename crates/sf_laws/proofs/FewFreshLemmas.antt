-- What a session works on has fewer fresh bytes than make a writing call flush.
use Rattle.std.proofs.Common.{◌≡◌, ℕ, ◌+◌, ◌-◌, ◌≤◌, ◌<◌, Bool, true, false, ◌&&◌, not, cond, IsTrue, List, [], ◌∷◌, Option, Some, None, refl, sym, ap, subst, ◌∙◌, arith}
use Rattle.std.proofs.lemmas.Bool.Decides.{nat_tests}
use Rattle.std.proofs.lemmas.List.Elements.{All-from_recursion}
use Rattle.std.specs.Prelude.{nat_le, nat_lt, is_none, unwrap_or, All}
use Rattle.std.specs.List.{AllByRecursion as Each, list_all}
use Rattle.sf_types.specs.declared.call.Call.{Call}
use Rattle.sf_types.specs.declared.call.Call.TheVariants as call
use Rattle.sf_types.specs.declared.history.Entry.{Entry}
use Rattle.sf_types.specs.declared.options.Options.{Options}
use Rattle.sf_types.specs.declared.reply.Fault.{Fault}
use Rattle.sf_types.specs.declared.reply.Fault.TheVariants as fault
use Rattle.sf_types.specs.declared.reply.Reply.{Reply}
use Rattle.sf_types.specs.declared.reply.Reply.TheVariants as reply
use Rattle.sf_types.specs.Inside.NameMaps.{is_same_name, get, with_entry, without_entry}
use Rattle.sf_types.specs.Values.Marks.{Value, empty_value, fresh_count}
use Rattle.sf_types.specs.Table.Parts.{Rows, Savepoint, Session, Table, new_session, opening_table}
use Rattle.sf_types.specs.Table.Versions.{value_or_absent, later_change, last_change, commit_count, current_value, value_at}
use Rattle.sf_types.specs.Table.Sessions.{has_session, session_of, with_session, row_value, holds_lock, with_lock, locked_rows}
use Rattle.sf_types.specs.Calls.Refusals.{refusal_or}
use Rattle.sf_types.specs.Calls.RowCalls.{insert_refusal, after_insert, delete_refusal, after_delete, lock_refusal, after_lock, select_refusal, after_select, select_as_of_refusal, after_select_as_of}
use Rattle.sf_types.specs.Calls.LocatorCalls.{locator, assign_refusal, free_refusal}
use Rattle.sf_types.specs.Calls.WritingCalls.{writing_refusal, old_value, result_of, write_reply, after_write}
use Rattle.sf_types.specs.Calls.Savepoints.{savepoint_named, savepoint_refusal, after_savepoint, with_rollback_to, after_rollback_to, no_savepoint, rollback_to_refusal}
use Rattle.sf_types.specs.Calls.TransactionEnds.{with_commit}
use Rattle.sf_types.specs.Calls.Steps.{part_step, write_step, step}
use Rattle.sf_types.specs.Space.Due.{written_row, result_in, is_writable, is_write_due, has_fresh, is_due, flush_of}
use Rattle.sf_types.specs.Space.Reach.{reach, values_in}
use Rattle.sf_types.specs.Space.Promises.{flush_cuts}
use Rattle.sf_types.specs.Space.Publications.{births_for, publish, settled_flush, settled_result}
use Rattle.sf_types.specs.Orders.Histories.{IsLegal, IsLegalHistory, effect_of, history_table, table_after}
use Rattle.sf_types.proofs.BoolLemmas.{both_first, both_second}
use Rattle.sf_types.proofs.RefusalLemmas.{same_part}
use Rattle.sf_laws.specs.Committed.{are_stored, IsAllStored}
use Rattle.sf_laws.specs.Facts.{HaveFewFresh}
use Rattle.sf_laws.proofs.CommitLemmas.{settled-stored, births-length, entry-stored}
use Rattle.sf_laws.proofs.EachLemmas.{each_weaker, each-append, each-filter, each-replicate, each-set, each_at, each_found}
use Rattle.sf_laws.proofs.EntryCaseLemmas.{by_entry_cases}
use Rattle.sf_laws.proofs.EntryLemmas.{each-put, each_get_or}
use Rattle.sf_laws.proofs.HeldStepLemmas.{each-up_to}
use Rattle.sf_laws.proofs.OwnRunLemmas.{shape_entry, shape_after}
use Rattle.sf_laws.proofs.PublishCaseLemmas.{by_publish_cases}
use Rattle.sf_laws.proofs.SettledFlushLemmas.{settled_value, settled_row, settled_alone}
use Rattle.sf_laws.proofs.StepCaseLemmas.{refused_table, refused_part, first_false, some_named}

-- A value has fewer fresh bytes than a number, where it is present.
abbrev pub OfFew : ℕ → Option Value → Type 0
OfFew bound None = Unit {0}
OfFew bound (Some v) = fresh_count v < bound

-- Each value of some rows does.
abbrev pub HaveFew : ℕ → Rows → Type 0
HaveFew bound rows = Each (λ e. OfFew bound e.1) rows

-- What a session works on, and what its savepoints keep of that.
pub record WorksOnFew (bound : ℕ) (p : Session) : Type 0 where
  pub working : HaveFew bound p.working
  pub saved : Each (λ x. HaveFew bound x.working) p.savepoints

abbrev AllWorkOnFew : ℕ → Table → Type 0
AllWorkOnFew bound t = Each (WorksOnFew bound) t.sessions

new_works : (bound : ℕ) → WorksOnFew bound new_session
new_works bound = record { working = tt; saved = tt }

-- values without a fresh byte
few_of_stored : (bound : ℕ) (rows : Rows) → 1 ≤ bound → are_stored rows ≡ true → HaveFew bound rows
few_of_stored bound [] some is = tt
few_of_stored bound (e ∷ rows) some is = (go e.1 (both_first (not (has_fresh e.1)) (are_stored rows) is), few_of_stored bound rows some (both_second (not (has_fresh e.1)) (are_stored rows) is))
  where
    go : (o : Option Value) → not (has_fresh o) ≡ true → OfFew bound o
    go None h = tt
    go (Some v) h = let none : nat_lt 0 (fresh_count v) ≡ false = not_so (nat_lt 0 (fresh_count v)) h in let zero : fresh_count v ≤ 0 = grind (arith, nat_tests) in omega (arith, some, zero)
      where
        not_so : (b : Bool) → not b ≡ true → b ≡ false
        not_so true h = absurd cc
        not_so false h = refl

flush_few : (bound : ℕ) (t : Table) (s : ℕ) (c : Call) → 1 ≤ bound → HaveFew bound (settled_flush t s c)
flush_few bound t s c some =
    few_of_stored bound (settled_flush t s c) some
    (settled-stored t.options (flush_of t (session_of t s) c) (births_for t.contents (reach t) (flush_cuts t s c)) (omega (arith, births-length t.contents (reach t) (flush_cuts t s c))))

-- a call that isn't due
and_second : (a b : Bool) → (a && b) ≡ false → a ≡ true → b ≡ false
and_second true b is first = is
and_second false b is first = absurd cc

result_few : (bound : ℕ) (t : Table) (s : ℕ) (at : List ℕ) (c : Call) → t.options.gather ≡ bound → is_write_due t s (session_of t s) at c ≡ false
    → writing_refusal (session_of t s) (holds_lock t.locks s (written_row (session_of t s) at)) (current_value t (written_row (session_of t s) at)) at c ≡ None → fresh_count (result_in t (session_of t s) at c) < bound
result_few bound t s at c same due none =
    let p = session_of t s in
    let writable : is_writable t s p at c ≡ true = ap is_none none in
    let few : nat_le t.options.gather (fresh_count (result_in t p at c)) ≡ false = and_second (is_writable t s p at c) (nat_le t.options.gather (fresh_count (result_in t p at c))) due writable in
    let less : fresh_count (result_in t p at c) < t.options.gather = grind (arith, nat_tests) in
    omega (arith, same, less)

few_write : (bound : ℕ) (t : Table) (s : ℕ) (at : List ℕ) (c : Call) → t.options.gather ≡ bound → IsTrue (has_session t s) → is_write_due t s (session_of t s) at c ≡ false → AllWorkOnFew bound t → AllWorkOnFew bound (write_step t s (session_of t s) at c).0
few_write bound t s at c same has due all =
    let p = session_of t s in
    let row = (locator p at).row in
    let own = each_at (WorksOnFew bound) t.sessions (s - 1) new_session (new_works bound) all in
    refused_part (λ x. AllWorkOnFew bound (with_session t s x)) (writing_refusal p (holds_lock t.locks s row) (current_value t row) at c) p
    (after_write p at (result_of p (current_value t row) at c), write_reply c (old_value p (current_value t row) at))
    (subst (AllWorkOnFew bound) (sym (same_part t s has)) all)
    (λ none. each-set (WorksOnFew bound) t.sessions (s - 1) _ (record { working = each-put (λ e. OfFew bound e.1) p.working row (Some (result_in t p at c)) (result_few bound t s at c same due none) own.working; saved = own.saved }) all)

few_part : (bound : ℕ) (t : Table) (s : ℕ) (o : Option Fault) (done : Session × Reply) → IsTrue (has_session t s) → AllWorkOnFew bound t → WorksOnFew bound done.0 → AllWorkOnFew bound (part_step t s (refusal_or o (session_of t s) done)).0
few_part bound t s o done has all is =
    refused_part (λ x. AllWorkOnFew bound (with_session t s x)) o (session_of t s) done (subst (AllWorkOnFew bound) (sym (same_part t s has)) all) (λ none. each-set (WorksOnFew bound) t.sessions (s - 1) done.0 is all)

few_table : (bound : ℕ) (t u : Table) (s : ℕ) (p : Session) (o : Option Fault) (r : Reply) → u.sessions ≡ (with_session t s p).sessions → AllWorkOnFew bound t → (o ≡ None → WorksOnFew bound p) → AllWorkOnFew bound (refusal_or o t (u, r)).0
few_table bound t u s p o r same all is = refused_table (AllWorkOnFew bound) o t (u, r) all (λ none. subst (Each (WorksOnFew bound)) (sym same) (each-set (WorksOnFew bound) t.sessions (s - 1) p (is none) all))

few_commit : (bound : ℕ) (t : Table) (s : ℕ) → WorksOnFew bound (session_of t s) → AllWorkOnFew bound t → (b : Bool)
    → AllWorkOnFew bound (cond {A = Table × Reply} b (with_commit t s (session_of t s), reply.Committed (commit_count t + 1)) (with_session t s (record (session_of t s) { savepoints = [] }), reply.Committed (commit_count t))).0
few_commit bound t s own all true = each-set (WorksOnFew bound) t.sessions (s - 1) _ (record { working = tt; saved = tt }) all
few_commit bound t s own all false = each-set (WorksOnFew bound) t.sessions (s - 1) _ (record { working = own.working; saved = tt }) all

few_step : (bound : ℕ) (t : Table) (s : ℕ) (c : Call) → 1 ≤ bound → t.options.gather ≡ bound → IsTrue (has_session t s) → is_due t s c ≡ false → AllWorkOnFew bound t → WorksOnFew bound (session_of t s) → AllWorkOnFew bound (step t s c).0
few_step bound t s (call.Insert row) some same has due all own =
    let p = session_of t s in
    few_table bound t (record (with_session t s (after_insert p row)) { locks = with_lock t.locks s row }) s (after_insert p row) (insert_refusal t s p row) reply.Done refl all
    (λ none. record { working = each-put (λ e. OfFew bound e.1) p.working row (Some empty_value) (omega (arith, some)) own.working; saved = own.saved })
few_step bound t s (call.Delete row) some same has due all own =
    let p = session_of t s in
    few_table bound t (record (with_session t s (after_delete p row)) { locks = with_lock t.locks s row }) s (after_delete p row) (delete_refusal t s p row) reply.Done refl all
    (λ none. record { working = each-put (λ e. OfFew bound e.1) p.working row None tt own.working; saved = own.saved })
few_step bound t s (call.Lock to row) some same has due all own =
    let p = session_of t s in
    let part = after_lock p to row (unwrap_or (row_value p (current_value t row) row) empty_value) in
    few_table bound t (record (with_session t s part) { locks = with_lock t.locks s row }) s part (lock_refusal t s p to row) reply.Done refl all (λ none. record { working = own.working; saved = own.saved })
few_step bound t s (call.Select to row) some same has due all own =
    let p = session_of t s in
    let part = after_select p to row (unwrap_or (row_value p (current_value t row) row) empty_value) in
    few_table bound t (with_session t s part) s part (select_refusal t p to row) reply.Done refl all (λ none. record { working = own.working; saved = own.saved })
few_step bound t s (call.SelectAsOf to row n) some same has due all own =
    let p = session_of t s in
    let part = after_select_as_of p to row (unwrap_or (value_at t row n) empty_value) in
    few_table bound t (with_session t s part) s part (select_as_of_refusal t p to row n) reply.Done refl all (λ none. record { working = own.working; saved = own.saved })
few_step bound t s (call.Assign to from) some same has due all own =
    let p = session_of t s in
    few_part bound t s (assign_refusal p to from) (record p { locators = with_entry p.locators to (locator p from) }, reply.Done) has all (record { working = own.working; saved = own.saved })
few_step bound t s (call.Free at) some same has due all own =
    let p = session_of t s in
    few_part bound t s (free_refusal p at) (record p { locators = without_entry p.locators at }, reply.Done) has all (record { working = own.working; saved = own.saved })
few_step bound t s (call.Length at) some same has due all own = few_part bound t s _ _ has all own
few_step bound t s (call.Read at amount offset) some same has due all own = few_part bound t s _ _ has all own
few_step bound t s (call.Instr at pattern offset) some same has due all own = few_part bound t s _ _ has all own
few_step bound t s (call.Compare left right amount left_offset right_offset) some same has due all own = few_part bound t s _ _ has all own
few_step bound t s (call.Savepoint name) some same has due all own =
    let p = session_of t s in
    few_part bound t s (savepoint_refusal p name) (after_savepoint p (locked_rows t.locks s) name, reply.Done) has all (record {
      working = own.working;
      saved = each-append (λ x. HaveFew bound x.working) _ _ (each-filter (λ x. HaveFew bound x.working) (λ x. not (is_same_name name x.name)) p.savepoints own.saved) (own.working, tt);
    })
few_step bound t s (call.RollbackTo name) some same has due all own =
    let p = session_of t s in
    let x = unwrap_or (savepoint_named p name) no_savepoint in
    few_table bound t (with_rollback_to t s p x) s (after_rollback_to p x) (rollback_to_refusal p name) reply.Done refl all
    (λ none. record {
      working = (each_found (λ y. HaveFew bound y.working) (λ y. is_same_name name y.name) p.savepoints x (some_named (savepoint_named p name) (first_false (is_none (savepoint_named p name)) fault.NoSavepoint [] none)) own.saved).0;
      saved = each-up_to (λ y. HaveFew bound y.working) x.name p.savepoints own.saved;
    })
few_step bound t s call.Commit some same has due all own = few_commit bound t s own all (session_of t s).is_open
few_step bound t s call.Rollback some same has due all own = each-set (WorksOnFew bound) t.sessions (s - 1) _ (record { working = tt; saved = tt }) all
few_step bound t s call.End some same has due all own = each-set (WorksOnFew bound) t.sessions (s - 1) _ (record { working = tt; saved = tt }) all
few_step bound t s (call.Write at offset buffer) some same has due all own = few_write bound t s at (call.Write at offset buffer) same has due all
few_step bound t s (call.WriteAppend at buffer) some same has due all own = few_write bound t s at (call.WriteAppend at buffer) same has due all
few_step bound t s (call.Append at from) some same has due all own = few_write bound t s at (call.Append at from) same has due all
few_step bound t s (call.Copy at from amount to_offset from_offset) some same has due all own = few_write bound t s at (call.Copy at from amount to_offset from_offset) same has due all
few_step bound t s (call.Erase at amount offset) some same has due all own = few_write bound t s at (call.Erase at amount offset) same has due all
few_step bound t s (call.Trim at new_size) some same has due all own = few_write bound t s at (call.Trim at new_size) same has due all
few_step bound t s (call.FragInsert at offset buffer) some same has due all own = few_write bound t s at (call.FragInsert at offset buffer) same has due all
few_step bound t s (call.FragDelete at amount offset) some same has due all own = few_write bound t s at (call.FragDelete at amount offset) same has due all
few_step bound t s (call.FragMove at amount from_offset to_offset) some same has due all own = few_write bound t s at (call.FragMove at amount from_offset to_offset) same has due all
few_step bound t s (call.FragReplace at old_amount offset buffer) some same has due all own = few_write bound t s at (call.FragReplace at old_amount offset buffer) same has due all
few_step bound t s (call.SetOptions at share) some same has due all own = few_write bound t s at (call.SetOptions at share) same has due all

-- what a publication leaves
settled_few : (bound : ℕ) (t : Table) (s : ℕ) (c : Call) (at : List ℕ) → 1 ≤ bound → flush_of t (session_of t s) c ≡ (written_row (session_of t s) at, Some (result_in t (session_of t s) at c)) ∷ [] → OfFew bound (Some (settled_result t s (session_of t s) at c))
settled_few bound t s c at some flush =
    let few : HaveFew bound ((written_row (session_of t s) at, Some (settled_value t s at c)) ∷ []) = subst (HaveFew bound) (settled_row t s at c flush) (flush_few bound t s c some) in
    subst (λ (x : Value). OfFew bound (Some x)) (sym (settled_alone t s at c flush)) few.0

few_publish : (bound : ℕ) (t : Table) (s : ℕ) (c : Call) → 1 ≤ bound → AllWorkOnFew bound t → WorksOnFew bound (session_of t s) → AllWorkOnFew bound (publish t s c).0
few_publish bound t s c some all own = by_publish_cases t s c (AllWorkOnFew bound) (record {
  committed = λ is. each-set (WorksOnFew bound) t.sessions (s - 1) _ (record { working = tt; saved = tt }) all;
  left_open = λ is. each-set (WorksOnFew bound) t.sessions (s - 1) _ (record { working = flush_few bound t s call.Commit some; saved = tt }) all;
  written = λ at is flush. each-set (WorksOnFew bound) t.sessions (s - 1) _ (record { working = each-put (λ e. OfFew bound e.1) (session_of t s).working _ _ (settled_few bound t s c at some flush) own.working; saved = own.saved }) all;
  nothing = λ is flush. each-set (WorksOnFew bound) t.sessions (s - 1) _ (record { working = own.working; saved = own.saved }) all;
})

few_entry : (bound : ℕ) (t : Table) (e : Entry) → 1 ≤ bound → t.options.gather ≡ bound → IsLegal t e.token.session e.token.kind e.call → AllWorkOnFew bound t → AllWorkOnFew bound (effect_of t e).0
few_entry bound t e some same legal all =
    let s = e.token.session in
    let own = each_at (WorksOnFew bound) t.sessions (s - 1) new_session (new_works bound) all in
    by_entry_cases t s e.token.kind e.call (AllWorkOnFew bound) legal (record {
      stepped = λ none due. few_step bound t s e.call some same legal.session due all own;
      published = λ q is is_call. few_publish bound t s e.call some all own;
      refused = all;
      granted = λ none due h le fits. each-set (WorksOnFew bound) t.sessions (s - 1) _ (record { working = own.working; saved = own.saved }) all;
      cancelled = λ q is. each-set (WorksOnFew bound) t.sessions (s - 1) _ (record { working = own.working; saved = own.saved }) all;
    })

few_run : (bound : ℕ) (t : Table) (es : List Entry) → 1 ≤ bound → t.options.gather ≡ bound → IsLegalHistory t es → AllWorkOnFew bound t → AllWorkOnFew bound (table_after t es)
few_run bound t [] some same legal all = all
few_run bound t (e ∷ es) some same legal all =
    few_run bound (effect_of t e).0 es some (ap (λ (o : Options). o.gather) (shape_entry t e legal.0).1 ∙ same) legal.1 (few_entry bound t e some same legal.0 all)

pub few_in_run : (options : Options) (sessions s : ℕ) (history : List Entry) → 1 ≤ options.gather → IsLegalHistory (opening_table options sessions) history → WorksOnFew options.gather (session_of (history_table options sessions history) s)
few_in_run options sessions s history some legal =
    let bound = options.gather in
    each_at (WorksOnFew bound) (history_table options sessions history).sessions (s - 1) new_session (new_works bound)
    (few_run bound (opening_table options sessions) history some refl legal (each-replicate (WorksOnFew bound) sessions new_session (new_works bound)))

-- in the words of the laws
values_few : (bound : ℕ) (rows : Rows) → HaveFew bound rows → Each (λ v. fresh_count v < bound) (values_in rows)
values_few bound [] all = tt
values_few bound ((name, None) ∷ rows) all = values_few bound rows all.1
values_few bound ((name, Some v) ∷ rows) all = (all.0, values_few bound rows all.1)

pub have_few : (bound : ℕ) (rows : Rows) → HaveFew bound rows → HaveFewFresh bound rows
have_few bound rows all = All-from_recursion (λ v. fresh_count v < bound) (values_in rows) (values_few bound rows all)

pub have_few_saved : (bound : ℕ) (xs : List Savepoint) → Each (λ x. HaveFew bound x.working) xs → All (λ x. HaveFewFresh bound x.working) xs
have_few_saved bound xs all = All-from_recursion (λ x. HaveFewFresh bound x.working) xs (each_weaker (λ x. HaveFew bound x.working) (λ x. HaveFewFresh bound x.working) xs (λ x is. have_few bound x.working is) all)

-- what rows hold has no fresh byte
stored_run : (t : Table) (es : List Entry) → IsLegalHistory t es → IsAllStored t → IsAllStored (table_after t es)
stored_run t [] legal all = all
stored_run t (e ∷ es) legal all = stored_run (effect_of t e).0 es legal.1 (entry-stored t e.token.session e.token.kind e.call legal.0 all)

change_few : (bound : ℕ) (commits : List Rows) (row : List ℕ) → 1 ≤ bound → list_all are_stored commits ≡ true → OfFew bound (value_or_absent (last_change commits row))
change_few bound [] row some all = tt
change_few bound (c ∷ cs) row some all =
    let here : HaveFew bound c = few_of_stored bound c some (both_first (are_stored c) (list_all are_stored cs) all) in
    let rest = change_few bound cs row some (both_second (are_stored c) (list_all are_stored cs) all) in
    go (last_change cs row) (get c row) (each_get_or (OfFew bound) c row None here tt) rest
  where
    go : (o g : Option (Option Value)) → OfFew bound (unwrap_or g None) → OfFew bound (value_or_absent o) → OfFew bound (value_or_absent (later_change g o))
    go None None first rest = tt
    go None (Some x) first rest = first
    go (Some x) g first rest = rest

old_few : (bound : ℕ) (o : Option Value) → 1 ≤ bound → OfFew bound o → fresh_count (unwrap_or o empty_value) < bound
old_few bound None some is = omega (arith, some)
old_few bound (Some v) some is = is

never : (a b : Bool) → b ≡ false → (a && b) ≡ false
never true b is = is
never false b is = refl

few_is_less : (m n : ℕ) → n < m → nat_le m n ≡ false
few_is_less m n less = grind (arith, nat_tests)

pub options_never_due : (options : Options) (sessions s : ℕ) (history : List Entry) (at : List ℕ) (share : Bool) → 1 ≤ options.gather → IsLegalHistory (opening_table options sessions) history → is_due (history_table options sessions history) s (call.SetOptions at share) ≡ false
options_never_due options sessions s history at share some legal =
    let t = history_table options sessions history in
    let p = session_of t s in
    let row = written_row p at in
    let same : t.options.gather ≡ options.gather = ap (λ (o : Options). o.gather) (shape_after (opening_table options sessions) history legal).1 in
    let own = few_in_run options sessions s history some legal in
    let current : OfFew options.gather (current_value t row) = change_few options.gather t.commits row some (stored_run (opening_table options sessions) history legal refl) in
    let old : fresh_count (unwrap_or (row_value p (current_value t row) row) empty_value) < options.gather = old_few options.gather (row_value p (current_value t row) row) some (each_get_or (OfFew options.gather) p.working row (current_value t row) own.working current) in
    never (is_writable t s p at (call.SetOptions at share)) (nat_le t.options.gather (fresh_count (result_in t p at (call.SetOptions at share))))
    (few_is_less t.options.gather _ (omega (arith, same, old)))
