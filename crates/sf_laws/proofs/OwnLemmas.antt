-- The law of locality.
use Rattle.std.proofs.Common.{◌≡◌, ℕ, zero, suc, ◌-◌, length-set, Bool, true, false, ◌&&◌, not, cond, IsTrue, List, [], ◌∷◌, ◌++◌, map, Option, Some, None, refl, sym, ap, subst, ◌∙◌}
use Rattle.std.specs.Prelude.{is_none, is_some, nat_le, slice_set, ◌==◌, ◌||◌}
use Rattle.std.specs.List.{AllByRecursion as Each, list_any}
use Rattle.std.specs.Option.{option_map_or, IfSome}
use Rattle.std.proofs.lemmas.List.{append_assoc}
use Rattle.sf_types.specs.declared.call.Call.{Call}
use Rattle.sf_types.specs.declared.call.Call.TheVariants as call
use Rattle.sf_types.specs.declared.history.Entry.{Entry}
use Rattle.sf_types.specs.declared.history.Kind.TheVariants as kind
use Rattle.sf_types.specs.declared.reply.Fault.{Fault}
use Rattle.sf_types.specs.declared.reply.Fault.TheVariants as fault
use Rattle.sf_types.specs.declared.reply.Reply.{Reply}
use Rattle.sf_types.specs.declared.reply.Reply.TheVariants as reply
use Rattle.sf_types.specs.Inside.NameMaps.{NameMap, is_same_name, has, with_entry}
use Rattle.sf_types.proofs.NameMapLemmas.{IsRisingMap, rising-put}
use Rattle.sf_types.specs.Values.Marks.{Value, size_of, fresh_count}
use Rattle.sf_types.specs.Table.Parts.{Promise, Rows, Session, Table}
use Rattle.sf_types.specs.Table.Versions.{current_value, value_or_absent}
use Rattle.sf_types.specs.Table.Sessions.{has_session, session_of, with_session, row_value, holds_lock, is_busy, with_lock, without_locks, locked_rows}
use Rattle.sf_types.specs.Calls.Refusals.{first_refusal, refusal_or}
use Rattle.sf_types.specs.Calls.Arguments.{argument_refusals}
use Rattle.sf_types.specs.Calls.LocatorCalls.{locator, locator_refusals}
use Rattle.sf_types.specs.Calls.WritingCalls.{written_name, names_in, source_value, spans_transactions, writing_refusals, writing_refusal, old_value, result_of, write_call}
use Rattle.sf_types.specs.Calls.Savepoints.{without_later_locks, savepoint_call}
use Rattle.sf_types.specs.Space.Due.{is_due, is_write_due}
use Rattle.sf_types.specs.Space.Promises.{table_with_promise, cancel, flush_cuts}
use Rattle.sf_types.specs.Space.Publications.{publish, without_promise}
use Rattle.sf_types.specs.Calls.Steps.{part_step, write_step, step}
use Rattle.sf_types.specs.Orders.Histories.{IsLegal, effect_of, table_after, IsLegalHistory, replies_from, replies_to, call_entries, entry_of}
use Rattle.sf_laws.specs.UseWithinCapacity.{HasLocked, IsEnough, IsWithinCapacity}
use Rattle.sf_types.specs.Halves.Own.{Own, own_of, has_lock, held_value, own_row, is_event, own_write_call, own_call, own_write_due, own_due, is_own_local, own_step, own_after, own_replies, AreLocal, MayCall}
use Rattle.sf_laws.proofs.RisingLockLemmas.{rising_map-filter, listed_with_lock, listed_released, listed_released_since, locked_are_held, listed_where_held, get_paired}
use Rattle.sf_laws.proofs.EachLemmas.{each_weaker}
use Rattle.sf_laws.proofs.StepCaseLemmas.{StepCases, by_cases}
use Rattle.sf_laws.proofs.PublishCaseLemmas.{PublishCases, by_publish_cases}
use Rattle.sf_laws.proofs.EntryCaseLemmas.{EntryCases, by_entry_cases}
use Rattle.sf_laws.proofs.LockStepLemmas.{IsLockedStep, lock_step, lock_publish}
use Rattle.sf_laws.proofs.PromiseLemmas.{own_session, other_session}
use Rattle.sf_laws.proofs.ChangeLemmas.{step_changed, publish_changed}
use Rattle.sf_types.proofs.RefusalLemmas.{same_part}
use Rattle.sf_types.proofs.NumberLemmas.{own_number}

-- What an entry of session s leaves of the locks' order, and of what others have locked.
record IsListedStep (t : Table) (s : ℕ) (u : Table) : Type 0 where
  rising : IsRisingMap u.locks
  others : (r : ℕ) → (r ≡ s → ⊥) → locked_rows u.locks r ≡ locked_rows t.locks r

rising_with_lock : (locks : NameMap ℕ) (s : ℕ) (row : List ℕ) → IsRisingMap locks → IsRisingMap (with_lock locks s row)
rising_with_lock locks s row rising =
    elim (holds_lock locks s row) as (λ b. IsRisingMap (cond b locks (with_entry locks row s))) [
      | true ↦ rising
      | false ↦ rising-put locks row s rising
    ]

unlisted : (t u : Table) (s : ℕ) → u.locks ≡ t.locks → IsRisingMap t.locks → IsListedStep t s u
unlisted t u s same rising = record { rising = subst (λ (m : NameMap ℕ). IsRisingMap m) (sym same) rising; others = λ r apart. ap (λ (m : NameMap ℕ). locked_rows m r) same }

takes : (t u : Table) (s : ℕ) (row : List ℕ) → is_busy t.locks s row ≡ false → u.locks ≡ with_lock t.locks s row → IsRisingMap t.locks → IsListedStep t s u
takes t u s row free is rising = record {
  rising = subst (λ (m : NameMap ℕ). IsRisingMap m) (sym is) (rising_with_lock t.locks s row rising);
  others = λ r apart. ap (λ (m : NameMap ℕ). locked_rows m r) is ∙ listed_with_lock t.locks r s row apart free;
}

releases : (t u : Table) (s : ℕ) → u.locks ≡ without_locks t.locks s → IsRisingMap t.locks → IsListedStep t s u
releases t u s is rising = record {
  rising = subst (λ (m : NameMap ℕ). IsRisingMap m) (sym is) (rising_map-filter (λ e. not (e.1 == s)) t.locks rising);
  others = λ r apart. ap (λ (m : NameMap ℕ). locked_rows m r) is ∙ listed_released t.locks r s apart;
}

releases_since : (t u : Table) (s : ℕ) (named : List (List ℕ)) → u.locks ≡ without_later_locks t.locks s named → IsRisingMap t.locks → IsListedStep t s u
releases_since t u s named is rising = record {
  rising = subst (λ (m : NameMap ℕ). IsRisingMap m) (sym is) (rising_map-filter (λ e. not (e.1 == s) || list_any (is_same_name e.0) named) t.locks rising);
  others = λ r apart. ap (λ (m : NameMap ℕ). locked_rows m r) is ∙ listed_released_since t.locks r s named apart;
}

listed_cases : (t : Table) (s : ℕ) → IsRisingMap t.locks → StepCases t s (IsListedStep t s)
listed_cases t s rising = record {
  refused = unlisted t t s refl rising;
  inserted = λ row free. takes t _ s row free refl rising;
  deleted = λ row free. takes t _ s row free refl rising;
  locked = λ to row free. takes t _ s row free refl rising;
  selected = λ to row. unlisted t _ s refl rising;
  selected_as_of = λ to row n from. unlisted t _ s refl rising;
  assigned = λ to from. unlisted t _ s refl rising;
  freed = λ name. unlisted t _ s refl rising;
  written = λ name c held. unlisted t _ s refl rising;
  saved = λ name. unlisted t _ s refl rising;
  gone_back = λ name x is. releases_since t _ s x.locked refl rising;
  committed = releases t _ s refl rising;
  erased = unlisted t _ s refl rising;
  rolled_back = releases t _ s refl rising;
  ended = releases t _ s refl rising;
}

listed_publish : (t : Table) (s : ℕ) (c : Call) → IsRisingMap t.locks → PublishCases t s c (IsListedStep t s)
listed_publish t s c rising = record {
  committed = λ is. releases t _ s refl rising;
  left_open = λ is. unlisted t _ s refl rising;
  written = λ at is flush. unlisted t _ s refl rising;
  nothing = λ is flush. unlisted t _ s refl rising;
}

listed_entry_cases : (t : Table) (s : ℕ) (c : Call) → IsTrue (has_session t s) → IsRisingMap t.locks → EntryCases t s c (IsListedStep t s)
listed_entry_cases t s c has rising = record {
  stepped = λ none due. by_cases t s (IsListedStep t s) has (listed_cases t s rising) c;
  published = λ q is same. by_publish_cases t s c (IsListedStep t s) (listed_publish t s c rising);
  refused = unlisted t t s refl rising;
  granted = λ none due h le fits. unlisted t _ s refl rising;
  cancelled = λ q is. unlisted t _ s refl rising;
}

listed_entry : (t : Table) (e : Entry) → IsLegal t e.token.session e.token.kind e.call → IsRisingMap t.locks → IsListedStep t e.token.session (effect_of t e).0
listed_entry t e legal rising = by_entry_cases t e.token.session e.token.kind e.call (IsListedStep t e.token.session) legal (listed_entry_cases t e.token.session e.call legal.session rising)

pub rising_entry : (t : Table) (e : Entry) → IsLegal t e.token.session e.token.kind e.call → IsRisingMap t.locks → IsRisingMap (effect_of t e).0.locks
rising_entry t e legal rising = (listed_entry t e legal rising).rising

pub others_listed : (t : Table) (e : Entry) → IsLegal t e.token.session e.token.kind e.call → IsRisingMap t.locks → (r : ℕ) → (r ≡ e.token.session → ⊥) → locked_rows (effect_of t e).0.locks r ≡ locked_rows t.locks r
others_listed t e legal rising r apart = (listed_entry t e legal rising).others r apart

-- The same for what others see of the session's part and rows.
locked_entry_cases : (t : Table) (s : ℕ) (c : Call) → IsTrue (has_session t s) → IsWithinCapacity t → EntryCases t s c (IsLockedStep t s)
locked_entry_cases t s c has inv =
    let own = inv.locks s has in
    let still : HasLocked t.locks s (session_of t s) = own in
    record {
      stepped = λ none due. lock_step t s c has own;
      published = λ q is same.
          let enough : IsEnough t s q = subst (λ (o : Option Promise). IfSome o (IsEnough t s)) is (inv.promises s has) in
          lock_publish t s c own (ap (is_due t s) same ∙ enough.due);
      refused = record { part = session_of t s; sessions = sym (ap (λ (u : Table). u.sessions) (same_part t s has)); own = own; others = λ r row apart held. held; rows = λ r row apart held. refl };
      granted = λ none due h le fits. record { part = _; sessions = refl; own = record { working = own.working; saved = own.saved; named = own.named }; others = λ r row apart held. held; rows = λ r row apart held. refl };
      cancelled = λ q is. record { part = _; sessions = refl; own = record { working = own.working; saved = own.saved; named = own.named }; others = λ r row apart held. held; rows = λ r row apart held. refl };
    }

locked_entry : (t : Table) (e : Entry) → IsLegal t e.token.session e.token.kind e.call → IsWithinCapacity t → IsLockedStep t e.token.session (effect_of t e).0
locked_entry t e legal inv = by_entry_cases t e.token.session e.token.kind e.call (IsLockedStep t e.token.session) legal (locked_entry_cases t e.token.session e.call legal.session inv)

-- values of some names that are the same
map_same : (f g : List ℕ → Option Value) (names : List (List ℕ)) → Each (λ n. f n ≡ g n) names → map {B = List ℕ × Option Value} (λ n. (n, f n)) names ≡ map (λ n. (n, g n)) names
map_same f g [] all = refl
map_same f g (n ∷ names) all = ap (λ (x : Option Value). (n, x) ∷ map (λ m. (m, f m)) names) all.0 ∙ ap (λ (m : Rows). (n, g n) ∷ m) (map_same f g names all.1)

pub part_of_other : (t : Table) (e : Entry) (r : ℕ) → IsLegal t e.token.session e.token.kind e.call → IsTrue (has_session t r) → (r ≡ e.token.session → ⊥) → session_of (effect_of t e).0 r ≡ session_of t r
part_of_other t e r legal has apart =
    by_entry_cases t e.token.session e.token.kind e.call (λ u. session_of u r ≡ session_of t r) legal (record {
      stepped = λ none due. let changed = step_changed t e.token.session e.call legal.session in other_session t (step t e.token.session e.call).0 e.token.session r changed.part legal.session has apart changed.sessions;
      published = λ q is same. let changed = publish_changed t e.token.session e.call in other_session t (publish t e.token.session e.call).0 e.token.session r changed.part legal.session has apart changed.sessions;
      refused = refl;
      granted = λ none due h le fits. other_session t (table_with_promise t e.token.session e.call (flush_cuts t e.token.session e.call) h) e.token.session r _ legal.session has apart refl;
      cancelled = λ q is. other_session t (cancel t e.token.session) e.token.session r _ legal.session has apart refl;
    })

-- An entry of another session leaves a session's own part.
pub others_leave_own : (t : Table) (e : Entry) (r : ℕ) → IsLegal t e.token.session e.token.kind e.call → IsWithinCapacity t → IsRisingMap t.locks → IsTrue (has_session t r) → (r ≡ e.token.session → ⊥) → own_of (effect_of t e).0 r ≡ own_of t r
others_leave_own t e r legal inv rising has apart =
    let s = e.token.session in
    let u = (effect_of t e).0 in
    let listed = listed_entry t e legal rising in
    let locked = locked_entry t e legal inv in
    let part : session_of u r ≡ session_of t r = other_session t u s r locked.part legal.session has apart locked.sessions in
    let names : locked_rows u.locks r ≡ locked_rows t.locks r = listed.others r apart in
    let values : Each (λ row. current_value u row ≡ current_value t row) (locked_rows t.locks r) = each_weaker (λ row. holds_lock t.locks r row ≡ true) (λ row. current_value u row ≡ current_value t row) (locked_rows t.locks r) (λ row held. locked.rows r row apart held) (locked_are_held t.locks r rising) in
    let rows : map {B = List ℕ × Option Value} (λ row. (row, current_value u row)) (locked_rows u.locks r) ≡ map (λ row. (row, current_value t row)) (locked_rows t.locks r) =
    ap (λ (ns : List (List ℕ)). map {B = List ℕ × Option Value} (λ row. (row, current_value u row)) ns) names ∙ map_same (λ row. current_value u row) (λ row. current_value t row) (locked_rows t.locks r) values in
    let one : own_of u r ≡ record { part = without_promise (session_of t r); rows = map (λ row. (row, current_value u row)) (locked_rows u.locks r) } = ap (λ (p : Session). record { part = without_promise p; rows = map (λ row. (row, current_value u row)) (locked_rows u.locks r) }) part in
    one ∙ ap (λ (m : Rows). record { part = without_promise (session_of t r); rows = m }) rows

-- The own part with its promise. It is the own part where no promise stands.
abbrev whole : Table → ℕ → Own
whole t s = record { part = session_of t s; rows = map (λ row. (row, current_value t row)) (locked_rows t.locks s) }

no_promise : (p : Session) → p.promise ≡ None → without_promise p ≡ p
no_promise p none = ap (λ (o : Option Promise). record p { promise = o }) (sym none)

whole_is : (t : Table) (s : ℕ) → (session_of t s).promise ≡ None → own_of t s ≡ whole t s
whole_is t s none = ap (λ (p : Session). record { part = p; rows = map (λ row. (row, current_value t row)) (locked_rows t.locks s) }) (no_promise (session_of t s) none)

-- What the own part tells of a row is so.
own_holds : (t : Table) (s : ℕ) (row : List ℕ) → IsRisingMap t.locks → has_lock (whole t s) row ≡ holds_lock t.locks s row
own_holds t s row rising =
    ap (λ (o : Option (Option Value)). is_some o) (get_paired (λ n. current_value t n) (locked_rows t.locks s) row)
    ∙ some_where (list_any (is_same_name row) (locked_rows t.locks s)) (current_value t row)
    ∙ listed_where_held t.locks s row rising
  where
    some_where : (b : Bool) (x : Option Value) → is_some (cond b (Some x) None) ≡ b
    some_where true x = refl
    some_where false x = refl

pub own_value : (t : Table) (s : ℕ) (row : List ℕ) → IsRisingMap t.locks → held_value (whole t s) row ≡ cond (holds_lock t.locks s row) (current_value t row) None
own_value t s row rising =
    ap value_or_absent (get_paired (λ n. current_value t n) (locked_rows t.locks s) row)
    ∙ absent_where (list_any (is_same_name row) (locked_rows t.locks s)) (current_value t row)
    ∙ ap (λ b. cond b (current_value t row) None) (listed_where_held t.locks s row rising)
  where
    absent_where : (b : Bool) (x : Option Value) → value_or_absent (cond b (Some x) None) ≡ cond b x None
    absent_where true x = refl
    absent_where false x = refl

-- A test that holds stops the others.
stops : (before rest other : List (Bool × Fault)) (f : Fault) → first_refusal (before ++ (true, f) ∷ rest) ≡ first_refusal (before ++ (true, f) ∷ other)
stops [] rest other f = refl
stops (b ∷ before) rest other f = ap (λ o. cond b.0 (Some b.1) o) (stops before rest other f)

refuses : (before rest : List (Bool × Fault)) (f : Fault) → first_refusal (before ++ (true, f) ∷ rest) ≡ None → ⊥
refuses [] rest f none = cc
refuses (b ∷ before) rest f none = go (refuses before rest f) b.0 none
  where
    go : (first_refusal (before ++ (true, f) ∷ rest) ≡ None → ⊥) → (x : Bool) → cond x (Some b.1) (first_refusal (before ++ (true, f) ∷ rest)) ≡ None → ⊥
    go later true h = cc
    go later false h = later h

-- the tests of a writing call before that of the lock, and those behind it
front_tests : Session → List ℕ → Call → List (Bool × Fault)
front_tests p at c = locator_refusals p (names_in at c) ++ ((locator p at).is_read_only, fault.ReadOnly) ∷ (spans_transactions p (locator p at), fault.SpansTransactions) ∷ []

unheld_tests : (p : Session) (value : Option Value) (at : List ℕ) (c : Call)
    → (rest : List (Bool × Fault)) × (writing_refusals p false value at (names_in at c) ++ argument_refusals c (size_of (old_value p value at)) (size_of (source_value p c)) ≡ front_tests p at c ++ (true, fault.RowNotLocked) ∷ rest)
unfolding front_tests
unheld_tests p value at c = (
  (is_none (row_value p value (locator p at).row), fault.NoSuchRow) ∷ argument_refusals c (size_of (old_value p value at)) (size_of (source_value p c)),
  append_assoc (locator_refusals p (names_in at c)) (((locator p at).is_read_only, fault.ReadOnly) ∷ (spans_transactions p (locator p at), fault.SpansTransactions) ∷ (true, fault.RowNotLocked) ∷ (is_none (row_value p value (locator p at).row), fault.NoSuchRow) ∷ []) (argument_refusals c (size_of (old_value p value at)) (size_of (source_value p c)))
      ∙ sym (append_assoc (locator_refusals p (names_in at c)) (((locator p at).is_read_only, fault.ReadOnly) ∷ (spans_transactions p (locator p at), fault.SpansTransactions) ∷ []) ((true, fault.RowNotLocked) ∷ (is_none (row_value p value (locator p at).row), fault.NoSuchRow) ∷ argument_refusals c (size_of (old_value p value at)) (size_of (source_value p c)))),
)

-- A writing call without the row's lock is refused, and what the row holds plays no part.
unheld_same : (p : Session) (value other : Option Value) (at : List ℕ) (c : Call) → writing_refusal p false value at c ≡ writing_refusal p false other at c
unheld_same p value other at c =
    let one = unheld_tests p value at c in
    let two = unheld_tests p other at c in
    ap first_refusal one.1 ∙ stops (front_tests p at c) one.0 two.0 fault.RowNotLocked ∙ sym (ap first_refusal two.1)

unheld_refused : (p : Session) (value : Option Value) (at : List ℕ) (c : Call) → writing_refusal p false value at c ≡ None → ⊥
unheld_refused p value at c none =
    let one = unheld_tests p value at c in
    refuses (front_tests p at c) one.0 fault.RowNotLocked (sym (ap first_refusal one.1) ∙ none)

refused_same : (o o' : Option Fault) (p : Session) (x y : Session × Reply) → o ≡ o' → (o ≡ None → ⊥) → refusal_or o p x ≡ refusal_or o' p y
refused_same None o' p x y same never = absurd (never refl)
refused_same (Some f) o' p x y same never = ap (λ (z : Option Fault). refusal_or z p y) same

unheld_write : (p : Session) (value other : Option Value) (at : List ℕ) (c : Call) → write_call p false value at c ≡ write_call p false other at c
unheld_write p value other at c = refused_same (writing_refusal p false value at c) (writing_refusal p false other at c) p _ _ (unheld_same p value other at c) (unheld_refused p value at c)

-- A writing call by the own part.
own_write_is : (t : Table) (s : ℕ) (at : List ℕ) (c : Call) → IsRisingMap t.locks → write_step t s (session_of t s) at c ≡ part_step t s (own_write_call (whole t s) at c)
own_write_is t s at c rising =
    let p = session_of t s in
    let row = (locator p at).row in
    ap (part_step t s) (go (holds_lock t.locks s row) refl
    ∙ sym (ap (λ b. write_call p b (held_value (whole t s) row) at c) (own_holds t s row rising) ∙ ap (λ (v : Option Value). write_call p (holds_lock t.locks s row) v at c) (own_value t s row rising)))
  where
    go : (b : Bool) → holds_lock t.locks s (locator (session_of t s) at).row ≡ b → write_call (session_of t s) (holds_lock t.locks s (locator (session_of t s) at).row) (current_value t (locator (session_of t s) at).row) at c
        ≡ write_call (session_of t s) (holds_lock t.locks s (locator (session_of t s) at).row) (cond (holds_lock t.locks s (locator (session_of t s) at).row) (current_value t (locator (session_of t s) at).row) None) at c
    go true is = rw is refl
    go false is = rw is (unheld_write (session_of t s) (current_value t (locator (session_of t s) at).row) None at c)

names_listed : (t : Table) (names : List (List ℕ)) → map {A = List ℕ × Option Value} (λ e. e.0) (map (λ row. (row, current_value t row)) names) ≡ names
names_listed t [] = refl
names_listed t (n ∷ names) = ap (λ (ns : List (List ℕ)). n ∷ ns) (names_listed t names)

-- A call that is no event is done by the own part alone.
step_by_whole : (t : Table) (s : ℕ) (c : Call) → IsRisingMap t.locks → is_event c ≡ false → step t s c ≡ part_step t s (own_call (whole t s) c)
step_by_whole t s (call.Insert row) rising is = absurd cc
step_by_whole t s (call.Delete row) rising is = absurd cc
step_by_whole t s (call.Lock to row) rising is = absurd cc
step_by_whole t s (call.Select to row) rising is = absurd cc
step_by_whole t s (call.SelectAsOf to row n) rising is = absurd cc
step_by_whole t s (call.Assign to from) rising is = refl
step_by_whole t s (call.Free at) rising is = refl
step_by_whole t s (call.Length at) rising is = refl
step_by_whole t s (call.Read at amount offset) rising is = refl
step_by_whole t s (call.Instr at pattern offset) rising is = refl
step_by_whole t s (call.Compare left right amount left_offset right_offset) rising is = refl
step_by_whole t s (call.Write at offset buffer) rising is = own_write_is t s at (call.Write at offset buffer) rising
step_by_whole t s (call.WriteAppend at buffer) rising is = own_write_is t s at (call.WriteAppend at buffer) rising
step_by_whole t s (call.Append at from) rising is = own_write_is t s at (call.Append at from) rising
step_by_whole t s (call.Copy at from amount to_offset from_offset) rising is = own_write_is t s at (call.Copy at from amount to_offset from_offset) rising
step_by_whole t s (call.Erase at amount offset) rising is = own_write_is t s at (call.Erase at amount offset) rising
step_by_whole t s (call.Trim at new_size) rising is = own_write_is t s at (call.Trim at new_size) rising
step_by_whole t s (call.FragInsert at offset buffer) rising is = own_write_is t s at (call.FragInsert at offset buffer) rising
step_by_whole t s (call.FragDelete at amount offset) rising is = own_write_is t s at (call.FragDelete at amount offset) rising
step_by_whole t s (call.FragMove at amount from_offset to_offset) rising is = own_write_is t s at (call.FragMove at amount from_offset to_offset) rising
step_by_whole t s (call.FragReplace at old_amount offset buffer) rising is = own_write_is t s at (call.FragReplace at old_amount offset buffer) rising
step_by_whole t s (call.SetOptions at share) rising is = own_write_is t s at (call.SetOptions at share) rising
step_by_whole t s (call.Savepoint name) rising is = ap (λ (names : List (List ℕ)). part_step t s (savepoint_call (session_of t s) names name)) (sym (names_listed t (locked_rows t.locks s)))
step_by_whole t s (call.RollbackTo name) rising is = absurd cc
step_by_whole t s call.Commit rising is = absurd cc
step_by_whole t s call.Rollback rising is = absurd cc
step_by_whole t s call.End rising is = absurd cc

-- Whether a writing call is due, by the own part.
write_due_by_whole : (t : Table) (s : ℕ) (at : List ℕ) (c : Call) → IsRisingMap t.locks → is_write_due t s (session_of t s) at c ≡ own_write_due t.options.gather (whole t s) at c
write_due_by_whole t s at c rising =
    let p = session_of t s in
    let row = (locator p at).row in
    let by : Bool → Option Value → Bool = λ b v. is_none (writing_refusal p b v at c) && nat_le t.options.gather (fresh_count (result_of p v at c)) in
    go (holds_lock t.locks s row) refl
    ∙ sym (ap (λ b. by b (held_value (whole t s) row)) (own_holds t s row rising) ∙ ap (λ (v : Option Value). by (holds_lock t.locks s row) v) (own_value t s row rising))
  where
    never : (p : Session) (v : Option Value) (x : Bool) → (is_none (writing_refusal p false v at c) && x) ≡ false
    never p v x = none_never (writing_refusal p false v at c) x (unheld_refused p v at c)
      where
        none_never : (o : Option Fault) (x : Bool) → (o ≡ None → ⊥) → (is_none o && x) ≡ false
        none_never None x never = absurd (never refl)
        none_never (Some f) x never = refl

    go : (b : Bool) → holds_lock t.locks s (locator (session_of t s) at).row ≡ b
        → is_write_due t s (session_of t s) at c ≡ (is_none (writing_refusal (session_of t s) (holds_lock t.locks s (locator (session_of t s) at).row) (cond (holds_lock t.locks s (locator (session_of t s) at).row) (current_value t (locator (session_of t s) at).row) None) at c) && nat_le t.options.gather (fresh_count (result_of (session_of t s) (cond (holds_lock t.locks s (locator (session_of t s) at).row) (current_value t (locator (session_of t s) at).row) None) at c)))
    go true is = rw is refl
    go false is = rw is (never (session_of t s) (current_value t (locator (session_of t s) at).row) _ ∙ sym (never (session_of t s) None _))

due_by_whole : (t : Table) (s : ℕ) (c : Call) → IsRisingMap t.locks → is_due t s c ≡ own_due t.options.gather (whole t s) c
due_by_whole t s call.Commit rising = refl
due_by_whole t s c rising = go (written_name c)
  where
    go : (o : Option (List ℕ)) → option_map_or (λ at. is_write_due t s (session_of t s) at c) o false ≡ option_map_or (λ at. own_write_due t.options.gather (whole t s) at c) o false
    go None = refl
    go (Some at) = write_due_by_whole t s at c rising

-- The own part after a local call.
own_of_whole_step : (t : Table) (s : ℕ) (c : Call) → IsTrue (has_session t s) → IsRisingMap t.locks → is_event c ≡ false → whole (step t s c).0 s ≡ own_step (whole t s) c
own_of_whole_step t s c has rising is =
    let p = (own_call (whole t s) c).0 in
    ap (λ (u : Table × Reply). whole u.0 s) (step_by_whole t s c rising is)
    ∙ ap (λ (x : Session). record { part = x; rows = map (λ row. (row, current_value t row)) (locked_rows t.locks s) }) (own_session t (with_session t s p) s p has refl)

-- A local call leaves whether the session may go on.
Goes : Session → Session → Type 0
Goes p q = (q.has_ended ≡ p.has_ended) × (q.promise ≡ p.promise)

goes_where : (o : Option Fault) (p : Session) (done : Session × Reply) → (done.0.has_ended ≡ p.has_ended) × (done.0.promise ≡ p.promise) → ((refusal_or o p done).0.has_ended ≡ p.has_ended) × ((refusal_or o p done).0.promise ≡ p.promise)
goes_where None p done stays = stays
goes_where (Some f) p done stays = (refl, refl)

goes_write : (o : Own) (c : Call) (x : Option (List ℕ)) → ((option_map_or (λ at. own_write_call o at c) x (o.part, reply.Done)).0.has_ended ≡ o.part.has_ended) × ((option_map_or (λ at. own_write_call o at c) x (o.part, reply.Done)).0.promise ≡ o.part.promise)
goes_write o c None = (refl, refl)
goes_write o c (Some at) = goes_where (writing_refusal o.part (has_lock o (own_row o at)) (held_value o (own_row o at)) at c) o.part _ (refl, refl)

pub goes_on : (o : Own) (c : Call) → ((own_call o c).0.has_ended ≡ o.part.has_ended) × ((own_call o c).0.promise ≡ o.part.promise)
goes_on o (call.Assign to from) = goes_where _ o.part _ (refl, refl)
goes_on o (call.Free at) = goes_where _ o.part _ (refl, refl)
goes_on o (call.Length at) = goes_where _ o.part _ (refl, refl)
goes_on o (call.Read at amount offset) = goes_where _ o.part _ (refl, refl)
goes_on o (call.Instr at pattern offset) = goes_where _ o.part _ (refl, refl)
goes_on o (call.Compare left right amount left_offset right_offset) = goes_where _ o.part _ (refl, refl)
goes_on o (call.Savepoint name) = goes_where _ o.part _ (refl, refl)
goes_on o c = goes_write o c (written_name c)

not_event : (a b : Bool) → (not a && not b) ≡ true → (a ≡ false) × (b ≡ false)
not_event true b is = absurd cc
not_event false true is = absurd cc
not_event false false is = (refl, refl)

-- A call that is no event is done by the own part alone.
pub step_by_own : (t : Table) (s : ℕ) (c : Call) → IsRisingMap t.locks → (session_of t s).promise ≡ None → is_event c ≡ false → step t s c ≡ part_step t s (own_call (own_of t s) c)
step_by_own t s c rising none is = step_by_whole t s c rising is ∙ ap (λ o. part_step t s (own_call o c)) (sym (whole_is t s none))

-- Whether a call is due is told by the own part alone.
due_promise_aside : (gather : ℕ) (p : Session) (rows : Rows) (c : Call) → own_due gather (record { part = without_promise p; rows = rows }) c ≡ own_due gather (record { part = p; rows = rows }) c
due_promise_aside gather p rows call.Commit = refl
due_promise_aside gather p rows c = refl

pub due_by_own : (t : Table) (s : ℕ) (c : Call) → IsRisingMap t.locks → is_due t s c ≡ own_due t.options.gather (own_of t s) c
due_by_own t s c rising = due_by_whole t s c rising ∙ sym (due_promise_aside t.options.gather (session_of t s) (map (λ row. (row, current_value t row)) (locked_rows t.locks s)) c)

-- A local call is legal, and does what the own part tells.
pub local_entry : (t : Table) (s : ℕ) (c : Call) → IsTrue (has_session t s) → IsRisingMap t.locks → MayCall (session_of t s) → is_own_local t.options.gather (own_of t s) c ≡ true
    → IsLegal t s kind.Call c × (effect_of t (entry_of s kind.Call c) ≡ (with_session t s (own_call (own_of t s) c).0, Some (own_call (own_of t s) c).1))
local_entry t s c has rising may is =
    let both = not_event (is_event c) (own_due t.options.gather (own_of t s) c) is in (
      record { session = has; goes_on = may.goes_on; standing = rw may.unpromised (due_by_own t s c rising ∙ both.1) },
      rw may.unpromised (ap (λ (u : Table × Reply). (u.0, Some u.1)) (step_by_own t s c rising may.unpromised both.0)),
    )

-- Local calls of a session one after the other: legal, with the own part and the replies that the own part tells.
pub record IsLocalRun (t : Table) (s : ℕ) (cs : List Call) : Type 0 where
  pub legal : IsLegalHistory t (call_entries s cs)
  pub own : own_of (table_after t (call_entries s cs)) s ≡ own_after (own_of t s) cs
  pub replies : replies_to s (replies_from t (call_entries s cs)) ≡ own_replies (own_of t s) cs
  pub same : table_after t (call_entries s cs) ≡ with_session t s (own_after (own_of t s) cs).part

set_twice : {X : Type 0} (xs : List X) (i : ℕ) (x y : X) → slice_set (slice_set xs i x) i y ≡ slice_set xs i y
set_twice [] i x y = refl
set_twice (z ∷ xs) zero x y = refl
set_twice (z ∷ xs) (suc i) x y = ap (λ n. z ∷ n) (set_twice xs i x y)

own_reply : (s : ℕ) (r : Reply) (rest : List (ℕ × Option Reply)) → replies_to s ((s, Some r) ∷ rest) ≡ r ∷ replies_to s rest
own_reply s r rest = rw (own_number s) refl

pub local_run : (t : Table) (s : ℕ) (cs : List Call) → IsTrue (has_session t s) → IsRisingMap t.locks → MayCall (session_of t s) → AreLocal t.options.gather (own_of t s) cs → IsLocalRun t s cs
local_run t s [] has rising may local = record { legal = tt; own = refl; replies = refl; same = sym (ap (with_session t s) (no_promise (session_of t s) may.unpromised) ∙ same_part t s has) }
local_run t s (c ∷ cs) has rising may local =
    let p = (own_call (own_of t s) c).0 in
    let u = with_session t s p in
    let entry = local_entry t s c has rising may local.0 in
    let after : (effect_of t (entry_of s kind.Call c)).0 ≡ u = ap (λ (x : Table × Option Reply). x.0) entry.1 in
    let told : (effect_of t (entry_of s kind.Call c)).1 ≡ Some (own_call (own_of t s) c).1 = ap (λ (x : Table × Option Reply). x.1) entry.1 in
    let part : session_of u s ≡ p = own_session t u s p has refl in
    let stays = goes_on (own_of t s) c in
    let own : own_of u s ≡ own_step (own_of t s) c = ap (λ (x : Session). record { part = without_promise x; rows = map (λ row. (row, current_value t row)) (locked_rows t.locks s) }) part
    ∙ ap (λ (x : Session). record { part = x; rows = map (λ row. (row, current_value t row)) (locked_rows t.locks s) }) (no_promise p stays.1) in
    let may' : MayCall (session_of u s) = record {
      goes_on = ap (λ (x : Session). x.has_ended) part ∙ stays.0 ∙ may.goes_on;
      unpromised = ap (λ (x : Session). x.promise) part ∙ stays.1;
    } in
    let has' : IsTrue (has_session u s) = subst (λ n. IsTrue (nat_le 1 s && nat_le s n)) (sym (length-set t.sessions (s - 1) p)) has in
    let rest = local_run u s cs has' rising may' (subst (λ o. AreLocal t.options.gather o cs) (sym own) local.1) in
    record {
      legal = (entry.0, subst (λ (x : Table). IsLegalHistory x (call_entries s cs)) (sym after) rest.legal);
      own = ap (λ (x : Table). own_of (table_after x (call_entries s cs)) s) after ∙ rest.own ∙ ap (λ o. own_after o cs) own;
      replies = ap (λ (x : Option Reply). replies_to s ((s, x) ∷ replies_from (effect_of t (entry_of s kind.Call c)).0 (call_entries s cs))) told
          ∙ own_reply s (own_call (own_of t s) c).1 (replies_from (effect_of t (entry_of s kind.Call c)).0 (call_entries s cs))
          ∙ ap (λ (x : Table). (own_call (own_of t s) c).1 ∷ replies_to s (replies_from x (call_entries s cs))) after
          ∙ ap (λ (x : List Reply). (own_call (own_of t s) c).1 ∷ x) (rest.replies ∙ ap (λ o. own_replies o cs) own);
      same = ap (λ (x : Table). table_after x (call_entries s cs)) after ∙ rest.same ∙ ap (λ o. with_session u s (own_after o cs).part) own
          ∙ ap (λ (xs : List Session). record t { sessions = xs }) (set_twice t.sessions (s - 1) p (own_after (own_step (own_of t s) c) cs).part);
    }
