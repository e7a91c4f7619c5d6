-- A call is what the session asks, what the store answers, and what the session makes of it.
use Rattle.std.proofs.Common.{◌≡◌, ℕ, zero, suc, ◌+◌, ◌-◌, Bool, true, false, ◌&&◌, ◌||◌, not, cond, IsTrue, List, [], ◌∷◌, map, Option, Some, None, refl, sym, ap, subst, ◌∙◌}
use Rattle.std.specs.Prelude.{T, filter, nat_lt, is_none, is_some, unwrap_or, slice_get, slice_set, ◌==◌}
use Rattle.std.specs.List.{AllByRecursion as Each, list_any}
use Rattle.std.specs.Option.{option_map_or}
use Rattle.std.specs.Ordering.{is_lt}
use Rattle.std.specs.Cmp.Lexicographic.{nat_list_cmp_total}
use Rattle.std.specs.FinMap.{nat_cmp-IsAntisymmetric, slice_cmp-IsAntisymmetric}
use Rattle.std.specs.FinMap.Entries as fin
use Rattle.sf_types.specs.declared.call.Call.{Call}
use Rattle.sf_types.specs.declared.call.Call.TheVariants as call
use Rattle.sf_types.specs.declared.reply.Fault.{Fault}
use Rattle.sf_types.specs.declared.reply.Fault.TheVariants as fault
use Rattle.sf_types.specs.declared.reply.Reply.{Reply}
use Rattle.sf_types.specs.declared.reply.Reply.TheVariants as reply
use Rattle.sf_types.specs.Values.Names.{name_cmp}
use Rattle.sf_types.specs.Inside.NameMaps.{NameMap, is_same_name, get, has, with_entry, without_entry}
use Rattle.sf_types.proofs.NameMapLemmas.{same_name, IsRisingMap, rising-put, get-put, lookup-is}
use Rattle.sf_types.specs.Values.Marks.{Value, empty_value}
use Rattle.sf_types.specs.Table.Parts.{Locator, Promise, Rows, Session, Table, new_session}
use Rattle.sf_types.specs.Table.Versions.{current_value, value_at, commit_count, value_or_absent}
use Rattle.sf_types.specs.Table.Sessions.{has_session, session_of, with_session, holds_lock, is_busy, with_lock, without_locks, locked_rows, lacks_room, transaction_number}
use Rattle.sf_types.specs.Calls.Refusals.{first_refusal, refusal_or}
use Rattle.sf_types.specs.Calls.RowCalls.{after_insert, after_delete, after_lock, lock_locator, row_locator, after_select, old_locator, after_select_as_of}
use Rattle.sf_types.specs.Calls.TransactionEnds.{with_commit, after_commit, after_rollback, rollback_call, after_end, end_call}
use Rattle.sf_types.specs.Calls.Savepoints.{without_later_locks, savepoint_named, no_savepoint, after_rollback_to, with_rollback_to}
use Rattle.sf_types.specs.Space.Reach.{session_births}
use Rattle.sf_types.specs.Calls.Steps.{step}
use Rattle.sf_laws.specs.UseWithinCapacity.{HasLocked}
use Rattle.sf_types.specs.Halves.Own.{Own, own_of, is_event}
use Rattle.sf_types.specs.Space.Publications.{without_promise}
use Rattle.sf_laws.specs.Halves.{Agrees}
use Rattle.sf_types.specs.Halves.Asks.{Known, Current, Unlock, Commits, RollsBack, Ends, Answer, Refused, Done, Given, request_by_working, request_of, answer_or, after_answer, with_locked_row, Half, Kept, half_of, kept_of, kept_at, with_kept, with_kept_births, with_kept_births_open, births_with, working_value, without_row_locks, rows_to_unlock, half_answer, kept_births}
use Rattle.sf_laws.proofs.EachLemmas.{each_weaker}
use Rattle.sf_laws.proofs.EntryLemmas.{each_get}
use Rattle.sf_laws.proofs.LockLemmas.{holder_is, own_name}
use Rattle.sf_laws.proofs.RisingLockLemmas.{rising_map-filter, listed_where_held, get_paired}
use Rattle.sf_laws.proofs.SessionBirthLemmas.{births_put}
use Rattle.sf_laws.proofs.PromiseLemmas.{own_session}
use Rattle.sf_laws.proofs.StepCaseLemmas.{second_false}
use Rattle.sf_types.proofs.BoolLemmas.{both, first, second}
use Rattle.sf_types.proofs.NumberLemmas.{own_number}

-- names in rising order with a value for each
below-paired : (f : List ℕ → Option Value) (k : List ℕ) (m : NameMap ℕ) → T (fin.below_all name_cmp k m) → T (fin.below_all name_cmp k (map {B = List ℕ × Option Value} (λ n. (n, f n)) (map (λ e. e.0) m)))
below-paired f k [] below = tt
below-paired f k (e ∷ m) below =
    both (is_lt (name_cmp k e.0)) (fin.below_all name_cmp k (map {B = List ℕ × Option Value} (λ n. (n, f n)) (map (λ x. x.0) m)))
    (first (is_lt (name_cmp k e.0)) (fin.below_all name_cmp k m) below) (below-paired f k m (second (is_lt (name_cmp k e.0)) (fin.below_all name_cmp k m) below))

rising-paired : (f : List ℕ → Option Value) (m : NameMap ℕ) → IsRisingMap m → IsRisingMap (map {B = List ℕ × Option Value} (λ n. (n, f n)) (map (λ e. e.0) m))
unfolding IsRisingMap
rising-paired f [] rising = tt
rising-paired f (e ∷ m) rising =
    both (fin.below_all name_cmp e.0 (map {B = List ℕ × Option Value} (λ n. (n, f n)) (map (λ x. x.0) m))) (fin.is_sorted name_cmp (map {B = List ℕ × Option Value} (λ n. (n, f n)) (map (λ x. x.0) m)))
    (below-paired f e.0 m (first (fin.below_all name_cmp e.0 m) (fin.is_sorted name_cmp m) rising))
    (rising-paired f m (second (fin.below_all name_cmp e.0 m) (fin.is_sorted name_cmp m) rising))

-- maps that have the same at each name are one
pub same_map : (m n : Rows) → IsRisingMap m → IsRisingMap n → ((q : List ℕ) → get m q ≡ get n q) → m ≡ n
unfolding IsRisingMap
same_map m n rising-m rising-n same =
    fin.same_entries name_cmp nat_list_cmp_total (slice_cmp-IsAntisymmetric nat_cmp-IsAntisymmetric) m n rising-m rising-n (λ q. sym (lookup-is m q) ∙ same q ∙ lookup-is n q)

-- The rows that a session has locked, with their values.
abbrev pub rows_of : (List ℕ → Option Value) → NameMap ℕ → ℕ → Rows
rows_of f locks s = map (λ n. (n, f n)) (locked_rows locks s)

rising_rows : (f : List ℕ → Option Value) (locks : NameMap ℕ) (s : ℕ) → IsRisingMap locks → IsRisingMap (rows_of f locks s)
rising_rows f locks s rising = rising-paired f (filter (λ e. e.1 == s) locks) (rising_map-filter (λ e. e.1 == s) locks rising)

get_rows : (f : List ℕ → Option Value) (locks : NameMap ℕ) (s : ℕ) (q : List ℕ) → IsRisingMap locks → get (rows_of f locks s) q ≡ cond (holds_lock locks s q) (Some (f q)) None
get_rows f locks s q rising = get_paired f (locked_rows locks s) q ∙ ap (λ b. cond b (Some (f q)) None) (listed_where_held locks s q rising)

has_rows : (f : List ℕ → Option Value) (locks : NameMap ℕ) (s : ℕ) (q : List ℕ) → IsRisingMap locks → has (rows_of f locks s) q ≡ holds_lock locks s q
has_rows f locks s q rising = ap (λ (o : Option (Option Value)). is_some o) (get_rows f locks s q rising) ∙ go (holds_lock locks s q)
  where
    go : (b : Bool) → is_some (cond {A = Option (Option Value)} b (Some (f q)) None) ≡ b
    go true = refl
    go false = refl

-- a row that is locked beside the others
put_rows : (f : List ℕ → Option Value) (locks : NameMap ℕ) (s : ℕ) (row : List ℕ) → IsRisingMap locks → rows_of f (with_entry locks row s) s ≡ with_entry (rows_of f locks s) row (f row)
put_rows f locks s row rising =
    same_map _ _ (rising_rows f (with_entry locks row s) s (rising-put locks row s rising)) (rising-put (rows_of f locks s) row (f row) (rising_rows f locks s rising)) value_at
  where
    value_at : (q : List ℕ) → get (rows_of f (with_entry locks row s) s) q ≡ get (with_entry (rows_of f locks s) row (f row)) q
    value_at q =
        get_rows f (with_entry locks row s) s q (rising-put locks row s rising)
        ∙ ap (λ (o : Option ℕ). cond (option_map_or (λ holder. holder == s) o false) (Some (f q)) None) (get-put locks row s q)
        ∙ go (is_same_name q row) refl
        ∙ sym (get-put (rows_of f locks s) row (f row) q ∙ ap (cond (is_same_name q row) (Some (f row))) (get_rows f locks s q rising))
      where
        go : (b : Bool) → is_same_name q row ≡ b → cond (option_map_or (λ holder. holder == s) (cond b (Some s) (get locks q)) false) (Some (f q)) None ≡ cond b (Some (f row)) (cond (holds_lock locks s q) (Some (f q)) None)
        go true is = rw (own_number s) (ap (λ n. Some (f n)) (same_name q row is))
        go false is = refl

pub locked_more : (f : List ℕ → Option Value) (locks : NameMap ℕ) (s : ℕ) (row : List ℕ) → IsRisingMap locks → rows_of f (with_lock locks s row) s ≡ with_locked_row (rows_of f locks s) row (f row)
locked_more f locks s row rising = go (holds_lock locks s row) refl
  where
    go : (b : Bool) → holds_lock locks s row ≡ b → rows_of f (cond b locks (with_entry locks row s)) s ≡ with_locked_row (rows_of f locks s) row (f row)
    go true is = rw (has_rows f locks s row rising ∙ is) refl
    go false is = rw (has_rows f locks s row rising ∙ is) (put_rows f locks s row rising)

-- The store's half of a changed table.
pub map-set : {X Y : Type 0} (f : X → Y) (xs : List X) (i : ℕ) (x : X) → map f (slice_set xs i x) ≡ slice_set (map f xs) i (f x)
map-set f [] i x = refl
map-set f (y ∷ xs) zero x = refl
map-set f (y ∷ xs) (suc i) x = ap (λ n. f y ∷ n) (map-set f xs i x)

get-map : {X Y : Type 0} (f : X → Y) (xs : List X) (i : ℕ) (d : X) → unwrap_or (slice_get (map f xs) i) (f d) ≡ f (unwrap_or (slice_get xs i) d)
get-map f [] i d = refl
get-map f (x ∷ xs) zero d = refl
get-map f (x ∷ xs) (suc i) d = get-map f xs i d

pub kept_is : (t : Table) (s : ℕ) → kept_at (half_of t) s ≡ kept_of (session_of t s)
kept_is t s = get-map kept_of t.sessions (s - 1) new_session

pub half_with : (t : Table) (s : ℕ) (p : Session) (locks : NameMap ℕ) → half_of (record (with_session t s p) { locks = locks }) ≡ record (with_kept (half_of t) s (kept_of p)) { locks = locks }
half_with t s p locks = ap (λ (ks : List Kept). record (half_of t) { locks = locks; sessions = ks }) (map-set kept_of t.sessions (s - 1) p)

-- What is known of a session that asks.
pub record Asks (t : Table) (s : ℕ) : Type 0 where
  pub session : IsTrue (has_session t s)
  pub rising : IsRisingMap t.locks
  pub locked : HasLocked t.locks s (session_of t s)
  pub ordered : IsRisingMap (session_of t s).locators
  pub ordered_rows : IsRisingMap (session_of t s).working
  pub opened : (row : List ℕ) (w : Option Value) → get (session_of t s).working row ≡ Some w → (session_of t s).is_open ≡ true

-- the own part after a change of the session's part and of the locks
own_changed : (t : Table) (s : ℕ) (p : Session) (locks : NameMap ℕ) → IsTrue (has_session t s) → own_of (record (with_session t s p) { locks = locks }) s ≡ record { part = without_promise p; rows = rows_of (λ n. current_value t n) locks s }
own_changed t s p locks has = ap (λ (x : Session). record { part = without_promise x; rows = rows_of (λ n. current_value t n) locks s }) (own_session t (record (with_session t s p) { locks = locks }) s p has refl)

not_busy : (locks : NameMap ℕ) (s : ℕ) (row : List ℕ) → holds_lock locks s row ≡ true → is_busy locks s row ≡ false
not_busy locks s row held = rw (holder_is locks s row held) (rw (own_number s) refl)

worked_held : (t : Table) (s : ℕ) (row : List ℕ) (w : Option Value) → Asks t s → get (session_of t s).working row ≡ Some w → holds_lock t.locks s row ≡ true
worked_held t s row w asks is = each_get (λ e. holds_lock t.locks s e.0 ≡ true) (session_of t s).working row w asks.locked.working is

same_locks : (locks : NameMap ℕ) (s : ℕ) (row : List ℕ) → holds_lock locks s row ≡ true → with_lock locks s row ≡ locks
same_locks locks s row held = rw held refl

refusal_agrees : (t : Table) (s : ℕ) (c : Call) (f : Fault) → Agrees (own_of t s) s c (t, reply.Refused f) (half_of t, Refused f)
refusal_agrees t s c f = record { half = refl; own = refl; reply = refl }

-- what is done where no test refuses, by tests that both make
by_tests : (o : Own) (t : Table) (s : ℕ) (c : Call) (tests : List (Bool × Fault)) (done : Table × Reply) (told : Half × Answer) → own_of t s ≡ o
    → (first_refusal tests ≡ None → Agrees o s c done told) → Agrees o s c (refusal_or (first_refusal tests) t done) (answer_or (first_refusal tests) (half_of t) told)
by_tests o t s c tests done told own agrees = go (first_refusal tests) refl
  where
    go : (x : Option Fault) → first_refusal tests ≡ x → Agrees o s c (refusal_or x t done) (answer_or x (half_of t) told)
    go None is = agrees is
    go (Some f) is = record { half = refl; own = own; reply = refl }

-- Insert, where the store looks at the row.
insert_looked : (t : Table) (s : ℕ) (row : List ℕ) → Asks t s → is_some (current_value t row) ≡ false
    → Agrees (own_of t s) s (call.Insert row) (record (with_session t s (after_insert (session_of t s) row)) { locks = with_lock t.locks s row }, reply.Done)
    (record (with_kept (half_of t) s (record (kept_at (half_of t) s) { births = session_births (after_insert (session_of t s) row); is_open = true })) { locks = with_lock t.locks s row }, Done)
insert_looked t s row asks absent =
    let p = session_of t s in
    let none : current_value t row ≡ None = none_of (current_value t row) absent in
    record {
      half = half_with t s (after_insert p row) (with_lock t.locks s row) ∙ ap (λ (k : Kept). record (with_kept (half_of t) s (record k { births = session_births (after_insert p row); is_open = true })) { locks = with_lock t.locks s row }) (sym (kept_is t s));
      own = own_changed t s (after_insert p row) (with_lock t.locks s row) asks.session
          ∙ ap (λ (m : Rows). record { part = without_promise (after_insert p row); rows = m }) (locked_more (λ n. current_value t n) t.locks s row asks.rising ∙ ap (λ (v : Option Value). with_locked_row (rows_of (λ n. current_value t n) t.locks s) row v) none);
      reply = refl;
    }
  where
    none_of : (x : Option Value) → is_some x ≡ false → x ≡ None
    none_of None is = refl
    none_of (Some v) is = absurd cc

or_true : (b : Bool) → (b || true) ≡ true
or_true true = refl
or_true false = refl

locked_same : (f : List ℕ → Option Value) (locks : NameMap ℕ) (s : ℕ) (row : List ℕ) (v : Option Value) → IsRisingMap locks → holds_lock locks s row ≡ true → with_locked_row (rows_of f locks s) row v ≡ rows_of f locks s
locked_same f locks s row v rising held = rw (has_rows f locks s row rising ∙ held) refl

-- the store's half where the session's row is locked already
worked_half : (t : Table) (s : ℕ) (q : Session) (row : List ℕ) → Asks t s → holds_lock t.locks s row ≡ true → q.promise ≡ (session_of t s).promise → q.has_ended ≡ (session_of t s).has_ended → (opens : Bool) → q.is_open ≡ opens
    → half_of (record (with_session t s q) { locks = with_lock t.locks s row }) ≡ with_kept (half_of t) s (record (kept_at (half_of t) s) { births = session_births q; is_open = opens })
worked_half t s q row asks held promise after_end opens is =
    half_with t s q (with_lock t.locks s row)
    ∙ ap (λ (l : NameMap ℕ). record (with_kept (half_of t) s (kept_of q)) { locks = l }) (same_locks t.locks s row held)
    ∙ ap (λ (k : Kept). with_kept (half_of t) s k) (
    ap (λ (b : Bool). record { births = session_births q; is_open = b; promise = q.promise; has_ended = q.has_ended }) is
    ∙ ap (λ (o : Option Promise). record { births = session_births q; is_open = opens; promise = o; has_ended = q.has_ended }) promise
    ∙ ap (λ (b : Bool). record { births = session_births q; is_open = opens; promise = (session_of t s).promise; has_ended = b }) after_end
    ∙ ap (λ (k : Kept). record k { births = session_births q; is_open = opens }) (sym (kept_is t s)))

insert_agrees : (t : Table) (s : ℕ) (row : List ℕ) → Asks t s → (w : Option (Option Value)) → get (session_of t s).working row ≡ w
    → Agrees (own_of t s) s (call.Insert row)
    (refusal_or (first_refusal ((is_busy t.locks s row, fault.Busy) ∷ (is_some (unwrap_or w (current_value t row)), fault.Duplicate) ∷ [])) t (record (with_session t s (after_insert (session_of t s) row)) { locks = with_lock t.locks s row }, reply.Done))
    (half_answer (half_of t) s (call.Insert row) (request_by_working w is_some fault.Duplicate) (session_births (after_insert (session_of t s) row)))
insert_agrees t s row asks None is = by_tests (own_of t s) t s (call.Insert row) ((is_busy t.locks s row, fault.Busy) ∷ (is_some (current_value t row), fault.Duplicate) ∷ []) _ _ refl
    (λ none. insert_looked t s row asks (second_false (is_busy t.locks s row) (is_some (current_value t row)) fault.Busy fault.Duplicate [] none))
insert_agrees t s row asks (Some (Some v)) is = rw (not_busy t.locks s row (worked_held t s row (Some v) asks is)) (refusal_agrees t s (call.Insert row) fault.Duplicate)
insert_agrees t s row asks (Some None) is =
    let p = session_of t s in
    let held = worked_held t s row None asks is in
    rw (not_busy t.locks s row held) (record {
      half = worked_half t s (after_insert p row) row asks held refl refl ((kept_at (half_of t) s).is_open || true) (sym (or_true (kept_at (half_of t) s).is_open));
      own = own_changed t s (after_insert p row) (with_lock t.locks s row) asks.session
          ∙ ap (λ (m : Rows). record { part = without_promise (after_insert p row); rows = m }) (ap (λ (l : NameMap ℕ). rows_of (λ n. current_value t n) l s) (same_locks t.locks s row held) ∙ sym (locked_same (λ n. current_value t n) t.locks s row None asks.rising held));
      reply = refl;
    })

-- Lock, where the store looks at the row.
lock_looked : (t : Table) (s : ℕ) (to row : List ℕ) → Asks t s → is_none (current_value t row) ≡ false
    → Agrees (own_of t s) s (call.Lock to row) (record (with_session t s (after_lock (session_of t s) to row (unwrap_or (current_value t row) empty_value))) { locks = with_lock t.locks s row }, reply.Done)
    (record (with_kept_births_open (half_of t) s (births_with (session_births (record (session_of t s) { locators = without_entry (session_of t s).locators to })) (unwrap_or (current_value t row) empty_value)) true) { locks = with_lock t.locks s row }, Given (unwrap_or (current_value t row) empty_value))
lock_looked t s to row asks there =
    let p = session_of t s in
    let v = unwrap_or (current_value t row) empty_value in
    let q = after_lock p to row v in
    let births : session_births q ≡ births_with (session_births (record p { locators = without_entry p.locators to })) v = births_put p to (lock_locator p row v) asks.ordered in
    record {
      half = half_with t s q (with_lock t.locks s row)
          ∙ ap (λ (bs : List ℕ). record (with_kept (half_of t) s (record { births = bs; is_open = true; promise = p.promise; has_ended = p.has_ended })) { locks = with_lock t.locks s row }) births
          ∙ ap (λ (k : Kept). record (with_kept (half_of t) s (record k { births = births_with (session_births (record p { locators = without_entry p.locators to })) v; is_open = true })) { locks = with_lock t.locks s row }) (sym (kept_is t s));
      own = own_changed t s q (with_lock t.locks s row) asks.session
          ∙ ap (λ (m : Rows). record { part = without_promise q; rows = m }) (locked_more (λ n. current_value t n) t.locks s row asks.rising ∙ ap (λ (x : Option Value). with_locked_row (rows_of (λ n. current_value t n) t.locks s) row x) (some_of (current_value t row) there));
      reply = refl;
    }
  where
    some_of : (x : Option Value) → is_none x ≡ false → x ≡ Some (unwrap_or x empty_value)
    some_of None is = absurd cc
    some_of (Some v) is = refl

lock_agrees : (t : Table) (s : ℕ) (to row : List ℕ) → Asks t s → (room : Bool) → lacks_room (session_of t s) to ≡ room → (w : Option (Option Value)) → get (session_of t s).working row ≡ w
    → Agrees (own_of t s) s (call.Lock to row)
    (refusal_or (first_refusal ((room, fault.TooManyLocators) ∷ (is_busy t.locks s row, fault.Busy) ∷ (is_none (unwrap_or w (current_value t row)), fault.NoSuchRow) ∷ [])) t (record (with_session t s (after_lock (session_of t s) to row (unwrap_or (unwrap_or w (current_value t row)) empty_value))) { locks = with_lock t.locks s row }, reply.Done))
    (half_answer (half_of t) s (call.Lock to row) (cond room (Known fault.TooManyLocators) (request_by_working w is_none fault.NoSuchRow)) (option_map_or (λ x. session_births (after_lock (session_of t s) to row (unwrap_or x empty_value))) w (session_births (record (session_of t s) { locators = without_entry (session_of t s).locators to }))))
lock_agrees t s to row asks true lacks w is = refusal_agrees t s (call.Lock to row) fault.TooManyLocators
lock_agrees t s to row asks false lacks None is = by_tests (own_of t s) t s (call.Lock to row) ((is_busy t.locks s row, fault.Busy) ∷ (is_none (current_value t row), fault.NoSuchRow) ∷ []) _ _ refl
    (λ none. lock_looked t s to row asks (second_false (is_busy t.locks s row) (is_none (current_value t row)) fault.Busy fault.NoSuchRow [] none))
lock_agrees t s to row asks false lacks (Some None) is = rw (not_busy t.locks s row (worked_held t s row None asks is)) (refusal_agrees t s (call.Lock to row) fault.NoSuchRow)
lock_agrees t s to row asks false lacks (Some (Some v)) is =
    let p = session_of t s in
    let q = after_lock p to row v in
    let held = worked_held t s row (Some v) asks is in
    let worked : working_value (own_of t s) row ≡ v = ap (λ (x : Option (Option Value)). unwrap_or (value_or_absent x) empty_value) is in
    rw (not_busy t.locks s row held) (record {
      half = worked_half t s q row asks held refl refl ((kept_at (half_of t) s).is_open || true) (sym (or_true (kept_at (half_of t) s).is_open));
      own = own_changed t s q (with_lock t.locks s row) asks.session
          ∙ ap (λ (m : Rows). record { part = without_promise q; rows = m }) (ap (λ (l : NameMap ℕ). rows_of (λ n. current_value t n) l s) (same_locks t.locks s row held))
          ∙ ap (λ (x : Value). record { part = without_promise (after_lock p to row x); rows = rows_of (λ n. current_value t n) t.locks s }) (sym worked);
      reply = refl;
    })

-- Commit.
pub none_released : (locks : NameMap ℕ) (s : ℕ) → filter (λ e. e.1 == s) (filter (λ e. not (e.1 == s)) locks) ≡ []
none_released [] s = refl
none_released (e ∷ locks) s = go (none_released locks s) (e.1 == s) refl
  where
    go : filter (λ e. e.1 == s) (filter (λ e. not (e.1 == s)) locks) ≡ [] → (b : Bool) → (e.1 == s) ≡ b → filter (λ x. x.1 == s) (cond (not b) (e ∷ filter (λ x. not (x.1 == s)) locks) (filter (λ x. not (x.1 == s)) locks)) ≡ []
    go rest true is = rest
    go rest false is = rw is rest

pub none_locked : (f : List ℕ → Option Value) (locks : NameMap ℕ) (s : ℕ) → rows_of f (without_locks locks s) s ≡ []
none_locked f locks s = ap (λ (m : NameMap ℕ). map (λ n. (n, f n)) (map (λ e. e.0) m)) (none_released locks s)

commit_agrees : (t : Table) (s : ℕ) → Asks t s → (b : Bool) → (session_of t s).is_open ≡ b
    → Agrees (own_of t s) s call.Commit
    (cond {A = Table × Reply} b (with_commit t s (session_of t s), reply.Committed (commit_count t + 1)) (with_session t s (record (session_of t s) { savepoints = [] }), reply.Committed (commit_count t)))
    (half_answer (half_of t) s call.Commit (Commits (session_of t s).working) (session_births (cond b (after_commit (session_of t s)) (record (session_of t s) { savepoints = [] }))))
commit_agrees t s asks true is =
    let p = session_of t s in
    let u = with_commit t s p in
    let opened : (kept_at (half_of t) s).is_open ≡ true = ap (λ (k : Kept). k.is_open) (kept_is t s) ∙ is in
    let part : session_of u s ≡ after_commit p = own_session t u s (after_commit p) asks.session refl in
    rw (opened, is) (record {
      half = ap (λ (ks : List Kept). record (half_of u) { sessions = ks }) (map-set kept_of t.sessions (s - 1) (after_commit p))
          ∙ ap (λ (k : Kept). record (half_of u) { sessions = slice_set (map kept_of t.sessions) (s - 1) (record k { births = session_births (after_commit p); is_open = false }) }) (sym (kept_is t s));
      own = ap (λ (x : Session). record { part = without_promise x; rows = rows_of (λ n. current_value u n) u.locks s }) part
          ∙ ap (λ (m : Rows). record { part = without_promise (after_commit p); rows = m }) (none_locked (λ n. current_value u n) t.locks s);
      reply = refl;
    })
commit_agrees t s asks false is =
    let p = session_of t s in
    let q : Session = record p { is_open = false; savepoints = [] } in
    let opened : (kept_at (half_of t) s).is_open ≡ false = ap (λ (k : Kept). k.is_open) (kept_is t s) ∙ is in
    rw (opened, is) (record {
      half = half_with t s q t.locks
          ∙ ap (λ (k : Kept). with_kept (half_of t) s (record k { births = session_births q; is_open = false })) (sym (kept_is t s));
      own = own_changed t s q t.locks asks.session;
      reply = refl;
    })

-- Delete.
some_of : (x : Option Value) → is_none x ≡ false → x ≡ Some (unwrap_or x empty_value)
some_of None is = absurd cc
some_of (Some v) is = refl

delete_looked : (t : Table) (s : ℕ) (row : List ℕ) → Asks t s → is_none (current_value t row) ≡ false
    → Agrees (own_of t s) s (call.Delete row) (record (with_session t s (after_delete (session_of t s) row)) { locks = with_lock t.locks s row }, reply.Done)
    (record (with_kept_births_open (half_of t) s (session_births (after_delete (session_of t s) row)) true) { locks = with_lock t.locks s row }, Given (unwrap_or (current_value t row) empty_value))
delete_looked t s row asks there =
    let p = session_of t s in
    let q = after_delete p row in
    record {
      half = half_with t s q (with_lock t.locks s row) ∙ ap (λ (k : Kept). record (with_kept (half_of t) s (record k { births = session_births q; is_open = true })) { locks = with_lock t.locks s row }) (sym (kept_is t s));
      own = own_changed t s q (with_lock t.locks s row) asks.session
          ∙ ap (λ (m : Rows). record { part = without_promise q; rows = m }) (locked_more (λ n. current_value t n) t.locks s row asks.rising ∙ ap (λ (x : Option Value). with_locked_row (rows_of (λ n. current_value t n) t.locks s) row x) (some_of (current_value t row) there));
      reply = refl;
    }

delete_agrees : (t : Table) (s : ℕ) (row : List ℕ) → Asks t s → (w : Option (Option Value)) → get (session_of t s).working row ≡ w
    → Agrees (own_of t s) s (call.Delete row)
    (refusal_or (first_refusal ((is_busy t.locks s row, fault.Busy) ∷ (is_none (unwrap_or w (current_value t row)), fault.NoSuchRow) ∷ [])) t (record (with_session t s (after_delete (session_of t s) row)) { locks = with_lock t.locks s row }, reply.Done))
    (half_answer (half_of t) s (call.Delete row) (request_by_working w is_none fault.NoSuchRow) (session_births (after_delete (session_of t s) row)))
delete_agrees t s row asks None is = by_tests (own_of t s) t s (call.Delete row) ((is_busy t.locks s row, fault.Busy) ∷ (is_none (current_value t row), fault.NoSuchRow) ∷ []) _ _ refl
    (λ none. delete_looked t s row asks (second_false (is_busy t.locks s row) (is_none (current_value t row)) fault.Busy fault.NoSuchRow [] none))
delete_agrees t s row asks (Some None) is = rw (not_busy t.locks s row (worked_held t s row None asks is)) (refusal_agrees t s (call.Delete row) fault.NoSuchRow)
delete_agrees t s row asks (Some (Some v)) is =
    let p = session_of t s in
    let held = worked_held t s row (Some v) asks is in
    rw (not_busy t.locks s row held) (record {
      half = worked_half t s (after_delete p row) row asks held refl refl ((kept_at (half_of t) s).is_open || true) (sym (or_true (kept_at (half_of t) s).is_open));
      own = own_changed t s (after_delete p row) (with_lock t.locks s row) asks.session
          ∙ ap (λ (m : Rows). record { part = without_promise (after_delete p row); rows = m }) (ap (λ (l : NameMap ℕ). rows_of (λ n. current_value t n) l s) (same_locks t.locks s row held));
      reply = refl;
    })

-- Select and SelectAsOf take no lock.
or_false : (b : Bool) → b ≡ (b || false)
or_false true = refl
or_false false = refl

selected_agrees : (t : Table) (s : ℕ) (c : Call) (to : List ℕ) (l : Locator) → Asks t s → (told : Half × Answer)
    → told.0 ≡ with_kept_births (half_of t) s (births_with (session_births (record (session_of t s) { locators = without_entry (session_of t s).locators to })) l.value)
    → after_answer (own_of t s) c told.1 ≡ (record { part = without_promise (record (session_of t s) { locators = with_entry (session_of t s).locators to l }); rows = rows_of (λ n. current_value t n) t.locks s }, reply.Done)
    → Agrees (own_of t s) s c (with_session t s (record (session_of t s) { locators = with_entry (session_of t s).locators to l }), reply.Done) told
selected_agrees t s c to l asks told half own =
    let p = session_of t s in
    let q : Session = record p { locators = with_entry p.locators to l } in
    let births : session_births q ≡ births_with (session_births (record p { locators = without_entry p.locators to })) l.value = births_put p to l asks.ordered in
    record {
      half = half_with t s q t.locks
          ∙ ap (λ (bs : List ℕ). with_kept (half_of t) s (record { births = bs; is_open = p.is_open; promise = p.promise; has_ended = p.has_ended })) births
          ∙ ap (λ (k : Kept). with_kept (half_of t) s (record k { births = births_with (session_births (record p { locators = without_entry p.locators to })) l.value })) (sym (kept_is t s))
          ∙ sym half;
      own = own_changed t s q t.locks asks.session ∙ sym (ap (λ (x : Own × Reply). x.0) own);
      reply = sym (ap (λ (x : Own × Reply). x.1) own);
    }

select_agrees : (t : Table) (s : ℕ) (to row : List ℕ) → Asks t s → (room : Bool) → (w : Option (Option Value)) → get (session_of t s).working row ≡ w
    → Agrees (own_of t s) s (call.Select to row)
    (refusal_or (first_refusal ((room, fault.TooManyLocators) ∷ (is_none (unwrap_or w (current_value t row)), fault.NoSuchRow) ∷ [])) t (with_session t s (after_select (session_of t s) to row (unwrap_or (unwrap_or w (current_value t row)) empty_value)), reply.Done))
    (half_answer (half_of t) s (call.Select to row) (cond room (Known fault.TooManyLocators) (request_by_working w is_none fault.NoSuchRow)) (option_map_or (λ x. session_births (after_select (session_of t s) to row (unwrap_or x empty_value))) w (session_births (record (session_of t s) { locators = without_entry (session_of t s).locators to }))))
select_agrees t s to row asks true w is = refusal_agrees t s (call.Select to row) fault.TooManyLocators
select_agrees t s to row asks false None is = by_tests (own_of t s) t s (call.Select to row) ((is_none (current_value t row), fault.NoSuchRow) ∷ []) _ _ refl
    (λ none. selected_agrees t s (call.Select to row) to (row_locator (session_of t s) row (unwrap_or (current_value t row) empty_value) (transaction_number (session_of t s))) asks _ refl refl)
select_agrees t s to row asks false (Some None) is = refusal_agrees t s (call.Select to row) fault.NoSuchRow
select_agrees t s to row asks false (Some (Some v)) is =
    let p = session_of t s in
    let q = after_select p to row v in
    let worked : working_value (own_of t s) row ≡ v = ap (λ (x : Option (Option Value)). unwrap_or (value_or_absent x) empty_value) is in
    record {
      half = half_with t s q t.locks
          ∙ ap (λ (k : Kept). with_kept (half_of t) s (record k { births = session_births q })) (sym (kept_is t s))
          ∙ ap (λ (b : Bool). with_kept (half_of t) s (record (kept_at (half_of t) s) { births = session_births q; is_open = b })) (or_false (kept_at (half_of t) s).is_open);
      own = own_changed t s q t.locks asks.session ∙ ap (λ (x : Value). record { part = without_promise (after_select p to row x); rows = rows_of (λ n. current_value t n) t.locks s }) (sym worked);
      reply = refl;
    }

as_of_agrees : (t : Table) (s : ℕ) (to row : List ℕ) (n : ℕ) → Asks t s → (room : Bool)
    → Agrees (own_of t s) s (call.SelectAsOf to row n)
    (refusal_or (first_refusal ((room, fault.TooManyLocators) ∷ (nat_lt (commit_count t) n, fault.FutureCommit) ∷ (nat_lt n t.floor, fault.TooOld) ∷ (is_none (value_at t row n), fault.NoSuchRow) ∷ [])) t (with_session t s (after_select_as_of (session_of t s) to row (unwrap_or (value_at t row n) empty_value)), reply.Done))
    (half_answer (half_of t) s (call.SelectAsOf to row n) (cond room (Known fault.TooManyLocators) Current) (session_births (record (session_of t s) { locators = without_entry (session_of t s).locators to })))
as_of_agrees t s to row n asks true = refusal_agrees t s (call.SelectAsOf to row n) fault.TooManyLocators
as_of_agrees t s to row n asks false = by_tests (own_of t s) t s (call.SelectAsOf to row n) ((nat_lt (commit_count t) n, fault.FutureCommit) ∷ (nat_lt n t.floor, fault.TooOld) ∷ (is_none (value_at t row n), fault.NoSuchRow) ∷ []) _ _ refl
    (λ none. selected_agrees t s (call.SelectAsOf to row n) to (old_locator (session_of t s) row (unwrap_or (value_at t row n) empty_value)) asks _ refl refl)

-- Rollback and End.
rollback_agrees : (t : Table) (s : ℕ) → Asks t s → Agrees (own_of t s) s call.Rollback (rollback_call t s (session_of t s)) (half_answer (half_of t) s call.Rollback RollsBack (session_births (after_rollback (session_of t s))))
rollback_agrees t s asks =
    let p = session_of t s in
    let q = after_rollback p in
    record {
      half = half_with t s q (without_locks t.locks s) ∙ ap (λ (k : Kept). record (with_kept (half_of t) s (record k { births = session_births q; is_open = false })) { locks = without_locks t.locks s }) (sym (kept_is t s));
      own = own_changed t s q (without_locks t.locks s) asks.session ∙ ap (λ (m : Rows). record { part = without_promise q; rows = m }) (none_locked (λ n. current_value t n) t.locks s);
      reply = refl;
    }

end_agrees : (t : Table) (s : ℕ) → Asks t s → Agrees (own_of t s) s call.End (end_call t s (session_of t s)) (half_answer (half_of t) s call.End Ends [])
end_agrees t s asks =
    let p = session_of t s in
    let q = after_end p in
    record {
      half = half_with t s q (without_locks t.locks s) ∙ ap (λ (k : Kept). record (with_kept (half_of t) s (record k { births = []; is_open = false; has_ended = true })) { locks = without_locks t.locks s }) (sym (kept_is t s));
      own = own_changed t s q (without_locks t.locks s) asks.session ∙ ap (λ (m : Rows). record { part = without_promise q; rows = m }) (none_locked (λ n. current_value t n) t.locks s);
      reply = refl;
    }

-- RollbackTo.
any-filter : (g : List ℕ → Bool) (names : List (List ℕ)) (q : List ℕ) → list_any (is_same_name q) (filter g names) ≡ (list_any (is_same_name q) names && g q)
any-filter g [] q = refl
any-filter g (n ∷ names) q = go (any-filter g names q) (is_same_name q n) (g n) refl refl
  where
    go : list_any (is_same_name q) (filter g names) ≡ (list_any (is_same_name q) names && g q) → (b a : Bool) → is_same_name q n ≡ b → g n ≡ a → list_any (is_same_name q) (cond a (n ∷ filter g names) (filter g names)) ≡ ((b || list_any (is_same_name q) names) && g q)
    go rest true true is passes = rw is (sym (ap g (same_name q n is) ∙ passes))
    go rest true false is passes =
        let gone : g q ≡ false = ap g (same_name q n is) ∙ passes in
        rest ∙ ap (λ b. list_any (is_same_name q) names && b) gone ∙ and_none (list_any (is_same_name q) names) ∙ sym gone
      where
        and_none : (b : Bool) → (b && false) ≡ false
        and_none true = refl
        and_none false = refl
    go rest false true is passes = rw is rest
    go rest false false is passes = rest

listed_itself : (locks : NameMap ℕ) (s : ℕ) → Each (λ e. (e.1 == s) ≡ true → list_any (is_same_name e.0) (locked_rows locks s) ≡ true) locks
listed_itself [] s = tt
listed_itself (e ∷ locks) s = (first_one (e.1 == s), each_weaker (λ x. (x.1 == s) ≡ true → list_any (is_same_name x.0) (locked_rows locks s) ≡ true) (λ x. (x.1 == s) ≡ true → list_any (is_same_name x.0) (locked_rows (e ∷ locks) s) ≡ true) locks (λ x has same. more (e.1 == s) x.0 (has same)) (listed_itself locks s))
  where
    first_one : (b : Bool) → b ≡ true → list_any (is_same_name e.0) (map (λ x. x.0) (cond b (e ∷ filter (λ x. x.1 == s) locks) (filter (λ x. x.1 == s) locks))) ≡ true
    first_one true is = rw (own_name e.0) refl
    first_one false is = absurd cc

    more : (b : Bool) (q : List ℕ) → list_any (is_same_name q) (locked_rows locks s) ≡ true → list_any (is_same_name q) (map (λ x. x.0) (cond b (e ∷ filter (λ x. x.1 == s) locks) (filter (λ x. x.1 == s) locks))) ≡ true
    more true q is = or_second (is_same_name q e.0) (list_any (is_same_name q) (locked_rows locks s)) is
      where
        or_second : (a b : Bool) → b ≡ true → (a || b) ≡ true
        or_second true b is = refl
        or_second false b is = is
    more false q is = is

filter_same : {X : Type 0} (f g : X → Bool) (xs : List X) → Each (λ x. f x ≡ g x) xs → filter f xs ≡ filter g xs
filter_same f g [] all = refl
filter_same f g (x ∷ xs) all = ap (λ b. cond b (x ∷ filter f xs) (filter f xs)) all.0 ∙ ap (λ n. cond (g x) (x ∷ n) n) (filter_same f g xs all.1)

unlocked_is : (locks : NameMap ℕ) (s : ℕ) (named : List (List ℕ)) → without_row_locks locks s (filter (λ row. not (list_any (is_same_name row) named)) (locked_rows locks s)) ≡ without_later_locks locks s named
unlocked_is locks s named = filter_same _ _ locks (each_weaker _ _ locks (λ e has. go e has (e.1 == s) refl) (listed_itself locks s))
  where
    go : (e : List ℕ × ℕ) → ((e.1 == s) ≡ true → list_any (is_same_name e.0) (locked_rows locks s) ≡ true) → (b : Bool) → (e.1 == s) ≡ b
        → not (b && list_any (is_same_name e.0) (filter (λ row. not (list_any (is_same_name row) named)) (locked_rows locks s))) ≡ (not b || list_any (is_same_name e.0) named)
    go e has true is =
        ap not (any-filter (λ row. not (list_any (is_same_name row) named)) (locked_rows locks s) e.0 ∙ ap (λ b. b && not (list_any (is_same_name e.0) named)) (has is)) ∙ twice (list_any (is_same_name e.0) named)
      where
        twice : (b : Bool) → not (not b) ≡ b
        twice true = refl
        twice false = refl
    go e has false is = refl

rows_named : (f : List ℕ → Option Value) (locks : NameMap ℕ) (s : ℕ) (named : List (List ℕ)) → rows_of f (without_later_locks locks s named) s ≡ filter (λ e. list_any (is_same_name e.0) named) (rows_of f locks s)
rows_named f [] s named = refl
rows_named f (e ∷ locks) s named = go (rows_named f locks s named) (e.1 == s) (list_any (is_same_name e.0) named) refl refl
  where
    go : rows_of f (without_later_locks locks s named) s ≡ filter (λ x. list_any (is_same_name x.0) named) (rows_of f locks s) → (b a : Bool) → (e.1 == s) ≡ b → list_any (is_same_name e.0) named ≡ a
        → rows_of f (cond (not b || a) (e ∷ without_later_locks locks s named) (without_later_locks locks s named)) s ≡ filter (λ x. list_any (is_same_name x.0) named) (map (λ n. (n, f n)) (map (λ x. x.0) (cond b (e ∷ filter (λ x. x.1 == s) locks) (filter (λ x. x.1 == s) locks))))
    go rest true true mine is = rw (mine, is) (ap (λ (m : Rows). (e.0, f e.0) ∷ m) rest)
    go rest true false mine is = rw is rest
    go rest false true mine is = rw mine rest
    go rest false false mine is = rw mine rest

names_alone : (f : List ℕ → Option Value) (ns : List (List ℕ)) → map {A = List ℕ × Option Value} (λ e. e.0) (map (λ n. (n, f n)) ns) ≡ ns
names_alone f [] = refl
names_alone f (n ∷ ns) = ap (λ (xs : List (List ℕ)). n ∷ xs) (names_alone f ns)

rollback_to_agrees : (t : Table) (s : ℕ) (name : List ℕ) → Asks t s → (b : Bool)
    → let x = unwrap_or (savepoint_named (session_of t s) name) no_savepoint in
    Agrees (own_of t s) s (call.RollbackTo name)
    (refusal_or (first_refusal ((b, fault.NoSavepoint) ∷ [])) t (with_rollback_to t s (session_of t s) x, reply.Done))
    (half_answer (half_of t) s (call.RollbackTo name) (cond b (Known fault.NoSavepoint) (Unlock (rows_to_unlock (own_of t s) name))) (session_births (after_rollback_to (session_of t s) x)))
rollback_to_agrees t s name asks true = refusal_agrees t s (call.RollbackTo name) fault.NoSavepoint
rollback_to_agrees t s name asks false =
    let p = session_of t s in
    let x = unwrap_or (savepoint_named p name) no_savepoint in
    let q = after_rollback_to p x in
    let names = names_alone (λ n. current_value t n) (locked_rows t.locks s) in
    record {
      half = half_with t s q (without_later_locks t.locks s x.locked)
          ∙ ap (λ (k : Kept). record (with_kept (half_of t) s (record k { births = session_births q })) { locks = without_later_locks t.locks s x.locked }) (sym (kept_is t s))
          ∙ ap (λ (l : NameMap ℕ). record (with_kept_births (half_of t) s (session_births q)) { locks = l }) (sym (ap (λ (ns : List (List ℕ)). without_row_locks t.locks s (filter (λ row. not (list_any (is_same_name row) x.locked)) ns)) names ∙ unlocked_is t.locks s x.locked));
      own = own_changed t s q (without_later_locks t.locks s x.locked) asks.session ∙ ap (λ (m : Rows). record { part = without_promise q; rows = m }) (rows_named (λ n. current_value t n) t.locks s x.locked);
      reply = refl;
    }

aside : (p : Session) (b : Bool) → session_births (cond b (after_commit (without_promise p)) (record (without_promise p) { savepoints = [] })) ≡ session_births (cond b (after_commit p) (record p { savepoints = [] }))
aside p true = refl
aside p false = refl

-- Each event is what the session asks, what the store answers, and what the session makes of the answer.
pub events_agree : (t : Table) (s : ℕ) (c : Call) → Asks t s → is_event c ≡ true
    → Agrees (own_of t s) s c (step t s c) (half_answer (half_of t) s c (request_of (own_of t s) c) (kept_births (own_of t s) c))
events_agree t s (call.Insert row) asks is = insert_agrees t s row asks (get (session_of t s).working row) refl
events_agree t s (call.Delete row) asks is = delete_agrees t s row asks (get (session_of t s).working row) refl
events_agree t s (call.Lock to row) asks is = lock_agrees t s to row asks (lacks_room (session_of t s) to) refl (get (session_of t s).working row) refl
events_agree t s (call.Select to row) asks is = select_agrees t s to row asks (lacks_room (session_of t s) to) (get (session_of t s).working row) refl
events_agree t s (call.SelectAsOf to row n) asks is = as_of_agrees t s to row n asks (lacks_room (session_of t s) to)
events_agree t s (call.RollbackTo name) asks is = rollback_to_agrees t s name asks (is_none (savepoint_named (session_of t s) name))
events_agree t s call.Commit asks is = subst (λ births. Agrees (own_of t s) s call.Commit (step t s call.Commit) (half_answer (half_of t) s call.Commit (Commits (session_of t s).working) births)) (sym (aside (session_of t s) (session_of t s).is_open)) (commit_agrees t s asks (session_of t s).is_open refl)
events_agree t s call.Rollback asks is = rollback_agrees t s asks
events_agree t s call.End asks is = end_agrees t s asks
events_agree t s c asks is = absurd cc
