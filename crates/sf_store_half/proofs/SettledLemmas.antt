-- A session holds other births, and what is kept of it beside may change.
use Rattle.std.proofs.Common.{◌≡◌, ℕ, zero, suc, ◌+◌, ◌-◌, ◌≤◌, ◌<◌, true, false, cond, List, [], ◌∷◌, length, map, Option, Some, None, refl, sym, ap, subst, ◌∙◌, arith}
use Rattle.std.specs.Prelude.{All, sum_by, ◌==◌, slice_get, slice_set, unwrap_or}
use Rattle.std.specs.Option.{option_map_or}
use Rattle.std.proofs.lemmas.Bool.Decides.{nat_tests}
use Rattle.std.specs.List.{AllByRecursion as Each}
use Rattle.std.proofs.lemmas.List.{length-map}
use Rattle.std.proofs.lemmas.List.Elements.{All-from_recursion, recursion_from_All}
use Rattle.std.proofs.lemmas.List.Sums.{sum_by-cons}
use Rattle.sf_types.specs.declared.holder.Holder.{Holder}
use Rattle.sf_types.specs.declared.holder.Holder.TheVariants as holder
use Rattle.sf_types.specs.Inside.NameMaps.{NameMap}
use Rattle.sf_types.specs.Table.Parts.{Content, Promise}
use Rattle.sf_types.specs.Space.Use.{content_of}
use Rattle.sf_types.specs.Halves.Asks.{Half, Kept, kept_at, new_kept, with_kept}
use Rattle.sf_types.proofs.NumberLemmas.{same_number}
use Rattle.sf_laws.proofs.AskLemmas.{map-set}
use Rattle.sf_lifetimes.specs.Ledgers.{held_by, is_live, with_births}
use Rattle.sf_shrink.specs.declared.shifts.Shift.{Shift}
use Rattle.sf_stock.specs.Stocks.{Stocked, moved_by, with_shifts, StockView, IsSound, with_holder, with_left_parked}
use Rattle.sf_store_half.specs.Fields.{Fields, Keeps, held_in, is_session, session_field}
use Rattle.sf_store_half.specs.HalfMoves.{HasField, IsRepacked, field_at}
use Rattle.sf_store_half.specs.Inside.Fields.{promised_blocks}
use Rattle.sf_store_half.specs.declared.session_fields.Promised.{Promised}
use Rattle.sf_store_half.specs.declared.session_fields.SessionField.{SessionField}
use Rattle.sf_store_half.proofs.FieldLemmas.{live_where_moved}
use Rattle.sf_store_half.proofs.BetweenLemmas.{IsBetween, all_since, between_held, between_itself, live_between, repacked_between}
use Rattle.sf_store_half.proofs.HeldLemmas.{births_promised, held_after, promise_held_with, same_promise, same_session, session_held_with}

-- ---- the fields of sessions
pub has_session : (f : Fields) (h : Half) (s : ℕ) → Keeps f h → HasField f s → is_session h s ≡ true
has_session f h s keeps has =
    let count : length f.sessions ≡ length h.sessions = ap length keeps.sessions ∙ length-map h.sessions session_field in
    let low = has.low in
    let high : s ≤ length h.sessions = omega (arith, has.high, count) in
    grind (arith, nat_tests)

get_mapped : (ks : List Kept) (i : ℕ) → unwrap_or (slice_get (map session_field ks) i) (session_field new_kept) ≡ session_field (unwrap_or (slice_get ks i) new_kept)
get_mapped [] i = refl
get_mapped (k ∷ ks) zero = refl
get_mapped (k ∷ ks) (suc i) = get_mapped ks i

-- what stands of session s
pub field_is : (f : Fields) (h : Half) (s : ℕ) → Keeps f h → field_at f s ≡ session_field (kept_at h s)
field_is f h s keeps = ap (λ (xs : List SessionField). unwrap_or (slice_get xs (s - 1)) (session_field new_kept)) keeps.sessions ∙ get_mapped h.sessions (s - 1)

pub fields_with : (f : Fields) (h : Half) (s : ℕ) (k : Kept) → Keeps f h → slice_set f.sessions (s - 1) (session_field k) ≡ map session_field (with_kept h s k).sessions
fields_with f h s k keeps = ap (λ (xs : List SessionField). slice_set xs (s - 1) (session_field k)) keeps.sessions ∙ sym (map-set session_field h.sessions (s - 1) k)

set_itself : (xs : List SessionField) (i : ℕ) (d : SessionField) → slice_set xs i (unwrap_or (slice_get xs i) d) ≡ xs
set_itself [] i d = refl
set_itself (x ∷ xs) zero d = refl
set_itself (x ∷ xs) (suc i) d = ap (λ (ys : List SessionField). x ∷ ys) (set_itself xs i d)

pub same_fields : (f : Fields) (h : Half) (s : ℕ) (k : Kept) → Keeps f h → session_field k ≡ session_field (kept_at h s) → f.sessions ≡ slice_set f.sessions (s - 1) (session_field k)
same_fields f h s k keeps same =
    sym (set_itself f.sessions (s - 1) (session_field new_kept))
    ∙ ap (λ (x : SessionField). slice_set f.sessions (s - 1) x) (field_is f h s keeps ∙ sym same)

-- the promised blocks, where one session's field is another
pub promised_set : (xs : List SessionField) (i : ℕ) (d y : SessionField) → i < length xs → sum_by promised_blocks (slice_set xs i y) + promised_blocks (unwrap_or (slice_get xs i) d) ≡ sum_by promised_blocks xs + promised_blocks y
promised_set [] i d y lt = absurd (omega (arith, lt))
promised_set (x ∷ xs) zero d y lt = omega (arith, sum_by-cons promised_blocks y xs, sum_by-cons promised_blocks x xs)
promised_set (x ∷ xs) (suc i) d y lt = omega (arith, promised_set xs i d y (omega (arith, lt)), sum_by-cons promised_blocks x (slice_set xs i y), sum_by-cons promised_blocks x xs)

pub promise_taken : (xs after : List SessionField) (s : ℕ) (promised : Promised) → 1 ≤ s → s ≤ length xs → (unwrap_or (slice_get xs (s - 1)) (session_field new_kept)).promise ≡ Some promised
    → after ≡ slice_set xs (s - 1) (record (unwrap_or (slice_get xs (s - 1)) (session_field new_kept)) { promise = None }) → sum_by promised_blocks after + promised.blocks ≡ sum_by promised_blocks xs
promise_taken xs after s promised low high is set =
    let field = unwrap_or (slice_get xs (s - 1)) (session_field new_kept) in
    let own : promised_blocks field ≡ promised.blocks = ap (λ (o : Option Promised). option_map_or (λ (q : Promised). q.blocks) o 0) is in
    omega (arith, ap (sum_by promised_blocks) set, promised_set xs (s - 1) (session_field new_kept) (record field { promise = None }) (omega (arith, low, high)), own)

-- ---- a session that holds other births
module _ (f : Fields) (h : Half) (s : ℕ) (k : Kept) (keeps : Keeps f h) (is : is_session h s ≡ true) where
  pub settled_held : k.promise ≡ (kept_at h s).promise → (x : Holder) → held_by (with_births f.stock.holdings (holder.Session s) k.births) x ≡ held_in (with_kept h s k) x
  settled_held same (holder.Version row n) = held_after f.stock.holdings (holder.Session s) k.births (holder.Version row n) ∙ keeps.held (holder.Version row n)
  settled_held same (holder.Session t) =
      held_after f.stock.holdings (holder.Session s) k.births (holder.Session t)
      ∙ ap (λ u. cond u k.births (held_by f.stock.holdings (holder.Session t))) (same_session t s)
      ∙ ap (λ bs. cond (t == s) k.births bs) (keeps.held (holder.Session t))
      ∙ sym (session_held_with h s k t is)
  settled_held same (holder.Promise t) =
      held_after f.stock.holdings (holder.Session s) k.births (holder.Promise t)
      ∙ keeps.held (holder.Promise t)
      ∙ sym (promise_held_with h s k t is ∙ elim (t == s) as (λ u. (t == s) ≡ u → cond u (births_promised k) (held_in h (holder.Promise t)) ≡ held_in h (holder.Promise t)) [
        | true ↦ λ u.
            ap (λ (o : Option Promise). option_map_or (λ (q : Promise). q.births) o []) same
            ∙ ap (λ v. cond v (births_promised (kept_at h s)) []) (sym is)
            ∙ ap (λ n. held_in h (holder.Promise n)) (sym (same_number t s u))
        | false ↦ λ _. refl
      ] refl)

  cancelled_held : k.births ≡ (kept_at h s).births → k.promise ≡ None → (x : Holder) → held_by (with_births f.stock.holdings (holder.Promise s) []) x ≡ held_in (with_kept h s k) x
  cancelled_held same none (holder.Version row n) = held_after f.stock.holdings (holder.Promise s) [] (holder.Version row n) ∙ keeps.held (holder.Version row n)
  cancelled_held same none (holder.Promise t) =
      held_after f.stock.holdings (holder.Promise s) [] (holder.Promise t)
      ∙ ap (λ u. cond u [] (held_by f.stock.holdings (holder.Promise t))) (same_promise t s)
      ∙ ap (λ bs. cond (t == s) [] bs) (keeps.held (holder.Promise t))
      ∙ ap (λ bs. cond (t == s) bs (held_in h (holder.Promise t))) (ap (λ (o : Option Promise). option_map_or (λ (q : Promise). q.births) o []) (sym none))
      ∙ sym (promise_held_with h s k t is)
  cancelled_held same none (holder.Session t) =
      held_after f.stock.holdings (holder.Promise s) [] (holder.Session t)
      ∙ keeps.held (holder.Session t)
      ∙ sym (session_held_with h s k t is ∙ elim (t == s) as (λ u. (t == s) ≡ u → cond u k.births (held_in h (holder.Session t)) ≡ held_in h (holder.Session t)) [
        | true ↦ λ u.
            same
            ∙ ap (λ v. cond v (kept_at h s).births []) (sym is)
            ∙ ap (λ n. held_in h (holder.Session n)) (sym (same_number t s u))
        | false ↦ λ _. refl
      ] refl)

  -- the fields with another session, other locks and another stock keep the half with these
  pub keeps_moved : (locks half_locks : NameMap ℕ) (sessions : List SessionField) (now : StockView) → IsBetween f.stock now → locks ≡ half_locks → sessions ≡ slice_set f.sessions (s - 1) (session_field k)
      → ((x : Holder) → held_by now.holdings x ≡ held_in (with_kept h s k) x) → Keeps (record f { locks = locks; sessions = sessions; stock = with_left_parked now }) (record (with_kept h s k) { locks = half_locks })
  keeps_moved locks half_locks sessions now between locked set held = record {
    options = keeps.options;
    locks = locked;
    floor = keeps.floor;
    sessions = set ∙ fields_with f h s k keeps;
    now = keeps.now;
    commits = keeps.commits;
    rows = keeps.rows;
    notes = keeps.notes;
    next = between.next ∙ keeps.next;
    held = λ x. held x ∙ by_kind x;
    live = live_between f.stock now between;
    contents = all_since (λ x. content_of h.contents x.birth ≡ Some x.content) f.stock now between.since keeps.contents;
    none_left = refl;
  }
    where
      by_kind : (x : Holder) → held_in (with_kept h s k) x ≡ held_in (record (with_kept h s k) { locks = half_locks }) x
      by_kind (holder.Version row n) = refl
      by_kind (holder.Session t) = refl
      by_kind (holder.Promise t) = refl

  changed_once : IsSound f.stock → (x : Holder) (births : List ℕ) → IsBetween f.stock (with_holder f.stock x births)
  changed_once sound x births = between_held f.stock f.stock (with_births f.stock.holdings x births) (between_itself f.stock keeps.none_left sound keeps.live)

  pub keeps_settled : (locks half_locks : NameMap ℕ) (sessions : List SessionField) (now : StockView) → IsSound f.stock → locks ≡ half_locks → k.promise ≡ (kept_at h s).promise
      → sessions ≡ slice_set f.sessions (s - 1) (session_field k) → now ≡ with_left_parked (with_holder f.stock (holder.Session s) k.births)
      → Keeps (record f { locks = locks; sessions = sessions; stock = now }) (record (with_kept h s k) { locks = half_locks })
  keeps_settled locks half_locks sessions now sound locked same set is =
      subst (λ (x : StockView). Keeps (record f { locks = locks; sessions = sessions; stock = x }) (record (with_kept h s k) { locks = half_locks })) (sym is)
      (keeps_moved locks half_locks sessions (with_holder f.stock (holder.Session s) k.births) (changed_once sound (holder.Session s) k.births) locked set (settled_held same))

  pub keeps_cancelled : (sessions : List SessionField) (now : StockView) → IsSound f.stock → k.births ≡ (kept_at h s).births → k.promise ≡ None
      → sessions ≡ slice_set f.sessions (s - 1) (session_field k) → now ≡ with_left_parked (with_holder f.stock (holder.Promise s) [])
      → Keeps (record f { sessions = sessions; stock = now }) (with_kept h s k)
  keeps_cancelled sessions now sound same none set is =
      subst (λ (x : StockView). Keeps (record f { sessions = sessions; stock = x }) (with_kept h s k)) (sym is)
      (keeps_moved f.locks h.locks sessions (with_holder f.stock (holder.Promise s) []) (changed_once sound (holder.Promise s) []) keeps.locks set (cancelled_held same none))

-- ---- how the places move
pub repacked_by : (stock now : StockView) (holder : Holder) (births : List ℕ) → stock.left ≡ [] → All (λ x. is_live stock.holdings x.birth ≡ true) stock.stocked → IsSound stock → IsSound (with_holder stock holder births)
    → now ≡ with_left_parked (with_holder stock holder births) → IsRepacked stock now []
repacked_by stock now holder births none live sound between is =
    subst (λ (x : StockView). IsRepacked stock x []) (sym is)
    (repacked_between stock (with_holder stock holder births) (between_held stock stock (with_births stock.holdings holder births) (between_itself stock none sound live)) between)

-- ---- other locks, and parked blocks and places that move
pub keeps_locked : (f : Fields) (h : Half) (locks half_locks : NameMap ℕ) → Keeps f h → locks ≡ half_locks → Keeps (record f { locks = locks }) (record h { locks = half_locks })
keeps_locked f h locks half_locks keeps same = record {
  options = keeps.options;
  locks = same;
  floor = keeps.floor;
  sessions = keeps.sessions;
  now = keeps.now;
  commits = keeps.commits;
  rows = keeps.rows;
  notes = keeps.notes;
  next = keeps.next;
  held = λ x. keeps.held x ∙ by_kind x;
  live = keeps.live;
  contents = keeps.contents;
  none_left = keeps.none_left;
}
  where
    by_kind : (x : Holder) → held_in h x ≡ held_in (record h { locks = half_locks }) x
    by_kind (holder.Version row n) = refl
    by_kind (holder.Session t) = refl
    by_kind (holder.Promise t) = refl

pub keeps_parked : (f : Fields) (h : Half) (parked : List ℕ) → Keeps f h → Keeps (record f { stock = record f.stock { parked = parked } }) h
keeps_parked f h parked keeps = record {
  options = keeps.options;
  locks = keeps.locks;
  floor = keeps.floor;
  sessions = keeps.sessions;
  now = keeps.now;
  commits = keeps.commits;
  rows = keeps.rows;
  notes = keeps.notes;
  next = keeps.next;
  held = keeps.held;
  live = keeps.live;
  contents = keeps.contents;
  none_left = keeps.none_left;
}

moved_contents : (contents : List Content) (xs : List Stocked) (shifts : List Shift) → Each (λ x. content_of contents x.birth ≡ Some x.content) xs → Each (λ x. content_of contents x.birth ≡ Some x.content) (moved_by xs shifts)
moved_contents contents [] shifts all = tt
moved_contents contents (x ∷ xs) [] all = all
moved_contents contents (x ∷ xs) (shift ∷ shifts) all = (all.0, moved_contents contents xs shifts all.1)

pub keeps_shifted : (f : Fields) (h : Half) (shifts : List Shift) → Keeps f h → Keeps (record f { stock = with_shifts f.stock shifts }) h
keeps_shifted f h shifts keeps = record {
  options = keeps.options;
  locks = keeps.locks;
  floor = keeps.floor;
  sessions = keeps.sessions;
  now = keeps.now;
  commits = keeps.commits;
  rows = keeps.rows;
  notes = keeps.notes;
  next = keeps.next;
  held = keeps.held;
  live = live_where_moved f.stock.holdings f.stock.stocked shifts keeps.live;
  contents =
      All-from_recursion (λ (x : Stocked). content_of h.contents x.birth ≡ Some x.content) (moved_by f.stock.stocked shifts)
      (moved_contents h.contents f.stock.stocked shifts (recursion_from_All (λ (x : Stocked). content_of h.contents x.birth ≡ Some x.content) f.stock.stocked keeps.contents));
  none_left = keeps.none_left;
}
