-- Fields of sessions that are set, and what becomes of the sums over them.
use Rattle.std.proofs.Common.{◌≡◌, ℕ, ◌-◌, ◌≤◌, Bool, List, [], Some, None, length, refl, sym, ap, ◌∙◌, arith, true, false, cond}
use Rattle.std.specs.Prelude.{sum_by, slice_get, slice_set, unwrap_or}
use Rattle.sf_types.specs.declared.holder.Holder.TheVariants as holder
use Rattle.sf_types.specs.Inside.NameMaps.{NameMap}
use Rattle.sf_types.specs.Halves.Asks.{Half, kept_at, new_kept, with_kept, with_kept_births}
use Rattle.sf_stock.specs.Stocks.{StockView, IsSound, with_holder, with_left_parked}
use Rattle.sf_types.specs.Table.Sessions.{is_busy, with_lock}
use Rattle.sf_row_locks.specs.Locks.{locks_asked}
use Rattle.sf_store_half.specs.Fields.{Fields, Keeps, session_field}
use Rattle.sf_store_half.specs.HalfMoves.{HasField, field_at}
use Rattle.sf_store_half.specs.Inside.Answered.{kept_as}
use Rattle.sf_store_half.specs.Inside.Fields.{AreKept, promised_blocks}
use Rattle.sf_store_half.specs.declared.session_fields.Promised.{Promised}
use Rattle.sf_store_half.specs.declared.session_fields.SessionField.{SessionField}
use Rattle.sf_store_half.proofs.SettledLemmas.{field_is, has_session, keeps_cancelled, keeps_locked, keeps_settled, promise_taken, promised_set}

-- a session's field where it is open and has ended, or not
abbrev pub set_to : List SessionField → ℕ → Bool → Bool → List SessionField
set_to xs s is_open has_ended = slice_set xs (s - 1) (record (unwrap_or (slice_get xs (s - 1)) (session_field new_kept)) { is_open = is_open; has_ended = has_ended })

pub promised_same : (xs : List SessionField) (s : ℕ) (is_open has_ended : Bool) → 1 ≤ s → s ≤ length xs → sum_by promised_blocks (set_to xs s is_open has_ended) ≡ sum_by promised_blocks xs
promised_same xs s is_open has_ended low high =
    let field = unwrap_or (slice_get xs (s - 1)) (session_field new_kept) in
    omega (arith, promised_set xs (s - 1) (session_field new_kept) (record field { is_open = is_open; has_ended = has_ended }) (omega (arith, low, high)))

pub set_is : (f : Fields) (h : Half) (s : ℕ) (births : List ℕ) (is_open has_ended : Bool) → Keeps f h
    → set_to f.sessions s is_open has_ended ≡ slice_set f.sessions (s - 1) (session_field (record (kept_at h s) { births = births; is_open = is_open; has_ended = has_ended }))
set_is f h s births is_open has_ended keeps = ap (λ (x : SessionField). slice_set f.sessions (s - 1) (record x { is_open = is_open; has_ended = has_ended })) (field_is f h s keeps)

-- ---- what always holds of the fields
pub kept_settled : (f : Fields) (promised s : ℕ) (births : List ℕ) (is_open has_ended : Bool) (sessions : List SessionField) (now : StockView) → AreKept f promised → HasField f s → IsSound f.stock
    → sessions ≡ set_to f.sessions s is_open has_ended → now ≡ with_left_parked (with_holder f.stock (holder.Session s) births) → AreKept (record f { sessions = sessions; stock = now }) promised
kept_settled f promised s births is_open has_ended sessions now kept has sound set is =
    let h = kept.half in
    let k = record (kept_at h s) { births = births; is_open = is_open; has_ended = has_ended } in
    record {
      in_range = kept.in_range;
      reached = kept.reached;
      count = kept.count ∙ sym (ap (sum_by promised_blocks) set ∙ promised_same f.sessions s is_open has_ended has.low has.high);
      few = kept.few;
      half = with_kept h s k;
      keeps = keeps_settled f h s k kept.keeps (has_session f h s kept.keeps has) f.locks h.locks sessions now sound kept.keeps.locks refl (set ∙ set_is f h s births is_open has_ended kept.keeps) is;
    }

pub kept_cancelled : (f : Fields) (promised s : ℕ) (q : Promised) (sessions : List SessionField) (now : StockView) → AreKept f promised → HasField f s → IsSound f.stock → (field_at f s).promise ≡ Some q
    → sessions ≡ slice_set f.sessions (s - 1) (record (field_at f s) { promise = None }) → now ≡ with_left_parked (with_holder f.stock (holder.Promise s) []) → AreKept (record f { sessions = sessions; stock = now }) (promised - q.blocks)
kept_cancelled f promised s q sessions now kept has sound promise set is =
    let h = kept.half in
    let k = record (kept_at h s) { promise = None } in
    let taken = promise_taken f.sessions sessions s q has.low has.high promise set in
    record {
      in_range = kept.in_range;
      reached = kept.reached;
      count = omega (arith, kept.count, taken);
      few = omega (arith, kept.few);
      half = with_kept h s k;
      keeps = keeps_cancelled f h s k kept.keeps (has_session f h s kept.keeps has) sessions now sound refl refl
          (set ∙ ap (λ (x : SessionField). slice_set f.sessions (s - 1) (record x { promise = None })) (field_is f h s kept.keeps)) is;
    }

pub kept_locked : (f : Fields) (promised : ℕ) (locks half_locks : NameMap ℕ) → (kept : AreKept f promised) → locks ≡ half_locks → AreKept (record f { locks = locks }) promised
kept_locked f promised locks half_locks kept same = record {
  in_range = kept.in_range;
  reached = kept.reached;
  count = kept.count;
  few = kept.few;
  half = record kept.half { locks = half_locks };
  keeps = keeps_locked f kept.half locks half_locks kept.keeps same;
}

-- a session's births, where nothing else is kept of it
pub noted_is : (f : Fields) (h : Half) (s : ℕ) (births : List ℕ) → Keeps f h → kept_as h s births (field_at f s).is_open (field_at f s).has_ended ≡ with_kept_births h s births
noted_is f h s births keeps = ap (λ (x : SessionField). kept_as h s births x.is_open x.has_ended) (field_is f h s keeps)

-- ---- a session that takes a row's lock
pub asked_free : (locks : NameMap ℕ) (s : ℕ) (row name : List ℕ) → name ≡ row → is_busy locks s row ≡ false → locks_asked locks s name ≡ with_lock locks s row
asked_free locks s row name same free = ap (locks_asked locks s) same ∙ ap (λ b. cond b locks (with_lock locks s row)) free

pub kept_taken : (f : Fields) (promised s : ℕ) (births row : List ℕ) (has_ended : Bool) (locks : NameMap ℕ) (sessions : List SessionField) (now : StockView) → AreKept f promised → HasField f s → IsSound f.stock
    → locks ≡ with_lock f.locks s row → sessions ≡ set_to f.sessions s true has_ended → now ≡ with_left_parked (with_holder f.stock (holder.Session s) births) → AreKept (record f { locks = locks; sessions = sessions; stock = now }) promised
kept_taken f promised s births row has_ended locks sessions now kept has sound locked set is =
    let h = kept.half in
    let k = record (kept_at h s) { births = births; is_open = true; has_ended = has_ended } in
    record {
      in_range = kept.in_range;
      reached = kept.reached;
      count = kept.count ∙ sym (ap (sum_by promised_blocks) set ∙ promised_same f.sessions s true has_ended has.low has.high);
      few = kept.few;
      half = record (with_kept h s k) { locks = with_lock h.locks s row };
      keeps = keeps_settled f h s k kept.keeps (has_session f h s kept.keeps has) locks (with_lock h.locks s row) sessions now sound (locked ∙ ap (λ m. with_lock m s row) kept.keeps.locks) refl (set ∙ set_is f h s births true has_ended kept.keeps) is;
    }
