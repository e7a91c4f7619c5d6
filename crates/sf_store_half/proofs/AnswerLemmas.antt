-- The answers to a session that holds other births before its call.
use Rattle.std.proofs.Common.{◌≡◌, ℕ, zero, suc, ◌-◌, ◌+◌, true, false, cond, ◌||◌, List, [], ◌∷◌, ◌++◌, length, Ok, Err, refl, sym, ap, subst}
use Rattle.std.specs.Prelude.{Result, IfOk, OnOk, slice_set}
use Rattle.sf_types.specs.declared.call.Call.{Call}
use Rattle.sf_types.specs.Table.Parts.{Rows}
use Rattle.sf_types.specs.Table.Sessions.{without_locks}
use Rattle.sf_types.specs.Calls.TransactionEnds.{floor_after}
use Rattle.sf_types.specs.Halves.Asks.{Half, Kept, Request, Working, Unlock, Commits, RollsBack, Ends, half_answer, kept_at, opens, with_kept, with_kept_births, with_kept_births_open, without_row_locks}
use Rattle.sf_types.specs.Halves.Asks as rule
use Rattle.sf_versions.specs.declared.asks.Answer.{Answer}
use Rattle.sf_versions.specs.Asks.{IsAnswer}
use Rattle.sf_store_half.specs.Fields.{Fields, Keeps, is_session}
use Rattle.sf_store_half.specs.Inside.Answered.{IsAnswered}
use Rattle.sf_store_half.proofs.HeldLemmas.{kept_with}

pub set_twice : (ks : List Kept) (i : ℕ) (a b : Kept) → slice_set (slice_set ks i a) i b ≡ slice_set ks i b
set_twice [] i a b = refl
set_twice (k ∷ ks) zero a b = refl
set_twice (k ∷ ks) (suc i) a b = ap (λ (xs : List Kept). k ∷ xs) (set_twice ks i a b)

-- what is made of what is kept of a session, where the session's births are replaced first
pub replaced : (F : (Kept → List Kept) → Kept → Half × rule.Answer) (h : Half) (s : ℕ) (births : List ℕ) → is_session h s ≡ true
    → F (slice_set (with_kept_births h s births).sessions (s - 1)) (kept_at (with_kept_births h s births) s) ≡ F (slice_set h.sessions (s - 1)) (record (kept_at h s) { births = births })
replaced F h s births is = λ i. F (λ k. set_twice h.sessions (s - 1) (record (kept_at h s) { births = births }) k i) (kept_with h s (record (kept_at h s) { births = births }) is i)

module _ (h : Half) (s : ℕ) (births kept : List ℕ) (c : Call) (is : is_session h s ≡ true) where
  pub by_working : half_answer (with_kept_births h s births) s c Working kept ≡ half_answer h s c Working kept
  by_working = replaced (λ put k. (record h { sessions = put (record k { births = kept; is_open = k.is_open || opens c }) }, rule.Done)) h s births is

  pub by_unlock : (rows : List (List ℕ)) → half_answer (with_kept_births h s births) s c (Unlock rows) kept ≡ half_answer h s c (Unlock rows) kept
  by_unlock rows = replaced (λ put k. (record h { sessions = put (record k { births = kept }); locks = without_row_locks h.locks s rows }, rule.Done)) h s births is

  pub by_rollback : half_answer (with_kept_births h s births) s c RollsBack kept ≡ half_answer h s c RollsBack kept
  by_rollback = replaced (λ put k. (record h { sessions = put (record k { births = kept; is_open = false }); locks = without_locks h.locks s }, rule.Done)) h s births is

  pub by_end : half_answer (with_kept_births h s births) s c Ends kept ≡ half_answer h s c Ends kept
  by_end = replaced (λ put k. (record h { sessions = put (record k { births = []; is_open = false; has_ended = true }); locks = without_locks h.locks s }, rule.Ended)) h s births is

  pub by_commit : (rows : Rows) → half_answer (with_kept_births h s births) s c (Commits rows) kept ≡ half_answer h s c (Commits rows) kept
  by_commit rows =
      replaced (λ put k. cond k.is_open
      (record h { sessions = put (record k { births = kept; is_open = false }); commits = h.commits ++ rows ∷ []; floor = floor_after h.options h.floor (length h.commits + 1); locks = without_locks h.locks s }, rule.Committed (length h.commits + 1))
      (record h { sessions = put (record k { births = kept }) }, rule.Committed (length h.commits))) h s births is

-- a commit where no transaction is open
pub closed_commit : (h : Half) (s : ℕ) (c : Call) (rows : Rows) (kept : List ℕ) → (kept_at h s).is_open ≡ false → half_answer h s c (Commits rows) kept ≡ (with_kept_births h s kept, rule.Committed (length h.commits))
closed_commit h s c rows kept closed =
    ap (λ b. cond b
    (record (with_kept_births_open h s kept false) { commits = h.commits ++ rows ∷ []; floor = floor_after h.options h.floor (length h.commits + 1); locks = without_locks h.locks s }, rule.Committed (length h.commits + 1))
    (with_kept_births h s kept, rule.Committed (length h.commits))) closed

-- ---- an answer by an equal step
on_ok : {R E : Type 0} (r : Result R E) (P Q : Type 0) → (P → Q) → OnOk r P → OnOk r Q
on_ok (Ok x) P Q f p = f p
on_ok (Err e) P Q f p = tt

if_ok : {R E : Type 0} (r : Result R E) (P Q : R → Type 0) → ((x : R) → P x → Q x) → IfOk r P → IfOk r Q
if_ok (Ok x) P Q f p = f x p
if_ok (Err e) P Q f p = tt

module _ {E : Type 0} (before after : Fields) (step other : Half → Half × rule.Answer) (result : Result Answer E) (answered : IsAnswered before after step result) (same : (h : Half) → Keeps before h → other h ≡ step h) where
  pub kept_by : OnOk result ((h : Half) → Keeps before h → Keeps after (other h).0)
  kept_by = on_ok result ((h : Half) → Keeps before h → Keeps after (step h).0) ((h : Half) → Keeps before h → Keeps after (other h).0)
      (λ own h keeps. subst (λ (x : Half × rule.Answer). Keeps after x.0) (sym (same h keeps)) (own h keeps)) answered.kept

  pub answer_by : IfOk result (λ answer. (h : Half) → Keeps before h → IsAnswer answer (other h).1)
  answer_by = if_ok result (λ answer. (h : Half) → Keeps before h → IsAnswer answer (step h).1) (λ answer. (h : Half) → Keeps before h → IsAnswer answer (other h).1)
      (λ answer own h keeps. subst (λ (x : Half × rule.Answer). IsAnswer answer x.1) (sym (same h keeps)) (own h keeps)) answered.answer
