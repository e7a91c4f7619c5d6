-- What stands in the table of a session while others act, and of what it flushes.
use Rattle.std.proofs.Common.{◌≡◌, ℕ, ◌+◌, ◌-◌, ◌≤◌, Bool, true, false, ◌&&◌, IsTrue, List, [], ◌∷◌, length, Option, Some, None, refl, sym, ap, subst, ◌∙◌, arith, length-set}
use Rattle.std.specs.Prelude.{is_none, nat_le, slice_get, slice_set, unwrap_or, sum_by, ◌==◌}
use Rattle.std.specs.List.{AllByRecursion as Each}
use Rattle.std.specs.Option.{option_map_or, IfSome}
use Rattle.std.proofs.lemmas.List.Sums.{sum_by-set}
use Rattle.std.proofs.lemmas.Option.{unwrap_or-slice_get}
use Rattle.sf_types.specs.declared.call.Call.{Call}
use Rattle.sf_types.specs.declared.call.Call.TheVariants as call
use Rattle.sf_types.specs.declared.options.Options.{Options}
use Rattle.sf_types.specs.Values.Marks.{Value, fresh_count}
use Rattle.sf_types.specs.Table.Parts.{Content, Promise, Rows, Session, Table, new_session}
use Rattle.sf_types.specs.Table.Versions.{current_value}
use Rattle.sf_types.specs.Table.Sessions.{has_session, session_of, holds_lock}
use Rattle.sf_types.specs.Space.Cuts.{Cut, cuts}
use Rattle.sf_types.specs.Calls.WritingCalls.{written_name, writing_refusal, result_of}
use Rattle.sf_types.specs.Space.Due.{written_row, result_in, is_write_due, is_due_by, flush_of}
use Rattle.sf_types.specs.Space.Use.{promised_blocks}
use Rattle.sf_types.specs.Space.Promises.{wanted_blocks, flush_cuts}
use Rattle.sf_laws.specs.TrueMarks.{IsGivenOut, found_by}
use Rattle.sf_laws.specs.UseWithinCapacity.{HasLocked, IsEnough}
use Rattle.sf_laws.proofs.EachLemmas.{each_at, each_itself}
use Rattle.sf_laws.proofs.GivenBirthLemmas.{GoesOn}
use Rattle.sf_laws.proofs.ChangeLemmas.{IsChanged}
use Rattle.sf_laws.proofs.WantedLemmas.{wanted_falls}
use Rattle.sf_laws.proofs.LockStepLemmas.{IsLockedStep, has_locked_on, due_held}
use Rattle.sf_laws.proofs.PositionLemmas.{get_set, get_set_other}
use Rattle.sf_types.proofs.NumberLemmas.{same_number, not_same, from_one, one_less}

pub own_session : (t u : Table) (s : ℕ) (part : Session) → IsTrue (has_session t s) → u.sessions ≡ slice_set t.sessions (s - 1) part → session_of u s ≡ part
own_session t u s part has is =
    ap (λ (xs : List Session). unwrap_or (slice_get xs (s - 1)) new_session) is
    ∙ ap (λ (o : Option Session). unwrap_or o new_session) (get_set t.sessions (s - 1) part (one_less s (length t.sessions) has))

pub other_session : (t u : Table) (s r : ℕ) (part : Session) → IsTrue (has_session t s) → IsTrue (has_session t r) → (r ≡ s → ⊥) → u.sessions ≡ slice_set t.sessions (s - 1) part → session_of u r ≡ session_of t r
other_session t u s r part has_s has_r apart is =
    let low_s = from_one s (length t.sessions) has_s in
    let low_r = from_one r (length t.sessions) has_r in
    ap (λ (xs : List Session). unwrap_or (slice_get xs (r - 1)) new_session) is
    ∙ ap (λ (o : Option Session). unwrap_or o new_session) (get_set_other t.sessions (s - 1) (r - 1) part (λ (same : s - 1 ≡ r - 1). let equal : r ≡ s = omega arith in apart equal))

pub same_sessions : (t u : Table) (s r : ℕ) (part : Session) → u.sessions ≡ slice_set t.sessions (s - 1) part → IsTrue (has_session u r) → IsTrue (has_session t r)
same_sessions t u s r part is has =
    let count : length u.sessions ≡ length t.sessions = ap (λ (xs : List Session). length xs) is ∙ length-set t.sessions (s - 1) part in
    subst (λ n. IsTrue (nat_le 1 r && nat_le r n)) count has

-- the blocks of all promises
pub sum_changed : (t u : Table) (s : ℕ) (promise : Option Promise) (contents : List Content) → IsTrue (has_session t s) → IsChanged t s promise contents u
    → sum_by promised_blocks u.sessions + promised_blocks (session_of t s) ≡ sum_by promised_blocks t.sessions + option_map_or (λ q. q.blocks) promise 0
sum_changed t u s promise contents has changed =
    let set = sum_by-set promised_blocks t.sessions (s - 1) changed.part new_session (one_less s (length t.sessions) has) in
    ap (λ (xs : List Session). sum_by promised_blocks xs + promised_blocks (session_of t s)) changed.sessions
    ∙ ap (λ (x : Session). sum_by promised_blocks (slice_set t.sessions (s - 1) changed.part) + promised_blocks x) (unwrap_or-slice_get t.sessions (s - 1) new_session)
    ∙ set
    ∙ ap (λ (o : Option Promise). sum_by promised_blocks t.sessions + option_map_or (λ q. q.blocks) o 0) changed.promised

-- A write's test, by what it looks at.
abbrev due_by : Session → List ℕ → Call → Options → Bool → Option Value → Bool
due_by p at c options is_held value = is_none (writing_refusal p is_held value at c) && nat_le options.gather (fresh_count (result_of p value at c))

write_due_same : (t u : Table) (s : ℕ) (p : Session) (at : List ℕ) (c : Call) → u.options ≡ t.options → holds_lock u.locks s (written_row p at) ≡ holds_lock t.locks s (written_row p at) → current_value u (written_row p at) ≡ current_value t (written_row p at) → is_write_due u s p at c ≡ is_write_due t s p at c
write_due_same t u s p at c options held value =
    ap (λ o. due_by p at c o (holds_lock u.locks s (written_row p at)) (current_value u (written_row p at))) options
    ∙ ap (λ b. due_by p at c t.options b (current_value u (written_row p at))) held
    ∙ ap (λ (v : Option Value). due_by p at c t.options (holds_lock t.locks s (written_row p at)) v) value

-- Of a session's row that it has locked nothing has changed.
pub record IsUnmoved (t : Table) (s : ℕ) (u : Table) : Type 0 where
  pub options : u.options ≡ t.options
  pub locks : (row : List ℕ) → holds_lock t.locks s row ≡ true → holds_lock u.locks s row ≡ true
  pub rows : (row : List ℕ) → holds_lock t.locks s row ≡ true → current_value u row ≡ current_value t row

-- a due call stays due, and flushes what it did
write_unmoved : (t u : Table) (s : ℕ) (p : Session) (c : Call) → IsUnmoved t s u → ((at : List ℕ) → written_name c ≡ Some at → holds_lock t.locks s (written_row p at) ≡ true) → (o : Option (List ℕ)) → written_name c ≡ o
    → option_map_or (λ at. is_write_due t s p at c) o false ≡ true
    → (option_map_or (λ at. is_write_due u s p at c) o false ≡ true) × (option_map_or {U = Rows} (λ at. (written_row p at, Some (result_in u p at c)) ∷ []) o [] ≡ option_map_or {U = Rows} (λ at. (written_row p at, Some (result_in t p at c)) ∷ []) o [])
write_unmoved t u s p c same locked None at due = absurd cc
write_unmoved t u s p c same locked (Some name) at due =
    let held = locked name at in
    let row : current_value u (written_row p name) ≡ current_value t (written_row p name) = same.rows (written_row p name) held in (
      write_due_same t u s p name c same.options (same.locks (written_row p name) held ∙ sym held) row ∙ due,
      ap (λ (v : Option Value). (written_row p name, Some (result_of p v name c)) ∷ []) row,
    )

pub due_unmoved : (t u : Table) (s : ℕ) (p : Session) (c : Call) → IsUnmoved t s u → is_due_by t s p c ≡ true → (is_due_by u s p c ≡ true) × (flush_of u p c ≡ flush_of t p c)
due_unmoved t u s p call.Commit same due = (due, refl)
due_unmoved t u s p c same due = write_unmoved t u s p c same (λ at is. due_held t s p c at is due) (written_name c) refl due

-- a promise changes nothing of what is due and flushed
pub due_promised : (t : Table) (s : ℕ) (p : Session) (promise : Option Promise) (c : Call) → (is_due_by t s (record p { promise = promise }) c ≡ is_due_by t s p c) × (flush_of t (record p { promise = promise }) c ≡ flush_of t p c)
due_promised t s p promise call.Commit = (refl, refl)
due_promised t s p promise c = (refl, refl)

pub enough_from : (u : Table) (s : ℕ) (q : Promise) (p : Session) (rows : Rows) (options : Options) → session_of u s ≡ p → is_due_by u s p q.call ≡ true → flush_of u p q.call ≡ rows → u.options ≡ options → wanted_blocks u.contents q.births (cuts options rows) ≤ q.blocks → IsEnough u s q
enough_from u s q p rows options own due flush same fits = record {
  due = ap (λ (x : Session). is_due_by u s x q.call) own ∙ due;
  blocks = subst (λ (of : List Cut). wanted_blocks u.contents q.births of ≤ q.blocks) (sym (ap (λ (x : Session). cuts u.options (flush_of u x q.call)) own ∙ ap (cuts u.options) flush ∙ ap (λ o. cuts o rows) same)) fits;
}

-- the promise of another session is enough still
pub enough_still : (t u : Table) (s r : ℕ) (part : Session) (q : Promise) → IsTrue (has_session t s) → IsTrue (has_session t r) → (r ≡ s → ⊥) → u.sessions ≡ slice_set t.sessions (s - 1) part → IsUnmoved t r u → GoesOn t.contents u.contents → Each (IsGivenOut t.contents) q.births → IsEnough t r q → IsEnough u r q
enough_still t u s r part q has_s has_r apart sessions same on given enough =
    let kept = due_unmoved t u r (session_of t r) q.call same enough.due in
    let falls = wanted_falls t.contents u.contents q.births q.births (flush_cuts t r q.call) on given (each_itself q.births) in
    enough_from u r q (session_of t r) (flush_of t (session_of t r) q.call) t.options (other_session t u s r part has_s has_r apart sessions) kept.0 kept.1 same.options (omega (arith, enough.blocks, falls))

pub unmoved_by : (t u : Table) (s r : ℕ) → (r ≡ s → ⊥) → u.options ≡ t.options → IsLockedStep t s u → IsUnmoved t r u
unmoved_by t u s r apart options step = record { options = options; locks = λ row held. step.others r row apart held; rows = λ row held. step.rows r row apart held }

-- what is locked in each session
pub locks_after : (t u : Table) (s : ℕ) → IsTrue (has_session t s) → IsLockedStep t s u → ((r : ℕ) → IsTrue (has_session t r) → HasLocked t.locks r (session_of t r)) → (r : ℕ) → IsTrue (has_session u r) → HasLocked u.locks r (session_of u r)
locks_after t u s has step all r has_r = go (r == s) refl
  where
    go : (b : Bool) → (r == s) ≡ b → HasLocked u.locks r (session_of u r)
    go true is =
        let same : r ≡ s = same_number r s is in
        subst (λ n. HasLocked u.locks n (session_of u n)) (sym same) (subst (HasLocked u.locks s) (sym (own_session t u s step.part has step.sessions)) step.own)
    go false is =
        let there : IsTrue (has_session t r) = same_sessions t u s r step.part step.sessions has_r in
        let apart : r ≡ s → ⊥ = not_same r s is in
        subst (HasLocked u.locks r) (sym (other_session t u s r step.part has there apart step.sessions))
        (has_locked_on t.locks u.locks r (session_of t r) (λ row held. step.others r row apart held) (all r there))

-- and what is enough for each promise
pub promises_after : (t u : Table) (s : ℕ) (promise : Option Promise) (contents : List Content) → IsTrue (has_session t s) → IsLockedStep t s u → IsChanged t s promise contents u → GoesOn t.contents u.contents → Each (λ p. Each (IsGivenOut t.contents) (found_by p)) t.sessions
    → ((r : ℕ) → IsTrue (has_session t r) → IfSome (session_of t r).promise (IsEnough t r)) → IfSome promise (IsEnough u s) → (r : ℕ) → IsTrue (has_session u r) → IfSome (session_of u r).promise (IsEnough u r)
promises_after t u s promise contents has step changed on given all own r has_r = go (r == s) refl
  where
    other : IsTrue (has_session t r) → (r ≡ s → ⊥) → (o : Option Promise) → (session_of t r).promise ≡ o → IfSome o (IsEnough t r) → IfSome o (IsEnough u r)
    other there apart None is enough = tt
    other there apart (Some q) is enough =
        let found : Each (IsGivenOut t.contents) (found_by (session_of t r)) = each_at (λ p. Each (IsGivenOut t.contents) (found_by p)) t.sessions (r - 1) new_session tt given in
        enough_still t u s r step.part q has there apart step.sessions (unmoved_by t u s r apart changed.options step) on
        (subst (λ (o : Option Promise). Each (IsGivenOut t.contents) (option_map_or (λ x. x.births) o [])) is found) enough

    go : (b : Bool) → (r == s) ≡ b → IfSome (session_of u r).promise (IsEnough u r)
    go true is =
        let same : r ≡ s = same_number r s is in
        subst (λ n. IfSome (session_of u n).promise (IsEnough u n)) (sym same)
        (subst (λ (o : Option Promise). IfSome o (IsEnough u s)) (sym (ap (λ (p : Session). p.promise) (own_session t u s changed.part has changed.sessions) ∙ changed.promised)) own)
    go false is =
        let there : IsTrue (has_session t r) = same_sessions t u s r step.part step.sessions has_r in
        let apart : r ≡ s → ⊥ = not_same r s is in
        subst (λ (p : Session). IfSome p.promise (IsEnough u r)) (sym (other_session t u s r step.part has there apart step.sessions))
        (other there apart (session_of t r).promise refl (all r there))
