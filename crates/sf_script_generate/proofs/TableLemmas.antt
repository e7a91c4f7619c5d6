-- The calls that were made, one after the other.
use Rattle.std.proofs.Common.{◌≡◌, ℕ, zero, suc, ◌+◌, ◌/◌, ◌%◌, ◌≤◌, Bool, true, false, cond, leb, eqb, List, [], ◌∷◌, ◌++◌, length, refl, ap, ◌∙◌, add-one, arith}
use Rattle.std.specs.Prelude.{replicate, slice_set, slice_index_or}
use Rattle.std.specs.List.{list_all}
use Rattle.std.proofs.lemmas.Bool.{and_from}
use Rattle.std.proofs.lemmas.List.{length-replicate, length-set}
use Rattle.std.proofs.lemmas.List.Folds.{list_all-append}
use Rattle.sf_types.specs.declared.call.Call.{Call}
use Rattle.sf_types.specs.declared.limits.TheConstants.{STORE_SESSIONS}
use Rattle.sf_script.specs.Parts.{IsScript, is_no_end}
use Rattle.sf_script.proofs.DraftLemmas.{all_empty, all-set, all_at}
use Rattle.sf_script_generate.specs.Draws.{Drawn, draw}
use Rattle.sf_script_generate.specs.GeneratedCalls.{drawn_append, drawn_insert, drawn_delete, drawn_move, drawn_read, drawn_copy, plain_call, call_of_draw, drawn_call, generated_call}
use Rattle.sf_script_generate.specs.GeneratedScript.{with_made, calls_made, generated_script}

pub none_made : (start sessions : ℕ) → calls_made start sessions 0 ≡ record { calls = replicate sessions []; number = start }
unfolding calls_made
none_made start sessions = refl

one_more : (start sessions count : ℕ) → calls_made start sessions (count + 1) ≡ with_made (calls_made start sessions count) (count % sessions) (generated_call (1 + count % sessions) (count / sessions) (calls_made start sessions count).number)
unfolding calls_made
one_more start sessions count = rw add-one refl

drew : (start sessions count sess number : ℕ) (call : Call) (next : ℕ) → sess ≡ sessions → number ≡ (calls_made start sessions count).number
    → (call, next) ≡ generated_call (1 + count % sess) (count / sess) number
    → (call, next) ≡ generated_call (1 + count % sessions) (count / sessions) (calls_made start sessions count).number
drew start sessions count sess number call next same has is = is ∙ rw (same, has) refl

-- what is made with one more call, and the generator's number after it
pub calls_with : (start sessions count sess number : ℕ) (lists : List (List Call)) (call : Call) (next : ℕ) → sess ≡ sessions → lists ≡ (calls_made start sessions count).calls → number ≡ (calls_made start sessions count).number
    → (call, next) ≡ generated_call (1 + count % sess) (count / sess) number
    → slice_set lists (count % sess) (slice_index_or lists (count % sess) [] ++ call ∷ []) ≡ (calls_made start sessions (count + 1)).calls
calls_with start sessions count sess number lists call next same is has made =
    let one : call ≡ (generated_call (1 + count % sessions) (count / sessions) (calls_made start sessions count).number).0 = ap (λ (p : Call × ℕ). p.0) (drew start sessions count sess number call next same has made) in
    rw (one_more start sessions count, same, is, one) refl

pub number_with : (start sessions count sess number : ℕ) (call : Call) (next : ℕ) → sess ≡ sessions → number ≡ (calls_made start sessions count).number
    → (call, next) ≡ generated_call (1 + count % sess) (count / sess) number
    → next ≡ (calls_made start sessions (count + 1)).number
number_with start sessions count sess number call next same has made =
    let one : next ≡ (generated_call (1 + count % sessions) (count / sessions) (calls_made start sessions count).number).1 = ap (λ (p : Call × ℕ). p.1) (drew start sessions count sess number call next same has made) in
    rw (one_more start sessions count, one) refl

-- no call that is made is an End
either : (b : Bool) (x y : Drawn Call) (number : ℕ) → is_no_end (x number).0 ≡ true → is_no_end (y number).0 ≡ true → is_no_end ((cond b x y) number).0 ≡ true
either true x y number first second = first
either false x y number first second = second

either_call : (b : Bool) (x y : Call) → is_no_end x ≡ true → is_no_end y ≡ true → is_no_end (cond b x y) ≡ true
either_call true x y first second = first
either_call false x y first second = second

plain_no_end : (session drawn : ℕ) → is_no_end (plain_call session drawn) ≡ true
unfolding plain_call
plain_no_end session drawn = either_call (eqb drawn 11) _ _ refl (either_call (eqb drawn 12) _ _ refl (either_call (eqb drawn 13) _ _ refl refl))

drawn_no_end : (session drawn number : ℕ) → is_no_end (call_of_draw session drawn number).0 ≡ true
unfolding call_of_draw drawn_append drawn_insert drawn_delete drawn_move drawn_read drawn_copy
drawn_no_end session drawn number =
    either (leb drawn 5) _ _ number refl (either (leb drawn 7) _ _ number refl (either (eqb drawn 8) _ _ number refl (either (eqb drawn 9) _ _ number refl (either (eqb drawn 10) _ _ number refl (either (eqb drawn 14) _ _ number refl (plain_no_end session drawn))))))

call_no_end : (session step number : ℕ) → is_no_end (generated_call session step number).0 ≡ true
unfolding generated_call drawn_call
call_no_end session step number =
    either (eqb step 0) _ _ number refl (either (eqb step 1) _ _ number refl (drawn_no_end session (draw 16 number).0 (draw 16 number).1))

calls_no_end : (start sessions count : ℕ) → list_all (list_all is_no_end) (calls_made start sessions count).calls ≡ true
unfolding calls_made
calls_no_end start sessions zero = all_empty is_no_end sessions
calls_no_end start sessions (suc count) =
    let before = calls_made start sessions count in
    let at = count % sessions in
    let old = slice_index_or before.calls at [] in
    let made = generated_call (1 + at) (count / sessions) before.number in
    let each = calls_no_end start sessions count in
    let all_new : list_all is_no_end (old ++ made.0 ∷ []) ≡ true = list_all-append is_no_end old (made.0 ∷ []) ∙ and_from _ _ (all_at is_no_end before.calls at each) (and_from (is_no_end made.0) true (call_no_end (1 + at) (count / sessions) before.number) refl) in
    all-set (list_all is_no_end) before.calls at (old ++ made.0 ∷ []) each all_new

list_each : (start sessions count : ℕ) → length (calls_made start sessions count).calls ≡ sessions
unfolding calls_made
list_each start sessions zero = length-replicate sessions []
list_each start sessions (suc count) =
    length-set (calls_made start sessions count).calls (count % sessions) _ ∙ list_each start sessions count

-- the generated script is one
pub generated_is_script : (start sessions count : ℕ) → 1 ≤ sessions → sessions ≤ STORE_SESSIONS → IsScript (generated_script start sessions count)
generated_is_script start sessions count low high = record {
  options = record {
    capacity_low = omega arith;
    capacity_high = omega arith;
    retention = omega arith;
    retention_of_max = λ e. absurd cc;
    gather_low = omega arith;
    gather_high = omega arith;
    dispensers_low = omega arith;
    dispensers_high = omega arith;
  };
  sessions_low = low;
  sessions_high = high;
  one_list_each = list_each start sessions count;
  no_end = calls_no_end start sessions count;
  turns = refl;
}
