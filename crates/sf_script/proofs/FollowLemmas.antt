-- A form that is within the limits may follow.
use Rattle.std.proofs.Common.{◌≡◌, ℕ, ◌≤◌, Bool, true, false, cond, ◌&&◌, leb, List, [], ◌∷◌, Option, Some, None, refl, subst, arith}
use Rattle.std.specs.Prelude.{codes}
use Rattle.std.specs.List.{list_all}
use Rattle.std.proofs.lemmas.Bool.{and_parts, and_from, leb-true, le-leb}
use Rattle.std.proofs.lemmas.Option.{cond_some}
use Rattle.sf_types.proofs.BoolLemmas.{not_not}
use Rattle.sf_script_calls.specs.CallTable.{call_form}
use Rattle.sf_script_calls.specs.Numbers.{number_of}
use Rattle.sf_script_calls.specs.Reads.{◌>>=◌}
use Rattle.sf_script_calls.specs.Words.{word_at, first_word, is_word}
use Rattle.sf_script.specs.declared.fault.Reason.TheVariants.{Limit}
use Rattle.sf_script.specs.declared.reading.Reading.{Reading}
use Rattle.sf_script.specs.declared.reading.Reading.TheVariants as reads
use Rattle.sf_script.specs.declared.turn.Turn.{Turn}
use Rattle.sf_script.specs.declared.turn.Turn.TheVariants as turn_kinds
use Rattle.sf_script.specs.Inside.Readings.{form_reason, CanFollow, IsOfSessions, IsFormAfter}
use Rattle.sf_script.specs.LineForms.{LineForm, HeaderLine, SetsOption, SessionsLine, CallLine, ScheduleLine, form_of, schedule_line, call_line}
use Rattle.sf_script.specs.OptionLines.{is_option_in_range}
use Rattle.sf_script.specs.Parts.{names_session}
use Rattle.sf_script.specs.Reasons.{form_passes_limit}
use Rattle.sf_script.proofs.NoEndLemmas.{IsOfNoEnd, call_of_no_end}
use Rattle.sf_script.specs.Schedules.{session_number, session_of, ends_with_colon, turn_of, turns_of, schedule_words}

bind_some : {A B : Type 0} (o : Option A) (f : A → Option B) (y : B) → (o >>= f) ≡ Some y → (x : A) × (o ≡ Some x) × (f x ≡ Some y)
bind_some (Some x) f y e = (x, refl, e)
bind_some None f y e = absurd cc

number_in : (sessions : ℕ) (text : List ℕ) (session : ℕ) → session_number sessions text ≡ Some session → (1 ≤ session) × (session ≤ sessions)
unfolding session_number
number_in sessions text session e =
    let p = bind_some (number_of text) (λ n. cond (leb 1 n && leb n sessions) (Some n) None) session e in
    let q = cond_some (leb 1 p.0 && leb p.0 sessions) p.0 session p.2 in
    let r = and_parts (leb 1 p.0) (leb p.0 sessions) q.0 in
    (omega (arith, q.1, leb-true 1 p.0 r.0), omega (arith, q.1, leb-true p.0 sessions r.1))

choose_some : {A : Type 0} (b : Bool) (o : Option A) (y : A) → cond b o None ≡ Some y → o ≡ Some y
choose_some true o y e = e
choose_some false o y e = absurd cc

session_in : (sessions : ℕ) (word : List ℕ) (session : ℕ) → session_of sessions word ≡ Some session → (1 ≤ session) × (session ≤ sessions)
unfolding session_of
session_in sessions word session e = number_in sessions _ session (choose_some (ends_with_colon word) _ session e)

some_is : {A : Type 0} (x y : A) → Some x ≡ Some y → x ≡ y
some_is x y e = cc

-- the session of a call line is one that there is, and its call is no End
call_line_in : (sessions : ℕ) (text : List ℕ) (form : LineForm) → call_line sessions text ≡ Some form → IsOfSessions sessions form
unfolding call_line
call_line_in sessions text form e =
    let p = bind_some (word_at text) (λ word. session_of sessions word.0 >>= λ s. call_form word.1 >>= λ f. Some (CallLine s f)) form e in
    let q = bind_some (session_of sessions p.0.0) (λ s. call_form p.0.1 >>= λ f. Some (CallLine s f)) form p.2 in
    let r = bind_some (call_form p.0.1) (λ f. Some (CallLine q.0 f)) form q.2 in
    let in-range = session_in sessions p.0.0 q.0 q.1 in
    subst (IsOfSessions sessions) (some_is (CallLine q.0 r.0) form r.2) (in-range.0, in-range.1, subst IsOfNoEnd r.1 (call_of_no_end p.0.1))

-- a turn names a session that there is
numbered : (sessions : ℕ) (o : Option ℕ) (turn : Turn) → ((n : ℕ) → o ≡ Some n → (1 ≤ n) × (n ≤ sessions)) → (o >>= λ n. Some (turn_kinds.Session n)) ≡ Some turn → names_session sessions turn ≡ true
numbered sessions None turn within e = absurd cc
numbered sessions (Some n) turn within e =
    let p = within n refl in
    subst (λ (t : Turn). names_session sessions t ≡ true) (some_is (turn_kinds.Session n) turn e) (and_from (leb 1 n) (leb n sessions) (le-leb 1 n p.0) (le-leb n sessions p.1))

any_turn : (sessions : ℕ) (b c : Bool) (o : Option Turn) (turn : Turn) → (o ≡ Some turn → names_session sessions turn ≡ true) → cond b (Some turn_kinds.Reclaim) (cond c (Some turn_kinds.Shrink) o) ≡ Some turn → names_session sessions turn ≡ true
any_turn sessions true c o turn h e = subst (λ (t : Turn). names_session sessions t ≡ true) (some_is turn_kinds.Reclaim turn e) refl
any_turn sessions false true o turn h e = subst (λ (t : Turn). names_session sessions t ≡ true) (some_is turn_kinds.Shrink turn e) refl
any_turn sessions false false o turn h e = h e

turn_named : (sessions : ℕ) (word : List ℕ) (turn : Turn) → turn_of sessions word ≡ Some turn → names_session sessions turn ≡ true
unfolding turn_of
turn_named sessions word turn e =
    any_turn sessions (is_word (codes "r") word) (is_word (codes "shrink") word) (session_number sessions word >>= λ n. Some (turn_kinds.Session n)) turn (numbered sessions (session_number sessions word) turn (number_in sessions word)) e

put_named : (sessions : ℕ) (word : List ℕ) (words : List (List ℕ)) (o : Option Turn) → turn_of sessions word ≡ o → list_all (names_session sessions) (turns_of sessions words) ≡ true → list_all (names_session sessions) (turns_of sessions (word ∷ words)) ≡ true
put_named sessions word words None is others = rw is others
put_named sessions word words (Some turn) is others = rw is (and_from (names_session sessions turn) _ (turn_named sessions word turn is) others)

turns_named : (sessions : ℕ) (words : List (List ℕ)) → list_all (names_session sessions) (turns_of sessions words) ≡ true
turns_named sessions [] = refl
turns_named sessions (word ∷ words) = put_named sessions word words (turn_of sessions word) refl (turns_named sessions words)

schedule_line_in : (sessions : ℕ) (text : List ℕ) (form : LineForm) → schedule_line sessions text ≡ Some form → IsOfSessions sessions form
unfolding schedule_line
schedule_line_in sessions text form e =
    let p = cond_some _ (ScheduleLine (turns_of sessions (schedule_words text))) form e in
    subst (IsOfSessions sessions) p.1 (turns_named sessions (schedule_words text))

either : (b : Bool) (sessions : ℕ) (text : List ℕ) (form : LineForm) → cond b (schedule_line sessions text) (call_line sessions text) ≡ Some form → IsOfSessions sessions form
either true sessions text form e = schedule_line_in sessions text form e
either false sessions text form e = call_line_in sessions text form e

pub is_form_after : (reading : Reading) (text : List ℕ) (form : LineForm) → form_of reading text ≡ Some form → IsFormAfter reading form
is_form_after reads.Nothing text form e = tt
is_form_after (reads.Options read) text form e = tt
is_form_after (reads.Sessions parts) text form e = either (is_word (codes "schedule") (first_word text)) parts.sessions text form e

-- a form that isn't refused is within the limits
allowed : (limit : Bool) → cond limit (Some Limit) None ≡ None → limit ≡ false
allowed true e = absurd cc
allowed false e = refl

follows : (reading : Reading) (form : LineForm) → IsFormAfter reading form → form_passes_limit reading form ≡ false → CanFollow reading form
unfolding form_passes_limit
follows reads.Nothing HeaderLine after limit = tt
follows (reads.Options read) HeaderLine after limit = tt
follows (reads.Sessions parts) HeaderLine after limit = tt
follows reading (SetsOption option) after limit = not_not (is_option_in_range option) limit
follows reading (SessionsLine number) after limit =
    let p = and_parts (leb 1 number) (leb number 16) (not_not (leb 1 number && leb number 16) limit) in
    (leb-true 1 number p.0, leb-true number 16 p.1)
follows reads.Nothing (ScheduleLine turns) after limit = tt
follows (reads.Options read) (ScheduleLine turns) after limit = tt
follows (reads.Sessions parts) (ScheduleLine turns) after limit = record { named = after; room = limit }
follows reads.Nothing (CallLine session form) after limit = tt
follows (reads.Options read) (CallLine session form) after limit = tt
follows (reads.Sessions parts) (CallLine session form) after limit =
    record { low = after.0; high = after.1; no_end = after.2; room = limit }

pub can_follow : (reading : Reading) (form : LineForm) → IsFormAfter reading form → form_reason reading form ≡ None → CanFollow reading form
unfolding form_reason
can_follow reading form after e = follows reading form after (allowed (form_passes_limit reading form) e)
