-- The refusals of a writing call, one part of them after the other, and what it writes where none holds.
use Rattle.std.proofs.Common.{◌≡◌, ℕ, Bool, true, false, cond, List, [], ◌∷◌, ◌++◌, Option, Some, None, Ok, Err, refl, sym, ap, ◌∙◌}
use Rattle.std.specs.Prelude.{not, is_none, is_some, unwrap_or}
use Rattle.sf_types.specs.declared.call.Call.{Call}
use Rattle.sf_types.specs.declared.reply.Fault.{Fault}
use Rattle.sf_types.specs.declared.reply.Fault.TheVariants as fault
use Rattle.sf_types.specs.Inside.NameMaps.{get}
use Rattle.sf_types.specs.Values.Marks.{Value, empty_value, size_of}
use Rattle.sf_types.specs.Table.Parts.{Locator, Session}
use Rattle.sf_types.specs.Table.Sessions.{row_value}
use Rattle.sf_types.specs.Calls.Refusals.{first_refusal}
use Rattle.sf_types.specs.Calls.Arguments.{argument_refusals}
use Rattle.sf_types.specs.Calls.LocatorCalls.{locator, locator_named, no_locator, locator_refusals, unknown_refusals, lost_refusals}
use Rattle.sf_types.specs.Calls.WritingCalls.{spans_transactions, writing_refusals, writing_refusal, names_in, source_value, old_value}
use Rattle.sf_types.specs.Halves.Own.{Own, has_lock, held_value, own_row}
use Rattle.sf_locators.specs.LocatorWrites.{write_refusals}
use Rattle.sf_fragment_ops.specs.EditCalls.{answered, edit_refusal}
use Rattle.sf_fragment_ops.specs.declared.editing.Edited.{Edited}
use Rattle.sf_own_part.specs.declared.writes.Written.{Written}
use Rattle.sf_own_part.specs.OwnWrites.{write_refusal, written}
use Rattle.sf_own_part.specs.Inside.Sources.{written_value}

abbrev or_then : Option Fault → Option Fault → Option Fault
or_then None later = later
or_then (Some f) later = Some f

-- the first refusal of two lists is that of the first, or else that of the second
pub refusals_then : (xs ys : List (Bool × Fault)) → first_refusal (xs ++ ys) ≡ or_then (first_refusal xs) (first_refusal ys)
refusals_then [] ys = refl
refusals_then (x ∷ xs) ys =
    elim x.0 as (λ b. cond b (Some x.1) (first_refusal (xs ++ ys)) ≡ or_then (cond b (Some x.1) (first_refusal xs)) (first_refusal ys)) [ true ↦ refl | false ↦ refusals_then xs ys ]

none_first : (a b : Option Fault) → or_then a b ≡ None → a ≡ None
none_first None b is = refl
none_first (Some f) b is = absurd cc

none_second : (a b : Option Fault) → or_then a b ≡ None → b ≡ None
none_second None b is = is
none_second (Some f) b is = absurd cc

none_head : (t : Bool × Fault) (ts : List (Bool × Fault)) → first_refusal (t ∷ ts) ≡ None → t.0 ≡ false
none_head t ts is = elim t.0 as (λ b. cond b (Some t.1) (first_refusal ts) ≡ None → b ≡ false) [ true ↦ λ bad. absurd cc | false ↦ λ _. refl ] is

-- a locator that isn't refused beside another isn't refused alone
alone : (p : Session) (at : List ℕ) (others : List (List ℕ)) → first_refusal (locator_refusals p (at ∷ others)) ≡ None → first_refusal (locator_refusals p (at ∷ [])) ≡ None
alone p at others is =
    let unknown = unknown_refusals p (at ∷ others) in
    let lost = lost_refusals p (at ∷ others) in
    let parts = sym (refusals_then unknown lost) ∙ is in
    let known = none_head (is_none (locator_named p at), fault.UnknownLocator) (unknown_refusals p others) (none_first (first_refusal unknown) (first_refusal lost) parts) in
    let kept = none_head ((locator p at).is_lost, fault.Lost) (lost_refusals p others) (none_second (first_refusal unknown) (first_refusal lost) parts) in
    ap (λ b. cond b (Some fault.UnknownLocator) (cond (locator p at).is_lost (Some fault.Lost) None)) known ∙ ap (λ b. cond b (Some fault.Lost) None) kept

-- the refusals of a write between those of its locators and that for want of its row
abbrev writing_tests : Session → Bool → List ℕ → List (Bool × Fault)
writing_tests p is_held at =
    ((locator p at).is_read_only, fault.ReadOnly) ∷ (spans_transactions p (locator p at), fault.SpansTransactions) ∷ (not is_held, fault.RowNotLocked) ∷ []

-- A refusal of a write through a locator, where the locators that the call names don't refuse it, refuses the call.
pub write_refused : (p : Session) (is_held : Bool) (current : Option Value) (at : List ℕ) (others : List (List ℕ)) (f : Fault)
    → first_refusal (locator_refusals p (at ∷ others)) ≡ None → first_refusal (write_refusals p is_held at) ≡ Some f
    → first_refusal (writing_refusals p is_held current at (at ∷ others)) ≡ Some f
write_refused p is_held current at others f known refused =
    let head = locator_refusals p (at ∷ []) in
    let tests = writing_tests p is_held at in
    let last = (is_none (row_value p current (locator p at).row), fault.NoSuchRow) ∷ [] in
    let here : first_refusal tests ≡ Some f = ap (λ a. or_then a (first_refusal tests)) (sym (alone p at others known)) ∙ sym (refusals_then head tests) ∙ refused in
    refusals_then (locator_refusals p (at ∷ others)) (tests ++ last)
    ∙ ap (λ a. or_then a (first_refusal (tests ++ last))) known
    ∙ refusals_then tests last
    ∙ ap (λ a. or_then a (first_refusal last)) here

pub write_refused_so : (p : Session) (is_held : Bool) (current : Option Value) (at : List ℕ) (others : List (List ℕ)) (r : Option Fault) → is_some r ≡ true
    → first_refusal (locator_refusals p (at ∷ others)) ≡ None → r ≡ first_refusal (write_refusals p is_held at)
    → r ≡ first_refusal (writing_refusals p is_held current at (at ∷ others))
write_refused_so p is_held current at others None some known is = absurd cc
write_refused_so p is_held current at others (Some f) some known is = sym (write_refused p is_held current at others f known (sym is))

-- the row of a locator that is there
own_row_is : (o : Own) (at row : List ℕ) (l : Locator) → get o.part.locators at ≡ Some l → l.row ≡ row → own_row o at ≡ row
own_row_is o at row l there is = ap (λ x. (unwrap_or x no_locator).row) there ∙ is

abbrev refusal_by_row : Own → List ℕ → Call → List ℕ → Option Fault
refusal_by_row o at c row = writing_refusal o.part (has_lock o row) (held_value o row) at c

-- What refuses the write refuses the call.
pub refused_before : (o : Own) (at row : List ℕ) (c : Call) (l : Locator) (f : Fault) → get o.part.locators at ≡ Some l → l.row ≡ row
    → first_refusal (writing_refusals o.part (has_lock o row) (held_value o row) at (names_in at c)) ≡ Some f
    → write_refusal o at c ≡ Some f
refused_before o at row c l f there is refused =
    let arguments = argument_refusals c (size_of (old_value o.part (held_value o row) at)) (size_of (source_value o.part c)) in
    ap (refusal_by_row o at c) (own_row_is o at row l there is)
    ∙ refusals_then (writing_refusals o.part (has_lock o row) (held_value o row) at (names_in at c)) arguments
    ∙ ap (λ a. or_then a (first_refusal arguments)) refused

old_value_is : (o : Own) (at row : List ℕ) (l : Locator) (v : Value) → get o.part.locators at ≡ Some l → l.row ≡ row → row_value o.part (held_value o row) row ≡ Some v → old_value o.part (held_value o row) at ≡ v
old_value_is o at row l v there is found =
    ap (λ r. unwrap_or (row_value o.part (held_value o row) r) empty_value) (own_row_is o at row l there is) ∙ ap (λ x. unwrap_or x empty_value) found

-- Where nothing refuses the write, its arguments may.
pub refused_by_arguments : (o : Own) (at row : List ℕ) (c : Call) (l : Locator) (v : Value) → get o.part.locators at ≡ Some l → l.row ≡ row → row_value o.part (held_value o row) row ≡ Some v
    → first_refusal (writing_refusals o.part (has_lock o row) (held_value o row) at (names_in at c)) ≡ None
    → write_refusal o at c ≡ edit_refusal c v (source_value o.part c)
refused_by_arguments o at row c l v there is found unrefused =
    let arguments : Value → List (Bool × Fault) = λ value. argument_refusals c (size_of value) (size_of (source_value o.part c)) in
    let old = old_value o.part (held_value o row) at in
    ap (refusal_by_row o at c) (own_row_is o at row l there is)
    ∙ refusals_then (writing_refusals o.part (has_lock o row) (held_value o row) at (names_in at c)) (arguments old)
    ∙ ap (λ a. or_then a (first_refusal (arguments old))) unrefused
    ∙ ap (λ value. first_refusal (arguments value)) (old_value_is o at row l v there is found)

-- What is written, by the value of the locator's row.
pub written_is : (o : Own) (at row : List ℕ) (c : Call) (l : Locator) (v : Value) → get o.part.locators at ≡ Some l → l.row ≡ row → row_value o.part (held_value o row) row ≡ Some v
    → written o at c ≡ record { at = at; row = row; map = (written_value o.part c v).map; number = (written_value o.part c v).number }
written_is o at row c l v there is found =
    ap (by_row) (own_row_is o at row l there is)
    ∙ ap by_old (old_value_is o at row l v there is found)
  where
    by_old : Value → Written
    by_old old = record { at = at; row = row; map = (written_value o.part c old).map; number = (written_value o.part c old).number }

    by_row : List ℕ → Written
    by_row r = record { at = at; row = r; map = (written_value o.part c (old_value o.part (held_value o r) at)).map; number = (written_value o.part c (old_value o.part (held_value o r) at)).number }

-- an answer that is no fault
pub answered_ok : {X : Type 0} (x y : X) (refusal : Option Fault) → Ok x ≡ answered refusal y → (refusal ≡ None) × (x ≡ y)
answered_ok x y None is = (refl, cc)
answered_ok x y (Some f) is = absurd cc

pub answered_err : {X : Type 0} (y : X) (f : Fault) (refusal : Option Fault) → Err f ≡ answered refusal y → refusal ≡ Some f
answered_err y f None is = absurd cc
answered_err y f (Some g) is = cc

pub same_written : (at at' row row' : List ℕ) (e f : Edited) → at ≡ at' → row ≡ row' → e ≡ f
    → ◌≡◌ {A = Written} (record { at = at; row = row; map = e.map; number = e.number }) (record { at = at'; row = row'; map = f.map; number = f.number })
same_written at at' row row' e f ats rows edits =
    ap with_at ats ∙ ap with_row rows ∙ ap with_edit edits
  where
    with_at : List ℕ → Written
    with_at x = record { at = x; row = row; map = e.map; number = e.number }

    with_row : List ℕ → Written
    with_row x = record { at = at'; row = x; map = e.map; number = e.number }

    with_edit : Edited → Written
    with_edit x = record { at = at'; row = row'; map = x.map; number = x.number }
