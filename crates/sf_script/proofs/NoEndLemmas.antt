-- No text is read as an End, since no spelling of a call names one.
use Rattle.std.proofs.Common.{◌≡◌, ℕ, Bool, true, false, cond, List, [], ◌∷◌, Option, Some, None, refl}
use Rattle.std.specs.Prelude.{codes}
use Rattle.sf_types.specs.declared.limits.TheConstants.{ROW_NAME_BYTES, LOCATOR_NAME_BYTES}
use Rattle.sf_types.specs.Values.Names.{name_of}
use Rattle.sf_types.specs.declared.call.Call.{Call}
use Rattle.sf_types.specs.declared.call.Call.TheVariants as calls
use Rattle.sf_script_calls.specs.declared.call.PayloadCall.{PayloadCall}
use Rattle.sf_script_calls.specs.declared.call.PayloadCall.TheVariants as wants
use Rattle.sf_script_calls.specs.CallTable.{CallTable, FormBehind, no_form, row_calls, reading_calls, writing_calls, fragment_calls, form_in, fragment_form, writing_form, reading_form, form_behind, call_form}
use Rattle.sf_script_calls.specs.Calls.{CallForm, Plain, call_with, spelled_call, locator_at, row_at, number_at, two_numbers_of, three_numbers_of, number_payload_of, row_form, locator_row_form, locator_row_number_form, locator_form, two_locators_form, locator_number_form, locator_two_numbers_form, locator_three_numbers_form, two_locators_three_numbers_form, locator_payload_form, locator_number_payload_form, locator_two_numbers_payload_form, setoptions_form, rollback_to_form}
use Rattle.sf_script_calls.specs.Numbers.{number_of}
use Rattle.sf_script_calls.specs.Payloads.{bytes_of, payload_of}
use Rattle.sf_script_calls.specs.Reads.{◌>>=◌}
use Rattle.sf_script_calls.specs.Words.{word_at, is_word}
use Rattle.sf_script.specs.Parts.{is_no_end}

-- the call that was read, if any, is no End
abbrev pub IsOfNoEnd : Option CallForm → Type 0
IsOfNoEnd None = Unit {0}
IsOfNoEnd (Some form) = is_no_end (spelled_call form) ≡ true

-- behind a field
behind : {A : Type 0} (field : Option A) (others : A → Option CallForm) → ((item : A) → IsOfNoEnd (others item)) → IsOfNoEnd (field >>= others)
behind None others each = tt
behind (Some item) others each = each item

-- one of two
either : (test : Bool) (first second : Option CallForm) → IsOfNoEnd first → IsOfNoEnd second → IsOfNoEnd (cond test first second)
either true first second one other = one
either false first second one other = other

with_payload : (call : PayloadCall) (bytes : List ℕ) → is_no_end (call_with call bytes) ≡ true
with_payload (wants.Instr at offset) bytes = refl
with_payload (wants.Write at offset) bytes = refl
with_payload (wants.WriteAppend at) bytes = refl
with_payload (wants.FragInsert at offset) bytes = refl
with_payload (wants.FragReplace at old_amount offset) bytes = refl

-- no words behind a first word are read as an End
abbrev AreOfNoEnd : FormBehind → Type 0
AreOfNoEnd form = (text : List ℕ) → IsOfNoEnd (form text)

-- the shapes of calls
of_row : (call : List ℕ → Call) → ((row : List ℕ) → is_no_end (call row) ≡ true) → AreOfNoEnd (row_form call)
unfolding row_form
of_row call none text = behind (name_of ROW_NAME_BYTES text) (λ row. Some (Plain (call row))) (λ row. none row)

of_locator : (call : List ℕ → Call) → ((at : List ℕ) → is_no_end (call at) ≡ true) → AreOfNoEnd (locator_form call)
unfolding locator_form
of_locator call none text = behind (name_of LOCATOR_NAME_BYTES text) (λ at. Some (Plain (call at))) (λ at. none at)

of_locator_row : (call : List ℕ → List ℕ → Call) → ((to row : List ℕ) → is_no_end (call to row) ≡ true) → AreOfNoEnd (locator_row_form call)
unfolding locator_row_form
of_locator_row call none text =
    behind (locator_at text) _ (λ to. behind (name_of ROW_NAME_BYTES to.1) _ (λ row. none to.0 row))

of_locator_row_number : (call : List ℕ → List ℕ → ℕ → Call) → ((to row : List ℕ) (number : ℕ) → is_no_end (call to row number) ≡ true) → AreOfNoEnd (locator_row_number_form call)
unfolding locator_row_number_form
of_locator_row_number call none text =
    behind (locator_at text) _ (λ to. behind (row_at to.1) _ (λ row. behind (number_of row.1) _ (λ number. none to.0 row.0 number)))

of_two_locators : (call : List ℕ → List ℕ → Call) → ((at from : List ℕ) → is_no_end (call at from) ≡ true) → AreOfNoEnd (two_locators_form call)
unfolding two_locators_form
of_two_locators call none text =
    behind (locator_at text) _ (λ at. behind (name_of LOCATOR_NAME_BYTES at.1) _ (λ from. none at.0 from))

of_locator_number : (call : List ℕ → ℕ → Call) → ((at : List ℕ) (a : ℕ) → is_no_end (call at a) ≡ true) → AreOfNoEnd (locator_number_form call)
unfolding locator_number_form
of_locator_number call none text =
    behind (locator_at text) _ (λ at. behind (number_of at.1) _ (λ a. none at.0 a))

of_two_numbers : (call : List ℕ → ℕ → ℕ → Call) → ((at : List ℕ) (a b : ℕ) → is_no_end (call at a b) ≡ true) → AreOfNoEnd (locator_two_numbers_form call)
unfolding locator_two_numbers_form
of_two_numbers call none text =
    behind (locator_at text) _ (λ at. behind (two_numbers_of at.1) _ (λ numbers. none at.0 numbers.0 numbers.1))

of_three_numbers : (call : List ℕ → ℕ → ℕ → ℕ → Call) → ((at : List ℕ) (a b d : ℕ) → is_no_end (call at a b d) ≡ true) → AreOfNoEnd (locator_three_numbers_form call)
unfolding locator_three_numbers_form
of_three_numbers call none text =
    behind (locator_at text) _ (λ at. behind (three_numbers_of at.1) _ (λ numbers. none at.0 numbers.0 numbers.1 numbers.2))

of_two_locators_numbers : (call : List ℕ → List ℕ → ℕ → ℕ → ℕ → Call) → ((at from : List ℕ) (a b d : ℕ) → is_no_end (call at from a b d) ≡ true) → AreOfNoEnd (two_locators_three_numbers_form call)
unfolding two_locators_three_numbers_form
of_two_locators_numbers call none text =
    behind (locator_at text) _ (λ at. behind (locator_at at.1) _ (λ from. behind (three_numbers_of from.1) _ (λ numbers. none at.0 from.0 numbers.0 numbers.1 numbers.2)))

of_payload : (call : List ℕ → PayloadCall) → AreOfNoEnd (locator_payload_form call)
unfolding locator_payload_form
of_payload call text =
    behind (locator_at text) _ (λ at. behind (payload_of at.1) _ (λ payload. with_payload (call at.0) (bytes_of payload)))

of_number_payload : (call : List ℕ → ℕ → PayloadCall) → AreOfNoEnd (locator_number_payload_form call)
unfolding locator_number_payload_form
of_number_payload call text =
    behind (locator_at text) _ (λ at. behind (number_payload_of at.1) _ (λ fields. with_payload (call at.0 fields.0) (bytes_of fields.1)))

of_two_numbers_payload : (call : List ℕ → ℕ → ℕ → PayloadCall) → AreOfNoEnd (locator_two_numbers_payload_form call)
unfolding locator_two_numbers_payload_form
of_two_numbers_payload call text =
    behind (locator_at text) _ (λ at. behind (number_at at.1) _ (λ number. behind (number_payload_of number.1) _ (λ fields. with_payload (call at.0 number.0 fields.0) (bytes_of fields.1))))

of_setoptions : AreOfNoEnd setoptions_form
unfolding setoptions_form
of_setoptions text =
    behind (locator_at text) _ (λ at. either (is_word (codes "dedup on") at.1) (Some (Plain (calls.SetOptions at.0 true))) (cond (is_word (codes "dedup off") at.1) (Some (Plain (calls.SetOptions at.0 false))) None) refl
    (either (is_word (codes "dedup off") at.1) (Some (Plain (calls.SetOptions at.0 false))) None refl tt))

of_rollback_to : AreOfNoEnd rollback_to_form
unfolding rollback_to_form
of_rollback_to text =
    behind (word_at text) _ (λ word. either (is_word (codes "to") word.0) (locator_form calls.RollbackTo word.1) None (of_locator calls.RollbackTo (λ at. refl) word.1) tt)

-- the tables
abbrev AllOfNoEnd : CallTable → Type 0
AllOfNoEnd [] = Unit {0}
AllOfNoEnd ((spelling, form) ∷ table) = AreOfNoEnd form × AllOfNoEnd table

pick : (test : Bool) (form others : FormBehind) → AreOfNoEnd form → AreOfNoEnd others → AreOfNoEnd (cond test form others)
pick true form others here rest = here
pick false form others here rest = rest

in_table : (table : CallTable) (others : List ℕ → FormBehind) (word : List ℕ) → AllOfNoEnd table → AreOfNoEnd (others word) → AreOfNoEnd (form_in table others word)
in_table [] others word all rest = rest
in_table ((spelling, form) ∷ table) others word all rest =
    pick (is_word spelling word) form (form_in table others word) all.0 (in_table table others word all.1 rest)

fragments : (word : List ℕ) → AreOfNoEnd (fragment_form word)
unfolding fragment_form
fragments word = in_table fragment_calls (λ _. no_form) word
    (of_number_payload wants.FragInsert, (of_two_numbers calls.FragDelete (λ at a b. refl), (of_three_numbers calls.FragMove (λ at a b d. refl), (of_two_numbers_payload wants.FragReplace, tt))))
    (λ text. tt)

writing : (word : List ℕ) → AreOfNoEnd (writing_form word)
unfolding writing_form
writing word = in_table writing_calls fragment_form word
    (of_number_payload wants.Write, (of_payload wants.WriteAppend, (of_two_locators calls.Append (λ at from. refl), (of_two_locators_numbers calls.Copy (λ at from a b d. refl), (of_two_numbers calls.Erase (λ at a b. refl), (of_locator_number calls.Trim (λ at a. refl), tt))))))
    (fragments word)

reading : (word : List ℕ) → AreOfNoEnd (reading_form word)
unfolding reading_form
reading word = in_table reading_calls writing_form word
    (of_two_locators calls.Assign (λ at from. refl), (of_locator calls.Free (λ at. refl), (of_locator calls.Length (λ at. refl), (of_two_numbers calls.Read (λ at a b. refl), (of_number_payload wants.Instr, (of_two_locators_numbers calls.Compare (λ at from a b d. refl), tt))))))
    (writing word)

any_word : (word : List ℕ) → AreOfNoEnd (form_behind word)
unfolding form_behind
any_word word = in_table row_calls reading_form word
    (of_row calls.Insert (λ row. refl), (of_row calls.Delete (λ row. refl), (of_locator_row calls.Lock (λ to row. refl), (of_locator_row calls.Select (λ to row. refl), (of_locator_row_number calls.SelectAsOf (λ to row number. refl), (of_setoptions, (of_locator calls.Savepoint (λ at. refl), (of_rollback_to, tt))))))))
    (reading word)

-- the call that a text spells is no End
pub call_of_no_end : (text : List ℕ) → IsOfNoEnd (call_form text)
unfolding call_form
call_of_no_end text =
    let words = word_at text >>= λ word. form_behind word.0 word.1 in
    either (is_word (codes "commit") text) (Some (Plain calls.Commit)) (cond (is_word (codes "rollback") text) (Some (Plain calls.Rollback)) words) refl
    (either (is_word (codes "rollback") text) (Some (Plain calls.Rollback)) words refl (behind (word_at text) (λ word. form_behind word.0 word.1) (λ word. any_word word.0 word.1)))
