-- The table of calls: the first word of a call, and how the words behind it are read (our own).
use Rattle.std.specs.Prelude.{ℕ, List, [], ◌∷◌, Option, Some, None, if◌then◌else◌, codes}
use Rattle.sf_types.specs.declared.call.Call.TheVariants as calls
use Rattle.sf_script_calls.specs.declared.call.PayloadCall.TheVariants as wants
use Rattle.sf_script_calls.specs.Calls.{CallForm, Plain, row_form, locator_row_form, locator_row_number_form, locator_form, two_locators_form, locator_number_form, locator_two_numbers_form, locator_three_numbers_form, two_locators_three_numbers_form, locator_payload_form, locator_number_payload_form, locator_two_numbers_payload_form, setoptions_form, rollback_to_form}
use Rattle.sf_script_calls.specs.Reads.{◌>>=◌}
use Rattle.sf_script_calls.specs.Words.{word_at, is_word}

-- How the words behind a call's first word are read.
abbrev pub FormBehind : Type 0
FormBehind = List ℕ → Option CallForm

-- No call has such a first word.
abbrev pub no_form : FormBehind
no_form text = None

-- A table has first words of calls, and how the words behind each are read.
abbrev pub CallTable : Type 0
CallTable = List (List ℕ × FormBehind)

-- The calls on rows, options and savepoints. `commit` and a `rollback` that stands alone have no words behind them.
abbrev pub row_calls : CallTable
row_calls =
    (codes "insert", row_form calls.Insert)
    ∷ (codes "delete", row_form calls.Delete)
    ∷ (codes "lock", locator_row_form calls.Lock)
    ∷ (codes "select", locator_row_form calls.Select)
    ∷ (codes "asof", locator_row_number_form calls.SelectAsOf)
    ∷ (codes "setoptions", setoptions_form)
    ∷ (codes "savepoint", locator_form calls.Savepoint)
    ∷ (codes "rollback", rollback_to_form)
    ∷ []

-- The calls on locators that write nothing.
abbrev pub reading_calls : CallTable
reading_calls =
    (codes "assign", two_locators_form calls.Assign)
    ∷ (codes "free", locator_form calls.Free)
    ∷ (codes "length", locator_form calls.Length)
    ∷ (codes "read", locator_two_numbers_form calls.Read)
    ∷ (codes "instr", locator_number_payload_form wants.Instr)
    ∷ (codes "compare", two_locators_three_numbers_form calls.Compare)
    ∷ []

-- The calls that write a value as a whole.
abbrev pub writing_calls : CallTable
writing_calls =
    (codes "write", locator_number_payload_form wants.Write)
    ∷ (codes "writeappend", locator_payload_form wants.WriteAppend)
    ∷ (codes "append", two_locators_form calls.Append)
    ∷ (codes "copy", two_locators_three_numbers_form calls.Copy)
    ∷ (codes "erase", locator_two_numbers_form calls.Erase)
    ∷ (codes "trim", locator_number_form calls.Trim)
    ∷ []

-- The calls on fragments of a value.
abbrev pub fragment_calls : CallTable
fragment_calls =
    (codes "fraginsert", locator_number_payload_form wants.FragInsert)
    ∷ (codes "fragdelete", locator_two_numbers_form calls.FragDelete)
    ∷ (codes "fragmove", locator_three_numbers_form calls.FragMove)
    ∷ (codes "fragreplace", locator_two_numbers_payload_form wants.FragReplace)
    ∷ []

-- How the words behind a first word of a table are read. Where the table has no such word, it is among the others.
abbrev pub form_in : CallTable → (List ℕ → FormBehind) → List ℕ → FormBehind
form_in [] others word = others word
form_in ((spelling, form) ∷ table) others word = if is_word spelling word then form else form_in table others word

-- How the words behind a first word of the last table are read.
unfoldable pub fragment_form : List ℕ → FormBehind
fragment_form word = form_in fragment_calls (λ _. no_form) word

-- How the words behind a first word of the last two tables are read.
unfoldable pub writing_form : List ℕ → FormBehind
writing_form word = form_in writing_calls fragment_form word

-- How the words behind a first word of the last three tables are read.
unfoldable pub reading_form : List ℕ → FormBehind
reading_form word = form_in reading_calls writing_form word

-- How the words behind any first word are read.
unfoldable pub form_behind : List ℕ → FormBehind
form_behind word = form_in row_calls reading_form word

-- The call that a text spells: `commit` and `rollback` stand alone, any other call's first word is in the table.
unfoldable pub call_form : List ℕ → Option CallForm
call_form text =
    if is_word (codes "commit") text then Some (Plain calls.Commit)
    else if is_word (codes "rollback") text then Some (Plain calls.Rollback)
    else (do
      word ← word_at text
      form_behind word.0 word.1)
