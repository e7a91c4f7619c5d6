-- A call's text is its printed text, but for the form of its payload.
use Rattle.std.proofs.Common.{◌≡◌, ℕ, Bool, true, false, cond, List, [], ◌∷◌, ◌++◌, Some, None, refl, sym, ap, ◌∙◌, subst}
use Rattle.std.specs.Prelude.{codes}
use Rattle.std.proofs.lemmas.Bool.{false_from_ne_true}
use Rattle.std.proofs.lemmas.List.{append_assoc}
use Rattle.sf_types.specs.declared.call.Call.TheVariants as calls
use Rattle.sf_script_calls.specs.declared.call.PayloadCall.{PayloadCall}
use Rattle.sf_script_calls.specs.declared.call.PayloadCall.TheVariants as wants
use Rattle.sf_script_calls.specs.CallTable.{CallTable, FormBehind, no_form, row_calls, reading_calls, writing_calls, fragment_calls, form_in, fragment_form, writing_form, reading_form, form_behind, call_form}
use Rattle.sf_script_calls.specs.Calls.{CallForm, Plain, WithPayload, call_with}
use Rattle.sf_script_calls.specs.Payloads.{Payload, payload_of}
use Rattle.sf_script_calls.specs.Reads.{◌>>=◌}
use Rattle.sf_script_calls.specs.Words.{word_at, is_word}
use Rattle.sf_script_print.specs.PrintedCalls.{call_text, printed_payload, printed_text}
use Rattle.sf_script_print.proofs.WordLemmas.{IsCut, cut_of, spelled}
use Rattle.sf_script_print.proofs.PayloadTextLemmas.{read_field}
use Rattle.sf_script_print.proofs.ShapeLemmas.{IsBehind, AreBehind, row_shape, locator_shape, locator_row_shape, locator_row_number_shape, two_locators_shape, locator_number_shape, locator_two_numbers_shape, locator_three_numbers_shape, two_locators_three_numbers_shape, setoptions_shape, rollback_shape}
use Rattle.sf_script_print.proofs.PayloadShapeLemmas.{locator_payload_shape, locator_number_payload_shape, locator_two_numbers_payload_shape}

-- each entry of a table
abbrev AllBehind : CallTable → Type 0
AllBehind [] = Unit {0}
AllBehind ((spelling, form) ∷ table) = AreBehind spelling form × AllBehind table

pick : (test : Bool) (spelling word : List ℕ) (form others : FormBehind) → is_word spelling word ≡ test → AreBehind spelling form → AreBehind word others → AreBehind word (cond test form others)
pick true spelling word form others is here rest = subst (λ (w : List ℕ). AreBehind w form) (sym (spelled spelling word is)) here
pick false spelling word form others is here rest = rest

in_table : (table : CallTable) (others : List ℕ → FormBehind) (word : List ℕ) → AllBehind table → AreBehind word (others word) → AreBehind word (form_in table others word)
in_table [] others word all rest = rest
in_table ((spelling, form) ∷ table) others word all rest =
    pick (is_word spelling word) spelling word form (form_in table others word) refl all.0 (in_table table others word all.1 rest)

none_behind : (word : List ℕ) → AreBehind word no_form
none_behind word text read e = absurd cc

fragments : (word : List ℕ) → AreBehind word (fragment_form word)
unfolding fragment_form
fragments word = in_table fragment_calls (λ _. no_form) word (
  locator_number_payload_shape (codes "fraginsert") wants.FragInsert (λ at number bytes. refl),
  (
    locator_two_numbers_shape (codes "fragdelete") calls.FragDelete (λ at a b. refl),
    (
      locator_three_numbers_shape (codes "fragmove") calls.FragMove (λ at a b d. refl),
      (locator_two_numbers_payload_shape (codes "fragreplace") wants.FragReplace (λ at a b bytes. refl), tt),
    ),
  ),
)
    (none_behind word)

writing : (word : List ℕ) → AreBehind word (writing_form word)
unfolding writing_form
writing word = in_table writing_calls fragment_form word (
  locator_number_payload_shape (codes "write") wants.Write (λ at number bytes. refl),
  (
    locator_payload_shape (codes "writeappend") wants.WriteAppend (λ at bytes. refl),
    (
      two_locators_shape (codes "append") calls.Append (λ at from. refl),
      (
        two_locators_three_numbers_shape (codes "copy") calls.Copy (λ at from a b d. refl),
        (
          locator_two_numbers_shape (codes "erase") calls.Erase (λ at a b. refl),
          (locator_number_shape (codes "trim") calls.Trim (λ at number. refl), tt),
        ),
      ),
    ),
  ),
)
    (fragments word)

reading : (word : List ℕ) → AreBehind word (reading_form word)
unfolding reading_form
reading word = in_table reading_calls writing_form word (
  two_locators_shape (codes "assign") calls.Assign (λ at from. refl),
  (
    locator_shape (codes "free") calls.Free (λ at. refl),
    (
      locator_shape (codes "length") calls.Length (λ at. refl),
      (
        locator_two_numbers_shape (codes "read") calls.Read (λ at a b. refl),
        (
          locator_number_payload_shape (codes "instr") wants.Instr (λ at number bytes. refl),
          (two_locators_three_numbers_shape (codes "compare") calls.Compare (λ at from a b d. refl), tt),
        ),
      ),
    ),
  ),
)
    (writing word)

any : (word : List ℕ) → AreBehind word (form_behind word)
unfolding form_behind
any word = in_table row_calls reading_form word (
  row_shape (codes "insert") calls.Insert (λ row. refl),
  (
    row_shape (codes "delete") calls.Delete (λ row. refl),
    (
      locator_row_shape (codes "lock") calls.Lock (λ to row. refl),
      (
        locator_row_shape (codes "select") calls.Select (λ to row. refl),
        (
          locator_row_number_shape (codes "asof") calls.SelectAsOf (λ to row number. refl),
          (
            setoptions_shape,
            (
              locator_shape (codes "savepoint") calls.Savepoint (λ at. refl),
              (rollback_shape, tt),
            ),
          ),
        ),
      ),
    ),
  ),
)
    (reading word)

-- a call with a payload, which may be spelled in another form
pub record IsPayloadCall (text : List ℕ) (call : PayloadCall) (payload : Payload) : Type 0 where
  pub front : List ℕ
  pub payload_text : List ℕ
  pub whole : text ≡ front ++ payload_text
  pub read : payload_of payload_text ≡ Some payload
  pub printed : (bytes : List ℕ) → printed_text (call_text (call_with call bytes)) ≡ 32 ∷ front ++ printed_payload bytes
  pub again : (other : List ℕ) (next : Payload) → payload_of other ≡ Some next → call_form (front ++ other) ≡ Some (WithPayload call next)

-- a text that is read as a call
abbrev pub IsCallText : List ℕ → CallForm → Type 0
IsCallText text (Plain call) = printed_text (call_text call) ≡ 32 ∷ text
IsCallText text (WithPayload call payload) = IsPayloadCall text call payload

-- a text of two words or more is read by its first word
no_space_in_commit : word_at (codes "commit") ≡ None
unfolding word_at
no_space_in_commit = refl

no_space_in_rollback : word_at (codes "rollback") ≡ None
unfolding word_at
no_space_in_rollback = refl

not_alone : (spelling text word rest : List ℕ) → word_at spelling ≡ None → word_at text ≡ Some (word, rest) → is_word spelling text ≡ false
not_alone spelling text word rest none cut =
    false_from_ne_true (is_word spelling text) (λ is. let same : word_at text ≡ word_at spelling = ap word_at (spelled spelling text is) in absurd cc)

call_behind : (text word rest : List ℕ) → word_at text ≡ Some (word, rest) → call_form text ≡ form_behind word rest
unfolding call_form
call_behind text word rest cut =
    rw (not_alone (codes "commit") text word rest no_space_in_commit cut, not_alone (codes "rollback") text word rest no_space_in_rollback cut, cut) refl

with_word : (text word rest : List ℕ) (read : CallForm) → IsCut text word rest → IsBehind (form_behind word) word rest read → IsCallText text read
with_word text word rest (Plain call) cut is = is ∙ ap (λ (t : List ℕ). 32 ∷ t) (sym cut.whole)
with_word text word rest (WithPayload call payload) cut is = record {
  front = word ++ 32 ∷ is.front;
  payload_text = is.payload_text;
  whole = cut.whole ∙ ap (λ (r : List ℕ). word ++ 32 ∷ r) is.whole ∙ sym (append_assoc word (32 ∷ is.front) is.payload_text);
  read = is.read;
  printed = λ bytes. is.printed bytes ∙ ap (λ (t : List ℕ). 32 ∷ t) (sym (append_assoc word (32 ∷ is.front) (printed_payload bytes)));
  again = λ other next reads.
      ap call_form (append_assoc word (32 ∷ is.front) other)
      ∙ call_behind (word ++ 32 ∷ (is.front ++ other)) word (is.front ++ other) (cut.again (is.front ++ other))
      ∙ is.again other next reads;
}

by_words : (commit rollback : Bool) (text : List ℕ) (read : CallForm) → is_word (codes "commit") text ≡ commit → is_word (codes "rollback") text ≡ rollback
    → cond commit (Some (Plain calls.Commit)) (cond rollback (Some (Plain calls.Rollback)) (word_at text >>= λ word. form_behind word.0 word.1)) ≡ Some read → IsCallText text read
unfolding printed_text
by_words true rollback text read is-commit is-rollback e =
    let same : Plain calls.Commit ≡ read = cc in
    subst (IsCallText text) same (ap (λ (t : List ℕ). 32 ∷ t) (sym (spelled (codes "commit") text is-commit)))
by_words false true text read is-commit is-rollback e =
    let same : Plain calls.Rollback ≡ read = cc in
    subst (IsCallText text) same (ap (λ (t : List ℕ). 32 ∷ t) (sym (spelled (codes "rollback") text is-rollback)))
by_words false false text read is-commit is-rollback e =
    let a = read_field (word_at text) (λ word. form_behind word.0 word.1) read e in
    with_word text a.item.0 a.item.1 read (cut_of text a.item.0 a.item.1 a.is) (any a.item.0 a.item.1 read a.others)

pub call_text_of : (text : List ℕ) (read : CallForm) → call_form text ≡ Some read → IsCallText text read
unfolding call_form
call_text_of text read e = by_words (is_word (codes "commit") text) (is_word (codes "rollback") text) text read refl refl e
