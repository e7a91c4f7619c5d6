-- The shapes of calls: a text that is read as a call is the call's printed text, but for the form of its payload.
use Rattle.std.proofs.Common.{◌≡◌, ℕ, Bool, true, false, cond, List, [], ◌∷◌, ◌++◌, Option, Some, None, refl, sym, ap, ◌∙◌, subst}
use Rattle.std.specs.Prelude.{codes}
use Rattle.std.specs.Fmt.{decimal}
use Rattle.std.proofs.lemmas.List.{append-nil, append_assoc}
use Rattle.sf_types.specs.Values.Names.{name_of}
use Rattle.sf_types.specs.declared.limits.TheConstants.{ROW_NAME_BYTES, LOCATOR_NAME_BYTES}
use Rattle.sf_types.specs.declared.call.Call.{Call}
use Rattle.sf_types.specs.declared.call.Call.TheVariants as calls
use Rattle.sf_script_calls.specs.declared.call.PayloadCall.{PayloadCall}
use Rattle.sf_script_calls.specs.CallTable.{FormBehind}
use Rattle.sf_script_calls.specs.Calls.{CallForm, Plain, WithPayload, call_with, locator_at, row_at, number_at, two_numbers_of, three_numbers_of, row_form, locator_row_form, locator_row_number_form, locator_form, two_locators_form, locator_number_form, locator_two_numbers_form, locator_three_numbers_form, two_locators_three_numbers_form, setoptions_form, rollback_to_form}
use Rattle.sf_script_calls.specs.Numbers.{number_of}
use Rattle.sf_script_calls.specs.Payloads.{Payload, payload_of}
use Rattle.sf_script_calls.specs.Reads.{◌>>=◌}
use Rattle.sf_script_calls.specs.Words.{word_at, is_word}
use Rattle.sf_script_print.specs.PrintedCalls.{plain, with_payload, call_text, printed_payload, printed_text}
use Rattle.sf_script_print.proofs.WordLemmas.{cut_of, name_is, spelled}
use Rattle.sf_script_print.proofs.NumberTextLemmas.{number_text}
use Rattle.sf_script_print.proofs.PayloadTextLemmas.{read_field}

-- the text behind a call's first word, whose payload may be spelled in another form
pub record IsPayloadBehind (form : FormBehind) (word text : List ℕ) (call : PayloadCall) (payload : Payload) : Type 0 where
  pub front : List ℕ
  pub payload_text : List ℕ
  pub whole : text ≡ front ++ payload_text
  pub read : payload_of payload_text ≡ Some payload
  pub printed : (bytes : List ℕ) → printed_text (call_text (call_with call bytes)) ≡ 32 ∷ word ++ (32 ∷ front ++ printed_payload bytes)
  pub again : (other : List ℕ) (next : Payload) → payload_of other ≡ Some next → form (front ++ other) ≡ Some (WithPayload call next)

-- the text behind a call's first word
abbrev pub IsBehind : FormBehind → List ℕ → List ℕ → CallForm → Type 0
IsBehind form word text (Plain call) = printed_text (call_text call) ≡ 32 ∷ word ++ 32 ∷ text
IsBehind form word text (WithPayload call payload) = IsPayloadBehind form word text call payload

-- each text that is read so behind a word
abbrev pub AreBehind : List ℕ → FormBehind → Type 0
AreBehind word form = (text : List ℕ) (call : CallForm) → form text ≡ Some call → IsBehind form word text call

pub same_item : {X : Type 0} (x y : X) → Some x ≡ Some y → x ≡ y
same_item x y e = cc

-- a plain call's text
pub plain_behind : (form : FormBehind) (word text : List ℕ) (call : Call) (read : CallForm) → Some (Plain call) ≡ Some read → printed_text (call_text call) ≡ 32 ∷ word ++ 32 ∷ text → IsBehind form word text read
plain_behind form word text call read e is = subst (IsBehind form word text) (same_item (Plain call) read e) is

pub payload_behind : (form : FormBehind) (word text : List ℕ) (call : PayloadCall) (payload : Payload) (read : CallForm) → Some (WithPayload call payload) ≡ Some read → IsPayloadBehind form word text call payload → IsBehind form word text read
payload_behind form word text call payload read e is = subst (IsBehind form word text) (same_item (WithPayload call payload) read e) is

-- a field that a space ends
pub record IsField {A : Type 0} (read : List ℕ → Option (A × List ℕ)) (text spelling : List ℕ) (item : A) (rest : List ℕ) : Type 0 where
  pub whole : text ≡ spelling ++ 32 ∷ rest
  pub again : (other : List ℕ) → read (spelling ++ 32 ∷ other) ≡ Some (item, other)

named_field : (most : ℕ) (text : List ℕ) (field : List ℕ × List ℕ) (read : List ℕ → Option (List ℕ × List ℕ))
    → ((other : List ℕ) → read other ≡ (word_at other >>= λ word. (name_of most word.0 >>= λ name. Some (name, word.1))))
    → read text ≡ Some field → IsField read text field.0 field.0 field.1
named_field most text field read is e =
    let a = read_field (word_at text) (λ word. (name_of most word.0 >>= λ name. Some (name, word.1))) field (sym (is text) ∙ e) in
    let b = read_field (name_of most a.item.0) (λ name. Some (name, a.item.1)) field a.others in
    let name : a.item.0 ≡ b.item = name_is most a.item.0 b.item b.is in
    let parts : (b.item ≡ field.0) × (a.item.1 ≡ field.1) = (ap (λ (x : List ℕ × List ℕ). x.0) (same_item _ field b.others), ap (λ (x : List ℕ × List ℕ). x.1) (same_item _ field b.others)) in
    let cut = cut_of text a.item.0 a.item.1 a.is in
    let word : a.item.0 ≡ field.0 = name ∙ parts.0 in
    let is_name : name_of most a.item.0 ≡ Some b.item = b.is in
    record {
      whole = cut.whole ∙ ap (λ (w : List ℕ). w ++ 32 ∷ a.item.1) word ∙ ap (λ (r : List ℕ). field.0 ++ 32 ∷ r) parts.1;
      again = λ other.
          is (field.0 ++ 32 ∷ other)
          ∙ ap (λ (w : List ℕ). word_at (w ++ 32 ∷ other) >>= λ word. (name_of most word.0 >>= λ name. Some (name, word.1))) (sym word)
          ∙ ap (λ (o : Option (List ℕ × List ℕ)). o >>= λ word. (name_of most word.0 >>= λ name. Some (name, word.1))) (cut.again other)
          ∙ ap (λ (o : Option (List ℕ)). o >>= λ name. Some (name, other)) is_name
          ∙ ap (λ (n : List ℕ). Some (n, other)) parts.0;
    }

pub locator_field : (text : List ℕ) (field : List ℕ × List ℕ) → locator_at text ≡ Some field → IsField locator_at text field.0 field.0 field.1
unfolding locator_at
locator_field text field e = named_field LOCATOR_NAME_BYTES text field locator_at (λ other. refl) e

pub row_field : (text : List ℕ) (field : List ℕ × List ℕ) → row_at text ≡ Some field → IsField row_at text field.0 field.0 field.1
unfolding row_at
row_field text field e = named_field ROW_NAME_BYTES text field row_at (λ other. refl) e

pub number_field : (text : List ℕ) (field : ℕ × List ℕ) → number_at text ≡ Some field → IsField number_at text (decimal field.0) field.0 field.1
unfolding number_at
number_field text field e =
    let a = read_field (word_at text) (λ word. (number_of word.0 >>= λ number. Some (number, word.1))) field e in
    let b = read_field (number_of a.item.0) (λ number. Some (number, a.item.1)) field a.others in
    let parts : (b.item ≡ field.0) × (a.item.1 ≡ field.1) = (ap (λ (x : ℕ × List ℕ). x.0) (same_item _ field b.others), ap (λ (x : ℕ × List ℕ). x.1) (same_item _ field b.others)) in
    let cut = cut_of text a.item.0 a.item.1 a.is in
    let word : a.item.0 ≡ decimal field.0 = (number_text a.item.0 b.item b.is).printed ∙ ap decimal parts.0 in
    record {
      whole = cut.whole ∙ ap (λ (w : List ℕ). w ++ 32 ∷ a.item.1) word ∙ ap (λ (r : List ℕ). decimal field.0 ++ 32 ∷ r) parts.1;
      again = λ other.
          ap (λ (w : List ℕ). word_at (w ++ 32 ∷ other) >>= λ word. (number_of word.0 >>= λ number. Some (number, word.1))) (sym word)
          ∙ ap (λ (o : Option (List ℕ × List ℕ)). o >>= λ word. (number_of word.0 >>= λ number. Some (number, word.1))) (cut.again other)
          ∙ ap (λ (o : Option ℕ). o >>= λ number. Some (number, other)) b.is
          ∙ ap (λ (n : ℕ). Some (n, other)) parts.0;
    }

two_numbers : (text : List ℕ) (numbers : ℕ × ℕ) → two_numbers_of text ≡ Some numbers → text ≡ decimal numbers.0 ++ 32 ∷ decimal numbers.1
unfolding two_numbers_of
two_numbers text numbers e =
    let a = read_field (number_at text) (λ first. (number_of first.1 >>= λ second. Some (first.0, second))) numbers e in
    let b = read_field (number_of a.item.1) (λ second. Some (a.item.0, second)) numbers a.others in
    let same = same_item (a.item.0, b.item) numbers b.others in
    (number_field text a.item a.is).whole ∙ ap (λ (r : List ℕ). decimal a.item.0 ++ 32 ∷ r) (number_text a.item.1 b.item b.is).printed
    ∙ ap (λ (n : ℕ × ℕ). decimal n.0 ++ 32 ∷ decimal n.1) same

three_numbers : (text : List ℕ) (numbers : ℕ × ℕ × ℕ) → three_numbers_of text ≡ Some numbers → text ≡ decimal numbers.0 ++ (32 ∷ decimal numbers.1 ++ 32 ∷ decimal numbers.2)
unfolding three_numbers_of
three_numbers text numbers e =
    let a = read_field (number_at text) (λ first. (two_numbers_of first.1 >>= λ others. Some (first.0, others.0, others.1))) numbers e in
    let b = read_field (two_numbers_of a.item.1) (λ others. Some (a.item.0, others.0, others.1)) numbers a.others in
    let same = same_item (a.item.0, b.item.0, b.item.1) numbers b.others in
    (number_field text a.item a.is).whole ∙ ap (λ (r : List ℕ). decimal a.item.0 ++ 32 ∷ r) (two_numbers a.item.1 b.item b.is)
    ∙ ap (λ (n : ℕ × ℕ × ℕ). decimal n.0 ++ (32 ∷ decimal n.1 ++ 32 ∷ decimal n.2)) same

-- printed texts, each part after one space
tidy_one : (w a : List ℕ) → w ++ [] ++ (a ++ []) ++ [] ++ [] ≡ w ++ a
tidy_one w a = simp (append-nil, append_assoc)

tidy_two : (w a b : List ℕ) → w ++ [] ++ (a ++ (b ++ [])) ++ [] ++ [] ≡ w ++ (a ++ b)
tidy_two w a b = simp (append-nil, append_assoc)

tidy_two_and_one : (w a b n : List ℕ) → w ++ [] ++ (a ++ (b ++ [])) ++ (n ++ []) ++ [] ≡ w ++ (a ++ (b ++ n))
tidy_two_and_one w a b n = simp (append-nil, append_assoc)

tidy_numbers : (w a n : List ℕ) → w ++ [] ++ (a ++ []) ++ n ++ [] ≡ w ++ (a ++ n)
tidy_numbers w a n = simp (append-nil, append_assoc)

tidy_parts : (w a b n : List ℕ) → w ++ [] ++ (a ++ (b ++ [])) ++ n ++ [] ≡ w ++ (a ++ (b ++ n))
tidy_parts w a b n = simp (append-nil, append_assoc)

tidy_payload : (w a n p : List ℕ) → w ++ [] ++ (a ++ []) ++ n ++ (p ++ []) ≡ w ++ (a ++ (n ++ p))
tidy_payload w a n p = simp (append-nil, append_assoc)

end_numbers : (a b : List ℕ) → a ++ (b ++ []) ≡ a ++ b
end_numbers a b = simp append-nil

end_move : (a b d : List ℕ) → a ++ (b ++ (d ++ [])) ≡ a ++ (b ++ d)
end_move a b d = simp append-nil

printed_row : (word row : List ℕ) → printed_text (plain word (row ∷ []) []) ≡ 32 ∷ word ++ 32 ∷ row
unfolding printed_text
printed_row word row = tidy_one (32 ∷ word) (32 ∷ row)

printed_two : (word to row : List ℕ) → printed_text (plain word (to ∷ row ∷ []) []) ≡ 32 ∷ word ++ (32 ∷ to ++ 32 ∷ row)
unfolding printed_text
printed_two word to row = tidy_two (32 ∷ word) (32 ∷ to) (32 ∷ row)

printed_three : (word to row : List ℕ) (number : ℕ) → printed_text (plain word (to ∷ row ∷ []) (number ∷ [])) ≡ 32 ∷ word ++ (32 ∷ to ++ (32 ∷ row ++ 32 ∷ decimal number))
unfolding printed_text
printed_three word to row number = tidy_two_and_one (32 ∷ word) (32 ∷ to) (32 ∷ row) (32 ∷ decimal number)

printed_number : (word at : List ℕ) (number : ℕ) → printed_text (plain word (at ∷ []) (number ∷ [])) ≡ 32 ∷ word ++ (32 ∷ at ++ 32 ∷ decimal number)
unfolding printed_text
printed_number word at number = tidy_numbers (32 ∷ word) (32 ∷ at) (32 ∷ decimal number ++ []) ∙ ap (λ (n : List ℕ). 32 ∷ word ++ (32 ∷ at ++ n)) (append-nil (32 ∷ decimal number))

printed_numbers : (word at : List ℕ) (a b : ℕ) → printed_text (plain word (at ∷ []) (a ∷ b ∷ [])) ≡ 32 ∷ word ++ (32 ∷ at ++ (32 ∷ decimal a ++ 32 ∷ decimal b))
unfolding printed_text
printed_numbers word at a b = tidy_numbers (32 ∷ word) (32 ∷ at) (32 ∷ decimal a ++ (32 ∷ decimal b ++ [])) ∙ ap (λ (n : List ℕ). 32 ∷ word ++ (32 ∷ at ++ n)) (end_numbers (32 ∷ decimal a) (32 ∷ decimal b))

printed_move : (word at : List ℕ) (a b d : ℕ) → printed_text (plain word (at ∷ []) (a ∷ b ∷ d ∷ [])) ≡ 32 ∷ word ++ (32 ∷ at ++ (32 ∷ decimal a ++ (32 ∷ decimal b ++ 32 ∷ decimal d)))
unfolding printed_text
printed_move word at a b d = tidy_numbers (32 ∷ word) (32 ∷ at) (32 ∷ decimal a ++ (32 ∷ decimal b ++ (32 ∷ decimal d ++ []))) ∙ ap (λ (n : List ℕ). 32 ∷ word ++ (32 ∷ at ++ n)) (end_move (32 ∷ decimal a) (32 ∷ decimal b) (32 ∷ decimal d))

printed_parts : (word at from : List ℕ) (a b d : ℕ) → printed_text (plain word (at ∷ from ∷ []) (a ∷ b ∷ d ∷ [])) ≡ 32 ∷ word ++ (32 ∷ at ++ (32 ∷ from ++ (32 ∷ decimal a ++ (32 ∷ decimal b ++ 32 ∷ decimal d))))
unfolding printed_text
printed_parts word at from a b d = tidy_parts (32 ∷ word) (32 ∷ at) (32 ∷ from) (32 ∷ decimal a ++ (32 ∷ decimal b ++ (32 ∷ decimal d ++ []))) ∙ ap (λ (n : List ℕ). 32 ∷ word ++ (32 ∷ at ++ (32 ∷ from ++ n))) (end_move (32 ∷ decimal a) (32 ∷ decimal b) (32 ∷ decimal d))

pub printed_payload_one : (word at bytes : List ℕ) → printed_text (with_payload word (at ∷ []) [] bytes) ≡ 32 ∷ word ++ (32 ∷ at ++ 32 ∷ printed_payload bytes)
unfolding printed_text
printed_payload_one word at bytes = tidy_payload (32 ∷ word) (32 ∷ at) [] (32 ∷ printed_payload bytes)

pub printed_payload_two : (word at : List ℕ) (a : ℕ) (bytes : List ℕ) → printed_text (with_payload word (at ∷ []) (a ∷ []) bytes) ≡ 32 ∷ word ++ (32 ∷ at ++ (32 ∷ decimal a ++ 32 ∷ printed_payload bytes))
unfolding printed_text
printed_payload_two word at a bytes = tidy_payload (32 ∷ word) (32 ∷ at) (32 ∷ decimal a ++ []) (32 ∷ printed_payload bytes) ∙ ap (λ (n : List ℕ). 32 ∷ word ++ (32 ∷ at ++ (n ++ 32 ∷ printed_payload bytes))) (append-nil (32 ∷ decimal a))

pub printed_payload_three : (word at : List ℕ) (a b : ℕ) (bytes : List ℕ) → printed_text (with_payload word (at ∷ []) (a ∷ b ∷ []) bytes) ≡ 32 ∷ word ++ (32 ∷ at ++ ((32 ∷ decimal a ++ 32 ∷ decimal b) ++ 32 ∷ printed_payload bytes))
unfolding printed_text
printed_payload_three word at a b bytes = tidy_payload (32 ∷ word) (32 ∷ at) (32 ∷ decimal a ++ (32 ∷ decimal b ++ [])) (32 ∷ printed_payload bytes) ∙ ap (λ (n : List ℕ). 32 ∷ word ++ (32 ∷ at ++ (n ++ 32 ∷ printed_payload bytes))) (end_numbers (32 ∷ decimal a) (32 ∷ decimal b))

-- the shapes without a payload
pub row_shape : (word : List ℕ) (call : List ℕ → Call) → ((row : List ℕ) → call_text (call row) ≡ plain word (row ∷ []) []) → AreBehind word (row_form call)
unfolding row_form
row_shape word call is text read e =
    let a = read_field (name_of ROW_NAME_BYTES text) (λ row. Some (Plain (call row))) read e in
    plain_behind (row_form call) word text (call a.item) read a.others
    (ap printed_text (is a.item) ∙ printed_row word a.item ∙ ap (λ (t : List ℕ). 32 ∷ word ++ 32 ∷ t) (sym (name_is ROW_NAME_BYTES text a.item a.is)))

pub locator_shape : (word : List ℕ) (call : List ℕ → Call) → ((at : List ℕ) → call_text (call at) ≡ plain word (at ∷ []) []) → AreBehind word (locator_form call)
unfolding locator_form
locator_shape word call is text read e =
    let a = read_field (name_of LOCATOR_NAME_BYTES text) (λ at. Some (Plain (call at))) read e in
    plain_behind (locator_form call) word text (call a.item) read a.others
    (ap printed_text (is a.item) ∙ printed_row word a.item ∙ ap (λ (t : List ℕ). 32 ∷ word ++ 32 ∷ t) (sym (name_is LOCATOR_NAME_BYTES text a.item a.is)))

pub locator_row_shape : (word : List ℕ) (call : List ℕ → List ℕ → Call) → ((to row : List ℕ) → call_text (call to row) ≡ plain word (to ∷ row ∷ []) []) → AreBehind word (locator_row_form call)
unfolding locator_row_form
locator_row_shape word call is text read e =
    let a = read_field (locator_at text) (λ to. (name_of ROW_NAME_BYTES to.1 >>= λ row. Some (Plain (call to.0 row)))) read e in
    let b = read_field (name_of ROW_NAME_BYTES a.item.1) (λ row. Some (Plain (call a.item.0 row))) read a.others in
    let whole = (locator_field text a.item a.is).whole ∙ ap (λ (r : List ℕ). a.item.0 ++ 32 ∷ r) (name_is ROW_NAME_BYTES a.item.1 b.item b.is) in
    plain_behind (locator_row_form call) word text (call a.item.0 b.item) read b.others
    (ap printed_text (is a.item.0 b.item) ∙ printed_two word a.item.0 b.item ∙ ap (λ (t : List ℕ). 32 ∷ word ++ 32 ∷ t) (sym whole))

pub two_locators_shape : (word : List ℕ) (call : List ℕ → List ℕ → Call) → ((at from : List ℕ) → call_text (call at from) ≡ plain word (at ∷ from ∷ []) []) → AreBehind word (two_locators_form call)
unfolding two_locators_form
two_locators_shape word call is text read e =
    let a = read_field (locator_at text) (λ at. (name_of LOCATOR_NAME_BYTES at.1 >>= λ from. Some (Plain (call at.0 from)))) read e in
    let b = read_field (name_of LOCATOR_NAME_BYTES a.item.1) (λ from. Some (Plain (call a.item.0 from))) read a.others in
    let whole = (locator_field text a.item a.is).whole ∙ ap (λ (r : List ℕ). a.item.0 ++ 32 ∷ r) (name_is LOCATOR_NAME_BYTES a.item.1 b.item b.is) in
    plain_behind (two_locators_form call) word text (call a.item.0 b.item) read b.others
    (ap printed_text (is a.item.0 b.item) ∙ printed_two word a.item.0 b.item ∙ ap (λ (t : List ℕ). 32 ∷ word ++ 32 ∷ t) (sym whole))

pub locator_number_shape : (word : List ℕ) (call : List ℕ → ℕ → Call) → ((at : List ℕ) (number : ℕ) → call_text (call at number) ≡ plain word (at ∷ []) (number ∷ [])) → AreBehind word (locator_number_form call)
unfolding locator_number_form
locator_number_shape word call is text read e =
    let a = read_field (locator_at text) (λ at. (number_of at.1 >>= λ number. Some (Plain (call at.0 number)))) read e in
    let b = read_field (number_of a.item.1) (λ number. Some (Plain (call a.item.0 number))) read a.others in
    let whole = (locator_field text a.item a.is).whole ∙ ap (λ (r : List ℕ). a.item.0 ++ 32 ∷ r) (number_text a.item.1 b.item b.is).printed in
    plain_behind (locator_number_form call) word text (call a.item.0 b.item) read b.others
    (ap printed_text (is a.item.0 b.item) ∙ printed_number word a.item.0 b.item ∙ ap (λ (t : List ℕ). 32 ∷ word ++ 32 ∷ t) (sym whole))

pub locator_two_numbers_shape : (word : List ℕ) (call : List ℕ → ℕ → ℕ → Call) → ((at : List ℕ) (a b : ℕ) → call_text (call at a b) ≡ plain word (at ∷ []) (a ∷ b ∷ [])) → AreBehind word (locator_two_numbers_form call)
unfolding locator_two_numbers_form
locator_two_numbers_shape word call is text read e =
    let a = read_field (locator_at text) (λ at. (two_numbers_of at.1 >>= λ numbers. Some (Plain (call at.0 numbers.0 numbers.1)))) read e in
    let b = read_field (two_numbers_of a.item.1) (λ numbers. Some (Plain (call a.item.0 numbers.0 numbers.1))) read a.others in
    let whole = (locator_field text a.item a.is).whole ∙ ap (λ (r : List ℕ). a.item.0 ++ 32 ∷ r) (two_numbers a.item.1 b.item b.is) in
    plain_behind (locator_two_numbers_form call) word text (call a.item.0 b.item.0 b.item.1) read b.others
    (ap printed_text (is a.item.0 b.item.0 b.item.1) ∙ printed_numbers word a.item.0 b.item.0 b.item.1 ∙ ap (λ (t : List ℕ). 32 ∷ word ++ 32 ∷ t) (sym whole))

pub locator_three_numbers_shape : (word : List ℕ) (call : List ℕ → ℕ → ℕ → ℕ → Call) → ((at : List ℕ) (a b d : ℕ) → call_text (call at a b d) ≡ plain word (at ∷ []) (a ∷ b ∷ d ∷ [])) → AreBehind word (locator_three_numbers_form call)
unfolding locator_three_numbers_form
locator_three_numbers_shape word call is text read e =
    let a = read_field (locator_at text) (λ at. (three_numbers_of at.1 >>= λ numbers. Some (Plain (call at.0 numbers.0 numbers.1 numbers.2)))) read e in
    let b = read_field (three_numbers_of a.item.1) (λ numbers. Some (Plain (call a.item.0 numbers.0 numbers.1 numbers.2))) read a.others in
    let whole = (locator_field text a.item a.is).whole ∙ ap (λ (r : List ℕ). a.item.0 ++ 32 ∷ r) (three_numbers a.item.1 b.item b.is) in
    plain_behind (locator_three_numbers_form call) word text (call a.item.0 b.item.0 b.item.1 b.item.2) read b.others
    (ap printed_text (is a.item.0 b.item.0 b.item.1 b.item.2) ∙ printed_move word a.item.0 b.item.0 b.item.1 b.item.2 ∙ ap (λ (t : List ℕ). 32 ∷ word ++ 32 ∷ t) (sym whole))

pub two_locators_three_numbers_shape : (word : List ℕ) (call : List ℕ → List ℕ → ℕ → ℕ → ℕ → Call) → ((at from : List ℕ) (a b d : ℕ) → call_text (call at from a b d) ≡ plain word (at ∷ from ∷ []) (a ∷ b ∷ d ∷ [])) → AreBehind word (two_locators_three_numbers_form call)
unfolding two_locators_three_numbers_form
two_locators_three_numbers_shape word call is text read e =
    let a = read_field (locator_at text) (λ at. (locator_at at.1 >>= λ from. (three_numbers_of from.1 >>= λ numbers. Some (Plain (call at.0 from.0 numbers.0 numbers.1 numbers.2))))) read e in
    let f = read_field (locator_at a.item.1) (λ from. (three_numbers_of from.1 >>= λ numbers. Some (Plain (call a.item.0 from.0 numbers.0 numbers.1 numbers.2)))) read a.others in
    let b = read_field (three_numbers_of f.item.1) (λ numbers. Some (Plain (call a.item.0 f.item.0 numbers.0 numbers.1 numbers.2))) read f.others in
    let whole = (locator_field text a.item a.is).whole ∙ ap (λ (r : List ℕ). a.item.0 ++ 32 ∷ r) ((locator_field a.item.1 f.item f.is).whole ∙ ap (λ (r : List ℕ). f.item.0 ++ 32 ∷ r) (three_numbers f.item.1 b.item b.is)) in
    plain_behind (two_locators_three_numbers_form call) word text (call a.item.0 f.item.0 b.item.0 b.item.1 b.item.2) read b.others
    (ap printed_text (is a.item.0 f.item.0 b.item.0 b.item.1 b.item.2) ∙ printed_parts word a.item.0 f.item.0 b.item.0 b.item.1 b.item.2 ∙ ap (λ (t : List ℕ). 32 ∷ word ++ 32 ∷ t) (sym whole))

pub locator_row_number_shape : (word : List ℕ) (call : List ℕ → List ℕ → ℕ → Call) → ((to row : List ℕ) (number : ℕ) → call_text (call to row number) ≡ plain word (to ∷ row ∷ []) (number ∷ [])) → AreBehind word (locator_row_number_form call)
unfolding locator_row_number_form
locator_row_number_shape word call is text read e =
    let a = read_field (locator_at text) (λ to. (row_at to.1 >>= λ row. (number_of row.1 >>= λ number. Some (Plain (call to.0 row.0 number))))) read e in
    let r = read_field (row_at a.item.1) (λ row. (number_of row.1 >>= λ number. Some (Plain (call a.item.0 row.0 number)))) read a.others in
    let b = read_field (number_of r.item.1) (λ number. Some (Plain (call a.item.0 r.item.0 number))) read r.others in
    let whole = (locator_field text a.item a.is).whole ∙ ap (λ (t : List ℕ). a.item.0 ++ 32 ∷ t) ((row_field a.item.1 r.item r.is).whole ∙ ap (λ (t : List ℕ). r.item.0 ++ 32 ∷ t) (number_text r.item.1 b.item b.is).printed) in
    plain_behind (locator_row_number_form call) word text (call a.item.0 r.item.0 b.item) read b.others
    (ap printed_text (is a.item.0 r.item.0 b.item) ∙ printed_three word a.item.0 r.item.0 b.item ∙ ap (λ (t : List ℕ). 32 ∷ word ++ 32 ∷ t) (sym whole))

-- the shapes of two words more
pub setoptions_shape : AreBehind (codes "setoptions") setoptions_form
unfolding setoptions_form printed_text
setoptions_shape text read e =
    let a = read_field (locator_at text) (λ at. cond (is_word (codes "dedup on") at.1) (Some (Plain (calls.SetOptions at.0 true))) (cond (is_word (codes "dedup off") at.1) (Some (Plain (calls.SetOptions at.0 false))) None)) read e in
    pick (is_word (codes "dedup on") a.item.1) (is_word (codes "dedup off") a.item.1) a.item refl refl (locator_field text a.item a.is).whole a.others
  where
    pick : (on off : Bool) (at : List ℕ × List ℕ) → is_word (codes "dedup on") at.1 ≡ on → is_word (codes "dedup off") at.1 ≡ off → text ≡ at.0 ++ 32 ∷ at.1
        → cond on (Some (Plain (calls.SetOptions at.0 true))) (cond off (Some (Plain (calls.SetOptions at.0 false))) None) ≡ Some read
        → IsBehind setoptions_form (codes "setoptions") text read
    pick true off at is-on is-off whole others =
        plain_behind setoptions_form (codes "setoptions") text (calls.SetOptions at.0 true) read others
        (tidy_two (32 ∷ codes "setoptions") (32 ∷ at.0) (32 ∷ codes "dedup on")
        ∙ ap (λ (t : List ℕ). 32 ∷ codes "setoptions" ++ 32 ∷ t) (sym (whole ∙ ap (λ (r : List ℕ). at.0 ++ 32 ∷ r) (spelled (codes "dedup on") at.1 is-on))))
    pick false true at is-on is-off whole others =
        plain_behind setoptions_form (codes "setoptions") text (calls.SetOptions at.0 false) read others
        (tidy_two (32 ∷ codes "setoptions") (32 ∷ at.0) (32 ∷ codes "dedup off")
        ∙ ap (λ (t : List ℕ). 32 ∷ codes "setoptions" ++ 32 ∷ t) (sym (whole ∙ ap (λ (r : List ℕ). at.0 ++ 32 ∷ r) (spelled (codes "dedup off") at.1 is-off))))
    pick false false at is-on is-off whole others = absurd cc

pub rollback_shape : AreBehind (codes "rollback") rollback_to_form
unfolding rollback_to_form locator_form
rollback_shape text read e =
    let a = read_field (word_at text) (λ word. cond (is_word (codes "to") word.0) (locator_form calls.RollbackTo word.1) None) read e in
    pick (is_word (codes "to") a.item.0) a.item refl (cut_of text a.item.0 a.item.1 a.is).whole a.others
  where
    pick : (to : Bool) (word : List ℕ × List ℕ) → is_word (codes "to") word.0 ≡ to → text ≡ word.0 ++ 32 ∷ word.1 → cond to (locator_form calls.RollbackTo word.1) None ≡ Some read
        → IsBehind rollback_to_form (codes "rollback") text read
    pick true word is-to whole others =
        let b = read_field (name_of LOCATOR_NAME_BYTES word.1) (λ at. Some (Plain (calls.RollbackTo at))) read others in
        plain_behind rollback_to_form (codes "rollback") text (calls.RollbackTo b.item) read b.others
        (printed_two (codes "rollback") (codes "to") b.item
        ∙ ap (λ (t : List ℕ). 32 ∷ codes "rollback" ++ 32 ∷ t) (sym (whole ∙ ap (λ (w : List ℕ). w ++ 32 ∷ word.1) (spelled (codes "to") word.0 is-to) ∙ ap (λ (r : List ℕ). codes "to" ++ 32 ∷ r) (name_is LOCATOR_NAME_BYTES word.1 b.item b.is))))
    pick false word is-to whole others = absurd cc
