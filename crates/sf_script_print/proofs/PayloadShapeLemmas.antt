-- The shapes of calls with a payload.
use Rattle.std.proofs.Common.{◌≡◌, ℕ, List, [], ◌∷◌, ◌++◌, Option, Some, sym, ap, ◌∙◌}
use Rattle.std.specs.Fmt.{decimal}
use Rattle.std.proofs.lemmas.List.{append_assoc}
use Rattle.sf_script_calls.specs.declared.call.PayloadCall.{PayloadCall}
use Rattle.sf_script_calls.specs.Calls.{WithPayload, call_with, locator_at, number_at, number_payload_of, locator_payload_form, locator_number_payload_form, locator_two_numbers_payload_form}
use Rattle.sf_script_calls.specs.Payloads.{Payload, payload_of}
use Rattle.sf_script_calls.specs.Reads.{◌>>=◌}
use Rattle.sf_script_print.specs.PrintedCalls.{with_payload, call_text, printed_payload, printed_text}
use Rattle.sf_script_print.proofs.PayloadTextLemmas.{read_field}
use Rattle.sf_script_print.proofs.ShapeLemmas.{same_item, AreBehind, payload_behind, locator_field, number_field, printed_payload_one, printed_payload_two, printed_payload_three}

pub locator_payload_shape : (word : List ℕ) (call : List ℕ → PayloadCall) → ((at bytes : List ℕ) → call_text (call_with (call at) bytes) ≡ with_payload word (at ∷ []) [] bytes) → AreBehind word (locator_payload_form call)
unfolding locator_payload_form
locator_payload_shape word call is text read e =
    let a = read_field (locator_at text) (λ at. (payload_of at.1 >>= λ payload. Some (WithPayload (call at.0) payload))) read e in
    let b = read_field (payload_of a.item.1) (λ payload. Some (WithPayload (call a.item.0) payload)) read a.others in
    let at = locator_field text a.item a.is in
    payload_behind (locator_payload_form call) word text (call a.item.0) b.item read b.others (record {
      front = a.item.0 ++ 32 ∷ [];
      payload_text = a.item.1;
      whole = at.whole ∙ sym (append_assoc a.item.0 (32 ∷ []) a.item.1);
      read = b.is;
      printed = λ bytes. ap printed_text (is a.item.0 bytes) ∙ printed_payload_one word a.item.0 bytes ∙ ap (λ (t : List ℕ). 32 ∷ word ++ 32 ∷ t) (sym (append_assoc a.item.0 (32 ∷ []) (printed_payload bytes)));
      again = λ other next reads. again a.item.0 other next at.again reads;
    })
  where
    again : (name other : List ℕ) (next : Payload) → ((rest : List ℕ) → locator_at (name ++ 32 ∷ rest) ≡ Some (name, rest)) → payload_of other ≡ Some next → locator_payload_form call ((name ++ 32 ∷ []) ++ other) ≡ Some (WithPayload (call name) next)
    again name other next cut reads =
        ap (λ (t : List ℕ). locator_at t >>= λ at. (payload_of at.1 >>= λ payload. Some (WithPayload (call at.0) payload))) (append_assoc name (32 ∷ []) other)
        ∙ ap (λ (o : Option (List ℕ × List ℕ)). o >>= λ at. (payload_of at.1 >>= λ payload. Some (WithPayload (call at.0) payload))) (cut other)
        ∙ ap (λ (o : Option Payload). o >>= λ payload. Some (WithPayload (call name) payload)) reads

-- a number and a payload
pub record IsNumberPayload (text : List ℕ) (fields : ℕ × Payload) : Type 0 where
  pub payload_text : List ℕ
  pub whole : text ≡ decimal fields.0 ++ 32 ∷ payload_text
  pub read : payload_of payload_text ≡ Some fields.1
  pub again : (other : List ℕ) (next : Payload) → payload_of other ≡ Some next → number_payload_of (decimal fields.0 ++ 32 ∷ other) ≡ Some (fields.0, next)

pub number_payload : (text : List ℕ) (fields : ℕ × Payload) → number_payload_of text ≡ Some fields → IsNumberPayload text fields
unfolding number_payload_of
number_payload text fields e =
    let a = read_field (number_at text) (λ number. (payload_of number.1 >>= λ payload. Some (number.0, payload))) fields e in
    let b = read_field (payload_of a.item.1) (λ payload. Some (a.item.0, payload)) fields a.others in
    let same = same_item (a.item.0, b.item) fields b.others in
    let number : a.item.0 ≡ fields.0 = ap (λ (f : ℕ × Payload). f.0) same in
    let payload : b.item ≡ fields.1 = ap (λ (f : ℕ × Payload). f.1) same in
    let field = number_field text a.item a.is in
    record {
      payload_text = a.item.1;
      whole = field.whole ∙ ap (λ (n : ℕ). decimal n ++ 32 ∷ a.item.1) number;
      read = b.is ∙ ap Some payload;
      again = λ other next reads.
          ap (λ (n : ℕ). number_at (decimal n ++ 32 ∷ other) >>= λ number. (payload_of number.1 >>= λ payload. Some (number.0, payload))) (sym number)
          ∙ ap (λ (o : Option (ℕ × List ℕ)). o >>= λ number. (payload_of number.1 >>= λ payload. Some (number.0, payload))) (field.again other)
          ∙ ap (λ (o : Option Payload). o >>= λ payload. Some (a.item.0, payload)) reads
          ∙ ap (λ (n : ℕ). Some (n, next)) number;
    }

-- the parts in front of a payload
front_two : (at number rest : List ℕ) → (at ++ (32 ∷ number ++ 32 ∷ [])) ++ rest ≡ at ++ (32 ∷ number ++ 32 ∷ rest)
front_two at number rest = simp append_assoc

pub locator_number_payload_shape : (word : List ℕ) (call : List ℕ → ℕ → PayloadCall) → ((at : List ℕ) (number : ℕ) (bytes : List ℕ) → call_text (call_with (call at number) bytes) ≡ with_payload word (at ∷ []) (number ∷ []) bytes) → AreBehind word (locator_number_payload_form call)
unfolding locator_number_payload_form
locator_number_payload_shape word call is text read e =
    let a = read_field (locator_at text) (λ at. (number_payload_of at.1 >>= λ fields. Some (WithPayload (call at.0 fields.0) fields.1))) read e in
    let b = read_field (number_payload_of a.item.1) (λ fields. Some (WithPayload (call a.item.0 fields.0) fields.1)) read a.others in
    let at = locator_field text a.item a.is in
    let fields = number_payload a.item.1 b.item b.is in
    payload_behind (locator_number_payload_form call) word text (call a.item.0 b.item.0) b.item.1 read b.others (record {
      front = a.item.0 ++ (32 ∷ decimal b.item.0 ++ 32 ∷ []);
      payload_text = fields.payload_text;
      whole = at.whole ∙ ap (λ (r : List ℕ). a.item.0 ++ 32 ∷ r) fields.whole ∙ sym (front_two a.item.0 (decimal b.item.0) fields.payload_text);
      read = fields.read;
      printed = λ bytes. ap printed_text (is a.item.0 b.item.0 bytes) ∙ printed_payload_two word a.item.0 b.item.0 bytes ∙ ap (λ (t : List ℕ). 32 ∷ word ++ 32 ∷ t) (sym (front_two a.item.0 (decimal b.item.0) (printed_payload bytes)));
      again = λ other next reads. again a.item.0 b.item.0 other next at.again (fields.again other next reads);
    })
  where
    again : (name : List ℕ) (number : ℕ) (other : List ℕ) (next : Payload) → ((rest : List ℕ) → locator_at (name ++ 32 ∷ rest) ≡ Some (name, rest)) → number_payload_of (decimal number ++ 32 ∷ other) ≡ Some (number, next) → locator_number_payload_form call ((name ++ (32 ∷ decimal number ++ 32 ∷ [])) ++ other) ≡ Some (WithPayload (call name number) next)
    again name number other next cut reads =
        ap (λ (t : List ℕ). locator_at t >>= λ at. (number_payload_of at.1 >>= λ fields. Some (WithPayload (call at.0 fields.0) fields.1))) (front_two name (decimal number) other)
        ∙ ap (λ (o : Option (List ℕ × List ℕ)). o >>= λ at. (number_payload_of at.1 >>= λ fields. Some (WithPayload (call at.0 fields.0) fields.1))) (cut (decimal number ++ 32 ∷ other))
        ∙ ap (λ (o : Option (ℕ × Payload)). o >>= λ fields. Some (WithPayload (call name fields.0) fields.1)) reads

front_three : (at first second rest : List ℕ) → (at ++ (32 ∷ first ++ (32 ∷ second ++ 32 ∷ []))) ++ rest ≡ at ++ (32 ∷ first ++ (32 ∷ second ++ 32 ∷ rest))
front_three at first second rest = simp append_assoc

pub locator_two_numbers_payload_shape : (word : List ℕ) (call : List ℕ → ℕ → ℕ → PayloadCall) → ((at : List ℕ) (a b : ℕ) (bytes : List ℕ) → call_text (call_with (call at a b) bytes) ≡ with_payload word (at ∷ []) (a ∷ b ∷ []) bytes) → AreBehind word (locator_two_numbers_payload_form call)
unfolding locator_two_numbers_payload_form
locator_two_numbers_payload_shape word call is text read e =
    let a = read_field (locator_at text) (λ at. (number_at at.1 >>= λ number. (number_payload_of number.1 >>= λ fields. Some (WithPayload (call at.0 number.0 fields.0) fields.1)))) read e in
    let n = read_field (number_at a.item.1) (λ number. (number_payload_of number.1 >>= λ fields. Some (WithPayload (call a.item.0 number.0 fields.0) fields.1))) read a.others in
    let b = read_field (number_payload_of n.item.1) (λ fields. Some (WithPayload (call a.item.0 n.item.0 fields.0) fields.1)) read n.others in
    let at = locator_field text a.item a.is in
    let first = number_field a.item.1 n.item n.is in
    let fields = number_payload n.item.1 b.item b.is in
    payload_behind (locator_two_numbers_payload_form call) word text (call a.item.0 n.item.0 b.item.0) b.item.1 read b.others (record {
      front = a.item.0 ++ (32 ∷ decimal n.item.0 ++ (32 ∷ decimal b.item.0 ++ 32 ∷ []));
      payload_text = fields.payload_text;
      whole = at.whole ∙ ap (λ (r : List ℕ). a.item.0 ++ 32 ∷ r) (first.whole ∙ ap (λ (r : List ℕ). decimal n.item.0 ++ 32 ∷ r) fields.whole) ∙ sym (front_three a.item.0 (decimal n.item.0) (decimal b.item.0) fields.payload_text);
      read = fields.read;
      printed = λ bytes. ap printed_text (is a.item.0 n.item.0 b.item.0 bytes) ∙ printed_payload_three word a.item.0 n.item.0 b.item.0 bytes
          ∙ ap (λ (t : List ℕ). 32 ∷ word ++ (32 ∷ a.item.0 ++ t)) (append_assoc (32 ∷ decimal n.item.0) (32 ∷ decimal b.item.0) (32 ∷ printed_payload bytes))
          ∙ ap (λ (t : List ℕ). 32 ∷ word ++ 32 ∷ t) (sym (front_three a.item.0 (decimal n.item.0) (decimal b.item.0) (printed_payload bytes)));
      again = λ other next reads. again a.item.0 n.item.0 b.item.0 other next at.again first.again (fields.again other next reads);
    })
  where
    again : (name : List ℕ) (first second : ℕ) (other : List ℕ) (next : Payload) → ((rest : List ℕ) → locator_at (name ++ 32 ∷ rest) ≡ Some (name, rest)) → ((rest : List ℕ) → number_at (decimal first ++ 32 ∷ rest) ≡ Some (first, rest)) → number_payload_of (decimal second ++ 32 ∷ other) ≡ Some (second, next)
        → locator_two_numbers_payload_form call ((name ++ (32 ∷ decimal first ++ (32 ∷ decimal second ++ 32 ∷ []))) ++ other) ≡ Some (WithPayload (call name first second) next)
    again name first second other next cut number reads =
        ap (λ (t : List ℕ). locator_at t >>= λ at. (number_at at.1 >>= λ number. (number_payload_of number.1 >>= λ fields. Some (WithPayload (call at.0 number.0 fields.0) fields.1)))) (front_three name (decimal first) (decimal second) other)
        ∙ ap (λ (o : Option (List ℕ × List ℕ)). o >>= λ at. (number_at at.1 >>= λ number. (number_payload_of number.1 >>= λ fields. Some (WithPayload (call at.0 number.0 fields.0) fields.1)))) (cut (decimal first ++ (32 ∷ decimal second ++ 32 ∷ other)))
        ∙ ap (λ (o : Option (ℕ × List ℕ)). o >>= λ number. (number_payload_of number.1 >>= λ fields. Some (WithPayload (call name number.0 fields.0) fields.1))) (number (decimal second ++ 32 ∷ other))
        ∙ ap (λ (o : Option (ℕ × Payload)). o >>= λ fields. Some (WithPayload (call name first fields.0) fields.1)) reads
