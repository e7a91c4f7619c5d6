-- Reading a number digit by digit.
use Rattle.std.proofs.Common.{◌≡◌, ℕ, ◌+◌, ◌-◌, ◌*◌, ◌^◌, ◌<◌, ◌≤◌, Bool, true, false, ◌&&◌, cond, ltb, List, [], ◌∷◌, length, get_or, Option, Some, None, refl, sym, ap, ◌∙◌, arith, inl, inr}
use Rattle.std.specs.List.{list_all}
use Rattle.std.proofs.lemmas.Bool.{ltb-true, ltb-false, lt-ltb, le-ltb, and_parts, and_cases, and_left, and_right}
use Rattle.std.proofs.lemmas.Option.{cond_some}
use Rattle.sf_script_calls.specs.Numbers.{is_digit, value_after}

-- the number of digits that stand after others
abbrev pub decimal_from : ℕ → List ℕ → Option ℕ
decimal_from number text =
    cond (list_all is_digit text && ltb (value_after number text) (2 ^ 64)) (Some (value_after number text)) None

-- more digits make no smaller number
grows : (number : ℕ) (text : List ℕ) → number ≤ value_after number text
grows number [] = omega arith
grows number (byte ∷ text) = omega (arith, grows (number * 10 + (byte - 48)) text)

abbrev with_digit : ℕ → ℕ → Option ℕ
with_digit number byte =
    cond (is_digit byte && ltb (number * 10 + (byte - 48)) (2 ^ 64)) (Some (number * 10 + (byte - 48))) None

drop_and : (a b c : Bool) → a ≡ true → ((a && b) && c) ≡ (b && c)
drop_and true b c e = refl
drop_and false b c e = absurd cc

pub digit_goes_on : (number byte next : ℕ) (text : List ℕ) → Some next ≡ with_digit number byte → decimal_from number (byte ∷ text) ≡ decimal_from next text
digit_goes_on number byte next text e =
    let p = cond_some (is_digit byte && ltb (number * 10 + (byte - 48)) (2 ^ 64)) (number * 10 + (byte - 48)) next (sym e) in
    let q = and_parts (is_digit byte) (ltb (number * 10 + (byte - 48)) (2 ^ 64)) p.0 in
    let one = drop_and (is_digit byte) (list_all is_digit text) (ltb (value_after (number * 10 + (byte - 48)) text) (2 ^ 64)) q.0 in
    ap (λ (b : Bool). cond b (Some (value_after (number * 10 + (byte - 48)) text)) None) one ∙ ap (λ (n : ℕ). decimal_from n text) p.1

is_none : (b : Bool) (x : ℕ) → None ≡ cond b (Some x) None → b ≡ false
is_none true x e = absurd cc
is_none false x e = refl

none_if : (b : Bool) (x : ℕ) → b ≡ false → cond b (Some x) None ≡ None
none_if true x e = absurd cc
none_if false x e = refl

pub stops : (number byte : ℕ) (text : List ℕ) → None ≡ with_digit number byte → decimal_from number (byte ∷ text) ≡ None
stops number byte text e =
    let v = value_after (number * 10 + (byte - 48)) text in
    none_if ((is_digit byte && list_all is_digit text) && ltb v (2 ^ 64)) v (elim (and_cases (is_digit byte) (ltb (number * 10 + (byte - 48)) (2 ^ 64)) (is_none _ _ e)) [
      | inl no_digit ↦ and_left _ _ (and_left (is_digit byte) (list_all is_digit text) no_digit)
      | inr large ↦ and_right (is_digit byte && list_all is_digit text) _ (le-ltb v (2 ^ 64) (omega (arith, ltb-false (number * 10 + (byte - 48)) (2 ^ 64) large, grows (number * 10 + (byte - 48)) text)))
    ])

some_if : (b : Bool) (x : ℕ) → b ≡ true → cond b (Some x) None ≡ Some x
some_if true x e = refl
some_if false x e = absurd cc

pub digits_end : (number : ℕ) → number < 2 ^ 64 → decimal_from number [] ≡ Some number
digits_end number lt = some_if (ltb number (2 ^ 64)) number (lt-ltb number (2 ^ 64) lt)

-- the number stays below 2^64
pub value_below : (number byte next : ℕ) → Some next ≡ with_digit number byte → next < 2 ^ 64
value_below number byte next e =
    let n = number * 10 + (byte - 48) in
    let p = cond_some (is_digit byte && ltb n (2 ^ 64)) n next (sym e) in
    let q = and_parts (is_digit byte) (ltb n (2 ^ 64)) p.0 in
    omega (arith, p.1, ltb-true n (2 ^ 64) q.1)

-- the same for a rest that is known by its length
pub stops_at : (number : ℕ) (rest : List ℕ) → 1 ≤ length rest → None ≡ with_digit number (get_or rest 0 0) → decimal_from number rest ≡ None
stops_at number [] le e = absurd (omega arith)
stops_at number (byte ∷ text) le e = stops number byte text e

pub ends_at : (number : ℕ) (rest : List ℕ) → length rest < 1 → number < 2 ^ 64 → decimal_from number rest ≡ Some number
ends_at number [] le lt = digits_end number lt
ends_at number (byte ∷ text) le lt = absurd (omega arith)
