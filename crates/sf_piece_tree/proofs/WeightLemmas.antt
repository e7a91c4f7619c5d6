-- Where units with some weight stand, in two lists and in the nodes of a tree.
use Rattle.std.proofs.Common.{◌≡◌, ℕ, ◌+◌, ◌-◌, ◌≤◌, ◌<◌, ◌&&◌, nat_lt, cond, Bool, true, false, List, [], ◌∷◌, ◌++◌, Option, Some, None, length, inl, inr, refl, sym, ap, ◌∙◌, arith, length-append}
use Rattle.std.specs.Prelude.{IfSome}
use Rattle.std.specs.Option.{option_map, option_or}
use Rattle.std.proofs.lemmas.Bool.{cases_lt, and_left, and_right, lt-ltb, le-ltb}
use Rattle.std.proofs.lemmas.List.Sums.{sum_by-cons}
use Rattle.sf_types.specs.Values.Marks.{Marked}
use Rattle.sf_piece_tree.specs.Contents.{joined_content, weight_of}
use Rattle.sf_piece_tree.specs.Weights.{weighty_byte}

-- a number that may be there, with another added
abbrev pub beyond : ℕ → Option ℕ → Option ℕ
beyond k found = option_map (λ n. k + n) found

beyond-zero : (found : Option ℕ) → found ≡ beyond 0 found
beyond-zero None = refl
beyond-zero (Some n) = ap (λ (k : ℕ). Some k) (omega arith)

beyond-add : (j k : ℕ) (found : Option ℕ) → beyond j (beyond k found) ≡ beyond (j + k) found
beyond-add j k None = refl
beyond-add j k (Some n) = ap (λ (m : ℕ). Some m) (omega arith)

beyond-or : (j k : ℕ) (first second : Option ℕ) → beyond j (option_or first (beyond k second)) ≡ option_or (beyond j first) (beyond (j + k) second)
beyond-or j k None second = beyond-add j k second
beyond-or j k (Some n) second = refl

first-or : (t : Bool) (n : ℕ) (rest : Option ℕ) → cond t (Some n) rest ≡ option_or (cond t (Some n) None) rest
first-or true n rest = refl
first-or false n rest = refl

-- in two lists of units
pub weighty-append : {P : Type 0} (content : P → List Marked) (weight : P → ℕ) (xs ys : List P) (at : ℕ) → weighty_byte content weight (xs ++ ys) at ≡ option_or (weighty_byte content weight xs at) (beyond (length (joined_content content xs)) (weighty_byte content weight ys (at - length (joined_content content xs))))
weighty-append content weight [] ys at =
    let same : at - 0 ≡ at = omega arith in
    ap (λ n. weighty_byte content weight ys n) (sym same) ∙ beyond-zero (weighty_byte content weight ys (at - 0))
weighty-append content weight (x ∷ xs) ys at =
    let size = length (content x) in
    let more = length (joined_content content xs) in
    let all : length (content x ++ joined_content content xs) ≡ size + more = length-append (content x) (joined_content content xs) in
    let less : at - size - more ≡ at - (size + more) = omega arith in
    let rest : beyond size (weighty_byte content weight (xs ++ ys) (at - size)) ≡ option_or (beyond size (weighty_byte content weight xs (at - size))) (beyond (length (content x ++ joined_content content xs)) (weighty_byte content weight ys (at - length (content x ++ joined_content content xs)))) =
    ap (beyond size) (weighty-append content weight xs ys (at - size))
    ∙ beyond-or size more (weighty_byte content weight xs (at - size)) (weighty_byte content weight ys (at - size - more))
    ∙ ap (λ n. option_or (beyond size (weighty_byte content weight xs (at - size))) (beyond (size + more) (weighty_byte content weight ys n))) less
    ∙ ap (λ n. option_or (beyond size (weighty_byte content weight xs (at - size))) (beyond n (weighty_byte content weight ys (at - n)))) (sym all) in
    elim (nat_lt at size && nat_lt 0 (weight x)) as (λ t. cond t (Some at) (beyond size (weighty_byte content weight (xs ++ ys) (at - size))) ≡ option_or (cond t (Some at) (beyond size (weighty_byte content weight xs (at - size)))) (beyond (length (content x ++ joined_content content xs)) (weighty_byte content weight ys (at - length (content x ++ joined_content content xs))))) [
      | true ↦ refl
      | false ↦ rest
    ]

-- in units without weight
pub weighty-light : {P : Type 0} (content : P → List Marked) (weight : P → ℕ) (units : List P) (at : ℕ) → weight_of weight units ≡ 0 → weighty_byte content weight units at ≡ None
weighty-light content weight [] at light = refl
weighty-light content weight (unit ∷ units) at light =
    let sum = sum_by-cons weight unit units in
    let none : weight unit ≤ 0 = omega (arith, light, sum) in
    rw (and_right (nat_lt at (length (content unit))) (nat_lt 0 (weight unit)) (le-ltb 0 (weight unit) none), weighty-light content weight units (at - length (content unit)) (omega (arith, light, sum)))
    refl

-- behind all units
pub weighty-behind : {P : Type 0} (content : P → List Marked) (weight : P → ℕ) (units : List P) (at : ℕ) → length (joined_content content units) ≤ at → weighty_byte content weight units at ≡ None
weighty-behind content weight [] at least = refl
weighty-behind content weight (unit ∷ units) at least =
    let sizes = length-append (content unit) (joined_content content units) in
    rw (and_left (nat_lt at (length (content unit))) (nat_lt 0 (weight unit)) (le-ltb at (length (content unit)) (omega (arith, least, sizes))), weighty-behind content weight units (at - length (content unit)) (omega (arith, least, sizes)))
    refl

beyond-less : (size more all : ℕ) (found : Option ℕ) → size + more ≤ all → IfSome found (λ n. n < more) → IfSome (beyond size found) (λ n. n < all)
beyond-less size more all None most less = tt
beyond-less size more all (Some n) most less = omega (arith, most, less)

-- such a byte is one of the units'
pub weighty-within : {P : Type 0} (content : P → List Marked) (weight : P → ℕ) (units : List P) (at : ℕ) → IfSome (weighty_byte content weight units at) (λ n. n < length (joined_content content units))
weighty-within content weight [] at = tt
weighty-within content weight (unit ∷ units) at =
    let size = length (content unit) in
    let all = length (content unit ++ joined_content content units) in
    let sizes : all ≡ size + length (joined_content content units) = length-append (content unit) (joined_content content units) in
    let found = weighty_byte content weight units (at - size) in
    let rest : IfSome (beyond size found) (λ n. n < all) = beyond-less size (length (joined_content content units)) all found (omega (arith, sizes)) (weighty-within content weight units (at - size)) in
    elim (cases_lt at size) [
      | inl within ↦
          rw (lt-ltb at size within)
          (elim (nat_lt 0 (weight unit)) as (λ t. IfSome (cond t (Some at) (beyond size found)) (λ n. n < all)) [ true ↦ omega (arith, within, sizes) | false ↦ rest ])
      | inr least ↦ rw (le-ltb at size least) rest
    ]

-- in one unit
pub weighty-one : {P : Type 0} (content : P → List Marked) (weight : P → ℕ) (unit : P) (at : ℕ) → at < length (content unit) → 0 < weight unit → weighty_byte content weight (unit ∷ []) at ≡ Some at
weighty-one content weight unit at within some = rw (lt-ltb at (length (content unit)) within, lt-ltb 0 (weight unit) some) refl

-- in the units of a node
pub weighty-node : {P : Type 0} (content : P → List Marked) (weight : P → ℕ) (xs : List P) (unit : P) (ys : List P) (at : ℕ)
    → weighty_byte content weight (xs ++ unit ∷ ys) at
    ≡ option_or (weighty_byte content weight xs at) (beyond (length (joined_content content xs)) (option_or (weighty_byte content weight (unit ∷ []) (at - length (joined_content content xs))) (beyond (length (content unit)) (weighty_byte content weight ys (at - length (joined_content content xs) - length (content unit))))))
weighty-node content weight xs unit ys at =
    let before = length (joined_content content xs) in
    weighty-append content weight xs (unit ∷ ys) at
    ∙ ap (λ (found : Option ℕ). option_or (weighty_byte content weight xs at) (beyond before found)) (first-or (nat_lt (at - before) (length (content unit)) && nat_lt 0 (weight unit)) (at - before) (beyond (length (content unit)) (weighty_byte content weight ys (at - before - length (content unit)))))

-- what is found in a node: in its left side, in its unit, or beyond
pub found-left : {P : Type 0} (content : P → List Marked) (weight : P → ℕ) (xs : List P) (unit : P) (ys : List P) (at n : ℕ) → weighty_byte content weight xs at ≡ Some n → Some n ≡ weighty_byte content weight (xs ++ unit ∷ ys) at
found-left content weight xs unit ys at n left = rw (weighty-node content weight xs unit ys at, left) refl

pub found-unit : {P : Type 0} (content : P → List Marked) (weight : P → ℕ) (xs : List P) (unit : P) (ys : List P) (at n : ℕ) → weighty_byte content weight xs at ≡ None
    → weighty_byte content weight (unit ∷ []) (at - length (joined_content content xs)) ≡ Some n → Some (length (joined_content content xs) + n) ≡ weighty_byte content weight (xs ++ unit ∷ ys) at
found-unit content weight xs unit ys at n left here = rw (weighty-node content weight xs unit ys at, left, here) refl

pub found-right : {P : Type 0} (content : P → List Marked) (weight : P → ℕ) (xs : List P) (unit : P) (ys : List P) (at : ℕ) (found : Option ℕ) → weighty_byte content weight xs at ≡ None
    → weighty_byte content weight (unit ∷ []) (at - length (joined_content content xs)) ≡ None → weighty_byte content weight ys (at - length (joined_content content xs) - length (content unit)) ≡ found
    → beyond (length (joined_content content xs) + length (content unit)) found ≡ weighty_byte content weight (xs ++ unit ∷ ys) at
found-right content weight xs unit ys at found left here right =
    rw (weighty-node content weight xs unit ys at, left, here, right)
    (sym (beyond-add (length (joined_content content xs)) (length (content unit)) found))
