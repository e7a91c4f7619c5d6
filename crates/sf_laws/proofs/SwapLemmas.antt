-- Lists in which two neighbouring parts stand in each other's place.
use Rattle.std.proofs.Common.{◌≡◌, ℕ, ◌+◌, ◌-◌, ◌≤◌, ◌<◌, List, ◌++◌, length, take, drop, take-add, sym, ap, ◌∙◌, subst, append_assoc, arith}
use Rattle.std.proofs.lemmas.List.{length-append, length-take-le, length-drop, take-append-drop, take-append-le, take_all, drop_at}
use Rattle.std.specs.Prelude.{IsPermutation}
use Rattle.std.proofs.lemmas.List.Sorted.{IsPermutation-append_comm, IsPermutation-append_left, IsPermutation-append_right}
use Rattle.sf_types.specs.Values.Marks.{Marked}
use Rattle.sf_types.specs.Values.Edits.{move_front, move_back}
use Rattle.sf_laws.specs.Splices.{IsSameOutside}

-- four parts of a list, joined
four_parts : (a b c : ℕ) (v : List Marked) → take a v ++ take b (drop a v) ++ take c (drop (a + b) v) ++ drop (a + b + c) v ≡ v
four_parts a b c v =
    ap (λ (xs : List Marked). xs ++ take c (drop (a + b) v) ++ drop (a + b + c) v) (sym (take-add a b v))
    ∙ ap (λ (xs : List Marked). xs ++ drop (a + b + c) v) (sym (take-add (a + b) c v))
    ∙ take-append-drop (a + b + c) v

-- the two parts behind the first a items in each other's place
abbrev pub swapped : ℕ → ℕ → ℕ → List Marked → List Marked
swapped a b c v = take a v ++ take c (drop (a + b) v) ++ take b (drop a v) ++ drop (a + b + c) v

last_two : (xs ys zs : List Marked) → IsPermutation (xs ++ ys ++ zs) (xs ++ zs ++ ys)
last_two xs ys zs =
    subst (λ (us : List Marked). IsPermutation us (xs ++ zs ++ ys)) (sym (append_assoc xs ys zs))
    (subst (λ (us : List Marked). IsPermutation (xs ++ (ys ++ zs)) us) (sym (append_assoc xs zs ys))
    (IsPermutation-append_right xs (ys ++ zs) (zs ++ ys) (IsPermutation-append_comm ys zs)))

pub swapped_permutation : (a b c : ℕ) (v : List Marked) → IsPermutation v (swapped a b c v)
swapped_permutation a b c v =
    let first = take a v in
    let left = take b (drop a v) in
    let right = take c (drop (a + b) v) in
    let rest = drop (a + b + c) v in
    subst (λ (us : List Marked). IsPermutation us (swapped a b c v)) (four_parts a b c v)
    (IsPermutation-append_left rest (first ++ left ++ right) (first ++ right ++ left) (last_two first left right))

-- the length of a part that lies in a list
part_length : (a b : ℕ) (v : List Marked) → a + b ≤ length v → length (take b (drop a v)) ≡ b
part_length a b v le = length-take-le b (drop a v) (omega (arith, le, length-drop a v))

pub swapped_outside : (a b c : ℕ) (v : List Marked) → a + b + c ≤ length v → IsSameOutside v (swapped a b c v) a (a + b + c)
swapped_outside a b c v le =
    let front = take a v in
    let left = take c (drop (a + b) v) in
    let right = take b (drop a v) in
    let rest = drop (a + b + c) v in
    let first = length-take-le a v (omega (arith, le)) in
    let second = part_length a b v (omega (arith, le)) in
    let third = part_length (a + b) c v le in
    let two = length-append front left in
    let three = length-append (front ++ left) right in
    let size : length (front ++ left ++ right) ≡ a + b + c = omega (arith, three, two, first, second, third) in
    record {
      before = take-append-le a (front ++ left ++ right) rest (omega (arith, size))
          ∙ take-append-le a (front ++ left) right (omega (arith, two, first))
          ∙ take-append-le a front left (omega (arith, first))
          ∙ take_all a front (omega (arith, first));
      after = drop_at (front ++ left ++ right) rest (a + b + c) size;
    }

-- a move to the front exchanges the part and what it jumps over
pub front-is : (v : List Marked) (amount from to : ℕ) → 1 ≤ to → to < from → move_front v amount from to ≡ swapped (to - 1) (from - to) amount v
front-is v amount from to some lt =
    let place : from - 1 ≡ to - 1 + (from - to) = omega (arith, some, lt) in
    ap (λ k. take (to - 1) v ++ take amount (drop k v) ++ take (from - to) (drop (to - 1) v) ++ drop (k + amount) v) place

-- and so does a move to the back
pub back-is : (v : List Marked) (amount from to : ℕ) → 1 ≤ from → from + amount < to → move_back v amount from to ≡ swapped (from - 1) amount (to - (from + amount)) v
back-is v amount from to some lt =
    let place : from + amount - 1 ≡ from - 1 + amount = omega (arith, some) in
    let end : to - 1 ≡ from - 1 + amount + (to - (from + amount)) = omega (arith, some, lt) in
    ap (λ k. take (from - 1) v ++ take (to - (from + amount)) (drop k v) ++ take amount (drop (from - 1) v) ++ drop (to - 1) v) place
    ∙ ap (λ k. take (from - 1) v ++ take (to - (from + amount)) (drop (from - 1 + amount) v) ++ take amount (drop (from - 1) v) ++ drop k v) end
