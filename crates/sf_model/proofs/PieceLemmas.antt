-- A list in pieces.
use Rattle.std.proofs.Common.{◌≡◌, ℕ, ◌+◌, ◌-◌, ◌<◌, min, List, [], ◌∷◌, ◌++◌, length, get_or, take, drop, refl, sym, ap, ◌∙◌, append_assoc, arith, inl, inr}
use Rattle.std.specs.List.{concat}
use Rattle.std.proofs.lemmas.Bool.{cases_lt}
use Rattle.std.proofs.lemmas.List.{append-nil, take-append-le, drop-append-le, take_all, drop_all, take_min, drop_min, drop_more, take_more, take-append-drop}
use Rattle.std.proofs.Math.Seq.{take-append-add, drop-append-add}
use Rattle.sf_types.proofs.ListLemmas.{concat-append}

pub take-over : (n : ℕ) (xs ys : List ℕ) → take n (xs ++ ys) ≡ take n xs ++ take (n - length xs) ys
take-over n xs ys =
    elim (cases_lt n (length xs)) [
      | inl lt ↦
          let none : n - length xs ≡ 0 = omega arith in
          take-append-le n xs ys (omega arith) ∙ sym (append-nil (take n xs)) ∙ ap (λ k. take n xs ++ take k ys) (sym none)
      | inr le ↦
          let sum : n ≡ length xs + (n - length xs) = omega arith in
          ap (λ k. take k (xs ++ ys)) sum ∙ take-append-add xs ys (n - length xs) ∙ ap (λ (zs : List ℕ). zs ++ take (n - length xs) ys) (sym (take_all n xs le))
    ]

pub drop-over : (n : ℕ) (xs ys : List ℕ) → drop n (xs ++ ys) ≡ drop n xs ++ drop (n - length xs) ys
drop-over n xs ys =
    elim (cases_lt n (length xs)) [
      | inl lt ↦
          let none : n - length xs ≡ 0 = omega arith in
          drop-append-le n xs ys (omega arith) ∙ ap (λ k. drop n xs ++ drop k ys) (sym none)
      | inr le ↦
          let sum : n ≡ length xs + (n - length xs) = omega arith in
          ap (λ k. drop k (xs ++ ys)) sum ∙ drop-append-add xs ys (n - length xs) ∙ ap (λ (zs : List ℕ). zs ++ drop (n - length xs) ys) (sym (drop_all n xs le))
    ]

-- one piece is read, and then the rest
read-one : (c r : List ℕ) (skip left from moved : ℕ) → from ≡ min skip (length c) → moved ≡ min left (length (drop from c))
    → take left (drop skip (c ++ r)) ≡ take moved (drop from c) ++ take (left - moved) (drop (skip - from) r)
read-one c r skip left from moved from-is moved-is =
    let dropped : drop from c ≡ drop skip c = ap (λ k. drop k c) from-is ∙ drop_min skip c in
    let taken : take moved (drop from c) ≡ take left (drop from c) = ap (λ k. take k (drop from c)) moved-is ∙ take_min left (drop from c) in
    let skips : skip - from ≡ skip - length c = omega arith in
    let lefts : left - moved ≡ left - length (drop from c) = omega arith in
    ap (take left) (drop-over skip c r)
    ∙ take-over left (drop skip c) (drop (skip - length c) r)
    ∙ rw (← dropped, taken, skips, lefts) refl

-- a loop over the pieces goes on by one
pub read_more : (out c : List ℕ) (pieces : List (List ℕ)) (total : List ℕ) (skip left from moved : ℕ) → from ≡ min skip (length c) → moved ≡ min left (length (drop from c))
    → out ++ take left (drop skip (concat (c ∷ pieces))) ≡ total
    → (out ++ take moved (drop from c)) ++ take (left - moved) (drop (skip - from) (concat pieces)) ≡ total
read_more out c pieces total skip left from moved from-is moved-is so_far =
    append_assoc out (take moved (drop from c)) _
    ∙ ap (λ (xs : List ℕ). out ++ xs) (sym (read-one c (concat pieces) skip left from moved from-is moved-is))
    ∙ so_far

-- the pieces that stay, and one for all that comes behind them
pub replaced : (pieces : List (List ℕ)) (kept : ℕ) (buffer : List ℕ) → concat (take kept pieces ++ (concat (drop kept pieces) ++ buffer) ∷ []) ≡ concat pieces ++ buffer
replaced pieces kept buffer =
    concat-append (take kept pieces) ((concat (drop kept pieces) ++ buffer) ∷ [])
    ∙ ap (λ (xs : List ℕ). concat (take kept pieces) ++ xs) (append-nil (concat (drop kept pieces) ++ buffer))
    ∙ sym (append_assoc (concat (take kept pieces)) (concat (drop kept pieces)) buffer)
    ∙ ap (λ (xs : List ℕ). xs ++ buffer) (sym (concat-append (take kept pieces) (drop kept pieces)) ∙ ap concat (take-append-drop kept pieces))

-- the same at the loop's own piece
pub read_on : (pieces : List (List ℕ)) (i : ℕ) (x part rest out total : List ℕ) (skip left from moved : ℕ) → i < length pieces → x ≡ get_or pieces i x → part ≡ x
    → from ≡ min skip (length part) → rest ≡ drop from part → moved ≡ min left (length rest)
    → out ++ take left (drop skip (concat (drop i pieces))) ≡ total
    → (out ++ take moved rest) ++ take (left - moved) (drop (skip - from) (concat (drop (i + 1) pieces))) ≡ total
read_on pieces i x part rest out total skip left from moved lt x-is part-is from-is rest-is moved-is so_far =
    let next : drop i pieces ≡ x ∷ drop (i + 1) pieces = drop_more pieces i x lt ∙ ap (λ (y : List ℕ). y ∷ drop (i + 1) pieces) (sym x-is) in
    let from-x : from ≡ min skip (length x) = from-is ∙ ap (λ (y : List ℕ). min skip (length y)) part-is in
    let rest-x : rest ≡ drop from x = rest-is ∙ ap (drop from) part-is in
    let moved-x : moved ≡ min left (length (drop from x)) = moved-is ∙ ap (λ (y : List ℕ). min left (length y)) rest-x in
    let before : out ++ take left (drop skip (concat (x ∷ drop (i + 1) pieces))) ≡ total =
    ap (λ (ys : List (List ℕ)). out ++ take left (drop skip (concat ys))) (sym next) ∙ so_far in
    rw rest-x (read_more out x (drop (i + 1) pieces) total skip left from moved from-x moved-x before)

-- the first pieces and one more
pub joined_more : (pieces : List (List ℕ)) (i : ℕ) (x : List ℕ) → i < length pieces → x ≡ get_or pieces i x → concat (take (i + 1) pieces) ≡ concat (take i pieces) ++ x
joined_more pieces i x lt x-is =
    ap concat (take_more pieces i x lt ∙ ap (λ (y : List ℕ). take i pieces ++ y ∷ []) (sym x-is))
    ∙ concat-append (take i pieces) (x ∷ [])
    ∙ ap (λ (xs : List ℕ). concat (take i pieces) ++ xs) (append-nil x)
