-- Which births the bytes of pieces name, and how often.
use Rattle.std.proofs.Common.{◌≡◌, ℕ, zero, suc, ◌+◌, ◌-◌, ◌≤◌, ◌<◌, Bool, true, false, cond, List, [], ◌∷◌, ◌++◌, length, take, drop, refl, sym, ap, ◌∙◌, arith}
use Rattle.std.specs.Prelude.{◌==◌, replicate}
use Rattle.std.proofs.lemmas.List.Sums.{sum_by-cons, sum_by-append}
use Rattle.std.proofs.Common.{Option, Some}
use Rattle.sf_types.proofs.NumberLemmas.{own_number, same_number}
use Rattle.sf_types.specs.Values.Marks.{Stored, Marked, zero_byte, fresh_byte, fresh_bytes}
use Rattle.sf_types.specs.Space.Cuts.{stored_bytes, stored_bytes_from}
use Rattle.sf_chunk_map.specs.Contents.{ContentPart, IsPart, window, bytes_of_part}
use Rattle.sf_chunk_map.specs.Inside.Counts.{names_birth, bytes_of_birth, is_birth}
use Rattle.sf_chunk_map.proofs.PieceLemmas.{length-window, window-back, length_part}

-- the bytes of a birth in two lists, joined
pub birth-append : (birth : ℕ) (xs ys : List Marked) → bytes_of_birth birth (xs ++ ys) ≡ bytes_of_birth birth xs + bytes_of_birth birth ys
birth-append birth xs ys = sum_by-append (λ (m : Marked). cond (names_birth birth m.mark) 1 0) xs ys

take_stored : (birth index k : ℕ) (bytes : List ℕ) → take k (stored_bytes_from birth index bytes) ≡ stored_bytes_from birth index (take k bytes)
take_stored birth index zero bytes = refl
take_stored birth index (suc k) [] = refl
take_stored birth index (suc k) (b ∷ bs) = ap (λ (xs : List Marked). record { byte = b; mark = Stored birth index } ∷ xs) (take_stored birth (index + 1) k bs)

drop_stored : (birth index k : ℕ) (bytes : List ℕ) → drop k (stored_bytes_from birth index bytes) ≡ stored_bytes_from birth (index + k) (drop k bytes)
drop_stored birth index zero bytes = ap (λ (i : ℕ). stored_bytes_from birth i bytes) (omega arith)
drop_stored birth index (suc k) [] = refl
drop_stored birth index (suc k) (b ∷ bs) = drop_stored birth (index + 1) k bs ∙ ap (λ (i : ℕ). stored_bytes_from birth i (drop k bs)) (omega arith)

-- a window of stored bytes is stored by the same birth
pub stored-window : (birth from len : ℕ) (bytes : List ℕ) → window from len (stored_bytes birth bytes) ≡ stored_bytes_from birth from (window from len bytes)
stored-window birth from len bytes =
    ap (take len) (drop_stored birth 0 from bytes) ∙ take_stored birth (0 + from) len (drop from bytes)
    ∙ ap (λ (i : ℕ). stored_bytes_from birth i (window from len bytes)) (omega arith)

births_stored : (b birth index : ℕ) (bytes : List ℕ) → bytes_of_birth b (stored_bytes_from birth index bytes) ≡ cond (birth == b) (length bytes) 0
births_stored b birth index [] = elim (birth == b) as (λ t. 0 ≡ cond {A = ℕ} t 0 0) [ true ↦ refl | false ↦ refl ]
births_stored b birth index (x ∷ xs) =
    sum_by-cons (λ (m : Marked). cond (names_birth b m.mark) 1 0) (record { byte = x; mark = Stored birth index }) (stored_bytes_from birth (index + 1) xs)
    ∙ ap (λ (n : ℕ). cond (birth == b) 1 0 + n) (births_stored b birth (index + 1) xs)
    ∙ elim (birth == b) as (λ t. cond {A = ℕ} t 1 0 + cond {A = ℕ} t (length xs) 0 ≡ cond {A = ℕ} t (suc (length xs)) 0) [ true ↦ omega arith | false ↦ refl ]

-- from an index of a part on its bytes are all of its birth
pub births_in_part : (b from : ℕ) (part : ContentPart) → IsPart part → from ≤ part.len → bytes_of_birth b (drop from (bytes_of_part part)) ≡ cond (part.content.birth == b) (part.len - from) 0
births_in_part b from part is most =
    let birth = part.content.birth in
    let bytes = part.content.bytes in
    ap (bytes_of_birth b) (sym (window-back part.from part.len from (stored_bytes birth bytes) most) ∙ stored-window birth (part.from + from) (part.len - from) bytes)
    ∙ births_stored b birth (part.from + from) (window (part.from + from) (part.len - from) bytes)
    ∙ ap (λ (n : ℕ). cond (birth == b) n 0) (length-window (part.from + from) (part.len - from) bytes (omega (arith, is.within, most)))

-- zero bytes are of no birth
pub births_in_zeros : (b from len : ℕ) → bytes_of_birth b (drop from (replicate len zero_byte)) ≡ 0
births_in_zeros b zero zero = refl
births_in_zeros b zero (suc len) = omega (arith, sum_by-cons (λ (m : Marked). cond (names_birth b m.mark) 1 0) zero_byte (replicate len zero_byte), births_in_zeros b zero len)
births_in_zeros b (suc from) zero = refl
births_in_zeros b (suc from) (suc len) = births_in_zeros b from len

-- fresh bytes are of no birth
pub births_in_fresh : (b from : ℕ) (bytes : List ℕ) → bytes_of_birth b (drop from (fresh_bytes bytes)) ≡ 0
births_in_fresh b zero [] = refl
births_in_fresh b zero (x ∷ xs) = omega (arith, sum_by-cons (λ (m : Marked). cond (names_birth b m.mark) 1 0) (fresh_byte x) (fresh_bytes xs), births_in_fresh b zero xs)
births_in_fresh b (suc from) [] = refl
births_in_fresh b (suc from) (x ∷ xs) = births_in_fresh b from xs

-- of a part and its length
pub births_in_stored : (b from : ℕ) (part : ContentPart) → IsPart part → from ≤ length (bytes_of_part part) → bytes_of_birth b (drop from (bytes_of_part part)) ≡ cond (part.content.birth == b) (length (bytes_of_part part) - from) 0
births_in_stored b from part is most =
    births_in_part b from part is (omega (arith, most, length_part part is))
    ∙ ap (λ (n : ℕ). cond (part.content.birth == b) (n - from) 0) (sym (length_part part is))

-- the bytes of the birth that is there
pub own_bytes : (found : Option ℕ) (birth n m : ℕ) → found ≡ Some birth → m ≡ cond (is_birth birth found) n 0 → m ≡ n
own_bytes found birth n m is bytes =
    bytes ∙ ap (λ (o : Option ℕ). cond (is_birth birth o) n 0) is ∙ ap (λ (t : Bool). cond t n 0) (own_number birth)

-- a birth with bytes is the one that is there
pub named_birth : (found : Option ℕ) (birth b n m : ℕ) → found ≡ Some birth → m ≡ cond (is_birth b found) n 0 → 0 < m → birth ≡ b
named_birth found birth b n m is bytes some = go (birth == b) refl
  where
    same : m ≡ cond (birth == b) n 0
    same = bytes ∙ ap (λ (o : Option ℕ). cond (is_birth b o) n 0) is

    go : (t : Bool) → (birth == b) ≡ t → birth ≡ b
    go true e = same_number birth b e
    go false e = let none : m ≡ 0 = same ∙ ap (λ (t : Bool). cond t n 0) e in absurd (omega (arith, some, none))
