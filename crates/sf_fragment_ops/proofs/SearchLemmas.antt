-- Where a pattern stands in bytes, in a part of them, and in zeros.
use Rattle.std.proofs.Common.{◌≡◌, ℕ, zero, suc, ◌+◌, ◌-◌, ◌≤◌, ◌<◌, Bool, true, false, cond, Option, Some, None, List, [], ◌∷◌, ◌++◌, length, take, drop, inl, inr, refl, sym, ap, ◌∙◌, get_or, get_or-take, get_or-drop, arith}
use Rattle.std.specs.Prelude.{◌==◌, ◌&&◌, replicate, nat_eq, find, unwrap_or}
use Rattle.std.specs.List.{list_all, range_with_len, starts_with}
use Rattle.std.proofs.lemmas.Bool.{cases_lt, cases_Bool}
use Rattle.std.proofs.lemmas.Bool.Decides.{Decides-eqb}
use Rattle.std.proofs.lemmas.Slice.Eq.{starts_is}
use Rattle.std.proofs.lemmas.List.{length-append, length-drop, take_at, take-replicate, drop-replicate, length-replicate}
use Rattle.memchr.specs.Find.{OccursAt, Nowhere, NoneBefore, FindsNeedle}
use Rattle.memchr.proofs.lemmas.MatchLemmas.{OccursAt-part, OccursAt-from_part, OccursAt-split}
use Rattle.sf_types.specs.Calls.LocatorCalls.{matches_at, match_offset}
use Rattle.sf_types.proofs.NumberLemmas.{same_number}
use Rattle.sf_chunk_map.specs.Contents.{window}
use Rattle.sf_chunk_map.proofs.PieceLemmas.{length-window}

-- what stands in a part of bytes stands in them
pub occurs_beyond : (bytes pattern : List ℕ) (at count k : ℕ) → at + count ≤ length bytes → OccursAt (window at count bytes) pattern k → OccursAt bytes pattern (at + k)
occurs_beyond bytes pattern at count k within occurs =
    let len : length (window at count bytes) ≡ count = length-window at count bytes within in
    record {
      fits = omega (arith, occurs.fits, len, within);
      reads = λ j low.
          let place : at + k + j ≡ at + (k + j) = omega arith in
          ap (λ (i : ℕ). get_or bytes i 0) place
          ∙ sym (get_or-take count (drop at bytes) (k + j) 0 (omega (arith, occurs.fits, len, low)) ∙ get_or-drop at bytes (k + j) 0)
          ∙ occurs.reads j low;
    }

-- what stands in bytes stands in a part of them that holds all of it
pub occurs_within : (bytes pattern : List ℕ) (at count k : ℕ) → at + count ≤ length bytes → at ≤ k → k + length pattern ≤ at + count → OccursAt bytes pattern k → OccursAt (window at count bytes) pattern (k - at)
occurs_within bytes pattern at count k within least most occurs =
    let len : length (window at count bytes) ≡ count = length-window at count bytes within in
    record {
      fits = omega (arith, len, least, most);
      reads = λ j low.
          let place : at + (k - at + j) ≡ k + j = omega (arith, least) in
          get_or-take count (drop at bytes) (k - at + j) 0 (omega (arith, least, most, low))
          ∙ get_or-drop at bytes (k - at + j) 0
          ∙ ap (λ (i : ℕ). get_or bytes i 0) place
          ∙ occurs.reads j low;
    }

-- where a pattern stands nowhere in a part, it stands nowhere in the bytes up to where it would go on behind the part
pub nowhere_more : (bytes pattern : List ℕ) (start at count : ℕ) → at + count ≤ length bytes → length pattern ≤ count → Nowhere (OccursAt bytes pattern) start at
    → Nowhere (OccursAt (window at count bytes) pattern) 0 (length (window at count bytes) + 1) → Nowhere (OccursAt bytes pattern) start (at + (count + 1 - length pattern))
nowhere_more bytes pattern start at count within room before none k low high occurs =
    elim (cases_lt k at) [
      | inl less ↦ before k low less occurs
      | inr least ↦
          none (k - at) (omega arith) (omega (arith, length-window at count bytes within, least, high, room))
          (occurs_within bytes pattern at count k within least (omega (arith, least, high, room)) occurs)
    ]

-- the first place in a part, where there is none before the part, is the first of all
pub first_beyond : (bytes pattern : List ℕ) (start at count k : ℕ) → at + count ≤ length bytes → start ≤ at → Nowhere (OccursAt bytes pattern) start at
    → NoneBefore (OccursAt (window at count bytes) pattern) 0 (length (window at count bytes) + 1) k → OccursAt (window at count bytes) pattern k
    → NoneBefore (OccursAt bytes pattern) start (length bytes + 1) (at + k) × OccursAt bytes pattern (at + k)
first_beyond bytes pattern start at count k within least before first occurs =
    let len : length (window at count bytes) ≡ count = length-window at count bytes within in
    let there = occurs_beyond bytes pattern at count k within occurs in (
      record {
        low = omega (arith, least);
        high = omega (arith, there.fits);
        before = λ j low high here.
            elim (cases_lt j at) [
              | inl less ↦ before j low less here
              | inr more ↦
                  first.before (j - at) (omega arith) (omega (arith, more, high))
                  (occurs_within bytes pattern at count j within more (omega (arith, more, high, occurs.fits, len)) here)
            ];
      },
      there,
    )

-- no pattern stands where its bytes would end behind the last one
pub nowhere_behind : (bytes pattern : List ℕ) (start at : ℕ) → length bytes < at + length pattern → Nowhere (OccursAt bytes pattern) start at → Nowhere (OccursAt bytes pattern) start (length bytes + 1)
nowhere_behind bytes pattern start at past before k low high occurs =
    elim (cases_lt k at) [
      | inl less ↦ before k low less occurs
      | inr least ↦ omega (arith, least, past, occurs.fits)
    ]

-- bytes that are all zero
pub all_zero : (bytes : List ℕ) → list_all (λ (byte : ℕ). byte == 0) bytes ≡ true → bytes ≡ replicate (length bytes) 0
all_zero [] all = refl
all_zero (b ∷ bs) all = go (b == 0) refl (all_zero bs) all
  where
    go : (t : Bool) → (b == 0) ≡ t → (list_all (λ (byte : ℕ). byte == 0) bs ≡ true → bs ≡ replicate (length bs) 0) → (t && list_all (λ (byte : ℕ). byte == 0) bs) ≡ true → b ∷ bs ≡ 0 ∷ replicate (length bs) 0
    go true is more rest = ap (λ (x : ℕ). x ∷ bs) (same_number b 0 is) ∙ ap (λ (xs : List ℕ). 0 ∷ xs) (more rest)
    go false is more rest = absurd (cc (rest))

pub zeros_all : (n : ℕ) → list_all (λ (byte : ℕ). byte == 0) (replicate n 0) ≡ true
zeros_all zero = refl
zeros_all (suc n) = zeros_all n

-- zeros stand first in zeros
pub zeros_first : (pattern : List ℕ) (zeros : ℕ) → length pattern ≤ zeros → true ≡ list_all (λ (byte : ℕ). byte == 0) pattern → FindsNeedle (replicate zeros 0) pattern 0 (Some 0)
zeros_first pattern zeros room all =
    let len : length (replicate {A = ℕ} zeros 0) ≡ zeros = length-replicate {A = ℕ} zeros 0 in (
      record { low = omega arith; high = omega arith; before = λ k low high occurs. absurd (omega (arith, low, high)) },
      OccursAt-from_part (replicate zeros 0) pattern 0 (omega (arith, len, room))
          (take-replicate (length pattern) zeros 0 room ∙ sym (all_zero pattern (sym all))),
    )

-- another pattern stands nowhere in zeros
pub zeros_nowhere : (pattern : List ℕ) (zeros : ℕ) → false ≡ list_all (λ (byte : ℕ). byte == 0) pattern → FindsNeedle (replicate zeros 0) pattern 0 None
zeros_nowhere pattern zeros other k low high occurs =
    let fits : length pattern ≤ zeros - k = omega (arith, occurs.fits, length-replicate {A = ℕ} zeros 0) in
    let is : pattern ≡ replicate (length pattern) 0 =
    sym (OccursAt-part (replicate zeros 0) pattern k occurs)
    ∙ ap (take (length pattern)) (drop-replicate k zeros 0)
    ∙ take-replicate (length pattern) (zeros - k) 0 fits in
    let all : list_all (λ (byte : ℕ). byte == 0) pattern ≡ true = ap (λ (xs : List ℕ). list_all (λ (byte : ℕ). byte == 0) xs) is ∙ zeros_all (length pattern) in
    cc (other, all)

-- a pattern stands at an offset where it occurs there
matches : (bytes pattern : List ℕ) (at : ℕ) → OccursAt bytes pattern at → starts_with nat_eq (drop at bytes) pattern ≡ true
matches bytes pattern at occurs =
    (starts_is Decides-eqb (drop at bytes) pattern (starts_with nat_eq (drop at bytes) pattern) refl).1 (drop (at + length pattern) bytes) (OccursAt-split bytes pattern at occurs)

occurs : (bytes pattern : List ℕ) (at : ℕ) → 1 ≤ length pattern → starts_with nat_eq (drop at bytes) pattern ≡ true → OccursAt bytes pattern at
occurs bytes pattern at some is =
    let rest = drop (length pattern) (drop at bytes) in
    let split : drop at bytes ≡ pattern ++ rest = (starts_is Decides-eqb (drop at bytes) pattern (starts_with nat_eq (drop at bytes) pattern) refl).0 is in
    OccursAt-from_part bytes pattern at
    (omega (arith, some, ap (λ (xs : List ℕ). length xs) split, length-append pattern rest, length-drop at bytes))
    (ap (take (length pattern)) split ∙ take_at pattern rest (length pattern) refl)

-- a number of a range that passes a test first, and none
find_first : (test : ℕ → Bool) (a n k : ℕ) → a ≤ k → k < a + n → test k ≡ true → ((j : ℕ) → a ≤ j → j < k → test j ≡ false) → find test (range_with_len a n) ≡ Some k
find_first test a zero k low high is before = absurd (omega (arith, low, high))
find_first test a (suc n) k low high is before =
    elim (cases_lt a k) [
      | inl less ↦
          ap (λ (t : Bool). cond t (Some a) (find test (range_with_len (a + 1) n))) (before a (omega arith) less)
          ∙ find_first test (a + 1) n k (omega (arith, less)) (omega (arith, high)) is (λ j least most. before j (omega (arith, least)) most)
      | inr least ↦
          let same : k ≡ a = omega (arith, least, low) in
          ap (λ (t : Bool). cond t (Some a) (find test (range_with_len (a + 1) n))) (sym (ap test same) ∙ is) ∙ ap (λ (x : ℕ). Some x) (sym same)
    ]

find_none : (test : ℕ → Bool) (a n : ℕ) → ((j : ℕ) → a ≤ j → j < a + n → test j ≡ false) → find test (range_with_len a n) ≡ None
find_none test a zero before = refl
find_none test a (suc n) before =
    ap (λ (t : Bool). cond t (Some a) (find test (range_with_len (a + 1) n))) (before a (omega arith) (omega arith))
    ∙ find_none test (a + 1) n (λ j least most. before j (omega (arith, least)) (omega (arith, most)))

-- where a pattern doesn't occur it doesn't stand
no_match : (bytes pattern : List ℕ) (offset : ℕ) → 1 ≤ length pattern → (OccursAt bytes pattern (offset - 1) → ⊥) → matches_at bytes pattern offset ≡ false
no_match bytes pattern offset some none =
    elim (cases_Bool (matches_at bytes pattern offset)) [
      | inl is ↦ absurd (none (occurs bytes pattern (offset - 1) some is))
      | inr is ↦ is
    ]

-- the offset of the first place, counted from 1
pub offset_of_first : (bytes pattern : List ℕ) (offset k : ℕ) → 1 ≤ length pattern → 1 ≤ offset → NoneBefore (OccursAt bytes pattern) (offset - 1) (length bytes + 1) k × OccursAt bytes pattern k → k + 1 ≡ match_offset bytes pattern offset
offset_of_first bytes pattern offset k some least first =
    let back : k + 1 - 1 ≡ k = omega arith in
    let is : matches_at bytes pattern (k + 1) ≡ true = ap (λ (i : ℕ). starts_with nat_eq (drop i bytes) pattern) back ∙ matches bytes pattern k first.1 in
    sym (
    ap (λ (found : Option ℕ). unwrap_or found 0)
    (find_first (matches_at bytes pattern) offset (length bytes + 1 - offset) (k + 1) (omega (arith, first.0.low, least)) (omega (arith, first.1.fits, some, first.0.low, least)) is
    (λ j low high. no_match bytes pattern j some (λ there. first.0.before (j - 1) (omega (arith, low)) (omega (arith, low, high, least)) there)))
    )

-- 0 where there is none
pub offset_of_none : (bytes pattern : List ℕ) (offset : ℕ) → 1 ≤ length pattern → 1 ≤ offset → Nowhere (OccursAt bytes pattern) (offset - 1) (length bytes + 1) → 0 ≡ match_offset bytes pattern offset
offset_of_none bytes pattern offset some least none =
    sym (
    ap (λ (found : Option ℕ). unwrap_or found 0)
    (find_none (matches_at bytes pattern) offset (length bytes + 1 - offset)
    (λ j low high. no_match bytes pattern j some (λ there. none (j - 1) (omega (arith, low)) (omega (arith, low, high, least)) there)))
    )

-- no pattern stands from an offset behind the last byte on, or where it is longer than the bytes
pub none_past_end : (bytes pattern : List ℕ) (offset : ℕ) → 1 ≤ length pattern → 1 ≤ offset → length bytes < offset → 0 ≡ match_offset bytes pattern offset
none_past_end bytes pattern offset some least past =
    offset_of_none bytes pattern offset some least (λ k low high occurs. omega (arith, low, occurs.fits, some, past, least))

pub none_longer : (bytes pattern : List ℕ) (offset : ℕ) → 1 ≤ length pattern → 1 ≤ offset → length bytes < length pattern → 0 ≡ match_offset bytes pattern offset
none_longer bytes pattern offset some least longer =
    offset_of_none bytes pattern offset some least (λ k low high occurs. omega (arith, occurs.fits, longer))
