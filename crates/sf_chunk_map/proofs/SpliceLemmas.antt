-- A value cut in three, and put together with another in the place of its middle.
use Rattle.std.proofs.Common.{◌≡◌, ℕ, ◌+◌, ◌-◌, ◌≤◌, List, ◌++◌, length, take, drop, ap, ◌∙◌, arith}
use Rattle.std.proofs.lemmas.List.{take-append-drop, drop-drop, length-append, length-take-le, length-drop}
use Rattle.sf_types.specs.declared.limits.TheConstants.{OBJECT_BYTES}
use Rattle.sf_types.specs.Values.Marks.{Marked}
use Rattle.sf_chunk_map.specs.declared.parts.Piece.{Piece}
use Rattle.sf_chunk_map.specs.Contents.{window}
use Rattle.sf_chunk_map.specs.Pieces.{marked_in}
use Rattle.sf_chunk_map.specs.Inside.Counts.{Counts, bytes_of_birth, count_at, AreCounts}
use Rattle.sf_chunk_map.specs.Inside.Trees.{IsMap}
use Rattle.sf_chunk_map.proofs.BirthLemmas.{birth-append}

-- the bytes of a birth before a window, in it and behind it
pub in_three : (b at len : ℕ) (xs : List Marked) → bytes_of_birth b (take at xs) + bytes_of_birth b (window at len xs) + bytes_of_birth b (drop (at + len) xs) ≡ bytes_of_birth b xs
in_three b at len xs =
    omega (
      arith,
      birth-append b (take at xs) (drop at xs),
      ap (bytes_of_birth b) (take-append-drop at xs),
      birth-append b (take len (drop at xs)) (drop len (drop at xs)),
      ap (bytes_of_birth b) (take-append-drop len (drop at xs)),
      ap (bytes_of_birth b) (drop-drop len at xs),
    )

-- a tree with others in the place of its middle is a map, where its numbers are those of the old one with the others' more
-- and the middle's fewer
pub spliced_is_map : (old : List Marked) (at len : ℕ) (front with tail middle both all : List Piece) (before raised after : Counts)
    → at + len ≤ length old → length old - len + length (marked_in with) ≤ OBJECT_BYTES
    → marked_in front ≡ take at old → marked_in middle ≡ window at len old → marked_in tail ≡ drop (at + len) old → marked_in both ≡ marked_in front ++ marked_in with → marked_in all ≡ marked_in both ++ marked_in tail
    → AreCounts before old → ((b : ℕ) → count_at raised b ≡ count_at before b + bytes_of_birth b (marked_in with))
    → ((b : ℕ) → count_at after b + bytes_of_birth b (marked_in middle) ≡ count_at raised b) → IsMap all after
spliced_is_map old at len front with tail middle both all before raised after within most front_is middle_is tail_is both_is all_is counts more fewer =
    let marked : marked_in all ≡ (take at old ++ marked_in with) ++ drop (at + len) old =
    all_is
    ∙ ap (λ (xs : List Marked). xs ++ marked_in tail) both_is
    ∙ ap (λ (xs : List Marked). (xs ++ marked_in with) ++ marked_in tail) front_is
    ∙ ap (λ (xs : List Marked). (take at old ++ marked_in with) ++ xs) tail_is in
    record {
      most = omega (
        arith,
        within,
        most,
        ap (λ (xs : List Marked). length xs) marked,
        length-append (take at old ++ marked_in with) (drop (at + len) old),
        length-append (take at old) (marked_in with),
        length-take-le at old (omega (arith, within)),
        length-drop (at + len) old,
      );
      counts = λ b. omega (
        arith,
        ap (bytes_of_birth b) marked,
        birth-append b (take at old ++ marked_in with) (drop (at + len) old),
        birth-append b (take at old) (marked_in with),
        in_three b at len old,
        counts b,
        more b,
        fewer b,
        ap (bytes_of_birth b) middle_is,
      );
    }

-- the bytes before a window, in it and behind it
length_in_three : (at len : ℕ) (xs : List Marked) → length (take at xs) + length (window at len xs) + length (drop (at + len) xs) ≡ length xs
length_in_three at len xs =
    omega (
      arith,
      length-append (take at xs) (drop at xs),
      ap (λ (ms : List Marked). length ms) (take-append-drop at xs),
      length-append (take len (drop at xs)) (drop len (drop at xs)),
      ap (λ (ms : List Marked). length ms) (take-append-drop len (drop at xs)),
      ap (λ (ms : List Marked). length ms) (drop-drop len at xs),
    )

-- a tree whose neighbouring parts have changed places is a map with the same numbers
pub swapped_is_map : (old : List Marked) (at first second : ℕ) (front left right tail one two all : List Piece) (counts : Counts)
    → length old ≤ OBJECT_BYTES → AreCounts counts old
    → marked_in front ≡ take at old → marked_in left ≡ take first (drop at old) → marked_in right ≡ window first second (drop at old) → marked_in tail ≡ drop (first + second) (drop at old)
    → marked_in one ≡ marked_in front ++ marked_in right → marked_in two ≡ marked_in one ++ marked_in left → marked_in all ≡ marked_in two ++ marked_in tail → IsMap all counts
swapped_is_map old at first second front left right tail one two all counts most are front_is left_is right_is tail_is one_is two_is all_is =
    let rest = drop at old in
    let marked : marked_in all ≡ ((take at old ++ window first second rest) ++ take first rest) ++ drop (first + second) rest =
    all_is
    ∙ ap (λ (xs : List Marked). xs ++ marked_in tail) (two_is ∙ ap (λ (xs : List Marked). xs ++ marked_in left) one_is)
    ∙ ap (λ (xs : List Marked). ((xs ++ marked_in right) ++ marked_in left) ++ marked_in tail) front_is
    ∙ ap (λ (xs : List Marked). ((take at old ++ xs) ++ marked_in left) ++ marked_in tail) right_is
    ∙ ap (λ (xs : List Marked). ((take at old ++ window first second rest) ++ xs) ++ marked_in tail) left_is
    ∙ ap (λ (xs : List Marked). ((take at old ++ window first second rest) ++ take first rest) ++ xs) tail_is in
    record {
      most = omega (
        arith,
        most,
        ap (λ (xs : List Marked). length xs) marked,
        length-append ((take at old ++ window first second rest) ++ take first rest) (drop (first + second) rest),
        length-append (take at old ++ window first second rest) (take first rest),
        length-append (take at old) (window first second rest),
        length_in_three first second rest,
        length-append (take at old) rest,
        ap (λ (xs : List Marked). length xs) (take-append-drop at old),
      );
      counts = λ b. omega (
        arith,
        are b,
        ap (bytes_of_birth b) marked,
        birth-append b ((take at old ++ window first second rest) ++ take first rest) (drop (first + second) rest),
        birth-append b (take at old ++ window first second rest) (take first rest),
        birth-append b (take at old) (window first second rest),
        in_three b first second rest,
        birth-append b (take at old) rest,
        ap (bytes_of_birth b) (take-append-drop at old),
      );
    }
