-- The first fresh byte of pieces from a byte on, and the fresh bytes of one piece.
use Rattle.std.proofs.Common.{◌≡◌, ℕ, ◌+◌, ◌-◌, ◌≤◌, ◌<◌, List, [], ◌∷◌, ◌++◌, Option, Some, None, length, take, drop, inl, inr, sym, ap, ◌∙◌, arith}
use Rattle.std.specs.Prelude.{MatchOption}
use Rattle.std.specs.Option.{option_map}
use Rattle.std.proofs.Math.Seq.{take-append-add, drop-append-add}
use Rattle.std.proofs.lemmas.Bool.{cases_lt, lt-ltb, le-ltb}
use Rattle.std.proofs.lemmas.List.{length-map, length-drop, take-map, drop-map, take_all, drop_all, take-append-le, drop-append-le, take-append-drop}
use Rattle.sf_types.specs.Values.Marks.{Marked, fresh_byte, fresh_bytes}
use Rattle.sf_piece_tree.specs.Contents.{joined_content, LiesIn}
use Rattle.sf_piece_tree.specs.Weights.{weighty_byte}
use Rattle.sf_piece_tree.proofs.CutLemmas.{drop-within}
use Rattle.sf_chunk_map.specs.declared.parts.Piece.{Piece}
use Rattle.sf_chunk_map.specs.declared.parts.Piece.TheVariants.{Stored, Zero, Fresh}
use Rattle.sf_chunk_map.specs.Contents.{window}
use Rattle.sf_chunk_map.specs.Pieces.{marked_of, marked_in, fresh_in}
use Rattle.sf_chunk_map.specs.Stretches.{AreFreshAt, IsNextFresh, IsNotFreshAt, NoneFreshFrom}
use Rattle.sf_chunk_map.specs.Inside.FreshBytes.{fresh-append}
use Rattle.sf_chunk_map.proofs.PieceLemmas.{length-window, none_in_window, none_fresh_in_part, none_fresh_in_zeros, all_fresh}

-- what stands behind the first items of two lists
drop-both : {X : Type 0} (n : ℕ) (xs ys : List X) → drop n (xs ++ ys) ≡ drop n xs ++ drop (n - length xs) ys
drop-both {X} n xs ys =
    elim (cases_lt n (length xs)) [
      | inl less ↦
          let none : 0 ≡ n - length xs = omega (arith, less) in
          drop-append-le n xs ys (omega (arith, less)) ∙ ap (λ (k : ℕ). drop n xs ++ drop k ys) none
      | inr least ↦
          let more : n ≡ length xs + (n - length xs) = omega (arith, least) in
          ap (λ (k : ℕ). drop k (xs ++ ys)) more
          ∙ drop-append-add xs ys (n - length xs)
          ∙ ap (λ (zs : List X). zs ++ drop (n - length xs) ys) (sym (drop_all n xs least))
    ]

-- the first items of two lists, beyond the first list
take-both : {X : Type 0} (n : ℕ) (xs ys : List X) → length xs ≤ n → take n (xs ++ ys) ≡ xs ++ take (n - length xs) ys
take-both n xs ys least =
    let more : n ≡ length xs + (n - length xs) = omega (arith, least) in
    ap (λ (k : ℕ). take k (xs ++ ys)) more ∙ take-append-add xs ys (n - length xs)

-- no more bytes are fresh from one on than in all
fresh-drop : (n : ℕ) (marked : List Marked) → fresh_in (drop n marked) ≤ fresh_in marked
fresh-drop n marked = omega (arith, fresh-append (take n marked) (drop n marked), ap fresh_in (take-append-drop n marked))

-- a window of fresh bytes
window-fresh : (from len : ℕ) (bytes : List ℕ) → window from len (fresh_bytes bytes) ≡ fresh_bytes (window from len bytes)
window-fresh from len bytes = ap (take len) (drop-map fresh_byte from bytes) ∙ take-map fresh_byte len (drop from bytes)

-- the first fresh byte behind bytes of which none is fresh from there on
next-behind : (xs ys : List Marked) (at found : ℕ) → fresh_in (drop at xs) ≡ 0 → IsNextFresh ys (at - length xs) found → IsNextFresh (xs ++ ys) at (length xs + found)
next-behind xs ys at found none is =
    let sizes = length-drop at xs in
    let from = is.from in
    let more : length xs + found - at - length (drop at xs) ≡ found - (at - length xs) = omega (arith, sizes, from) in
    let least : length (drop at xs) ≤ length xs + found - at = omega (arith, sizes, from) in
    let between : window at (length xs + found - at) (xs ++ ys) ≡ drop at xs ++ window (at - length xs) (found - (at - length xs)) ys =
    ap (take (length xs + found - at)) (drop-both at xs ys)
    ∙ take-both (length xs + found - at) (drop at xs) (drop (at - length xs) ys) least
    ∙ ap (λ (n : ℕ). drop at xs ++ take n (drop (at - length xs) ys)) more in
    record {
      from = omega (arith, from);
      none_between = omega (arith, ap fresh_in between, fresh-append (drop at xs) (window (at - length xs) (found - (at - length xs)) ys), none, is.none_between);
      fresh = ap (λ (ms : List Marked). fresh_in (take 1 ms)) (drop-append-add xs ys found) ∙ is.fresh;
    }

none-behind : (xs ys : List Marked) (at : ℕ) → fresh_in (drop at xs) ≡ 0 → NoneFreshFrom ys (at - length xs) → NoneFreshFrom (xs ++ ys) at
none-behind xs ys at none none' =
    omega (arith, ap fresh_in (drop-both at xs ys), fresh-append (drop at xs) (drop (at - length xs) ys), none, none')

found-behind : (xs ys : List Marked) (at : ℕ) (found : Option ℕ) → fresh_in (drop at xs) ≡ 0 → MatchOption found (NoneFreshFrom ys (at - length xs)) (IsNextFresh ys (at - length xs)) → MatchOption (option_map (λ n. length xs + n) found) (NoneFreshFrom (xs ++ ys) at) (IsNextFresh (xs ++ ys) at)
found-behind xs ys at None none is = none-behind xs ys at none is
found-behind xs ys at (Some found) none is = next-behind xs ys at found none is

-- fresh bytes from one of them on
next-here : (bytes : List ℕ) (ys : List Marked) (at : ℕ) → at < length bytes → IsNextFresh (fresh_bytes bytes ++ ys) at at
next-here bytes ys at within =
    let sizes : length (fresh_bytes bytes) ≡ length bytes = length-map bytes fresh_byte in
    let none : at - at ≡ 0 = omega arith in
    let one : window at 1 (fresh_bytes bytes ++ ys) ≡ fresh_bytes (window at 1 bytes) =
    ap (take 1) (drop-append-le at (fresh_bytes bytes) ys (omega (arith, sizes, within)))
    ∙ take-append-le 1 (drop at (fresh_bytes bytes)) ys (omega (arith, length-drop at (fresh_bytes bytes), sizes, within))
    ∙ window-fresh at 1 bytes in
    record {
      from = omega arith;
      none_between = ap (λ (n : ℕ). fresh_in (take n (drop at (fresh_bytes bytes ++ ys)))) none;
      fresh = ap fresh_in one ∙ all_fresh (window at 1 bytes) ∙ length-window at 1 bytes (omega (arith, within));
    }

-- the first byte of a piece that has a fresh one is fresh
pub next-in : (piece : Piece) (ys : List Marked) (at : ℕ) → at < length (marked_of piece) → 0 < fresh_in (marked_of piece) → IsNextFresh (marked_of piece ++ ys) at at
next-in (Stored part) ys at within some = absurd (omega (arith, some, none_fresh_in_part part))
next-in (Zero len) ys at within some = absurd (omega (arith, some, none_fresh_in_zeros len))
next-in (Fresh bytes) ys at within some = next-here bytes ys at (omega (arith, within, length-map bytes fresh_byte))

-- the first fresh byte is that of the first piece with some
pub next-fresh : (pieces : List Piece) (at : ℕ) → MatchOption (weighty_byte marked_of (λ piece. fresh_in (marked_of piece)) pieces at) (NoneFreshFrom (marked_in pieces) at) (IsNextFresh (marked_in pieces) at)
next-fresh [] at = let all : 0 ≤ at = omega arith in ap fresh_in (drop_all at [] all)
next-fresh (piece ∷ pieces) at =
    let marked = marked_of piece in
    let behind = found-behind marked (marked_in pieces) at (weighty_byte marked_of (λ p. fresh_in (marked_of p)) pieces (at - length marked)) in
    elim (cases_lt at (length marked)) [
      | inl within ↦
          rw (lt-ltb at (length marked) within)
          (elim (cases_lt 0 (fresh_in marked)) [
            | inl some ↦ rw (lt-ltb 0 (fresh_in marked) some) (next-in piece (marked_in pieces) at within some)
            | inr none ↦ rw (le-ltb 0 (fresh_in marked) none) (behind (omega (arith, none, fresh-drop at marked)) (next-fresh pieces (at - length marked)))
          ])
      | inr least ↦ rw (le-ltb at (length marked) least) (behind (ap fresh_in (drop_all at marked least)) (next-fresh pieces (at - length marked)))
    ]

-- some bytes that lie in one piece
window-in : (pieces : List Piece) (at from count : ℕ) (piece : Piece) → LiesIn marked_of pieces at piece from → from + count ≤ length (marked_of piece) → window at count (marked_in pieces) ≡ window from count (marked_of piece)
window-in pieces at from count piece lies most =
    let after = joined_content marked_of lies.after in
    let rest : drop at (marked_in pieces) ≡ drop from (marked_of piece) ++ after =
    ap (λ (units : List Piece). drop at (marked_in units)) lies.units_are
    ∙ ap (λ (n : ℕ). drop n (marked_in (lies.before ++ piece ∷ lies.after))) lies.at_is
    ∙ drop-within marked_of lies.before piece lies.after from (omega (arith, lies.within)) in
    ap (take count) rest ∙ take-append-le count (drop from (marked_of piece)) after (omega (arith, most, length-drop from (marked_of piece)))

-- no byte is fresh where its piece has no fresh bytes
pub not-fresh : (pieces : List Piece) (at from : ℕ) (piece : Piece) → LiesIn marked_of pieces at piece from → fresh_in (marked_of piece) ≡ 0 → IsNotFreshAt (marked_in pieces) at
not-fresh pieces at from piece lies none =
    ap fresh_in (window-in pieces at from 1 piece lies (omega (arith, lies.within))) ∙ none_in_window from 1 (marked_of piece) none

-- the bytes of a fresh piece from one on
pub fresh-from : (pieces : List Piece) (at from : ℕ) (piece : Piece) (bytes found : List ℕ) → LiesIn marked_of pieces at piece from → piece ≡ Fresh bytes → found ≡ drop from bytes → AreFreshAt (marked_in pieces) at found
fresh-from pieces at from piece bytes found lies is found_is =
    let sizes : length (marked_of piece) ≡ length bytes = ap (λ (p : Piece). length (marked_of p)) is ∙ length-map bytes fresh_byte in
    let left : length found ≡ length bytes - from = ap (λ (xs : List ℕ). length xs) found_is ∙ length-drop from bytes in
    record {
      some = omega (arith, left, sizes, lies.within);
      bytes_are =
          window-in pieces at from (length found) piece lies (omega (arith, left, sizes, lies.within))
          ∙ ap (λ (p : Piece). window from (length found) (marked_of p)) is
          ∙ window-fresh from (length found) bytes
          ∙ ap fresh_bytes (take_all (length found) (drop from bytes) (omega (arith, left, length-drop from bytes)) ∙ sym found_is);
    }
