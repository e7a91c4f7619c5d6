-- Parts of bytes, of pieces and of zeros, and when two are the same.
use Rattle.std.proofs.Common.{◌≡◌, ℕ, ◌+◌, ◌-◌, ◌≤◌, Bool, true, false, List, ◌++◌, length, take, drop, refl, sym, ap, ◌∙◌, take-add, arith}
use Rattle.std.specs.Prelude.{bytes_eq, replicate, ◌==◌}
use Rattle.std.specs.List.{list_all}
use Rattle.std.proofs.lemmas.List.{drop-drop, drop-replicate, take-replicate}
use Rattle.std.proofs.lemmas.Slice.Eq.{bytes_eq-Decides}
use Rattle.sf_types.specs.Values.Marks.{Value, bytes_in, strip}
use Rattle.sf_chunk_map.specs.declared.parts.Piece.{Piece}
use Rattle.sf_chunk_map.specs.Contents.{window}
use Rattle.sf_chunk_map.specs.Pieces.{marked_of}
use Rattle.sf_chunk_map.specs.Maps.{HoldsAt}
use Rattle.sf_chunk_map.proofs.LendingLemmas.{rest_of_piece}
use Rattle.sf_chunk_map.proofs.PieceLemmas.{window-front, window-back}
use Rattle.sf_fragment_ops.proofs.SearchLemmas.{all_zero, zeros_all}

-- lists that aren't equal
pub differ : (xs ys : List ℕ) → (xs ≡ ys → ⊥) → false ≡ bytes_eq xs ys
differ xs ys apart = go (bytes_eq xs ys) refl
  where
    go : (t : Bool) → bytes_eq xs ys ≡ t → false ≡ bytes_eq xs ys
    go true e = absurd (apart ((bytes_eq-Decides xs ys).0 e))
    go false e = sym e

-- a window of a window
pub window-in : (at len done count : ℕ) (xs : List ℕ) → done + count ≤ len → window (at + done) count xs ≡ window done count (window at len xs)
window-in at len done count xs within =
    window-front (at + done) (len - done) count xs (omega (arith, within))
    ∙ ap (take count) (window-back at len done xs (omega (arith, within)))

-- a window and the one behind it
pub window-more : (at done count : ℕ) (xs : List ℕ) → window at (done + count) xs ≡ window at done xs ++ window (at + done) count xs
window-more at done count xs =
    take-add done count (drop at xs) ∙ ap (λ (ys : List ℕ). take done (drop at xs) ++ take count ys) (drop-drop done at xs)

-- windows that go on alike
pub same_more : (left_at right_at done count : ℕ) (left right : List ℕ) → window left_at done left ≡ window right_at done right → true ≡ bytes_eq (window (left_at + done) count left) (window (right_at + done) count right)
    → window left_at (done + count) left ≡ window right_at (done + count) right
same_more left_at right_at done count left right same more =
    window-more left_at done count left
    ∙ ap (λ (xs : List ℕ). xs ++ window (left_at + done) count left) same
    ∙ ap (λ (xs : List ℕ). window right_at done right ++ xs) ((bytes_eq-Decides (window (left_at + done) count left) (window (right_at + done) count right)).0 (sym more))
    ∙ sym (window-more right_at done count right)

-- windows of which a part differs
pub differ_within : (left_at right_at len done count : ℕ) (left right : List ℕ) → done + count ≤ len → false ≡ bytes_eq (window (left_at + done) count left) (window (right_at + done) count right)
    → false ≡ bytes_eq (window left_at len left) (window right_at len right)
differ_within left_at right_at len done count left right within differs =
    differ (window left_at len left) (window right_at len right) (λ same.
    let parts : window (left_at + done) count left ≡ window (right_at + done) count right =
    window-in left_at len done count left within
    ∙ ap (window done count) same
    ∙ sym (window-in right_at len done count right within) in
    let is : bytes_eq (window (left_at + done) count left) (window (right_at + done) count right) ≡ true = (bytes_eq-Decides (window (left_at + done) count left) (window (right_at + done) count right)).1 parts in
    cc)

-- a part of a value that lies in one piece is a part of the piece
pub window-piece : (value : Value) (at : ℕ) (piece : Piece) (from count : ℕ) → HoldsAt value at piece from → from + count ≤ length (marked_of piece)
    → window at count (strip value) ≡ window from count (bytes_in (marked_of piece))
window-piece value at piece from count holds most =
    window-front at (length (marked_of piece) - from) count (strip value) (omega (arith, most))
    ∙ ap (take count) (rest_of_piece value at piece from holds)

-- a part of zeros
pub window-zeros : (bytes : List ℕ) (from count : ℕ) → bytes ≡ replicate (length bytes) 0 → from + count ≤ length bytes → window from count bytes ≡ replicate count 0
window-zeros bytes from count zeros most =
    ap (window from count) zeros
    ∙ ap (take count) (drop-replicate from (length bytes) 0)
    ∙ take-replicate count (length bytes - from) 0 (omega (arith, most))

-- whether all are zeros is whether they are equal to as many zeros
all_zeros_eq : (bytes : List ℕ) (test : Bool) → list_all (λ (byte : ℕ). byte == 0) bytes ≡ test → test ≡ bytes_eq bytes (replicate (length bytes) 0)
all_zeros_eq bytes true all = sym ((bytes_eq-Decides bytes (replicate (length bytes) 0)).1 (all_zero bytes all))
all_zeros_eq bytes false all =
    differ bytes (replicate (length bytes) 0) (λ is.
    let other : list_all (λ (byte : ℕ). byte == 0) bytes ≡ true = ap (λ (xs : List ℕ). list_all (λ (byte : ℕ). byte == 0) xs) is ∙ zeros_all (length bytes) in
    cc (all, other))

-- the same with the sides turned
eq_turned : (xs ys : List ℕ) → bytes_eq xs ys ≡ bytes_eq ys xs
eq_turned xs ys = go (bytes_eq xs ys) refl
  where
    go : (t : Bool) → bytes_eq xs ys ≡ t → t ≡ bytes_eq ys xs
    go true is = sym ((bytes_eq-Decides ys xs).1 (sym ((bytes_eq-Decides xs ys).0 is)))
    go false is = differ ys xs (λ same. let other : bytes_eq xs ys ≡ true = (bytes_eq-Decides xs ys).1 (sym same) in cc (is, other))

-- bytes against zeros, and zeros against bytes
pub eq_zeros : (bytes zeros : List ℕ) (count : ℕ) → length bytes ≡ count → zeros ≡ replicate count 0 → list_all (λ (byte : ℕ). byte == 0) bytes ≡ bytes_eq bytes zeros
eq_zeros bytes zeros count len are =
    all_zeros_eq bytes (list_all (λ (byte : ℕ). byte == 0) bytes) refl
    ∙ ap (λ (n : ℕ). bytes_eq bytes (replicate n 0)) len
    ∙ ap (bytes_eq bytes) (sym are)

pub zeros_eq : (bytes zeros : List ℕ) (count : ℕ) → length bytes ≡ count → zeros ≡ replicate count 0 → list_all (λ (byte : ℕ). byte == 0) bytes ≡ bytes_eq zeros bytes
zeros_eq bytes zeros count len are = eq_zeros bytes zeros count len are ∙ eq_turned bytes zeros

-- whether parts of two pieces are the same is whether the parts of the values are
pub pieces_eq : (left right : Value) (left_at right_at : ℕ) (first second : Piece) (first_from second_from count : ℕ) → HoldsAt left left_at first first_from → HoldsAt right right_at second second_from
    → first_from + count ≤ length (marked_of first) → second_from + count ≤ length (marked_of second)
    → bytes_eq (window first_from count (bytes_in (marked_of first))) (window second_from count (bytes_in (marked_of second))) ≡ bytes_eq (window left_at count (strip left)) (window right_at count (strip right))
pieces_eq left right left_at right_at first second first_from second_from count holds_first holds_second first_most second_most =
    let second_bytes = window second_from count (bytes_in (marked_of second)) in
    ap (λ (xs : List ℕ). bytes_eq xs second_bytes) (sym (window-piece left left_at first first_from count holds_first first_most))
    ∙ ap (bytes_eq (window left_at count (strip left))) (sym (window-piece right right_at second second_from count holds_second second_most))
