-- Where two trees of pieces meet.
use Rattle.std.proofs.Common.{◌≡◌, ℕ, zero, suc, ◌+◌, ◌-◌, ◌≤◌, Option, Some, None, IfSome, List, [], ◌∷◌, ◌++◌, length, take, drop, sym, ap, ◌∙◌, append_assoc, take-add, drop-drop, arith}
use Rattle.std.specs.Prelude.{slice_get, replicate}
use Rattle.std.proofs.lemmas.List.{length-append}
use Rattle.sf_types.specs.Values.Marks.{Marked, zero_byte}
use Rattle.sf_types.specs.Space.Cuts.{stored_bytes}
use Rattle.sf_chunk_map.specs.declared.parts.Piece.{Piece}
use Rattle.sf_chunk_map.specs.Contents.{StoredContent, ContentPart, window, bytes_of_part}
use Rattle.sf_chunk_map.specs.Pieces.{marked_of, marked_in}
use Rattle.sf_chunk_map.specs.Inside.Seams.{IsSeam}
use Rattle.sf_chunk_map.proofs.PieceLemmas.{marked-push}

-- a list whose first item is known
pub first_item : (xs : List Piece) (x : Piece) → slice_get xs 0 ≡ Some x → xs ≡ x ∷ drop 1 xs
first_item [] x is = absurd cc
first_item (y ∷ ys) x is = ap (λ (z : Piece). z ∷ ys) (cc is)

last_at : (xs : List Piece) (k : ℕ) (x : Piece) → length xs ≡ suc k → slice_get xs k ≡ Some x → xs ≡ take k xs ++ x ∷ []
last_at [] k x len is = absurd (omega (arith, len))
last_at (y ∷ []) zero x len is = ap (λ (z : Piece). z ∷ []) (cc is)
last_at (y ∷ z ∷ zs) zero x len is = absurd (omega (arith, len))
last_at (y ∷ ys) (suc k) x len is = ap (λ (ws : List Piece). y ∷ ws) (last_at ys k x (omega (arith, len)) is)

-- a list whose last item is known
pub last_item : (xs : List Piece) (x : Piece) → slice_get xs (length xs - 1) ≡ Some x → xs ≡ take (length xs - 1) xs ++ x ∷ []
last_item [] x is = absurd cc
last_item (y ∷ ys) x is = last_at (y ∷ ys) (length (y ∷ ys) - 1) x (omega arith) is

-- the seam of two trees, of which the last and the first piece are known
pub seam_of : (first second : List Piece) (left right piece : Piece) → slice_get first (length first - 1) ≡ Some left → slice_get second 0 ≡ Some right → marked_of piece ≡ marked_of left ++ marked_of right → IsSeam first second piece
seam_of first second left right piece last head bytes =
    let front = take (length first - 1) first in
    let behind = drop 1 second in
    let first_is = last_item first left last in
    let second_is = first_item second right head in
    record {
      first_some = omega (arith, ap (λ (xs : List Piece). length xs) first_is, length-append front (left ∷ []));
      second_some = omega (arith, ap (λ (xs : List Piece). length xs) second_is);
      bytes =
          ap (λ (xs : List Marked). (marked_in front ++ xs) ++ marked_in behind) bytes
          ∙ ap (λ (xs : List Marked). xs ++ marked_in behind) (sym (append_assoc (marked_in front) (marked_of left) (marked_of right)))
          ∙ append_assoc (marked_in front ++ marked_of left) (marked_of right) (marked_in behind)
          ∙ ap (λ (xs : List Marked). xs ++ (marked_of right ++ marked_in behind)) (sym (ap (λ (ps : List Piece). marked_in ps) first_is ∙ marked-push front left))
          ∙ ap (λ (ps : List Piece). marked_in first ++ marked_in ps) (sym second_is);
    }

-- a known item's bytes are no more than all
pub last_most : (xs : List Piece) (x : Piece) → slice_get xs (length xs - 1) ≡ Some x → length (marked_of x) ≤ length (marked_in xs)
last_most xs x is =
    let front = take (length xs - 1) xs in
    omega (arith, ap (λ (ps : List Piece). length (marked_in ps)) (last_item xs x is), ap (λ (ms : List Marked). length ms) (marked-push front x), length-append (marked_in front) (marked_of x))

pub first_most : (xs : List Piece) (x : Piece) → slice_get xs 0 ≡ Some x → length (marked_of x) ≤ length (marked_in xs)
first_most xs x is =
    omega (arith, ap (λ (ps : List Piece). length (marked_in ps)) (first_item xs x is), length-append (marked_of x) (marked_in (drop 1 xs)))

-- the bytes of a piece at a seam are no more than those of both trees
pub seam_most : (first second : List Piece) (piece : Piece) → IsSeam first second piece → length (marked_of piece) ≤ length (marked_in first) + length (marked_in second)
seam_most first second piece is =
    let front = marked_in (take (length first - 1) first) in
    let behind = marked_in (drop 1 second) in
    omega (
      arith,
      ap (λ (ms : List Marked). length ms) is.bytes,
      length-append (front ++ marked_of piece) behind,
      length-append front (marked_of piece),
      length-append (marked_in first) (marked_in second),
    )

-- two pairs of lists that are joined alike have as many items
pub same_length : (a b c d : List Marked) → a ++ b ≡ c ++ d → length a + length b ≡ length c + length d
same_length a b c d is = omega (arith, ap (λ (ms : List Marked). length ms) is, length-append a b, length-append c d)

-- two parts of which the second goes on in the content of the first
pub joined-part : (left right : ContentPart) → left.content ≡ right.content → left.from + left.len ≡ right.from
    → bytes_of_part (record { content = left.content; from = left.from; len = left.len + right.len }) ≡ bytes_of_part left ++ bytes_of_part right
joined-part left right same on =
    let bytes = stored_bytes left.content.birth left.content.bytes in
    take-add left.len right.len (drop left.from bytes)
    ∙ ap (λ (ms : List Marked). take left.len (drop left.from bytes) ++ take right.len ms) (drop-drop left.len left.from bytes ∙ ap (λ (n : ℕ). drop n bytes) on)
    ∙ ap (λ (x : StoredContent). take left.len (drop left.from bytes) ++ window right.from right.len (stored_bytes x.birth x.bytes)) same

-- zeros joined
pub joined-zeros : (m n : ℕ) → replicate (m + n) zero_byte ≡ replicate m zero_byte ++ replicate n zero_byte
joined-zeros zero n = let same : zero + n ≡ n = omega arith in ap (λ (k : ℕ). replicate k zero_byte) same
joined-zeros (suc m) n =
    let same : suc m + n ≡ suc (m + n) = omega arith in
    ap (λ (k : ℕ). replicate k zero_byte) same ∙ ap (λ (ms : List Marked). zero_byte ∷ ms) (joined-zeros m n)

-- what follows of an item that may be there
pub still_some : (found : Option Piece) (P Q : Piece → Type 0) → ((piece : Piece) → P piece → Q piece) → IfSome found P → IfSome found Q
still_some None P Q weaker is = is
still_some (Some piece) P Q weaker is = weaker piece is
