-- The bytes of a tree's pieces up to a byte, and where a byte lies.
use Rattle.std.proofs.Common.{zero, suc, ◌⊎◌, inl, inr}
use Rattle.std.proofs.lemmas.List.Sums.{count_by-le-length}
use Rattle.std.proofs.Common.{◌≡◌, ℕ, ◌+◌, ◌-◌, ◌≤◌, ◌<◌, List, ◌∷◌, ◌++◌, length, take, drop, sym, ap, ◌∙◌, subst, append_assoc, take-add, arith}
use Rattle.std.proofs.lemmas.List.{take-append-drop, take_all, drop-drop, take-append-le, length-drop}
use Rattle.sf_types.specs.Values.Marks.{Marked}
use Rattle.sf_piece_tree.specs.Contents.{joined_content, LiesIn}
use Rattle.sf_piece_tree.proofs.ContentLemmas.{length-content_node}
use Rattle.sf_piece_tree.proofs.CutLemmas.{take-within, drop-within}
use Rattle.sf_chunk_map.specs.declared.parts.Piece.{Piece}
use Rattle.sf_chunk_map.specs.Contents.{window}
use Rattle.sf_chunk_map.specs.Pieces.{marked_of, marked_in}
use Rattle.sf_chunk_map.specs.Inside.Counts.{names_birth, bytes_of_birth}
use Rattle.sf_chunk_map.proofs.BirthLemmas.{birth-append}

-- the bytes up to a byte, and those of its piece from there on
pub more_bytes : (pieces : List Piece) (at : ℕ) (piece : Piece) (from : ℕ) → LiesIn marked_of pieces at piece from
    → take (at + (length (marked_of piece) - from)) (marked_in pieces) ≡ take at (marked_in pieces) ++ drop from (marked_of piece)
more_bytes pieces at piece from lies =
    let before = joined_content marked_of lies.before in
    let unit = marked_of piece in
    let whole : List Marked = joined_content marked_of (lies.before ++ piece ∷ lies.after) in
    let left : take (at + (length unit - from)) whole ≡ before ++ unit =
    ap (λ (n : ℕ). take n whole) (omega (arith, lies.at_is, lies.within))
    ∙ take-within marked_of lies.before piece lies.after (length unit) (omega arith)
    ∙ ap (λ (xs : List Marked). before ++ xs) (take_all (length unit) unit (omega arith)) in
    let right : take at whole ++ drop from unit ≡ before ++ unit =
    ap (λ (n : ℕ). take n whole ++ drop from unit) lies.at_is
    ∙ ap (λ (xs : List Marked). xs ++ drop from unit) (take-within marked_of lies.before piece lies.after from (omega (arith, lies.within)))
    ∙ append_assoc before (take from unit) (drop from unit)
    ∙ ap (λ (xs : List Marked). before ++ xs) (take-append-drop from unit) in
    subst (λ (units : List Piece). take (at + (length unit - from)) (marked_in units) ≡ take at (marked_in units) ++ drop from unit) (sym lies.units_are) (left ∙ sym right)

-- the bytes of a birth up to a byte, and in its piece from there on
pub more_of_birth : (pieces : List Piece) (at : ℕ) (piece : Piece) (from b : ℕ) → LiesIn marked_of pieces at piece from
    → bytes_of_birth b (take (at + (length (marked_of piece) - from)) (marked_in pieces)) ≡ bytes_of_birth b (take at (marked_in pieces)) + bytes_of_birth b (drop from (marked_of piece))
more_of_birth pieces at piece from b lies =
    ap (bytes_of_birth b) (more_bytes pieces at piece from lies) ∙ birth-append b (take at (marked_in pieces)) (drop from (marked_of piece))

-- no more bytes are of a birth up to a byte than in all
pub birth-take : (b n : ℕ) (marked : List Marked) → bytes_of_birth b (take n marked) ≤ bytes_of_birth b marked
birth-take b n marked = omega (arith, birth-append b (take n marked) (drop n marked), ap (bytes_of_birth b) (take-append-drop n marked))

pub birth-drop : (b n : ℕ) (marked : List Marked) → bytes_of_birth b (drop n marked) ≤ bytes_of_birth b marked
birth-drop b n marked = omega (arith, birth-append b (take n marked) (drop n marked), ap (bytes_of_birth b) (take-append-drop n marked))

-- some of a sum is in one of two parts
pub some_in : (m n : ℕ) → 0 < m + n → (0 < m) ⊎ (0 < n)
some_in zero n some = inr (omega (arith, some))
some_in (suc m) n some = inl (omega arith)

-- no more bytes are of a birth than there are
pub birth-most : (b : ℕ) (marked : List Marked) → bytes_of_birth b marked ≤ length marked
birth-most b marked = count_by-le-length (λ (m : Marked). names_birth b m.mark) marked

-- some more bytes of a window, which lie in one piece
pub more_window : (pieces : List Piece) (at done count from : ℕ) (piece : Piece) → LiesIn marked_of pieces (at + done) piece from → from + count ≤ length (marked_of piece)
    → window at (done + count) (marked_in pieces) ≡ window at done (marked_in pieces) ++ window from count (marked_of piece)
more_window pieces at done count from piece lies most =
    let whole = marked_in pieces in
    let after = joined_content marked_of lies.after in
    let rest : drop (at + done) whole ≡ drop from (marked_of piece) ++ after =
    ap (λ (units : List Piece). drop (at + done) (marked_in units)) lies.units_are
    ∙ ap (λ (n : ℕ). drop n (marked_in (lies.before ++ piece ∷ lies.after))) lies.at_is
    ∙ drop-within marked_of lies.before piece lies.after from (omega (arith, lies.within)) in
    take-add done count (drop at whole)
    ∙ ap (λ (xs : List Marked). take done (drop at whole) ++ take count xs) (drop-drop done at whole ∙ rest)
    ∙ ap (λ (xs : List Marked). take done (drop at whole) ++ xs) (take-append-le count (drop from (marked_of piece)) after (omega (arith, most, length-drop from (marked_of piece))))

-- a piece ends within the bytes
pub ends_within : (pieces : List Piece) (at : ℕ) (piece : Piece) (from : ℕ) → LiesIn marked_of pieces at piece from → at + (length (marked_of piece) - from) ≤ length (marked_in pieces)
ends_within pieces at piece from lies =
    omega (arith, lies.at_is, lies.within, ap (λ (units : List Piece). length (marked_in units)) lies.units_are, length-content_node marked_of lies.before piece lies.after)
