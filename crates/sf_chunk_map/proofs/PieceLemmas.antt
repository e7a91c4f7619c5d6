-- What pieces hold, and how it is cut.
use Rattle.std.proofs.Common.{◌++◌, [], ◌∷◌, ◌≡◌, ℕ, zero, suc, ◌+◌, ◌-◌, ◌≤◌, List, length, take, drop, refl, sym, ap, ◌∙◌, append_assoc, arith}
use Rattle.std.specs.Prelude.{replicate}
use Rattle.std.proofs.lemmas.List.{length-take, length-drop, take-append-drop, take-take, drop-drop, drop-take, take-map, drop-map, take_all, take-replicate, drop-replicate, append-nil, take_at}
use Rattle.std.proofs.Math.Seq.{drop-append_seam}
use Rattle.std.proofs.lemmas.List.Concat.{flat_map-append}
use Rattle.sf_types.specs.Values.Marks.{Marked, zero_byte, fresh_bytes, bytes_in}
use Rattle.sf_types.specs.Space.Cuts.{stored_bytes, stored_bytes_from}
use Rattle.sf_chunk_map.specs.Contents.{ContentPart, IsPart, window, bytes_of_part}
use Rattle.std.proofs.lemmas.List.Sums.{sum_by-cons}
use Rattle.sf_piece_tree.specs.Contents.{weight_of}
use Rattle.sf_chunk_map.specs.declared.parts.Piece.{Piece}
use Rattle.sf_chunk_map.specs.Pieces.{marked_of, marked_in, fresh_in}
use Rattle.sf_chunk_map.specs.Inside.FreshBytes.{fresh-append}

-- a window that lies in a list has its length
pub length-window : {X : Type 0} (from len : ℕ) (xs : List X) → from + len ≤ length xs → length (window from len xs) ≡ len
length-window from len xs within = omega (arith, length-take len (drop from xs), length-drop from xs)

-- the front of a window
pub window-front : {X : Type 0} (from len n : ℕ) (xs : List X) → n ≤ len → window from n xs ≡ take n (window from len xs)
window-front from len n xs most = sym (take-take n len (drop from xs) most)

-- what stands behind the front of a window
pub window-back : {X : Type 0} (from len n : ℕ) (xs : List X) → n ≤ len → window (from + n) (len - n) xs ≡ drop n (window from len xs)
window-back from len n xs most =
    sym (
    ap (λ (k : ℕ). drop n (take k (drop from xs))) (omega (arith, most))
    ∙ drop-take n (len - n) (drop from xs)
    ∙ ap (take (len - n)) (drop-drop n from xs)
    )

pub length_stored_from : (birth index : ℕ) (bytes : List ℕ) → length (stored_bytes_from birth index bytes) ≡ length bytes
length_stored_from birth index [] = refl
length_stored_from birth index (b ∷ bs) = ap suc (length_stored_from birth (index + 1) bs)

-- a part has as many bytes as it says
pub length_part : (part : ContentPart) → IsPart part → length (bytes_of_part part) ≡ part.len
length_part part is =
    length-window part.from part.len (stored_bytes part.content.birth part.content.bytes) (omega (arith, is.within, length_stored_from part.content.birth 0 part.content.bytes))

none_stored : (birth index : ℕ) (bytes : List ℕ) → fresh_in (stored_bytes_from birth index bytes) ≡ 0
none_stored birth index [] = refl
none_stored birth index (b ∷ bs) = none_stored birth (index + 1) bs

-- where no byte is fresh, none in a window is
pub none_in_window : (from len : ℕ) (xs : List Marked) → fresh_in xs ≡ 0 → fresh_in (window from len xs) ≡ 0
none_in_window from len xs none =
    omega (
      arith,
      none,
      fresh-append (take from xs) (drop from xs),
      ap fresh_in (take-append-drop from xs),
      fresh-append (take len (drop from xs)) (drop len (drop from xs)),
      ap fresh_in (take-append-drop len (drop from xs)),
    )

-- no byte of a part is fresh
pub none_fresh_in_part : (part : ContentPart) → fresh_in (bytes_of_part part) ≡ 0
none_fresh_in_part part =
    none_in_window part.from part.len (stored_bytes part.content.birth part.content.bytes) (none_stored part.content.birth 0 part.content.bytes)

-- no zero byte is fresh
pub none_fresh_in_zeros : (len : ℕ) → fresh_in (replicate len zero_byte) ≡ 0
none_fresh_in_zeros zero = refl
none_fresh_in_zeros (suc len) = none_fresh_in_zeros len

-- all fresh bytes are
pub all_fresh : (bytes : List ℕ) → fresh_in (fresh_bytes bytes) ≡ length bytes
all_fresh [] = refl
all_fresh (b ∷ bs) = ap suc (all_fresh bs)

-- the fresh bytes of pieces are those of each
pub fresh_of_pieces : (pieces : List Piece) → weight_of (λ (piece : Piece). fresh_in (marked_of piece)) pieces ≡ fresh_in (marked_in pieces)
fresh_of_pieces [] = refl
fresh_of_pieces (piece ∷ pieces) =
    sum_by-cons (λ (piece : Piece). fresh_in (marked_of piece)) piece pieces
    ∙ ap (λ (n : ℕ). fresh_in (marked_of piece) + n) (fresh_of_pieces pieces)
    ∙ sym (fresh-append (marked_of piece) (marked_in pieces))

bytes_stored_from : (birth index : ℕ) (bytes : List ℕ) → bytes_in (stored_bytes_from birth index bytes) ≡ bytes
bytes_stored_from birth index [] = refl
bytes_stored_from birth index (b ∷ bs) = ap (λ (xs : List ℕ). b ∷ xs) (bytes_stored_from birth (index + 1) bs)

-- the bytes of a window
pub bytes_in_window : (from len : ℕ) (xs : List Marked) → bytes_in (window from len xs) ≡ window from len (bytes_in xs)
bytes_in_window from len xs =
    sym (take-map (λ (m : Marked). m.byte) len (drop from xs)) ∙ ap (take len) (sym (drop-map (λ (m : Marked). m.byte) from xs))

-- the bytes of a part
pub bytes_stored : (part : ContentPart) → bytes_in (bytes_of_part part) ≡ window part.from part.len part.content.bytes
bytes_stored part =
    bytes_in_window part.from part.len (stored_bytes part.content.birth part.content.bytes)
    ∙ ap (window part.from part.len) (bytes_stored_from part.content.birth 0 part.content.bytes)

-- the bytes of zeros
pub bytes_of_zeros : (len : ℕ) → bytes_in (replicate len zero_byte) ≡ replicate len 0
bytes_of_zeros zero = refl
bytes_of_zeros (suc len) = ap (λ (xs : List ℕ). 0 ∷ xs) (bytes_of_zeros len)

-- the bytes of fresh ones
pub bytes_of_fresh : (bytes : List ℕ) → bytes_in (fresh_bytes bytes) ≡ bytes
bytes_of_fresh [] = refl
bytes_of_fresh (b ∷ bs) = ap (λ (xs : List ℕ). b ∷ xs) (bytes_of_fresh bs)

-- the rest of a list behind its front
pub rest_of : (n : ℕ) (xs : List ℕ) → take (length xs - n) (drop n xs) ≡ drop n xs
rest_of n xs = take_all (length xs - n) (drop n xs) (omega (arith, length-drop n xs))

-- a window of zeros
pub zeros_in_window : (from r len : ℕ) → r ≤ len - from → replicate r 0 ≡ window from r (bytes_in (replicate len zero_byte))
zeros_in_window from r len most =
    sym (
    ap (window from r) (bytes_of_zeros len)
    ∙ ap (take r) (drop-replicate from len 0)
    ∙ take-replicate r (len - from) 0 most
    )

-- pieces with one more
pub marked-push : (pieces : List Piece) (piece : Piece) → marked_in (pieces ++ piece ∷ []) ≡ marked_in pieces ++ marked_of piece
marked-push pieces piece =
    flat_map-append marked_of pieces (piece ∷ []) ∙ ap (λ (xs : List Marked). marked_in pieces ++ xs) (append-nil (marked_of piece))

-- a slice that was filled so far, filled with more
pub filled_more : (into start front more : List ℕ) (done n : ℕ) → into ≡ front ++ drop done start → length front ≡ done
    → take done into ++ (more ++ drop (done + n) into) ≡ (front ++ more) ++ drop (done + n) start
filled_more into start front more done n is len =
    let first : take done into ≡ front = ap (take done) is ∙ take_at front (drop done start) done len in
    let rest : drop (done + n) into ≡ drop (done + n) start =
    ap (drop (done + n)) is
    ∙ sym (drop-drop n done (front ++ drop done start))
    ∙ ap (drop n) (ap (λ (k : ℕ). drop k (front ++ drop done start)) (sym len) ∙ drop-append_seam front (drop done start))
    ∙ drop-drop n done start in
    ap (λ (xs : List ℕ). xs ++ (more ++ drop (done + n) into)) first
    ∙ ap (λ (xs : List ℕ). front ++ (more ++ xs)) rest
    ∙ sym (append_assoc front more (drop (done + n) start))
