-- What a reading has done behind a walk.
use Rattle.std.proofs.Common.{◌≡◌, ℕ, ◌+◌, ◌-◌, ◌≤◌, ◌<◌, Bool, List, [], ◌∷◌, ◌++◌, length, take, drop, min, inl, inr, refl, sym, ap, ◌∙◌, subst, append_assoc, arith}
use Rattle.std.proofs.lemmas.List.{length-append, length-take, length-drop, length-map, append-nil, take-append-le, drop-map, map-append, take_all}
use Rattle.std.proofs.Math.Seq.{take-append-add}
use Rattle.std.proofs.lemmas.Bool.{ltb-true, ltb-false}
use Rattle.sf_types.specs.Values.Marks.{Marked, bytes_in}
use Rattle.sf_piece_tree.specs.Walks.{Walks, shown_content}
use Rattle.sf_chunk_map.specs.declared.parts.Piece.{Piece}
use Rattle.sf_chunk_map.specs.declared.reading.Reading.{Reading}
use Rattle.sf_chunk_map.specs.Contents.{window}
use Rattle.sf_chunk_map.specs.Pieces.{marked_of}
use Rattle.sf_chunk_map.specs.Inside.Readings.{Reads}
use Rattle.sf_chunk_map.proofs.PieceLemmas.{filled_more}

-- A reading went on through bytes. `start` is what the slice held at first, and `front` what came into it before.
pub record HasRead (start front : List ℕ) (before after : Reading) (bytes : List ℕ) : Type 0 where
  pub same_reference : after.into.ghost_name ≡ before.into.ghost_name
  pub count : after.done ≡ before.done + min (length start - before.done) (length bytes)
  pub into : after.into.now ≡ (front ++ take (after.done - before.done) bytes) ++ drop after.done start

-- the bytes that a piece shows, before others
shown_bytes : (piece : Piece) (from : ℕ) (rest : List (Piece × ℕ)) → bytes_in (shown_content marked_of ((piece, from) ∷ rest)) ≡ drop from (bytes_in (marked_of piece)) ++ bytes_in (shown_content marked_of rest)
shown_bytes piece from rest =
    map-append (λ (m : Marked). m.byte) (drop from (marked_of piece)) (shown_content marked_of rest)
    ∙ ap (λ (xs : List ℕ). xs ++ bytes_in (shown_content marked_of rest)) (sym (drop-map (λ (m : Marked). m.byte) from (marked_of piece)))

-- one piece of a reading
one_read : (start front : List ℕ) (before after : Reading) (piece : Piece) (from : ℕ) (more : Bool) → Reads before piece from after more
    → before.into.now ≡ front ++ drop before.done start → length front ≡ before.done → before.done ≤ length start
    → HasRead start front before after (drop from (bytes_in (marked_of piece)))
one_read start front before after piece from more reads into len most =
    let bytes = bytes_in (marked_of piece) in
    let same : length before.into.now ≡ length start = omega (arith, ap (λ (xs : List ℕ). length xs) into, length-append front (drop before.done start), length-drop before.done start, len, most) in
    let size : length (drop from bytes) ≡ length (marked_of piece) - from = omega (arith, length-drop from bytes, length-map (marked_of piece) (λ (m : Marked). m.byte)) in
    let count : after.done ≡ before.done + min (length start - before.done) (length (drop from bytes)) = omega (arith, reads.count, same, size) in
    let on : before.done + (after.done - before.done) ≡ after.done = omega (arith, count) in
    record {
      same_reference = reads.same_reference;
      count = count;
      into =
          reads.bytes
          ∙ ap (λ (n : ℕ). take before.done before.into.now ++ (window from (after.done - before.done) bytes ++ drop n before.into.now)) (sym on)
          ∙ filled_more before.into.now start front (window from (after.done - before.done) bytes) before.done (after.done - before.done) into len
          ∙ ap (λ (n : ℕ). (front ++ window from (after.done - before.done) bytes) ++ drop n start) on;
    }

-- a reading that went on through some bytes and then others went on through both
both_read : (start front xs ys : List ℕ) (a b c : Reading) → HasRead start front a b xs → HasRead start (front ++ take (b.done - a.done) xs) b c ys → b.done - a.done ≡ length xs → a.done ≤ length start
    → HasRead start front a c (xs ++ ys)
both_read start front xs ys a b c first second whole most =
    let size : length (xs ++ ys) ≡ length xs + length ys = length-append xs ys in
    let on : c.done - a.done ≡ length xs + (c.done - b.done) = omega (arith, first.count, second.count, whole) in
    let all : take (b.done - a.done) xs ≡ xs = take_all (b.done - a.done) xs (omega (arith, whole)) in
    record {
      same_reference = second.same_reference ∙ first.same_reference;
      count = omega (arith, first.count, second.count, whole, size, most);
      into =
          second.into
          ∙ ap (λ (zs : List ℕ). zs ++ drop c.done start) (
          append_assoc front (take (b.done - a.done) xs) (take (c.done - b.done) ys)
          ∙ ap (λ (zs : List ℕ). front ++ zs) (
          ap (λ (zs : List ℕ). zs ++ take (c.done - b.done) ys) all
          ∙ sym (ap (λ (n : ℕ). take n (xs ++ ys)) on ∙ take-append-add xs ys (c.done - b.done)))
          );
    }

-- a reading that filled the slice with some bytes would have filled it with more
full_read : (start front xs ys : List ℕ) (a b : Reading) → HasRead start front a b xs → length start ≤ b.done → a.done ≤ length start → HasRead start front a b (xs ++ ys)
full_read start front xs ys a b reads full most =
    let size : length (xs ++ ys) ≡ length xs + length ys = length-append xs ys in
    record {
      same_reference = reads.same_reference;
      count = omega (arith, reads.count, full, size, most);
      into =
          reads.into
          ∙ ap (λ (zs : List ℕ). (front ++ zs) ++ drop b.done start) (sym (take-append-le (b.done - a.done) xs ys (omega (arith, reads.count))));
    }

-- the length of what came into the slice
read_length : (start front xs : List ℕ) (a b : Reading) → HasRead start front a b xs → length front ≡ a.done → length (front ++ take (b.done - a.done) xs) ≡ b.done
read_length start front xs a b reads len = omega (arith, reads.count, len, length-append front (take (b.done - a.done) xs), length-take (b.done - a.done) xs)

-- the slice keeps its length
kept_length : (start front xs : List ℕ) (a b : Reading) → HasRead start front a b xs → length front ≡ a.done → a.done ≤ length start → length b.into.now ≡ length start
kept_length start front xs a b reads len most =
    omega (
      arith,
      ap (λ (zs : List ℕ). length zs) reads.into,
      read_length start front xs a b reads len,
      length-append (front ++ take (b.done - a.done) xs) (drop b.done start),
      length-drop b.done start,
      reads.count,
      most,
    )

-- a walk reads all that it shows, as far as the slice takes it
pub walk_reads : (start front : List ℕ) (shown : List (Piece × ℕ)) (a b : Reading) (more : Bool) → Walks Reads shown a b more
    → a.into.now ≡ front ++ drop a.done start → length front ≡ a.done → a.done ≤ length start
    → HasRead start front a b (bytes_in (shown_content marked_of shown))
walk_reads start front [] a b more walks into len most =
    subst (λ (r : Reading). HasRead start front a r []) (sym walks.0) (record {
      same_reference = refl;
      count = omega arith;
      into = into ∙ ap (λ (zs : List ℕ). zs ++ drop a.done start) (sym (append-nil front) ∙ ap (λ (zs : List ℕ). front ++ zs) (sym (take_all (a.done - a.done) [] (omega arith))));
    })
walk_reads start front ((piece, from) ∷ rest) a b more (inl stop) into len most =
    let bytes = drop from (bytes_in (marked_of piece)) in
    let one = one_read start front a b piece from _ stop.0 into len most in
    let full : length start ≤ b.done = omega (arith, ltb-false b.done (length b.into.now) (sym stop.0.goes_on), kept_length start front bytes a b one len most) in
    subst (λ (xs : List ℕ). HasRead start front a b xs) (sym (shown_bytes piece from rest))
    (full_read start front bytes (bytes_in (shown_content marked_of rest)) a b one full most)
walk_reads start front ((piece, from) ∷ rest) a b more (inr on) into len most =
    let next = on.0 in
    let bytes = drop from (bytes_in (marked_of piece)) in
    let one = one_read start front a next piece from _ on.1 into len most in
    let front_now = front ++ take (next.done - a.done) bytes in
    let len_now = read_length start front bytes a next one len in
    let less : next.done < length start = omega (arith, ltb-true next.done (length next.into.now) (sym on.1.goes_on), kept_length start front bytes a next one len most) in
    let others = walk_reads start front_now rest next b more on.2 one.into len_now (omega (arith, less)) in
    subst (λ (xs : List ℕ). HasRead start front a b xs) (sym (shown_bytes piece from rest))
    (both_read start front bytes (bytes_in (shown_content marked_of rest)) a next b one others (omega (arith, one.count, less)) most)
