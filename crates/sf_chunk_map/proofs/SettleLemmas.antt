-- Stretches of a tree that become stored, one after the other.
use Rattle.std.proofs.Common.{◌≡◌, ℕ, zero, suc, ◌+◌, ◌≤◌, ◌<◌, List, [], ◌∷◌, ◌++◌, Option, Some, None, length, take, drop, refl, sym, ap, ◌∙◌, append_assoc, subst, arith}
use Rattle.std.specs.Prelude.{map, slice_get, get_or, MatchOption}
use Rattle.std.specs.Int.{div_ceil}
use Rattle.std.proofs.Math.Seq.{take-append_seam, drop-append_seam}
use Rattle.std.proofs.lemmas.List.{length-append, length-map, take_all, take-map, drop-map, take-append-drop, take-append-le, map-append, append-nil}
use Rattle.std.proofs.lemmas.List.Concat.{flat_map-append}
use Rattle.sf_types.specs.declared.limits.TheConstants.{CONTENT_BYTES}
use Rattle.sf_types.specs.Values.Marks.{Marked, fresh_byte, fresh_bytes}
use Rattle.sf_types.specs.Space.Contents.{contents_of_stretch}
use Rattle.sf_types.specs.Space.Cuts.{stored_bytes, settle_contents}
use Rattle.sf_piece_tree.specs.Contents.{weight_of}
use Rattle.sf_piece_tree.specs.Weights.{BeginsWeighty}
use Rattle.sf_chunk_map.specs.declared.parts.Piece.{Piece}
use Rattle.sf_chunk_map.specs.declared.parts.Piece.TheVariants.{Stored, Zero, Fresh}
use Rattle.sf_chunk_map.specs.Contents.{StoredContent, window}
use Rattle.sf_chunk_map.specs.Pieces.{marked_of, marked_in, fresh_in}
use Rattle.sf_chunk_map.specs.Stretches.{IsNotFreshAt}
use Rattle.sf_chunk_map.specs.Inside.Counts.{bytes_of_birth}
use Rattle.sf_chunk_map.specs.Inside.FreshBytes.{fresh-append}
use Rattle.sf_chunk_map.specs.Inside.Settling.{contents_in, settled_in, whole_piece, births_of, AreReady, BeginsFresh, IsFreshFront}
use Rattle.sf_chunk_map.proofs.PieceLemmas.{length_stored_from, none_in_window, none_fresh_in_part, none_fresh_in_zeros, all_fresh, fresh_of_pieces}
use Rattle.sf_chunk_map.proofs.SeamLemmas.{first_item}
use Rattle.sf_chunk_map.proofs.BirthLemmas.{birth-append, births_in_fresh}
use Rattle.sf_chunk_map.proofs.SegmentLemmas.{contents-kept, contents-stretch, settled-kept, settled-stretch, content_count, content_bytes, contents-bytes, fresh-most, size_of_all}
use Rattle.sf_chunk_map.proofs.FreshLemmas.{next-in}

-- the bytes of contents
abbrev pub bytes_of : StoredContent → List ℕ
bytes_of content = content.bytes

-- the births of contents
abbrev pub birth_of : StoredContent → ℕ
birth_of content = content.birth

-- a whole content's piece holds its bytes, stored
marked_whole : (content : StoredContent) → marked_of (whole_piece content) ≡ stored_bytes content.birth content.bytes
marked_whole content = take_all (length content.bytes) (stored_bytes content.birth content.bytes) (omega (arith, length_stored_from content.birth 0 content.bytes))

size_whole : (contents : List StoredContent) → length (marked_in (map whole_piece contents)) ≡ size_of_all (map bytes_of contents)
size_whole [] = refl
size_whole (content ∷ contents) =
    omega (
      arith,
      length-append (marked_of (whole_piece content)) (marked_in (map whole_piece contents)),
      ap (λ (ms : List Marked). length ms) (marked_whole content),
      length_stored_from content.birth 0 content.bytes,
      size_whole contents,
    )

-- pieces of whole contents are those contents settled by their births
settle_whole : (contents : List StoredContent) → settle_contents (map bytes_of contents) (map birth_of contents) ≡ marked_in (map whole_piece contents)
settle_whole [] = refl
settle_whole (content ∷ contents) =
    ap (λ (xs : List Marked). stored_bytes content.birth content.bytes ++ xs) (settle_whole contents)
    ∙ ap (λ (xs : List Marked). xs ++ marked_in (map whole_piece contents)) (sym (marked_whole content))

-- their births
pub births_whole : (contents : List StoredContent) → births_of (map whole_piece contents) ≡ map birth_of contents
births_whole [] = refl
births_whole (content ∷ contents) = ap (λ (bs : List ℕ). content.birth ∷ bs) (births_whole contents)

-- what becomes of a stretch, where as many pieces are ready as it has contents
pub record StretchSettled (kept : List Marked) (bytes : List ℕ) (tail : List Marked) (ready : List Piece) (count : ℕ) : Type 0 where
  pub enough : count ≤ length ready
  pub ready_rest : AreReady (drop count ready) tail
  pub settled : settled_in (kept ++ (fresh_bytes bytes ++ tail)) (births_of ready) ≡ kept ++ (marked_in (take count ready) ++ settled_in tail (births_of (drop count ready)))
  pub size : length (marked_in (take count ready)) ≡ length bytes

stretch_of : (kept : List Marked) (bytes : List ℕ) (tail : List Marked) (contents : List StoredContent) (count : ℕ) → fresh_in kept ≡ 0 → IsNotFreshAt tail 0
    → contents_in (kept ++ (fresh_bytes bytes ++ tail)) ≡ map bytes_of contents → count ≡ length (contents_of_stretch bytes)
    → StretchSettled kept bytes tail (map whole_piece contents) count
stretch_of kept bytes tail contents count none ended is count_is =
    let marked = kept ++ (fresh_bytes bytes ++ tail) in
    let these = contents_of_stretch bytes in
    let both : these ++ contents_in tail ≡ map bytes_of contents =
    sym (contents-kept kept (fresh_bytes bytes ++ tail) none ∙ contents-stretch bytes tail ended) ∙ is in
    let first : these ≡ map bytes_of (take count contents) =
    sym (take-append_seam these (contents_in tail)) ∙ ap (λ (xs : List (List ℕ)). take (length these) xs) both ∙ ap (λ (n : ℕ). take n (map bytes_of contents)) (sym count_is) ∙ take-map bytes_of count contents in
    let others : contents_in tail ≡ map bytes_of (drop count contents) =
    sym (drop-append_seam these (contents_in tail)) ∙ ap (λ (xs : List (List ℕ)). drop (length these) xs) both ∙ ap (λ (n : ℕ). drop n (map bytes_of contents)) (sym count_is) ∙ drop-map bytes_of count contents in
    let pieces : take count (map whole_piece contents) ≡ map whole_piece (take count contents) = take-map whole_piece count contents in
    let left : drop count (map whole_piece contents) ≡ map whole_piece (drop count contents) = drop-map whole_piece count contents in
    let births : births_of (map whole_piece contents) ≡ map birth_of contents = births_whole contents in
    let here : settle_contents these (take (length these) (births_of (map whole_piece contents))) ≡ marked_in (take count (map whole_piece contents)) =
    ap (λ (n : ℕ). settle_contents these (take n (births_of (map whole_piece contents)))) (sym count_is)
    ∙ ap (λ (bs : List ℕ). settle_contents these (take count bs)) births
    ∙ ap (λ (bs : List ℕ). settle_contents these bs) (take-map birth_of count contents)
    ∙ ap (λ (xs : List (List ℕ)). settle_contents xs (map birth_of (take count contents))) first
    ∙ settle_whole (take count contents)
    ∙ ap (λ (ps : List Piece). marked_in ps) (sym pieces) in
    let later : drop (length these) (births_of (map whole_piece contents)) ≡ births_of (drop count (map whole_piece contents)) =
    ap (λ (n : ℕ). drop n (births_of (map whole_piece contents))) (sym count_is)
    ∙ ap (λ (bs : List ℕ). drop count bs) births
    ∙ drop-map birth_of count contents
    ∙ sym (births_whole (drop count contents))
    ∙ ap (λ (ps : List Piece). births_of ps) (sym left) in
    record {
      enough = omega (arith, count_is, ap (λ (xs : List (List ℕ)). length xs) both, length-append these (contents_in tail), length-map contents bytes_of, length-map contents whole_piece);
      ready_rest = record { contents = drop count contents; pieces_are = left; contents_are = others };
      settled =
          settled-kept kept (fresh_bytes bytes ++ tail) (births_of (map whole_piece contents)) none
          ∙ ap (λ (xs : List Marked). kept ++ xs)
          (settled-stretch bytes tail (births_of (map whole_piece contents)) ended
          ∙ ap (λ (xs : List Marked). xs ++ settled_in tail (drop (length these) (births_of (map whole_piece contents)))) here
          ∙ ap (λ (bs : List ℕ). marked_in (take count (map whole_piece contents)) ++ settled_in tail bs) later);
      size =
          ap (λ (ps : List Piece). length (marked_in ps)) pieces
          ∙ size_whole (take count contents)
          ∙ ap (λ (xs : List (List ℕ)). size_of_all xs) (sym first)
          ∙ content_bytes bytes;
    }

-- pieces of which the first has some weight begin with fresh bytes, at least one
some_fresh : (behind : List Piece) (bytes : List ℕ) (tail : List Marked) → BeginsWeighty (λ piece. fresh_in (marked_of piece)) behind → marked_in behind ≡ fresh_bytes bytes ++ tail → IsNotFreshAt tail 0 → 1 ≤ length bytes
some_fresh [] bytes tail begins is ended = absurd begins
some_fresh (piece ∷ pieces) [] tail begins is ended =
    let next = next-in piece (marked_in pieces) 0 (omega (arith, begins, fresh-most (marked_of piece))) begins in
    absurd (omega (arith, ended, next.fresh, ap (λ (ms : List Marked). fresh_in (window 0 1 ms)) is))
some_fresh (piece ∷ pieces) (b ∷ bs) tail begins is ended = omega arith

-- what the parts of a tree hold after a stretch, beside what they held before
pub record IsStep (done rest unused done' rest' unused' : List Piece) : Type 0 where
  pub ready : AreReady unused' (marked_in rest')
  pub bytes : marked_in done' ++ settled_in (marked_in rest') (births_of unused') ≡ marked_in done ++ settled_in (marked_in rest) (births_of unused)
  pub size : length (marked_in done') + length (marked_in rest') ≡ length (marked_in done) + length (marked_in rest)
  pub counts : (b : ℕ) → bytes_of_birth b (marked_in done') + bytes_of_birth b (marked_in rest') + bytes_of_birth b (marked_in unused') ≡ bytes_of_birth b (marked_in done) + bytes_of_birth b (marked_in rest) + bytes_of_birth b (marked_in unused)
  pub fewer : fresh_in (marked_in rest') < fresh_in (marked_in rest)

module _ (done rest unused first behind tail : List Piece) (len count : ℕ)
    (ready : AreReady unused (marked_in rest))
    (rest_is : rest ≡ first ++ behind)
    (light : weight_of (λ (piece : Piece). fresh_in (marked_of piece)) first ≡ 0)
    (begins : BeginsWeighty (λ (piece : Piece). fresh_in (marked_of piece)) behind)
    (front : IsFreshFront (marked_in behind) (marked_in tail) len)
    (ended : IsNotFreshAt (marked_in tail) 0)
    (count_is : count ≡ div_ceil len CONTENT_BYTES) where
  none : fresh_in (marked_in first) ≡ 0
  none = sym (fresh_of_pieces first) ∙ light

  cut : marked_in rest ≡ marked_in first ++ (fresh_bytes front.bytes ++ marked_in tail)
  cut =
      ap (λ (ps : List Piece). marked_in ps) rest_is
      ∙ flat_map-append marked_of first behind
      ∙ ap (λ (ms : List Marked). marked_in first ++ ms) front.marked_is

  -- the stretch at the front of the rest
  pub stretch : StretchSettled (marked_in first) front.bytes (marked_in tail) unused count
  stretch =
      subst (λ (ps : List Piece). StretchSettled (marked_in first) front.bytes (marked_in tail) ps count) (sym ready.pieces_are)
      (stretch_of (marked_in first) front.bytes (marked_in tail) ready.contents count none ended
      (ap (λ (ms : List Marked). contents_in ms) (sym cut) ∙ ready.contents_are)
      (count_is ∙ ap (λ n. div_ceil n CONTENT_BYTES) (sym front.len_is) ∙ sym (content_count front.bytes)))

  -- the bytes of the rest before the stretch, of the stretch and behind it
  pub sizes : length (marked_in rest) ≡ length (marked_in first) + (length front.bytes + length (marked_in tail))
  sizes =
      omega (
        arith,
        ap (λ (ms : List Marked). length ms) cut,
        length-append (marked_in first) (fresh_bytes front.bytes ++ marked_in tail),
        length-append (fresh_bytes front.bytes) (marked_in tail),
        length-map front.bytes fresh_byte,
      )

  -- what is done with the stretch has no more bytes than before with the rest
  pub room : (both these : List Piece) → both ≡ done ++ first → these ≡ take count unused → length (marked_in both) + length (marked_in these) ≤ length (marked_in done) + length (marked_in rest)
  room both these both_is these_are =
      omega (
        arith,
        sizes,
        stretch.size,
        ap (λ (ps : List Piece). length (marked_in ps)) these_are,
        ap (λ (ps : List Piece). length (marked_in ps)) both_is,
        ap (λ (ms : List Marked). length ms) (flat_map-append marked_of done first),
        length-append (marked_in done) (marked_in first),
      )

  -- the parts after the stretch
  pub step : (done' others : List Piece) → done' ≡ (done ++ first) ++ take count unused → others ≡ drop count unused → IsStep done rest unused done' tail others
  step done' others done_is others_are =
      let these = take count unused in
      let marked : marked_in done' ≡ (marked_in done ++ marked_in first) ++ marked_in these =
      ap (λ (ps : List Piece). marked_in ps) done_is
      ∙ flat_map-append marked_of (done ++ first) these
      ∙ ap (λ (ms : List Marked). ms ++ marked_in these) (flat_map-append marked_of done first) in
      let later = settled_in (marked_in tail) (births_of (drop count unused)) in
      record {
        ready = subst (λ (ps : List Piece). AreReady ps (marked_in tail)) (sym others_are) stretch.ready_rest;
        bytes =
            ap (λ (ps : List Piece). marked_in done' ++ settled_in (marked_in tail) (births_of ps)) others_are
            ∙ ap (λ (ms : List Marked). ms ++ later) marked
            ∙ append_assoc (marked_in done ++ marked_in first) (marked_in these) later
            ∙ append_assoc (marked_in done) (marked_in first) (marked_in these ++ later)
            ∙ ap (λ (ms : List Marked). marked_in done ++ ms) (sym stretch.settled ∙ ap (λ (ms : List Marked). settled_in ms (births_of unused)) (sym cut));
        size = omega (
          arith,
          sizes,
          stretch.size,
          ap (λ (ms : List Marked). length ms) marked,
          length-append (marked_in done ++ marked_in first) (marked_in these),
          length-append (marked_in done) (marked_in first),
        );
        counts = λ b. omega (
          arith,
          ap (bytes_of_birth b) marked,
          birth-append b (marked_in done ++ marked_in first) (marked_in these),
          birth-append b (marked_in done) (marked_in first),
          ap (bytes_of_birth b) cut,
          birth-append b (marked_in first) (fresh_bytes front.bytes ++ marked_in tail),
          birth-append b (fresh_bytes front.bytes) (marked_in tail),
          births_in_fresh b 0 front.bytes,
          ap (λ (ps : List Piece). bytes_of_birth b (marked_in ps)) others_are,
          ap (λ (ps : List Piece). bytes_of_birth b (marked_in ps)) (take-append-drop count unused),
          ap (bytes_of_birth b) (flat_map-append marked_of these (drop count unused)),
          birth-append b (marked_in these) (marked_in (drop count unused)),
        );
        fewer = omega (
          arith,
          some_fresh behind front.bytes (marked_in tail) begins front.marked_is ended,
          ap fresh_in cut,
          fresh-append (marked_in first) (fresh_bytes front.bytes ++ marked_in tail),
          fresh-append (fresh_bytes front.bytes) (marked_in tail),
          all_fresh front.bytes,
        );
      }

-- where no byte is fresh, no piece is left
none_left : (contents : List StoredContent) → [] ≡ map bytes_of contents → map whole_piece contents ≡ []
none_left [] is = refl
none_left (content ∷ contents) is = absurd (cc is)

pub ready-none : (unused : List Piece) (marked : List Marked) → AreReady unused marked → fresh_in marked ≡ 0 → unused ≡ []
ready-none unused marked ready none =
    let nothing : contents_in marked ≡ [] = ap (λ (ms : List Marked). contents_in ms) (sym (append-nil marked)) ∙ contents-kept marked [] none in
    ready.pieces_are ∙ none_left ready.contents (sym nothing ∙ ready.contents_are)

-- the pieces of a value's contents have as many bytes as are fresh
pub ready-size : (contents : List StoredContent) (marked : List Marked) → contents_in marked ≡ map bytes_of contents → length (marked_in (map whole_piece contents)) ≡ fresh_in marked
ready-size contents marked is = size_whole contents ∙ ap (λ (xs : List (List ℕ)). size_of_all xs) (sym is) ∙ contents-bytes marked

-- the first piece of a tree: none, one without fresh bytes, or a fresh one
pub first_none : (pieces : List Piece) → slice_get pieces 0 ≡ None → IsNotFreshAt (marked_in pieces) 0
first_none [] is = refl
first_none (piece ∷ pieces) is = absurd cc

pub first_light : (pieces : List Piece) (piece : Piece) → slice_get pieces 0 ≡ Some piece → 1 ≤ length (marked_of piece) → fresh_in (marked_of piece) ≡ 0 → IsNotFreshAt (marked_in pieces) 0
first_light pieces piece is some none =
    ap (λ (ps : List Piece). fresh_in (window 0 1 (marked_in ps))) (first_item pieces piece is)
    ∙ ap fresh_in (take-append-le 1 (marked_of piece) (marked_in (drop 1 pieces)) some)
    ∙ none_in_window 0 1 (marked_of piece) none

pub first_fresh : (pieces : List Piece) (piece : Piece) (len : ℕ) → slice_get pieces 0 ≡ Some piece → 0 < fresh_in (marked_of piece) → len ≡ length (marked_of piece) → BeginsFresh pieces len
first_fresh pieces (Stored part) len is some len_is = absurd (omega (arith, some, none_fresh_in_part part))
first_fresh pieces (Zero zeros) len is some len_is = absurd (omega (arith, some, none_fresh_in_zeros zeros))
first_fresh pieces (Fresh bytes) len is some len_is = record {
  bytes = bytes;
  others = drop 1 pieces;
  pieces_are = first_item pieces (Fresh bytes) is;
  len_is = omega (arith, len_is, length-map bytes fresh_byte);
}

-- a tree without its first piece
rest_of_popped : (found : Option Piece) (old new : List Piece) (piece : Piece) (others : List Piece) → old ≡ piece ∷ others → MatchOption found ((old ≡ []) × (new ≡ [])) (λ unit. old ≡ unit ∷ new) → others ≡ new
rest_of_popped None old new piece others is popped = absurd (cc (is, popped.0))
rest_of_popped (Some unit) old new piece others is popped = cc (is, popped)

-- one fresh piece more at the front
pub front_more : (marked : List Marked) (old new : List Piece) (found : Option Piece) (len count len' : ℕ) → IsFreshFront marked (marked_in old) len → BeginsFresh old count
    → MatchOption found ((old ≡ []) × (new ≡ [])) (λ unit. old ≡ unit ∷ new) → len' ≡ len + count → IsFreshFront marked (marked_in new) len'
front_more marked old new found len count len' front begins popped sum =
    let rest : begins.others ≡ new = rest_of_popped found old new (Fresh begins.bytes) begins.others begins.pieces_are popped in
    record {
      bytes = front.bytes ++ begins.bytes;
      len_is = omega (arith, length-append front.bytes begins.bytes, front.len_is, begins.len_is, sum);
      marked_is =
          front.marked_is
          ∙ ap (λ (ps : List Piece). fresh_bytes front.bytes ++ marked_in ps) (begins.pieces_are ∙ ap (λ (ps : List Piece). Fresh begins.bytes ∷ ps) rest)
          ∙ sym (append_assoc (fresh_bytes front.bytes) (fresh_bytes begins.bytes) (marked_in new))
          ∙ ap (λ (ms : List Marked). ms ++ marked_in new) (sym (map-append fresh_byte front.bytes begins.bytes));
    }

-- a prefix of the pieces of whole contents and the next one have no more bytes than all
pub whole_most : (contents : List StoredContent) (k : ℕ) (content : StoredContent) → k < length contents → content ≡ get_or contents k content → length (marked_in (map whole_piece (take k contents))) + length (marked_of (whole_piece content)) ≤ length (marked_in (map whole_piece contents))
whole_most [] k content less is = absurd (omega (arith, less))
whole_most (x ∷ xs) zero content less is =
    omega (arith, ap (λ (c : StoredContent). length (marked_of (whole_piece c))) is, length-append (marked_of (whole_piece x)) (marked_in (map whole_piece xs)))
whole_most (x ∷ xs) (suc k) content less is =
    omega (
      arith,
      whole_most xs k content (omega (arith, less)) is,
      length-append (marked_of (whole_piece x)) (marked_in (map whole_piece xs)),
      length-append (marked_of (whole_piece x)) (marked_in (map whole_piece (take k xs))),
    )
