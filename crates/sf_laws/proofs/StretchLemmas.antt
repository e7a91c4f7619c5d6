-- Runs of fresh bytes and their contents.
use Rattle.std.proofs.Common.{◌≡◌, ℕ, zero, suc, ◌+◌, ◌-◌, ◌*◌, ◌≤◌, ◌<◌, Bool, true, false, ◌||◌, cond, List, [], ◌∷◌, ◌++◌, length, take, drop, take-add, map, refl, sym, ap, ◌∙◌, arith}
use Rattle.std.specs.Prelude.{All, sum_by, flat_map, filter, min}
use Rattle.std.specs.List.{concat, list_any}
use Rattle.std.specs.Int.{div_ceil}
use Rattle.std.proofs.lemmas.List.{length-append, length-take, length-drop, take_all, map-append}
use Rattle.std.proofs.lemmas.List.Elements.{All-nil, All-cons, All-append, filter-append}
use Rattle.std.proofs.lemmas.List.Folds.{concat-append}
use Rattle.std.proofs.lemmas.List.Sums.{sum_by-cons}
use Rattle.std.proofs.lemmas.Grind.{div_ceil_times}
use Rattle.sf_types.specs.Values.Marks.{Mark, Zero, Fresh, Stored, Marked, fresh_byte, fresh_bytes, is_fresh_mark, is_fresh, bytes_in}
use Rattle.sf_types.specs.Space.Cuts.{Segment, Kept, Stretch, with_byte_before, segments_of, contents_of_segment, stored_bytes_from, stored_bytes, settle_contents, settle_segments}
use Rattle.sf_types.specs.Space.Contents.{slices_of, contents_of_stretch, blocks_of}
use Rattle.sf_laws.specs.Segments.{marked_in, AreMaximal}

-- a fresh byte is its byte, fresh
fresh_mark-is : (k : Mark) → is_fresh_mark k ≡ true → Fresh ≡ k
fresh_mark-is Zero is = absurd cc
fresh_mark-is Fresh is = refl
fresh_mark-is (Stored birth index) is = absurd cc

fresh-is : (m : Marked) → is_fresh m ≡ true → fresh_byte m.byte ≡ m
fresh-is m is = ap (λ (k : Mark). record { byte = m.byte; mark = k }) (fresh_mark-is m.mark is)

-- the segments with a byte before them, joined
before-joined : (m : Marked) (segments : List Segment) → flat_map marked_in (with_byte_before m segments) ≡ m ∷ flat_map marked_in segments
before-joined m [] = choose (is_fresh m) refl
  where
    choose : (b : Bool) → is_fresh m ≡ b → flat_map marked_in (cond {A = List Segment} b (Stretch (m.byte ∷ []) ∷ []) (Kept (m ∷ []) ∷ [])) ≡ m ∷ []
    choose true is = ap (λ (x : Marked). x ∷ []) (fresh-is m is)
    choose false is = refl
before-joined m (Kept marked ∷ segments) = choose (is_fresh m) refl
  where
    choose : (b : Bool) → is_fresh m ≡ b → flat_map marked_in (cond {A = List Segment} b (Stretch (m.byte ∷ []) ∷ Kept marked ∷ segments) (Kept (m ∷ marked) ∷ segments)) ≡ m ∷ (marked ++ flat_map marked_in segments)
    choose true is = ap (λ (x : Marked). x ∷ (marked ++ flat_map marked_in segments)) (fresh-is m is)
    choose false is = refl
before-joined m (Stretch run ∷ segments) = choose (is_fresh m) refl
  where
    choose : (b : Bool) → is_fresh m ≡ b → flat_map marked_in (cond {A = List Segment} b (Stretch (m.byte ∷ run) ∷ segments) (Kept (m ∷ []) ∷ Stretch run ∷ segments)) ≡ m ∷ (fresh_bytes run ++ flat_map marked_in segments)
    choose true is = ap (λ (x : Marked). x ∷ (fresh_bytes run ++ flat_map marked_in segments)) (fresh-is m is)
    choose false is = refl

pub segments-joined : (v : List Marked) → flat_map marked_in (segments_of v) ≡ v
segments-joined [] = refl
segments-joined (m ∷ ms) = before-joined m (segments_of ms) ∙ ap (λ (xs : List Marked). m ∷ xs) (segments-joined ms)

some-run : (b : ℕ) (run : List ℕ) → ◌≡◌ {A = List ℕ} (b ∷ run) [] → ⊥
some-run b run is = absurd cc

before-maximal : (m : Marked) (segments : List Segment) → AreMaximal segments → AreMaximal (with_byte_before m segments)
before-maximal m [] all = choose (is_fresh m) refl
  where
    choose : (b : Bool) → is_fresh m ≡ b → AreMaximal (cond {A = List Segment} b (Stretch (m.byte ∷ []) ∷ []) (Kept (m ∷ []) ∷ []))
    choose true is = (some-run m.byte [], tt, tt)
    choose false is = (rw is refl, tt)
before-maximal m (Kept marked ∷ segments) all = choose (is_fresh m) refl
  where
    choose : (b : Bool) → is_fresh m ≡ b → AreMaximal (cond {A = List Segment} b (Stretch (m.byte ∷ []) ∷ Kept marked ∷ segments) (Kept (m ∷ marked) ∷ segments))
    choose true is = (some-run m.byte [], tt, all)
    choose false is = (rw is all.0, all.1)
before-maximal m (Stretch run ∷ segments) all = choose (is_fresh m) refl
  where
    choose : (b : Bool) → is_fresh m ≡ b → AreMaximal (cond {A = List Segment} b (Stretch (m.byte ∷ run) ∷ segments) (Kept (m ∷ []) ∷ Stretch run ∷ segments))
    choose true is = (some-run m.byte run, all.1, all.2)
    choose false is = (rw is refl, all)

pub segments_maximal : (v : List Marked) → AreMaximal (segments_of v)
segments_maximal [] = tt
segments_maximal (m ∷ ms) = before-maximal m (segments_of ms) (segments_maximal ms)

-- parts, joined
parts-joined : (size count : ℕ) (items : List ℕ) → concat (slices_of size count items) ≡ take (count * size) items
parts-joined size zero items = let none : 0 ≡ 0 * size = omega arith in ap (λ n. take n items) none
parts-joined size (suc count) items =
    let more : size + count * size ≡ suc count * size = omega arith in
    ap (λ (xs : List ℕ). take size items ++ xs) (parts-joined size count (drop size items))
    ∙ sym (take-add size (count * size) items)
    ∙ ap (λ n. take n items) more

abbrev pub IsContentSize : List ℕ → Type 0
IsContentSize bytes = (1 ≤ length bytes) × (length bytes ≤ 32768)

-- each part has at least one item, and at most the size
parts-sizes : (count : ℕ) (items : List ℕ) → count * 32768 < length items + 32768 → All IsContentSize (slices_of 32768 count items)
parts-sizes zero items less = All-nil IsContentSize
parts-sizes (suc count) items less =
    let size = length-take 32768 items in
    let rest = length-drop 32768 items in
    All-cons IsContentSize (take 32768 items) (slices_of 32768 count (drop 32768 items))
    (omega (arith, less, size), omega (arith, size))
    (parts-sizes count (drop 32768 items) (omega (arith, less, rest)))

pub run-joined : (run : List ℕ) → concat (contents_of_stretch run) ≡ run
run-joined run =
    let bounds = div_ceil_times (length run) 32768 (omega arith) in
    parts-joined 32768 (div_ceil (length run) 32768) run ∙ take_all (div_ceil (length run) 32768 * 32768) run bounds.0

pub run-sizes : (run : List ℕ) → All IsContentSize (contents_of_stretch run)
run-sizes run = let bounds = div_ceil_times (length run) 32768 (omega arith) in parts-sizes (div_ceil (length run) 32768) run bounds.1

-- the contents of all segments
abbrev pub contents_in : List Segment → List (List ℕ)
contents_in segments = flat_map contents_of_segment segments

pub contents-sizes : (segments : List Segment) → All IsContentSize (contents_in segments)
contents-sizes [] = All-nil IsContentSize
contents-sizes (Kept marked ∷ segments) = contents-sizes segments
contents-sizes (Stretch run ∷ segments) = All-append IsContentSize (contents_of_stretch run) (contents_in segments) (run-sizes run) (contents-sizes segments)

abbrev pub unstored_bytes : List Marked → List ℕ
unstored_bytes marked = map (λ m. m.byte) (filter is_fresh marked)

pub unstored_bytes-append : (xs ys : List Marked) → unstored_bytes (xs ++ ys) ≡ unstored_bytes xs ++ unstored_bytes ys
unstored_bytes-append xs ys = ap (map (λ (m : Marked). m.byte)) (filter-append is_fresh xs ys) ∙ map-append (λ (m : Marked). m.byte) (filter is_fresh xs) (filter is_fresh ys)

unstored_bytes-fresh : (run : List ℕ) → unstored_bytes (fresh_bytes run) ≡ run
unstored_bytes-fresh [] = refl
unstored_bytes-fresh (b ∷ bs) = ap (λ (xs : List ℕ). b ∷ xs) (unstored_bytes-fresh bs)

kept-fresh : (marked : List Marked) → list_any is_fresh marked ≡ false → filter is_fresh marked ≡ []
kept-fresh [] none = refl
kept-fresh (m ∷ ms) none = choose (is_fresh m) none (kept-fresh ms)
  where
    choose : (b : Bool) → (b || list_any is_fresh ms) ≡ false → (list_any is_fresh ms ≡ false → filter is_fresh ms ≡ []) → cond {A = List Marked} b (m ∷ filter is_fresh ms) (filter is_fresh ms) ≡ []
    choose true none rest = absurd cc
    choose false none rest = rest none

-- the contents joined are the fresh bytes
pub contents-joined : (segments : List Segment) → AreMaximal segments → concat (contents_in segments) ≡ unstored_bytes (flat_map marked_in segments)
contents-joined [] all = refl
contents-joined (Kept marked ∷ segments) all =
    contents-joined segments all.1
    ∙ ap (λ (xs : List ℕ). xs ++ unstored_bytes (flat_map marked_in segments)) (sym (ap (map (λ (m : Marked). m.byte)) (kept-fresh marked all.0)))
    ∙ sym (unstored_bytes-append marked (flat_map marked_in segments))
contents-joined (Stretch run ∷ segments) all =
    concat-append (contents_of_stretch run) (contents_in segments)
    ∙ ap (λ (xs : List ℕ). xs ++ concat (contents_in segments)) (run-joined run ∙ sym (unstored_bytes-fresh run))
    ∙ ap (λ (xs : List ℕ). unstored_bytes (fresh_bytes run) ++ xs) (contents-joined segments all.2)
    ∙ sym (unstored_bytes-append (fresh_bytes run) (flat_map marked_in segments))

-- stored bytes are the content's bytes, and none is fresh
stored-bytes : (birth index : ℕ) (bytes : List ℕ) → bytes_in (stored_bytes_from birth index bytes) ≡ bytes
stored-bytes birth index [] = refl
stored-bytes birth index (b ∷ bs) = ap (λ (xs : List ℕ). b ∷ xs) (stored-bytes birth (index + 1) bs)

fresh-bytes : (bytes : List ℕ) → bytes_in (fresh_bytes bytes) ≡ bytes
fresh-bytes [] = refl
fresh-bytes (b ∷ bs) = ap (λ (xs : List ℕ). b ∷ xs) (fresh-bytes bs)

bytes-append : (xs ys : List Marked) → bytes_in (xs ++ ys) ≡ bytes_in xs ++ bytes_in ys
bytes-append xs ys = map-append (λ (m : Marked). m.byte) xs ys

settled-bytes : (contents : List (List ℕ)) (births : List ℕ) → bytes_in (settle_contents contents births) ≡ concat contents
settled-bytes [] births = refl
settled-bytes (bytes ∷ contents) [] =
    bytes-append (fresh_bytes bytes) (settle_contents contents [])
    ∙ ap (λ (xs : List ℕ). xs ++ bytes_in (settle_contents contents [])) (fresh-bytes bytes)
    ∙ ap (λ (xs : List ℕ). bytes ++ xs) (settled-bytes contents [])
settled-bytes (bytes ∷ contents) (birth ∷ births) =
    bytes-append (stored_bytes birth bytes) (settle_contents contents births)
    ∙ ap (λ (xs : List ℕ). xs ++ bytes_in (settle_contents contents births)) (stored-bytes birth 0 bytes)
    ∙ ap (λ (xs : List ℕ). bytes ++ xs) (settled-bytes contents births)

pub segments-bytes : (segments : List Segment) (births : List ℕ) → bytes_in (settle_segments segments births) ≡ bytes_in (flat_map marked_in segments)
segments-bytes [] births = refl
segments-bytes (Kept marked ∷ segments) births =
    bytes-append marked (settle_segments segments births)
    ∙ ap (λ (xs : List ℕ). bytes_in marked ++ xs) (segments-bytes segments births)
    ∙ sym (bytes-append marked (flat_map marked_in segments))
segments-bytes (Stretch run ∷ segments) births =
    let count = length (contents_of_stretch run) in
    bytes-append (settle_contents (contents_of_stretch run) (take count births)) (settle_segments segments (drop count births))
    ∙ ap (λ (xs : List ℕ). xs ++ bytes_in (settle_segments segments (drop count births))) (settled-bytes (contents_of_stretch run) (take count births) ∙ run-joined run ∙ sym (fresh-bytes run))
    ∙ ap (λ (xs : List ℕ). bytes_in (fresh_bytes run) ++ xs) (segments-bytes segments (drop count births))
    ∙ sym (bytes-append (fresh_bytes run) (flat_map marked_in segments))

stored-fresh : (birth index : ℕ) (bytes : List ℕ) → filter is_fresh (stored_bytes_from birth index bytes) ≡ []
stored-fresh birth index [] = refl
stored-fresh birth index (b ∷ bs) = stored-fresh birth (index + 1) bs

settled-fresh : (contents : List (List ℕ)) (births : List ℕ) → length contents ≤ length births → filter is_fresh (settle_contents contents births) ≡ []
settled-fresh [] births le = refl
settled-fresh (bytes ∷ contents) [] le = absurd (omega (arith, le))
settled-fresh (bytes ∷ contents) (birth ∷ births) le =
    filter-append is_fresh (stored_bytes birth bytes) (settle_contents contents births)
    ∙ ap (λ (xs : List Marked). xs ++ filter is_fresh (settle_contents contents births)) (stored-fresh birth 0 bytes)
    ∙ settled-fresh contents births (omega (arith, le))

pub segments-fresh : (segments : List Segment) (births : List ℕ) → AreMaximal segments → length (contents_in segments) ≤ length births → filter is_fresh (settle_segments segments births) ≡ []
segments-fresh [] births all le = refl
segments-fresh (Kept marked ∷ segments) births all le =
    filter-append is_fresh marked (settle_segments segments births)
    ∙ ap (λ (xs : List Marked). xs ++ filter is_fresh (settle_segments segments births)) (kept-fresh marked all.0)
    ∙ segments-fresh segments births all.1 le
segments-fresh (Stretch run ∷ segments) births all le =
    let contents = contents_of_stretch run in
    let count = length contents in
    let both = length-append contents (contents_in segments) in
    filter-append is_fresh (settle_contents contents (take count births)) (settle_segments segments (drop count births))
    ∙ ap (λ (xs : List Marked). xs ++ filter is_fresh (settle_segments segments (drop count births))) (settled-fresh contents (take count births) (omega (arith, le, both, length-take count births)))
    ∙ segments-fresh segments (drop count births) all.2 (omega (arith, le, both, length-drop count births))

-- blocks of the parts of a run
abbrev blocks_in_all : List (List ℕ) → ℕ
blocks_in_all contents = sum_by (λ (bytes : List ℕ). blocks_of (length bytes)) contents

one-more : (x : List ℕ) (xs : List (List ℕ)) → blocks_in_all (x ∷ xs) ≡ blocks_of (length x) + blocks_in_all xs
one-more x xs = sum_by-cons (λ (bytes : List ℕ). blocks_of (length bytes)) x xs

full-and-rest : (n : ℕ) → blocks_of (min 32768 n) + blocks_of (n - 32768) ≡ blocks_of n
full-and-rest n = omega arith

parts-blocks : (count : ℕ) (items : List ℕ) → count * 32768 < length items + 32768 → length items ≤ count * 32768 → blocks_in_all (slices_of 32768 count items) ≡ blocks_of (length items)
parts-blocks zero items less le = let none : 0 ≡ length items = omega (arith, le) in ap blocks_of none
parts-blocks (suc count) items less le =
    let rest = length-drop 32768 items in
    let size = length-take 32768 items in
    let others = parts-blocks count (drop 32768 items) (omega (arith, less, rest)) (omega (arith, le, rest)) ∙ ap blocks_of rest in
    one-more (take 32768 items) (slices_of 32768 count (drop 32768 items))
    ∙ ap (λ n. n + blocks_in_all (slices_of 32768 count (drop 32768 items))) (ap blocks_of size)
    ∙ ap (λ n. blocks_of (min 32768 (length items)) + n) others
    ∙ full-and-rest (length items)

pub run-blocks : (run : List ℕ) → sum_by (λ (bytes : List ℕ). blocks_of (length bytes)) (contents_of_stretch run) ≡ blocks_of (length run)
run-blocks run =
    let bounds = div_ceil_times (length run) 32768 (omega arith) in
    parts-blocks (div_ceil (length run) 32768) run bounds.1 bounds.0
