-- How marked bytes fall into segments: bytes that aren't fresh and stand before others, and stretches.
use Rattle.std.proofs.Common.{◌≡◌, ℕ, zero, suc, ◌+◌, ◌*◌, ◌≤◌, Bool, true, false, cond, List, [], ◌∷◌, ◌++◌, length, take, drop, refl, sym, ap, ◌∙◌, arith}
use Rattle.std.specs.Prelude.{min, flat_map, filter}
use Rattle.std.specs.Int.{div_ceil}
use Rattle.std.proofs.lemmas.List.{length-take, length-drop, append-nil}
use Rattle.sf_types.specs.declared.limits.TheConstants.{CONTENT_BYTES}
use Rattle.sf_types.specs.Values.Marks.{Marked, fresh_byte, fresh_bytes, is_fresh}
use Rattle.sf_types.specs.Space.Contents.{slices_of, contents_of_stretch}
use Rattle.sf_types.specs.Space.Cuts.{Segment, Kept, Stretch, with_byte_before, segments_of, contents_of_segment, settle_contents, settle_segments}
use Rattle.sf_chunk_map.specs.Pieces.{fresh_in}
use Rattle.sf_chunk_map.specs.Inside.Settling.{contents_in, settled_in}

-- the fresh bytes of a list with one before it
fresh_first : (m : Marked) (ms : List Marked) → fresh_in (m ∷ ms) ≡ cond (is_fresh m) 1 0 + fresh_in ms
fresh_first m ms = go (is_fresh m)
  where
    go : (t : Bool) → length (cond {A = List Marked} t (m ∷ filter is_fresh ms) (filter is_fresh ms)) ≡ cond {A = ℕ} t 1 0 + fresh_in ms
    go true = omega arith
    go false = omega arith

-- no more bytes are fresh than there are
pub fresh-most : (marked : List Marked) → fresh_in marked ≤ length marked
fresh-most [] = omega arith
fresh-most (m ∷ ms) =
    let one : cond {A = ℕ} (is_fresh m) 1 0 ≤ 1 = elim (is_fresh m) as (λ t. cond {A = ℕ} t 1 0 ≤ 1) [ true ↦ omega arith | false ↦ omega arith ] in
    omega (arith, fresh_first m ms, fresh-most ms, one)

not_fresh : (t : Bool) → cond {A = ℕ} t 1 0 ≡ 0 → t ≡ false
not_fresh true is = absurd (omega (arith, is))
not_fresh false is = refl

-- a list of which no byte is fresh has none first, and none behind
none_first : (m : Marked) (ms : List Marked) → fresh_in (m ∷ ms) ≡ 0 → is_fresh m ≡ false
none_first m ms none = not_fresh (is_fresh m) (omega (arith, none, fresh_first m ms))

none_rest : (m : Marked) (ms : List Marked) → fresh_in (m ∷ ms) ≡ 0 → fresh_in ms ≡ 0
none_rest m ms none = omega (arith, none, fresh_first m ms)

-- a byte that isn't fresh makes no content
contents_before : (m : Marked) (segments : List Segment) → is_fresh m ≡ false → flat_map contents_of_segment (with_byte_before m segments) ≡ flat_map contents_of_segment segments
contents_before m [] is = rw is refl
contents_before m (Kept marked ∷ segments) is = rw is refl
contents_before m (Stretch bytes ∷ segments) is = rw is refl

-- a byte that isn't fresh stays before what is settled
settled_before : (m : Marked) (segments : List Segment) (births : List ℕ) → is_fresh m ≡ false → settle_segments (with_byte_before m segments) births ≡ m ∷ settle_segments segments births
settled_before m [] births is = rw is refl
settled_before m (Kept marked ∷ segments) births is = rw is refl
settled_before m (Stretch bytes ∷ segments) births is = rw is refl

-- bytes of which none is fresh make no content
pub contents-kept : (kept ms : List Marked) → fresh_in kept ≡ 0 → contents_in (kept ++ ms) ≡ contents_in ms
contents-kept [] ms none = refl
contents-kept (m ∷ kept) ms none =
    contents_before m (segments_of (kept ++ ms)) (none_first m kept none) ∙ contents-kept kept ms (none_rest m kept none)

-- bytes of which none is fresh stay
pub settled-kept : (kept ms : List Marked) (births : List ℕ) → fresh_in kept ≡ 0 → settled_in (kept ++ ms) births ≡ kept ++ settled_in ms births
settled-kept [] ms births none = refl
settled-kept (m ∷ kept) ms births none =
    settled_before m (segments_of (kept ++ ms)) births (none_first m kept none)
    ∙ ap (λ (xs : List Marked). m ∷ xs) (settled-kept kept ms births (none_rest m kept none))

-- a fresh byte before others of which the first isn't fresh is a stretch of its own
stretch_before : (b : ℕ) (m : Marked) (segments : List Segment) → is_fresh m ≡ false → with_byte_before (fresh_byte b) (with_byte_before m segments) ≡ Stretch (b ∷ []) ∷ with_byte_before m segments
stretch_before b m [] is = rw is refl
stretch_before b m (Kept marked ∷ segments) is = rw is refl
stretch_before b m (Stretch bytes ∷ segments) is = rw is refl

stretch_alone : (b : ℕ) (rest : List Marked) → fresh_in (take 1 rest) ≡ 0 → with_byte_before (fresh_byte b) (segments_of rest) ≡ Stretch (b ∷ []) ∷ segments_of rest
stretch_alone b [] none = refl
stretch_alone b (m ∷ ms) none = stretch_before b m (segments_of ms) (none_first m [] none)

-- fresh bytes, at least one, before others of which the first isn't fresh are a stretch
segments_stretch : (b : ℕ) (bs : List ℕ) (rest : List Marked) → fresh_in (take 1 rest) ≡ 0 → segments_of (fresh_bytes (b ∷ bs) ++ rest) ≡ Stretch (b ∷ bs) ∷ segments_of rest
segments_stretch b [] rest none = stretch_alone b rest none
segments_stretch b (c ∷ cs) rest none = ap (with_byte_before (fresh_byte b)) (segments_stretch c cs rest none)

-- the contents of a stretch and of what stands behind it
pub contents-stretch : (bytes : List ℕ) (rest : List Marked) → fresh_in (take 1 rest) ≡ 0 → contents_in (fresh_bytes bytes ++ rest) ≡ contents_of_stretch bytes ++ contents_in rest
contents-stretch [] rest none = refl
contents-stretch (b ∷ bs) rest none = ap (flat_map contents_of_segment) (segments_stretch b bs rest none)

-- a stretch settled, and what stands behind it
pub settled-stretch : (bytes : List ℕ) (rest : List Marked) (births : List ℕ) → fresh_in (take 1 rest) ≡ 0
    → settled_in (fresh_bytes bytes ++ rest) births ≡ settle_contents (contents_of_stretch bytes) (take (length (contents_of_stretch bytes)) births) ++ settled_in rest (drop (length (contents_of_stretch bytes)) births)
settled-stretch [] rest births none = refl
settled-stretch (b ∷ bs) rest births none = ap (λ (segments : List Segment). settle_segments segments births) (segments_stretch b bs rest none)

-- how many slices there are, and how many items in all of them
slice_count : (size count : ℕ) (items : List ℕ) → length (slices_of size count items) ≡ count
slice_count size zero items = refl
slice_count size (suc count) items = ap suc (slice_count size count (drop size items))

-- the bytes of contents
abbrev pub size_of_all : List (List ℕ) → ℕ
size_of_all [] = 0
size_of_all (bytes ∷ contents) = length bytes + size_of_all contents

size_of_all-append : (xs ys : List (List ℕ)) → size_of_all (xs ++ ys) ≡ size_of_all xs + size_of_all ys
size_of_all-append [] ys = omega arith
size_of_all-append (x ∷ xs) ys = omega (arith, size_of_all-append xs ys)

slice_items : (count : ℕ) (items : List ℕ) → size_of_all (slices_of CONTENT_BYTES count items) ≡ min (count * CONTENT_BYTES) (length items)
slice_items zero items = omega arith
slice_items (suc count) items =
    omega (arith, slice_items count (drop CONTENT_BYTES items), length-take CONTENT_BYTES items, length-drop CONTENT_BYTES items)

-- the number of the contents of a stretch
pub content_count : (bytes : List ℕ) → length (contents_of_stretch bytes) ≡ div_ceil (length bytes) CONTENT_BYTES
content_count bytes = slice_count CONTENT_BYTES (div_ceil (length bytes) CONTENT_BYTES) bytes

-- the contents of a stretch have its bytes
pub content_bytes : (bytes : List ℕ) → size_of_all (contents_of_stretch bytes) ≡ length bytes
content_bytes bytes = omega (arith, slice_items (div_ceil (length bytes) CONTENT_BYTES) bytes)

-- the bytes of all contents of segments are those of the stretches
abbrev stretch_bytes : List Segment → ℕ
stretch_bytes [] = 0
stretch_bytes (Kept marked ∷ segments) = stretch_bytes segments
stretch_bytes (Stretch bytes ∷ segments) = length bytes + stretch_bytes segments

bytes_of_contents : (segments : List Segment) → size_of_all (flat_map contents_of_segment segments) ≡ stretch_bytes segments
bytes_of_contents [] = refl
bytes_of_contents (Kept marked ∷ segments) = bytes_of_contents segments
bytes_of_contents (Stretch bytes ∷ segments) =
    omega (arith, size_of_all-append (contents_of_stretch bytes) (flat_map contents_of_segment segments), content_bytes bytes, bytes_of_contents segments)

bytes_before : (m : Marked) (segments : List Segment) → stretch_bytes (with_byte_before m segments) ≡ cond (is_fresh m) 1 0 + stretch_bytes segments
bytes_before m [] = go (is_fresh m)
  where
    go : (t : Bool) → stretch_bytes (cond {A = List Segment} t (Stretch (m.byte ∷ []) ∷ []) (Kept (m ∷ []) ∷ [])) ≡ cond {A = ℕ} t 1 0 + 0
    go true = omega arith
    go false = omega arith
bytes_before m (Kept marked ∷ segments) = go (is_fresh m)
  where
    go : (t : Bool) → stretch_bytes (cond {A = List Segment} t (Stretch (m.byte ∷ []) ∷ Kept marked ∷ segments) (Kept (m ∷ marked) ∷ segments)) ≡ cond {A = ℕ} t 1 0 + stretch_bytes segments
    go true = omega arith
    go false = omega arith
bytes_before m (Stretch bytes ∷ segments) = go (is_fresh m)
  where
    go : (t : Bool) → stretch_bytes (cond {A = List Segment} t (Stretch (m.byte ∷ bytes) ∷ segments) (Kept (m ∷ []) ∷ Stretch bytes ∷ segments)) ≡ cond {A = ℕ} t 1 0 + (length bytes + stretch_bytes segments)
    go true = omega arith
    go false = omega arith

bytes_of_segments : (marked : List Marked) → stretch_bytes (segments_of marked) ≡ fresh_in marked
bytes_of_segments [] = refl
bytes_of_segments (m ∷ ms) = omega (arith, bytes_before m (segments_of ms), bytes_of_segments ms, fresh_first m ms)

-- the contents that bytes make have as many bytes as are fresh
pub contents-bytes : (marked : List Marked) → size_of_all (contents_in marked) ≡ fresh_in marked
contents-bytes marked = bytes_of_contents (segments_of marked) ∙ bytes_of_segments marked

-- where no byte is fresh, nothing is settled
pub settled-none : (marked : List Marked) (births : List ℕ) → fresh_in marked ≡ 0 → settled_in marked births ≡ marked
settled-none marked births none =
    ap (λ (ms : List Marked). settled_in ms births) (sym (append-nil marked))
    ∙ settled-kept marked [] births none
    ∙ append-nil marked
