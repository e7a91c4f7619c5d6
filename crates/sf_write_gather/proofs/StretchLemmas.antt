-- Stretches of fresh bytes from one on, and their contents.
use Rattle.std.proofs.Common.{◌≡◌, ℕ, ◌+◌, ◌-◌, ◌≤◌, List, [], ◌++◌, Option, Some, None, length, take, drop, take-add, refl, sym, ap, ◌∙◌, arith}
use Rattle.std.specs.Prelude.{MatchOption}
use Rattle.std.proofs.lemmas.List.{length-append, length-take, length-drop, length-map, map-append, take-append-drop, drop-drop, append-nil}
use Rattle.sf_types.specs.Values.Marks.{Marked, fresh_byte, fresh_bytes}
use Rattle.sf_types.specs.Space.Contents.{contents_of_stretch}
use Rattle.sf_chunk_map.specs.Contents.{window}
use Rattle.sf_chunk_map.specs.Stretches.{AreFreshAt, IsNextFresh, NoneFreshFrom}
use Rattle.sf_chunk_map.specs.Inside.Settling.{contents_in}
use Rattle.sf_chunk_map.proofs.SegmentLemmas.{contents-kept, contents-stretch}
use Rattle.sf_write_gather.specs.Inside.Stretches.{IsStretch}

-- no byte makes a content where none is fresh
pub contents-none : (marked : List Marked) (at : ℕ) → NoneFreshFrom marked at → contents_in (drop at marked) ≡ []
contents-none marked at none = ap (λ (ms : List Marked). contents_in ms) (sym (append-nil (drop at marked))) ∙ contents-kept (drop at marked) [] none

-- the bytes of a window end within the list
window_size : (at len : ℕ) (marked : List Marked) → length (window at len marked) ≤ length marked - at
window_size at len marked = omega (arith, length-take len (drop at marked), length-drop at marked)

-- more fresh bytes behind some
pub more-within : (marked : List Marked) (at : ℕ) (more : List ℕ) → AreFreshAt marked at more → at + length more ≤ length marked
more-within marked at more are =
    omega (arith, are.some, window_size at (length more) marked, ap (λ (ms : List Marked). length ms) are.bytes_are, length-map more fresh_byte)

pub more-fresh : (marked : List Marked) (at : ℕ) (bytes more all : List ℕ) → window at (length bytes) marked ≡ fresh_bytes bytes → AreFreshAt marked (at + length bytes) more → all ≡ bytes ++ more → window at (length all) marked ≡ fresh_bytes all
more-fresh marked at bytes more all bytes_are are all_is =
    let sum : length all ≡ length bytes + length more = ap (λ (xs : List ℕ). length xs) all_is ∙ length-append bytes more in
    ap (λ (n : ℕ). take n (drop at marked)) sum
    ∙ take-add (length bytes) (length more) (drop at marked)
    ∙ ap (λ (ms : List Marked). ms ++ take (length more) (drop (length bytes) (drop at marked))) bytes_are
    ∙ ap (λ (ms : List Marked). fresh_bytes bytes ++ take (length more) ms) (drop-drop (length bytes) at marked)
    ∙ ap (λ (ms : List Marked). fresh_bytes bytes ++ ms) are.bytes_are
    ∙ sym (map-append fresh_byte bytes more)
    ∙ ap fresh_bytes (sym all_is)

-- the contents from a byte on: those of the next stretch, and those behind it
pub contents-next : (marked : List Marked) (at found : ℕ) (bytes : List ℕ) → IsNextFresh marked at found → IsStretch marked found bytes
    → contents_in (drop at marked) ≡ contents_of_stretch bytes ++ contents_in (drop (found + length bytes) marked)
contents-next marked at found bytes next stretch =
    let from = next.from in
    let kept = window at (found - at) marked in
    let rest = drop (found + length bytes) marked in
    let there : at + (found - at) ≡ found = omega (arith, from) in
    let first : drop at marked ≡ kept ++ drop found marked =
    sym (take-append-drop (found - at) (drop at marked)) ∙ ap (λ (ms : List Marked). kept ++ ms) (drop-drop (found - at) at marked ∙ ap (λ (n : ℕ). drop n marked) there) in
    let second : drop found marked ≡ fresh_bytes bytes ++ rest =
    sym (take-append-drop (length bytes) (drop found marked))
    ∙ ap (λ (ms : List Marked). ms ++ drop (length bytes) (drop found marked)) stretch.bytes_are
    ∙ ap (λ (ms : List Marked). fresh_bytes bytes ++ ms) (drop-drop (length bytes) found marked) in
    ap (λ (ms : List Marked). contents_in ms) (first ∙ ap (λ (ms : List Marked). kept ++ ms) second)
    ∙ contents-kept kept (fresh_bytes bytes ++ rest) next.none_between
    ∙ contents-stretch bytes rest stretch.ended

-- where no fresh byte is found, there is none
pub none-found : (found : Option ℕ) (marked : List Marked) (at : ℕ) → ((n : ℕ) → found ≡ Some n → ⊥) → MatchOption found (NoneFreshFrom marked at) (IsNextFresh marked at) → NoneFreshFrom marked at
none-found None marked at not is = is
none-found (Some n) marked at not is = absurd (not n refl)
