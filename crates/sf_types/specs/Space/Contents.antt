-- Contents: how fresh bytes are cut, and how many blocks a content takes (after VLDB 2008; the numbers are our own).
use Rattle.std.specs.Prelude.{ℕ, zero, suc, List, [], ◌∷◌, length, take, drop}
use Rattle.std.specs.Int.{div_ceil}
use Rattle.sf_types.specs.declared.limits.TheConstants.{BLOCK_BYTES, CONTENT_BYTES}

-- So many slices of at most `size` items each, from the front of a list.
abbrev pub slices_of : {X : Type 0} → ℕ → ℕ → List X → List (List X)
slices_of size zero items = []
slices_of size (suc count) items = take size items ∷ slices_of size count (drop size items)

-- A stretch of fresh bytes is cut from its front into contents of the greatest length and a last one of the rest.
abbrev pub contents_of_stretch : List ℕ → List (List ℕ)
contents_of_stretch stretch = slices_of CONTENT_BYTES (div_ceil (length stretch) CONTENT_BYTES) stretch

-- A content of so many bytes takes as many blocks as hold them.
abbrev pub blocks_of : ℕ → ℕ
blocks_of size = div_ceil size BLOCK_BYTES
