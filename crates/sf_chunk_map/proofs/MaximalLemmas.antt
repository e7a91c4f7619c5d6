-- Pieces of which no two neighbours go on in one another, with one more, and with a longer last one.
use Rattle.std.proofs.Common.{◌≡◌, ℕ, ◌+◌, ◌≤◌, List, [], ◌∷◌, ◌++◌, length, take, arith, ap, length-append}
use Rattle.std.proofs.lemmas.List.{length-take}
use Rattle.sf_types.specs.Values.Marks.{Marked}
use Rattle.sf_chunk_map.specs.declared.parts.Piece.{Piece}
use Rattle.sf_chunk_map.specs.MaximalPieces.{GoesOn, AreMaximal}

-- with one more, which doesn't go on in the last one
pub maximal-push : (pieces : List Piece) (last next : Piece) → AreMaximal (pieces ++ last ∷ []) → (GoesOn last next → ⊥) → AreMaximal ((pieces ++ last ∷ []) ++ next ∷ [])
maximal-push [] last next are apart = (apart, tt)
maximal-push (x ∷ []) last next are apart = (are.0, (apart, tt))
maximal-push (x ∷ y ∷ pieces) last next are apart = (are.0, maximal-push (y ∷ pieces) last next are.1 apart)

-- with another last one, which goes on only where the old one does
pub maximal-last : (pieces : List Piece) (last longer : Piece) → AreMaximal (pieces ++ last ∷ []) → ((before : Piece) → GoesOn before longer → GoesOn before last) → AreMaximal (pieces ++ longer ∷ [])
maximal-last [] last longer are begins = tt
maximal-last (x ∷ []) last longer are begins = (λ on. are.0 (begins x on), tt)
maximal-last (x ∷ y ∷ pieces) last longer are begins = (are.0, maximal-last (y ∷ pieces) last longer are.1 begins)

-- some bytes more, which are there
pub more_within : (whole more : List Marked) (at n : ℕ) → 1 ≤ n → at ≤ length whole → length more ≡ n → take (at + n) whole ≡ take at whole ++ more → at + n ≤ length whole
more_within whole more at n some most len is =
    omega (arith, some, most, len, ap (λ (ms : List Marked). length ms) is, length-take (at + n) whole, length-take at whole, length-append (take at whole) more)
