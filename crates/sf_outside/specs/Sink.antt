-- What a write to a sink does to its bytes (our own).
use Rattle.std.specs.Prelude.{◌≡◌, ℕ, ◌<◌, ◌≤◌, List, ◌++◌, length, take, Option, Some, IfSome, Result, IfOk, MatchResult}

-- a write takes at most the whole piece, and at least a byte of a piece that isn't empty
abbrev pub TakesSome : {E : Type 0} → Result ℕ E → List ℕ → Type 0
TakesSome result piece = IfOk result (λ n. (n ≤ length piece) × (0 < length piece → 1 ≤ n))

-- a sink that tells its bytes now told them before, and they grew by these
abbrev pub GrowsBy : Option (List ℕ) → Option (List ℕ) → List ℕ → Type 0
GrowsBy before after bytes =
    IfSome after (λ now. (told : List ℕ) × (before ≡ Some told) × (now ≡ told ++ bytes))

-- a write takes the first n bytes of the piece, and a write that failed takes none
abbrev pub TakesFirst : {E : Type 0} → Option (List ℕ) → Option (List ℕ) → Result ℕ E → List ℕ → Type 0
TakesFirst before after result piece =
    MatchResult result (λ n. GrowsBy before after (take n piece)) (λ _. after ≡ before)
