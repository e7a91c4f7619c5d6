-- What std's readers and writers are seen as, and what a write hands on. The rules are our own.
use Rattle.std.specs.Prelude.{◌≡◌, ℕ, List, ◌++◌, take, Option, Some, IfSome, Result, MatchResult}
use Rattle.sf_outside.specs.Faults.{Faults}

-- A reader or a writer of std, and which of its calls failed.
pub record StreamState (T : Type 0) : Type 0 where
  pub stream : T
  pub faults : Faults

-- Where the writer told its bytes, they grew by the first n bytes of the piece, or by none where the write failed.
abbrev pub HandsOn : {E : Type 0} → Option (List ℕ) → Option (List ℕ) → Result ℕ E → List ℕ → Type 0
HandsOn before after result piece =
    IfSome before (λ earlier. MatchResult result (λ n. after ≡ Some (earlier ++ take n piece)) (λ _. after ≡ Some earlier))
