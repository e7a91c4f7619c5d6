-- How what a sink tells after many writes follows from each of them.
use Rattle.std.proofs.Common.{◌≡◌, ℕ, List, [], ◌++◌, Some, None, refl, sym, ◌∙◌, ap, append_assoc}
use Rattle.std.proofs.lemmas.List.{append-nil}
use Rattle.std.specs.Prelude.{Option}
use Rattle.sf_outside.specs.Sink.{GrowsBy}

-- a sink that stays as it is grew by nothing
pub grows_by_nothing : (taken : Option (List ℕ)) → GrowsBy taken taken []
grows_by_nothing None = tt
grows_by_nothing (Some bytes) = (bytes, refl, sym (append-nil bytes))

-- a sink that grew by one list and then by another grew by both, one after the other
pub grows_by_both : (before between after : Option (List ℕ)) (xs ys : List ℕ) → GrowsBy before between xs → GrowsBy between after ys → GrowsBy before after (xs ++ ys)
grows_by_both before between None xs ys first second = tt
grows_by_both before None (Some now) xs ys first second = absurd (cc second.1)
grows_by_both before (Some told) (Some now) xs ys first second =
    let same : second.0 ≡ told = cc second.1 in
    let joined : now ≡ first.0 ++ (xs ++ ys) = second.2 ∙ ap (λ l. l ++ ys) (same ∙ first.2) ∙ append_assoc first.0 xs ys in
    (first.0, first.1, joined)
