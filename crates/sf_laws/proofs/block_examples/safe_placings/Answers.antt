use Rattle.std.proofs.Common.{◌≡◌, ◌<◌, ℕ, zero, suc, [], ◌∷◌, length, get_or, refl, arith}
use Rattle.std.proofs.lemmas.List.Elements.{All-nil, All-cons}
use Rattle.sf_types.specs.Space.Placings.{Placed}
use Rattle.sf_types.specs.Space.Use.{blocks_of_birth}
use Rattle.sf_laws.specs.BlockExamples.{at, one_content}
use Rattle.sf_laws.proofs.block_examples.safe_placings.Goals as goal

abbrev HasItsBlocks : Placed → Type 0
HasItsBlocks x = length x.blocks ≡ blocks_of_birth one_content.contents x.birth

apart : (i j d : ℕ) → i < j → j < 2 → get_or (12 ∷ 3 ∷ []) i d ≡ get_or (12 ∷ 3 ∷ []) j d → ⊥
apart zero zero d less within same = absurd (omega (arith, less))
apart zero (suc zero) d less within same = absurd (omega (arith, same))
apart zero (suc (suc j)) d less within same = absurd (omega (arith, within))
apart (suc i) j d less within same = absurd (omega (arith, less, within))

pub returns-clause-safe : goal.returns-clause-safe
returns-clause-safe c = record {
  births = refl;
  counts = All-cons HasItsBlocks (at 1 (12 ∷ 3 ∷ [])) [] refl (All-nil HasItsBlocks);
  below = All-cons (λ block. block < 13) 12 (3 ∷ []) (omega arith) (All-cons (λ block. block < 13) 3 [] (omega arith) (All-nil (λ block. block < 13)));
  once = apart;
}

pub returns-clause-not_past : goal.returns-clause-not_past
returns-clause-not_past c safe = let past = safe.below 1 0 (omega arith) in absurd (omega (arith, past))

pub returns-clause-not_twice : goal.returns-clause-not_twice
returns-clause-not_twice c safe = safe.once 0 1 0 (omega arith) (omega arith) refl

pub returns-clause-not_short : goal.returns-clause-not_short
returns-clause-not_short c safe = let count = safe.counts 0 (at 1 []) (omega arith) in absurd (omega (arith, count))

pub returns-clause-not_missing : goal.returns-clause-not_missing
returns-clause-not_missing c safe = let births = safe.births in absurd cc

pub returns-clause-not_more : goal.returns-clause-not_more
returns-clause-not_more c safe = let births = safe.births in absurd cc
