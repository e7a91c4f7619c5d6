-- Lists that cover others, and what a seat's type keeps.
use Rattle.std.proofs.Common.{◌≡◌, ◌==◌, ℕ, ◌<◌, ◌≤◌, Bool, true, false, cond, List, [], sym, subst, arith}
use Rattle.atomic_table.specs.Table.{Me}
use Rattle.sf_space_words.specs.declared.view.View.{View}
use Rattle.sf_space_words.specs.Blocks.{times, without_blocks, Covers, IsOnce, AreBelow}
use Rattle.sf_space_words.specs.Steps.{IsSound}
use Rattle.sf_space_words.specs.Inside.{IsAtRest}
use Rattle.sf_space_words.proofs.TimesLemmas.{times-filter}
use Rattle.sf_space_words.proofs.RuleLemmas.{U}

pub covers_as : (blocks blocks' asked asked' : List ℕ) → blocks ≡ blocks' → asked ≡ asked' → Covers blocks asked → Covers blocks' asked'
covers_as blocks blocks' asked asked' p q = subst (λ (z : List ℕ × List ℕ). Covers z.0 z.1) (λ i. (p i, q i))

-- a list covers what is left of it
pub covers_left : (others xs : List ℕ) → Covers xs (without_blocks others xs)
covers_left others xs b = let is = times-filter (λ c. times c others == 0) b xs in le (times b others == 0) (times b (without_blocks others xs)) (times b xs) is
  where
    le : (t : Bool) (n m : ℕ) → n ≡ cond t m 0 → n ≤ m
    le true n m e = omega arith
    le false n m e = omega arith

pub once_of : (blocks asked : List ℕ) → Covers blocks asked → IsOnce blocks → IsOnce asked
once_of blocks asked covers once b = let c = covers b in let o = once b in omega arith

pub below_of : (n : ℕ) (blocks asked : List ℕ) → Covers blocks asked → AreBelow n blocks → AreBelow n asked
below_of n blocks asked covers below b there = let c = covers b in below b (omega arith)

pub at_rest : (m : Me U View) → m.1 ≡ [] → 0 < m.0.capacity → IsSound m.0 → IsAtRest m
at_rest m slots some s = record { slots = slots; some = some; once = s.0; below = s.1 some }

-- a view whose blocks a seat at rest has
pub sound_of : (v w : View) → Covers v.blocks w.blocks → w.capacity ≡ v.capacity → IsOnce v.blocks → AreBelow v.capacity v.blocks → IsSound w
sound_of v w covers same once below = (once_of v.blocks w.blocks covers once, λ _. subst (λ (n : ℕ). AreBelow n w.blocks) (sym same) (below_of v.capacity v.blocks w.blocks covers below))
