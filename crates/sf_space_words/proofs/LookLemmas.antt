-- A look keeps the rule, and tells which bits are set.
use Rattle.std.proofs.Common.{◌≡◌, ℕ, ◌%◌, ◌<◌, List, get_or, refl, sym, ap, ◌∙◌, subst, arith}
use Rattle.std.specs.Int.{bit_at}
use mathlib.Core.Option.{none, some}
use mathlib.Core.Logic.{dite}
use native.Mathlib.Decide.{dec_le}
use lib.ListN.{get_elem?}
use Rattle.atomic_table.specs.Table.{State, Me, step, keeps, stepped, Allows}
use Rattle.atomic_table.proofs.Lists.{set_again}
use Rattle.std.proofs.lemmas.List.{set-get_or}
use Rattle.std.proofs.lemmas.Nat.Bits.{bit_at-lt}
use Rattle.sf_space_words.specs.declared.limits.TheConstants.{WORD_BLOCKS}
use Rattle.sf_space_words.specs.declared.view.View.{View}
use Rattle.sf_space_words.specs.Blocks.{AreOwnBits, AreBitsPast, word_count, bit_of}
use Rattle.sf_space_words.specs.Rule.{SpaceRule, times_in_views}
use Rattle.sf_space_words.specs.Steps.{Looks}
use Rattle.sf_space_words.proofs.ViewLemmas.{total_le}
use Rattle.sf_space_words.proofs.RuleLemmas.{U, sound, same_counts}

-- a seat's own bits are set
own_bits : (n : ℕ) (s : State U View) (id word : ℕ) (v : View) → SpaceRule n s → get_elem? s.views id ≡ some v → AreOwnBits word v.blocks (get_or s.words word 0)
own_bits n s id word v kept at b e there =
    let is : bit_of s.words b ≡ bit_at (get_or s.words word 0) (b % WORD_BLOCKS) = ap (λ (k : ℕ). bit_at (get_or s.words k 0) (b % WORD_BLOCKS)) e in
    let few = bit_at-lt (get_or s.words word 0) (b % WORD_BLOCKS) in
    let all = total_le b s.views id v at in
    dite (dec_le n b) (λ past. let p = kept.none_past b past in absurd (omega arith)) (λ not_past. let k = kept.blocks b (omega arith) in omega arith)

-- the bits past the last block are set
bits_past : (n : ℕ) (s : State U View) (id word : ℕ) (v : View) → word < word_count n → SpaceRule n s → get_elem? s.views id ≡ some v → 0 < v.capacity → AreBitsPast word v.capacity (get_or s.words word 0)
bits_past n s id word v lt kept at some_left b e past =
    let is : bit_of s.words b ≡ bit_at (get_or s.words word 0) (b % WORD_BLOCKS) = ap (λ (k : ℕ). bit_at (get_or s.words k 0) (b % WORD_BLOCKS)) e in
    let same = kept.capacities id v at some_left in
    let count = kept.count in
    sym is ∙ kept.set_past b (omega arith) (omega arith)

pub looks : (n slots id word : ℕ) (me : Me U View) → word < word_count n → Allows (SpaceRule n) slots id me word (λ k. k) (Looks (step slots word 0 0 none) me)
looks n slots id word me lt s kept _ at small =
    let words' = set-get_or s.words word 0 in
    let views' = set_again s.views id me.0 at in (
      me.0,
      keeps,
      tt,
      same_counts n s (stepped s word (get_or s.words word 0) id me.1 me.0 keeps) words' (λ b. ap (times_in_views b) views') (λ j u e. kept.capacities j u (subst (λ (l : List View). get_elem? l j ≡ some u) views' e)) kept,
      (refl, sound n s id me.0 kept at, own_bits n s id word me.0 kept at, λ some_left. bits_past n s id word me.0 lt kept at some_left),
    )
