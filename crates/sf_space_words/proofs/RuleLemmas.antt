-- What the rule says of one seat, and steps that leave each word and each sum over the views.
use Rattle.std.proofs.Common.{zero, suc, ◌≡◌, ◌≢◌, ℕ, ◌/◌, ◌%◌, ◌<◌, List, [], ◌∷◌, length, get_or, set, refl, sym, ap, ◌∙◌, arith, ⊎_elim}
use mathlib.Core.Option.{some, some-ne-none}
use mathlib.Core.Logic.{dite}
use native.Mathlib.Decide.{dec_le}
use lib.ListN.{get_elem?}
use Rattle.atomic_table.specs.Table.{State}
use Rattle.atomic_table.proofs.Lists.{at_set}
use Rattle.std.proofs.lemmas.Nat.Bits.{bit_at-lt}
use Rattle.sf_space_words.specs.declared.limits.TheConstants.{WORD_BLOCKS}
use Rattle.sf_space_words.specs.declared.view.View.{View}
use Rattle.sf_space_words.specs.Blocks.{bit_of}
use Rattle.sf_space_words.specs.Rule.{SpaceRule, times_in_views}
use Rattle.sf_space_words.specs.Steps.{IsSound}
use Rattle.sf_space_words.proofs.ViewLemmas.{total_le}

abbrev pub U : Type 0
U = Unit {0}

-- the capacities after one view changed and kept its own
pub capacities_set : (n : ℕ) (views : List View) (id : ℕ) (v w : View) → get_elem? views id ≡ some v → w.capacity ≡ v.capacity
    → ((j : ℕ) (u : View) → get_elem? views j ≡ some u → 0 < u.capacity → u.capacity ≡ n)
    → (j : ℕ) (u : View) → get_elem? (set views id w) j ≡ some u → 0 < u.capacity → u.capacity ≡ n
capacities_set n views id v w at same old j u e some_left =
    ⊎_elim
    (λ (x : (j ≡ id) × (w ≡ u)). let is : w.capacity ≡ u.capacity = ap (λ (z : View). z.capacity) x.1 in let t = old id v at (omega arith) in omega arith)
    (λ (x : (j ≢ id) × (get_elem? views j ≡ some u)). old j u x.1 some_left)
    (at_set views id j w u e)

-- no block stands twice in all views together
pub once : (n : ℕ) (s : State U View) (b : ℕ) → SpaceRule n s → times_in_views b s.views < 2
once n s b kept = dite (dec_le n b) (λ past. let p = kept.none_past b past in omega arith) (λ not_past. let p = kept.blocks b (omega arith) in let l = bit_at-lt (get_or s.words (b / WORD_BLOCKS) 0) (b % WORD_BLOCKS) in omega arith)

pub sound : (n : ℕ) (s : State U View) (id : ℕ) (v : View) → SpaceRule n s → get_elem? s.views id ≡ some v → IsSound v
sound n s id v kept at = (
  (λ b. let f = once n s b kept in let l = total_le b s.views id v at in omega arith),
  λ some_left b there. let is = kept.capacities id v at some_left in let l = total_le b s.views id v at in
      dite (dec_le n b) (λ past. let p = kept.none_past b past in absurd (omega arith)) (λ not_past. omega arith),
)

pub view_changed : (l : List View) (i : ℕ) (a b : View) → get_elem? l i ≡ some a → get_elem? (set l i b) i ≡ some b
view_changed [] i a b e = absurd (some-ne-none a (sym e))
view_changed (x ∷ xs) zero a b e = refl
view_changed (x ∷ xs) (suc i) a b e = view_changed xs i a b e

-- a step that changes no count of a block in all views, and no word
pub same_counts : (n : ℕ) (s t : State U View) → t.words ≡ s.words → ((b : ℕ) → times_in_views b t.views ≡ times_in_views b s.views) → ((j : ℕ) (u : View) → get_elem? t.views j ≡ some u → 0 < u.capacity → u.capacity ≡ n) → SpaceRule n s → SpaceRule n t
same_counts n s t words counts capacities kept = record {
  count = ap length words ∙ kept.count;
  blocks = λ b h. counts b ∙ (kept.blocks b h ∙ ap (λ (w : List ℕ). bit_of w b) (sym words));
  none_past = λ b h. counts b ∙ kept.none_past b h;
  set_past = λ b h l. ap (λ (w : List ℕ). bit_of w b) words ∙ kept.set_past b h (let e = ap length words in omega arith);
  capacities = capacities;
}
