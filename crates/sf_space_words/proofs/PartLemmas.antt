-- A part and a merge keep the rule.
use Rattle.std.proofs.Common.{◌≡◌, ◌≢◌, ℕ, List, [], ◌∷◌, ◌++◌, set, refl, ap, arith, ⊎_elim}
use mathlib.Core.Option.{some}
use lib.ListN.{get_elem?}
use Rattle.atomic_table.specs.Table.{Splits, Joins}
use Rattle.atomic_table.proofs.Lists.{at_set, at_snoc}
use Rattle.std.proofs.lemmas.List.Sums.{sum_by_push}
use Rattle.sf_space_words.specs.declared.view.View.{View}
use Rattle.sf_space_words.specs.Blocks.{times, Covers}
use Rattle.sf_space_words.specs.Rule.{SpaceRule, spent_view}
use Rattle.sf_space_words.specs.Steps.{view_after_merge, view_after_part, view_of_part}
use Rattle.sf_space_words.proofs.TimesLemmas.{times-append, times-without_blocks}
use Rattle.sf_space_words.proofs.ViewLemmas.{total_set, total_le}
use Rattle.sf_space_words.proofs.RuleLemmas.{capacities_set, once, same_counts}

pub parts : (n id : ℕ) (v : View) (part : List ℕ) → Covers v.blocks part → Splits (SpaceRule n) id v (view_after_part part v) (view_of_part part v)
parts n id v part covers s kept at = same_counts n s (record { words = s.words; homes = s.homes; views = set s.views id (view_after_part part v) ++ view_of_part part v ∷ [] }) refl
    (λ b.
    let push = sum_by_push (λ (u : View). times b u.blocks) (set s.views id (view_after_part part v)) (view_of_part part v) in
    let total = total_set b s.views id v (view_after_part part v) at in
    let below = total_le b s.views id v at in
    let few = once n s b kept in
    let has = covers b in
    let less = times-without_blocks part b v.blocks has (omega arith) in omega arith)
    (λ j u e some_left.
    ⊎_elim
    (λ (old : get_elem? (set s.views id (view_after_part part v)) j ≡ some u). capacities_set n s.views id v (view_after_part part v) at refl kept.capacities j u old some_left)
    (λ (is : view_of_part part v ≡ u). let same : v.capacity ≡ u.capacity = ap (λ (z : View). z.capacity) is in let own = kept.capacities id v at (omega arith) in omega arith)
    (at_snoc (set s.views id (view_after_part part v)) (view_of_part part v) u j e))
    kept

pub merges : (n id other : ℕ) (v w : View) → Joins (SpaceRule n) id v other w (view_after_merge v w) spent_view
merges n id other v w s kept at apart there = same_counts n s (record { words = s.words; homes = s.homes; views = set (set s.views id (view_after_merge v w)) other spent_view }) refl
    (λ b.
    let first = total_set b s.views id v (view_after_merge v w) at in
    let second = total_set b (set s.views id (view_after_merge v w)) other w spent_view there in
    let both = times-append b v.blocks w.blocks in omega arith)
    (λ j u e some_left.
    ⊎_elim
    (λ (x : (j ≡ other) × (spent_view ≡ u)). let none_left : 0 ≡ u.capacity = ap (λ (z : View). z.capacity) x.1 in absurd (omega arith))
    (λ (x : (j ≢ other) × (get_elem? (set s.views id (view_after_merge v w)) j ≡ some u)). capacities_set n s.views id v (view_after_merge v w) at refl kept.capacities j u x.1 some_left)
    (at_set (set s.views id (view_after_merge v w)) other j spent_view u e))
    kept
