-- A release keeps the rule.
use Rattle.std.proofs.Common.{◌≡◌, ◌≢◌, ℕ, ◌+◌, ◌-◌, ◌*◌, ◌/◌, ◌%◌, ◌^◌, ◌<◌, ◌≤◌, min, List, length, get_or, set, bit_and, refl, sym, ap, ◌∙◌, arith, length-set}
use Rattle.std.specs.Int.{bit_at, bit_not}
use mir.Syntax.{w64}
use mathlib.Core.Option.{none, some}
use mathlib.Core.Logic.{dite}
use native.Mathlib.Decide.{ℕ_discrete}
use lib.ListN.{get_elem?}
use Rattle.atomic_table.specs.Table.{State, Me, step, keeps, stepped, Allows}
use Rattle.std.proofs.lemmas.Nat.Bits.{bit_at-lt, bit_at_and, bit_at_not}
use Rattle.sf_space_words.specs.declared.limits.TheConstants.{WORD_BLOCKS}
use Rattle.sf_space_words.specs.declared.view.View.{View}
use Rattle.sf_space_words.specs.Blocks.{word_count, times, blocks_of_mask, bit_of, Covers}
use Rattle.sf_space_words.specs.Rule.{SpaceRule, times_in_views}
use Rattle.sf_space_words.specs.Steps.{view_after_release, Releases}
use Rattle.sf_space_words.proofs.TimesLemmas.{times-mask_here, times-without_here, times-without_else}
use Rattle.sf_space_words.proofs.ViewLemmas.{total_set, total_le, bit_of_set, bit_of_else}
use Rattle.sf_space_words.proofs.RuleLemmas.{U, capacities_set, once, sound, view_changed}

pub not_twice : (mask : ℕ) → mask < 2 ^ 64 → bit_not w64 (bit_not w64 mask) ≡ mask
not_twice mask h = omega arith

release_here : (n : ℕ) (s : State U View) (id word mask b : ℕ) (v : View) → SpaceRule n s → get_elem? s.views id ≡ some v → word < length s.words → get_or s.words word 0 < 2 ^ 64 → mask < 2 ^ 64 → Covers v.blocks (blocks_of_mask word mask) → b / WORD_BLOCKS ≡ word
    → (bit_of (set s.words word (bit_and (get_or s.words word 0) (bit_not w64 mask))) b ≡ min (bit_of s.words b) (1 - bit_at mask (b % WORD_BLOCKS)))
    × (times_in_views b (set s.views id (view_after_release word (bit_not w64 mask) v)) + bit_at mask (b % WORD_BLOCKS) ≡ times_in_views b s.views)
    × (bit_of s.words b < 2) × (bit_at mask (b % WORD_BLOCKS) ≤ times_in_views b s.views)
release_here n s id word mask b v kept at lt small fits covers e =
    let found : ℕ = get_or s.words word 0 in
    let is : bit_of s.words b ≡ bit_at found (b % WORD_BLOCKS) = ap (λ (k : ℕ). bit_at (get_or s.words k 0) (b % WORD_BLOCKS)) e in
    let x : ℕ = times b v.blocks in
    let total = total_set b s.views id v (view_after_release word (bit_not w64 mask) v) at in
    let below = total_le b s.views id v at in
    let few = once n s b kept in
    let has = covers b in
    let asked = times-mask_here word mask b e in
    let less = times-without_here word (bit_not w64 (bit_not w64 mask)) b v.blocks e (omega arith) in
    let same : bit_at (bit_not w64 (bit_not w64 mask)) (b % WORD_BLOCKS) ≡ bit_at mask (b % WORD_BLOCKS) = ap (λ (k : ℕ). bit_at k (b % WORD_BLOCKS)) (not_twice mask fits) in (
      bit_of_set s.words word (bit_and found (bit_not w64 mask)) b lt e ∙ (bit_at_and found (bit_not w64 mask) (b % WORD_BLOCKS) ∙ ap₂' (sym is) (bit_at_not w64 mask (b % WORD_BLOCKS) fits (omega arith))),
      omega arith,
      (let l = bit_at-lt found (b % WORD_BLOCKS) in omega arith),
      omega arith,
    )
  where
    ap₂' : {a a' c c' : ℕ} → a ≡ a' → c ≡ c' → min a c ≡ min a' c'
    ap₂' p q = λ i. min (p i) (q i)

release_else : (words : List ℕ) (views : List View) (id : ℕ) (v : View) (word k n b : ℕ) → get_elem? views id ≡ some v → b / WORD_BLOCKS ≢ word
    → (bit_of (set words word n) b ≡ bit_of words b) × (times_in_views b (set views id (view_after_release word k v)) ≡ times_in_views b views)
release_else words views id v word k n b at ne =
    let total = total_set b views id v (view_after_release word k v) at in
    let same = times-without_else word (bit_not w64 k) b v.blocks ne in (bit_of_else words word n b ne, omega arith)

releases_keep : (n : ℕ) (s : State U View) (id word mask : ℕ) (me : Me U View) → word < word_count n → mask < 2 ^ 64 → Covers me.0.blocks (blocks_of_mask word mask) → SpaceRule n s → get_elem? s.views id ≡ some me.0 → get_or s.words word 0 < 2 ^ 64
    → SpaceRule n (stepped s word (bit_and (get_or s.words word 0) (bit_not w64 mask)) id me.1 (view_after_release word (bit_not w64 mask) me.0) keeps)
releases_keep n s id word mask me lt fits covers kept at small =
    let new : ℕ = bit_and (get_or s.words word 0) (bit_not w64 mask) in
    let there : word < length s.words = let c = kept.count in omega arith in
    record {
      count = length-set s.words word new ∙ kept.count;
      blocks = λ b h. dite (ℕ_discrete (b / WORD_BLOCKS) word)
          (λ e. let t = release_here n s id word mask b me.0 kept at there small fits covers e in let k = kept.blocks b h in let a = t.0 in let c = t.1 in let d = t.2 in let f = t.3 in omega arith)
          (λ ne. let t = release_else s.words s.views id me.0 word (bit_not w64 mask) new b at ne in t.1 ∙ (kept.blocks b h ∙ sym t.0));
      none_past = λ b h. dite (ℕ_discrete (b / WORD_BLOCKS) word)
          (λ e. let t = release_here n s id word mask b me.0 kept at there small fits covers e in let k = kept.none_past b h in let c = t.1 in omega arith)
          (λ ne. let t = release_else s.words s.views id me.0 word (bit_not w64 mask) new b at ne in t.1 ∙ kept.none_past b h);
      set_past = λ b h l. let l' : b < WORD_BLOCKS * length s.words = let c = length-set s.words word new in omega arith in dite (ℕ_discrete (b / WORD_BLOCKS) word)
          (λ e. let t = release_here n s id word mask b me.0 kept at there small fits covers e in let k = kept.set_past b h l' in let p = kept.none_past b h in let a = t.0 in let f = t.3 in omega arith)
          (λ ne. let t = release_else s.words s.views id me.0 word (bit_not w64 mask) new b at ne in t.0 ∙ kept.set_past b h l');
      capacities = capacities_set n s.views id me.0 (view_after_release word (bit_not w64 mask) me.0) at refl kept.capacities;
    }

pub releases : (n slots id word mask : ℕ) (me : Me U View) → word < word_count n → mask < 2 ^ 64 → Covers me.0.blocks (blocks_of_mask word mask)
    → Allows (SpaceRule n) slots id me word (λ k. bit_and k (bit_not w64 mask)) (Releases (step slots word (bit_not w64 mask) 0 none) me)
releases n slots id word mask me lt fits covers s kept _ at small = (view_after_release word (bit_not w64 mask) me.0, keeps, tt, releases_keep n s id word mask me lt fits covers kept at small, (refl, sound n (stepped s word (bit_and (get_or s.words word 0) (bit_not w64 mask)) id me.1 (view_after_release word (bit_not w64 mask) me.0) keeps) id (view_after_release word (bit_not w64 mask) me.0) (releases_keep n s id word mask me lt fits covers kept at small) (view_changed s.views id me.0 (view_after_release word (bit_not w64 mask) me.0) at)))
