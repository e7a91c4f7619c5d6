-- A claim keeps the rule.
use Rattle.std.proofs.Common.{◌≡◌, ◌≢◌, ℕ, ◌+◌, ◌-◌, ◌*◌, ◌/◌, ◌%◌, ◌^◌, ◌<◌, min, max, List, length, get_or, set, bit_or, refl, sym, ap, ◌∙◌, arith, length-set}
use Rattle.std.specs.Int.{bit_at, bit_not}
use mir.Syntax.{w64}
use mathlib.Core.Option.{none, some}
use mathlib.Core.Logic.{dite}
use native.Mathlib.Decide.{ℕ_discrete}
use lib.ListN.{get_elem?}
use Rattle.atomic_table.specs.Table.{State, Me, step, keeps, stepped, Allows}
use Rattle.std.proofs.lemmas.Nat.Bits.{bit_at-lt, bit_at_or, bit_at_and, bit_at_not}
use Rattle.sf_space_words.specs.declared.limits.TheConstants.{WORD_BLOCKS}
use Rattle.sf_space_words.specs.declared.view.View.{View}
use Rattle.sf_space_words.specs.Blocks.{word_count, times, blocks_of_mask, bit_of, clear_bits}
use Rattle.sf_space_words.specs.Rule.{SpaceRule, times_in_views}
use Rattle.sf_space_words.specs.Steps.{view_after_claim, Claims}
use Rattle.sf_space_words.proofs.TimesLemmas.{times-append, times-mask_here, times-mask_else}
use Rattle.sf_space_words.proofs.ViewLemmas.{total_set, bit_of_set, bit_of_else}
use Rattle.sf_space_words.proofs.RuleLemmas.{U, capacities_set, sound, view_changed}

-- what a claim changes of one block, in its word
claim_here : (words : List ℕ) (views : List View) (id : ℕ) (v : View) (word mask b : ℕ) → get_elem? views id ≡ some v → word < length words → get_or words word 0 < 2 ^ 64 → b / WORD_BLOCKS ≡ word
    → (bit_of (set words word (bit_or (get_or words word 0) mask)) b ≡ max (bit_of words b) (bit_at mask (b % WORD_BLOCKS)))
    × (times_in_views b (set views id (view_after_claim word mask (get_or words word 0) v)) ≡ times_in_views b views + min (bit_at mask (b % WORD_BLOCKS)) (1 - bit_of words b))
    × (bit_of words b < 2) × (bit_at mask (b % WORD_BLOCKS) < 2)
claim_here words views id v word mask b at lt small e =
    let found : ℕ = get_or words word 0 in
    let is : bit_of words b ≡ bit_at found (b % WORD_BLOCKS) = ap (λ (k : ℕ). bit_at (get_or words k 0) (b % WORD_BLOCKS)) e in
    let total = total_set b views id v (view_after_claim word mask found v) at in
    let more = times-append b v.blocks (blocks_of_mask word (clear_bits mask found)) in
    let gain = times-mask_here word (clear_bits mask found) b e in
    let both = bit_at_and mask (bit_not w64 found) (b % WORD_BLOCKS) in
    let other = bit_at_not w64 found (b % WORD_BLOCKS) small (omega arith) in
    let gained : times b (blocks_of_mask word (clear_bits mask found)) ≡ min (bit_at mask (b % WORD_BLOCKS)) (1 - bit_at found (b % WORD_BLOCKS)) =
    gain ∙ (both ∙ ap (min (bit_at mask (b % WORD_BLOCKS))) other) in (
      bit_of_set words word (bit_or found mask) b lt e ∙ (bit_at_or found mask (b % WORD_BLOCKS) ∙ ap (λ (k : ℕ). max k (bit_at mask (b % WORD_BLOCKS))) (sym is)),
      (let g : times b (blocks_of_mask word (clear_bits mask found)) ≡ min (bit_at mask (b % WORD_BLOCKS)) (1 - bit_of words b) = gained ∙ ap (λ (k : ℕ). min (bit_at mask (b % WORD_BLOCKS)) (1 - k)) (sym is) in omega arith),
      (let l = bit_at-lt found (b % WORD_BLOCKS) in omega arith),
      bit_at-lt mask (b % WORD_BLOCKS),
    )

-- and in another word
claim_else : (words : List ℕ) (views : List View) (id : ℕ) (v : View) (word mask n b : ℕ) → get_elem? views id ≡ some v → b / WORD_BLOCKS ≢ word
    → (bit_of (set words word n) b ≡ bit_of words b) × (times_in_views b (set views id (view_after_claim word mask (get_or words word 0) v)) ≡ times_in_views b views)
claim_else words views id v word mask n b at ne =
    let found : ℕ = get_or words word 0 in
    let total = total_set b views id v (view_after_claim word mask found v) at in
    let more = times-append b v.blocks (blocks_of_mask word (clear_bits mask found)) in
    let gain = times-mask_else word (clear_bits mask found) b ne in (bit_of_else words word n b ne, omega arith)

pub claims_keep : (n : ℕ) (s : State U View) (id word mask : ℕ) (me : Me U View) → word < word_count n → SpaceRule n s → get_elem? s.views id ≡ some me.0 → get_or s.words word 0 < 2 ^ 64
    → SpaceRule n (stepped s word (bit_or (get_or s.words word 0) mask) id me.1 (view_after_claim word mask (get_or s.words word 0) me.0) keeps)
claims_keep n s id word mask me lt kept at small =
    let found : ℕ = get_or s.words word 0 in
    let there : word < length s.words = let c = kept.count in omega arith in
    record {
      count = length-set s.words word (bit_or found mask) ∙ kept.count;
      blocks = λ b h. dite (ℕ_discrete (b / WORD_BLOCKS) word)
          (λ e. let t = claim_here s.words s.views id me.0 word mask b at there small e in let k = kept.blocks b h in let a = t.0 in let c = t.1 in let d = t.2 in let f = t.3 in omega arith)
          (λ ne. let t = claim_else s.words s.views id me.0 word mask (bit_or found mask) b at ne in t.1 ∙ (kept.blocks b h ∙ sym t.0));
      none_past = λ b h. dite (ℕ_discrete (b / WORD_BLOCKS) word)
          (λ e. let t = claim_here s.words s.views id me.0 word mask b at there small e in let k = kept.none_past b h in let full = kept.set_past b h (omega arith) in let c = t.1 in omega arith)
          (λ ne. let t = claim_else s.words s.views id me.0 word mask (bit_or found mask) b at ne in t.1 ∙ kept.none_past b h);
      set_past = λ b h l. let l' : b < WORD_BLOCKS * length s.words = let c = length-set s.words word (bit_or found mask) in omega arith in dite (ℕ_discrete (b / WORD_BLOCKS) word)
          (λ e. let t = claim_here s.words s.views id me.0 word mask b at there small e in let k = kept.set_past b h l' in let a = t.0 in let f = t.3 in omega arith)
          (λ ne. let t = claim_else s.words s.views id me.0 word mask (bit_or found mask) b at ne in t.0 ∙ kept.set_past b h l');
      capacities = capacities_set n s.views id me.0 (view_after_claim word mask found me.0) at refl kept.capacities;
    }

pub claims : (n slots id word mask : ℕ) (me : Me U View) → word < word_count n → Allows (SpaceRule n) slots id me word (λ k. bit_or k mask) (Claims (step slots word mask 0 none) me)
claims n slots id word mask me lt s kept _ at small = (view_after_claim word mask (get_or s.words word 0) me.0, keeps, tt, claims_keep n s id word mask me lt kept at small, (refl, sound n (stepped s word (bit_or (get_or s.words word 0) mask) id me.1 (view_after_claim word mask (get_or s.words word 0) me.0) keeps) id (view_after_claim word mask (get_or s.words word 0) me.0) (claims_keep n s id word mask me lt kept at small) (view_changed s.views id me.0 (view_after_claim word mask (get_or s.words word 0) me.0) at)))
