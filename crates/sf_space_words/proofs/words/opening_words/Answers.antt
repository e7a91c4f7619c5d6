use Rattle.std.proofs.Common.{◌∙◌, ap, sym, subst, List, ℕ, ◌-◌, ◌*◌, ◌%◌, ◌^◌, set, replicate}
use Rattle.sf_space_words.specs.declared.limits.TheConstants.{WORD_BLOCKS}
use Rattle.sf_space_words.specs.Inside.{AreOpening}
use Rattle.sf_space_words.proofs.OpeningLemmas.{opening_full, opening_cut}
use Rattle.sf_space_words.proofs.words.opening_words.Goals as goal
use Rattle.sf_space_words.proofs.words.opening_words.Goals.{then-rest-ne0, else-rest-ne0}

pub returns : goal.returns
returns c =
    let count = c.div_ceil-count.ensures in
    let zeros = c.in_ok-words.ensures.items_if_clones_equal (λ y e. e) ∙ ap (λ (n : ℕ). replicate n 0) count in
    let top : ℕ = 18446744073709551615 * 2 ^ (c.args.blocks % WORD_BLOCKS) % 18446744073709551616 in
    elim c.if-rest-ne0.branch [
      | then-rest-ne0 w ↦
          subst (λ (l : List ℕ). AreOpening c.args.blocks l)
          (sym (ap (λ v. v.items) w.words-is ∙ (λ i. set (zeros i) (count i - 1) top)))
          (opening_cut c.args.blocks w.if-rest-ne0.true)
      | else-rest-ne0 w ↦ subst (λ (l : List ℕ). AreOpening c.args.blocks l) (sym (ap (λ v. v.items) w.words-is ∙ zeros)) (opening_full c.args.blocks w.if-rest-ne0.false)
    ]
