use Rattle.std.proofs.Common.{◌≡◌, ℕ, true, List, take, ap, ◌∙◌}
use Rattle.std.proofs.lemmas.List.{take_all}
use Rattle.std.specs.Prelude.{sum_by}
use Rattle.std.proofs.lemmas.List.Elements.{recursion_from_All}
use Rattle.sf_stock.specs.Stocks.{is_stocked}
use Rattle.sf_store_half.proofs.BlockLemmas.{weight_of, weights_are}
use Rattle.sf_store_half.proofs.reads.blocks_of_births.Goals as goal

pub returns : goal.returns
returns c =
    let stock = c.args.stock.now.held in
    let sound = c.next_birth-sound.ensures.sound in
    let births = c.as_slice-birth-items.result.now in
    let all : take c.loop-birth.birth-index births ≡ c.args.births.now = take_all c.loop-birth.birth-index births c.loop-birth-test.false ∙ c.as_slice-birth-items.ensures.births in
    c.loop-birth.invariant
    ∙ ap (λ (bs : List ℕ). sum_by (weight_of (λ b. true) stock.stocked) bs) all
    ∙ weights_are (λ b. true) stock.stocked c.args.births.now sound.rising c.as_slice-birth-items.ensures.rising
    (recursion_from_All (λ b. is_stocked stock.stocked b ≡ true) c.args.births.now c.requires)
    (recursion_from_All _ stock.stocked sound.counts)
