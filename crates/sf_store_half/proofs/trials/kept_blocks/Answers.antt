use Rattle.std.proofs.Common.{◌≡◌, ℕ, Bool, true, List, length, take, ap, ◌∙◌}
use Rattle.std.proofs.lemmas.List.{take_all}
use Rattle.std.specs.Prelude.{not, sum_by}
use Rattle.std.proofs.lemmas.List.Elements.{recursion_from_All}
use Rattle.sf_types.specs.Space.Contents.{blocks_of}
use Rattle.sf_lifetimes.specs.Ledgers.{Holdings, is_live, without_holders}
use Rattle.sf_stock.specs.Stocks.{Stocked, is_stocked}
use Rattle.sf_store_half.proofs.BlockLemmas.{weight_of, weights_are}
use Rattle.sf_store_half.proofs.trials.kept_blocks.Goals as goal

pub returns : goal.returns
returns c =
    let stock = c.args.stock.now.held in
    let unheld : Holdings → ℕ → Bool = λ m b. not (is_live (without_holders m c.args.given.now.holders) b) in
    let sound = c.next_birth.ensures.sound in
    let births = c.as_slice-birth-items.result.now in
    let all : take c.loop-birth.birth-index births ≡ c.args.births.now = take_all c.loop-birth.birth-index births c.loop-birth-test.false ∙ c.as_slice-birth-items.ensures.births in
    c.loop-birth.invariant
    ∙ ap (λ (bs : List ℕ). sum_by (weight_of (unheld c.args.given.now.ledger.holdings) stock.stocked) bs) all
    ∙ ap (λ m. sum_by (weight_of (unheld m) stock.stocked) c.args.births.now) c.requires.given.holdings
    ∙ weights_are (unheld stock.holdings) stock.stocked c.args.births.now sound.rising c.as_slice-birth-items.ensures.rising
    (recursion_from_All (λ b. is_stocked stock.stocked b ≡ true) c.args.births.now c.requires.births)
    (recursion_from_All (λ (x : Stocked). length x.blocks ≡ blocks_of (length x.content.bytes)) stock.stocked sound.counts)
