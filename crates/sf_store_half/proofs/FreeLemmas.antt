-- The number of free blocks, by the stock and the promised blocks.
use Rattle.std.proofs.Common.{◌≡◌, ℕ, ◌+◌, ◌-◌, List, [], ◌∷◌, Some, None, map, refl, ap, ◌∙◌, arith}
use Rattle.std.specs.Prelude.{sum_by}
use Rattle.std.proofs.lemmas.List.Sums.{sum_by-cons}
use Rattle.sf_types.specs.declared.options.Options.{Options}
use Rattle.sf_types.specs.Space.Use.{blocks_of_births}
use Rattle.sf_types.specs.Halves.Asks.{Half, Kept}
use Rattle.sf_types.specs.Halves.Flushes.{half_free, half_reach, kept_blocks}
use Rattle.sf_stock.specs.Stocks.{IsSound, block_count, live_of}
use Rattle.sf_store_half.specs.Fields.{Fields, Keeps, session_field}
use Rattle.sf_store_half.specs.Inside.Fields.{AreKept, promised_blocks}
use Rattle.sf_store_half.proofs.FieldLemmas.{live_are_all}
use Rattle.sf_store_half.proofs.StockLemmas.{use_by_stock}
use Rattle.sf_store_half.proofs.StockReachLemmas.{stocked_are_reached}

field_blocks : (k : Kept) → promised_blocks (session_field k) ≡ kept_blocks k
field_blocks k = elim k.promise as (λ o. promised_blocks (session_field (record k { promise = o })) ≡ kept_blocks (record k { promise = o })) [ None ↦ refl | Some q ↦ refl ]

pub promised_are : (ks : List Kept) → sum_by promised_blocks (map session_field ks) ≡ sum_by kept_blocks ks
promised_are [] = refl
promised_are (k ∷ ks) = omega (arith, sum_by-cons promised_blocks (session_field k) (map session_field ks), sum_by-cons kept_blocks k ks, field_blocks k, promised_are ks)

pub free_is : (f : Fields) (promised live : ℕ) (h : Half) → AreKept f promised → Keeps f h → IsSound f.stock → live ≡ block_count (live_of f.stock) → f.options.capacity - (live + promised) ≡ half_free h
free_is f promised live h kept keeps sound is =
    let used : live ≡ blocks_of_births h.contents (half_reach h) =
    is ∙ ap block_count (live_are_all f.stock.holdings f.stock.stocked keeps.live) ∙ use_by_stock f h (stocked_are_reached f h keeps sound) keeps sound in
    let promises : promised ≡ sum_by kept_blocks h.sessions = kept.count ∙ ap (sum_by promised_blocks) keeps.sessions ∙ promised_are h.sessions in
    ap (λ (o : Options). o.capacity - (live + promised)) keeps.options
    ∙ ap (λ n. h.options.capacity - (n + promised)) used
    ∙ ap (λ n. h.options.capacity - (blocks_of_births h.contents (half_reach h) + n)) promises
