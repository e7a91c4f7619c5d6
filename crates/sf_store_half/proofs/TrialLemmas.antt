-- What would be in reach once holders were given up.
use Rattle.std.proofs.Common.{◌≡◌, ℕ, ◌+◌, ◌≤◌, Bool, true, List, [], ◌∷◌, ap, arith}
use Rattle.std.specs.Prelude.{not, ◌&&◌, filter, All}
use Rattle.std.specs.List.{AllByRecursion as Each}
use Rattle.std.proofs.lemmas.List.Elements.{recursion_from_All}
use Rattle.sf_types.specs.declared.holder.Holder.{Holder}
use Rattle.sf_lifetimes.specs.Ledgers.{Holdings, has_birth, is_live, without_holders}
use Rattle.sf_stock.specs.Stocks.{Stocked, StockView, block_count, freed_blocks, has_left, live_of}
use Rattle.sf_store_half.specs.Inside.Trials.{kept_alone, reached_stock}
use Rattle.sf_store_half.proofs.BlockLemmas.{count_split, count_either, same_taken}
use Rattle.sf_store_half.proofs.FieldLemmas.{live_are_all}

left_where_unheld : (m after : Holdings) (xs : List Stocked) → Each (λ x. is_live m x.birth ≡ true) xs → Each (λ x. has_left m after x.birth ≡ not (is_live after x.birth)) xs
left_where_unheld m after [] live = tt
left_where_unheld m after (x ∷ xs) live = (ap (λ t. t && not (is_live after x.birth)) live.0, left_where_unheld m after xs live.1)

module _ (s : StockView) (holders : List Holder) (live : All (λ x. is_live s.holdings x.birth ≡ true) s.stocked) where
  abbrev stays : Stocked → Bool
  stays x = is_live (without_holders s.holdings holders) x.birth

  freed_is : freed_blocks s holders ≡ block_count (filter (λ x. not (stays x)) s.stocked)
  freed_is =
      ap block_count (same_taken (λ x. has_left s.holdings (without_holders s.holdings holders) x.birth) (λ x. not (stays x)) s.stocked
      (left_where_unheld s.holdings (without_holders s.holdings holders) s.stocked (recursion_from_All (λ (x : Stocked). is_live s.holdings x.birth ≡ true) s.stocked live)))

  all_live : block_count (live_of s) ≡ block_count s.stocked
  all_live = ap block_count (live_are_all s.holdings s.stocked live)

  -- no more blocks are freed than there are
  pub freed_within : freed_blocks s holders ≤ block_count (live_of s)
  freed_within = omega (arith, freed_is, all_live, count_split stays s.stocked)

  -- what would be reached are the blocks that there are, less the freed ones, and those that the births keep
  pub reached_is : (births : List ℕ) → block_count (reached_stock s holders births) + freed_blocks s holders ≡ block_count (live_of s) + block_count (filter (kept_alone s holders births) s.stocked)
  reached_is births = omega (arith, freed_is, all_live, count_split stays s.stocked, count_either stays (λ x. has_birth births x.birth) s.stocked)
