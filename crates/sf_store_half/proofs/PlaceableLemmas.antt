-- New contents that a stock can take, one after the other.
use Rattle.std.proofs.Common.{◌≡◌, ℕ, zero, suc, ◌+◌, ◌≤◌, ◌<◌, ◌^◌, cond, nat_lt, List, [], ◌∷◌, ◌++◌, length, take, drop, refl, sym, ap, subst, ◌∙◌, append_assoc, arith}
use Rattle.std.specs.Prelude.{◌==◌, ◌≢◌, All, AllPairs, Contains, sum_by}
use Rattle.std.specs.List.{AllByRecursion as Each}
use Rattle.std.specs.Cmp.{unsigned_Decides}
use Rattle.std.proofs.lemmas.List.{append-nil, length-drop, length-take-le}
use Rattle.std.proofs.lemmas.Grind.{div_ceil_times}
use Rattle.std.proofs.lemmas.List.Elements.{All-from_recursion}
use Rattle.std.proofs.lemmas.List.Sums.{sum_by-cons}
use Rattle.std.proofs.lemmas.Map.Made.{AllPairs-from_IsDistinct}
use Rattle.sf_types.specs.Space.BlockRuns.{blocks_in}
use Rattle.sf_types.specs.Space.Contents.{blocks_of}
use Rattle.sf_types.specs.Space.Placings.{Placed, all_blocks}
use Rattle.sf_types.proofs.NumberLemmas.{own_number}
use Rattle.sf_laws.proofs.EachLemmas.{each_contained}
use Rattle.sf_lifetimes.proofs.CountLemmas.{distinct, once_below}
use Rattle.sf_lifetimes.proofs.LedgerLemmas.{named_fit}
use Rattle.sf_lifetimes.proofs.ListingLemmas.{all_below}
use Rattle.sf_stock.specs.Since.{IsSince}
use Rattle.sf_stock.specs.Stocks.{IsNewPlace, IsSound, NewContentView, Stocked, StockView, newcomer, places_of, stock_blocks, with_new}
use Rattle.sf_stock.proofs.NewLemmas.{both_once, count-append, count_of}
use Rattle.sf_stock.proofs.SinceLemmas.{since_new}
use Rattle.sf_store_half.specs.Inside.Plans.{AreNewPlaces, stocked_from, with_all_new}
use Rattle.sf_store_half.proofs.GrownLemmas.{AreCut, IsCutAs, OfSize, weight}

-- ---- counts of blocks
count_parts : (block k : ℕ) (xs : List ℕ) → count_of block (take k xs) + count_of block (drop k xs) ≡ count_of block xs
count_parts block zero xs = omega arith
count_parts block (suc k) [] = refl
count_parts block (suc k) (x ∷ xs) =
    omega (arith, count_parts block k xs, sum_by-cons (λ y. cond {A = ℕ} (block == y) 1 0) x (take k xs), sum_by-cons (λ y. cond {A = ℕ} (block == y) 1 0) x xs)

count_first : (block x : ℕ) (xs : List ℕ) → block ≡ x → 1 ≤ count_of block (x ∷ xs)
count_first block x xs same = omega (arith, sum_by-cons (λ y. cond {A = ℕ} (block == y) 1 0) x xs, ap {B = ℕ} (λ t. cond t 1 0) (ap (λ n. block == n) (sym same) ∙ own_number block))

-- blocks of which none is counted are not contained
none_contained : (all : List ℕ) (block : ℕ) → count_of block all ≡ 0 → ¬ (Contains all block)
none_contained all block none has = each_contained (λ y. block ≢ y) all block (others all none) has refl
  where
    others : (xs : List ℕ) → count_of block xs ≡ 0 → Each (λ y. block ≢ y) xs
    others [] none = tt
    others (x ∷ xs) none = (
      (λ same. omega (arith, none, count_first block x xs same)),
      others xs (omega (arith, none, sum_by-cons (λ y. cond {A = ℕ} (block == y) 1 0) x xs)),
    )

each_apart : (all own xs : List ℕ) → ((block : ℕ) → count_of block all + count_of block own ≤ 1) → ((block : ℕ) → count_of block xs ≤ count_of block own) → Each (λ block. ¬ (Contains all block)) xs
each_apart all own [] once within = tt
each_apart all own (x ∷ xs) once within = (
  none_contained all x (omega (arith, once x, within x, count_first x x xs refl)),
  each_apart all own xs once (λ block. omega (arith, within block, sum_by-cons (λ y. cond {A = ℕ} (block == y) 1 0) x xs)),
)

-- ---- blocks that stand nowhere in a stock
abbrev pub AreFree : StockView → List ℕ → Type 0
AreFree stock blocks = (block : ℕ) → count_of block (stock_blocks stock) + count_of block blocks ≤ cond (nat_lt block (2 ^ 32)) 1 0

pub free_at_first : (stock : StockView) (blocks : List ℕ) → IsSound stock → stock.left ≡ [] → All (λ block. block < 2 ^ 32) blocks → AllPairs (λ block other. block ≢ other) blocks
    → All (λ block. ¬ (Contains (all_blocks (places_of stock.stocked) ++ stock.parked) block)) blocks → AreFree stock blocks
free_at_first stock blocks sound none below once apart =
    both_once (stock_blocks stock) blocks (named_fit (stock_blocks stock) sound.below sound.once) below once
    (subst (λ (xs : List Placed). All (λ block. ¬ (Contains (all_blocks (places_of stock.stocked) ++ (all_blocks xs ++ stock.parked)) block)) blocks) (sym none) apart)

one_block : (n : ℕ) → 1 ≤ n → 1 ≤ blocks_of n
one_block n some = omega (arith, some, (div_ceil_times n 512 (omega arith)).0)

new_place : (stock : StockView) (n : NewContentView) (blocks : List ℕ) → AreFree stock blocks → blocks_in n.runs ≡ take (blocks_of (length n.content.bytes)) blocks → blocks_of (length n.content.bytes) ≤ length blocks → OfSize n.content.bytes → IsNewPlace stock n
new_place stock n blocks free is enough size =
    let k = blocks_of (length n.content.bytes) in
    let own = take k blocks in
    let all = stock_blocks stock in
    let most : (block : ℕ) → count_of block all + count_of block own ≤ cond (nat_lt block (2 ^ 32)) 1 0 = λ block. omega (arith, free block, count_parts block k blocks) in
    let count : length (blocks_in n.runs) ≡ k = ap length is ∙ length-take-le k blocks enough in
    record {
      below = subst (All (λ block. block < 2 ^ 32)) (sym is) (All-from_recursion (λ block. block < 2 ^ 32) own (all_below (2 ^ 32) own (λ block. omega (arith, most block))));
      once = subst (AllPairs (λ block other. block ≢ other)) (sym is) (AllPairs-from_IsDistinct unsigned_Decides own (distinct own (λ block. omega (arith, most block, once_below block (2 ^ 32)))));
      apart =
          subst (All (λ block. ¬ (Contains all block))) (sym is)
          (All-from_recursion (λ block. ¬ (Contains all block)) own (each_apart all own own (λ block. omega (arith, most block, once_below block (2 ^ 32))) (λ block. omega arith)));
      count = count;
      some = omega (arith, count, one_block (length n.content.bytes) size.0);
      size = size.1;
    }

blocks_with : (stock : StockView) (n : NewContentView) (block : ℕ) → count_of block (stock_blocks (with_new stock n)) ≡ count_of block (stock_blocks stock) + count_of block (blocks_in n.runs)
blocks_with stock n block =
    let old = all_blocks (places_of stock.stocked) in
    let rest = all_blocks stock.left ++ stock.parked in
    omega (
      arith,
      go stock.stocked,
      count-append block (all_blocks (places_of (stock.stocked ++ newcomer stock n ∷ []))) rest,
      count-append block old rest,
    )
  where
    go : (xs : List Stocked) → count_of block (all_blocks (places_of (xs ++ newcomer stock n ∷ []))) ≡ count_of block (all_blocks (places_of xs)) + count_of block (blocks_in n.runs)
    go [] = omega (arith, count-append block (blocks_in n.runs) [])
    go (x ∷ xs) = omega (arith, go xs, count-append block x.blocks (all_blocks (places_of (xs ++ newcomer stock n ∷ []))), count-append block x.blocks (all_blocks (places_of xs)))

free_with : (stock : StockView) (n : NewContentView) (blocks : List ℕ) (k : ℕ) → AreFree stock blocks → blocks_in n.runs ≡ take k blocks → AreFree (with_new stock n) (drop k blocks)
free_with stock n blocks k free is block = omega (arith, free block, blocks_with stock n block, ap (count_of block) is, count_parts block k blocks)

-- contents that are cut from free blocks, of which there are enough
pub are_new_places : (stock : StockView) (news : List NewContentView) (blocks : List ℕ) → AreFree stock blocks → AreCut stock.stocked stock.next blocks (stocked_from stock.next news) → sum_by weight (stocked_from stock.next news) ≤ length blocks → AreNewPlaces stock news
are_new_places stock [] blocks free cut enough = tt
are_new_places stock (n ∷ news) blocks free cut enough =
    let x = newcomer stock n in
    let k = blocks_of (length n.content.bytes) in
    let own : IsCutAs stock.stocked stock.next blocks x = cut.0 in
    let sum = sum_by-cons weight x (stocked_from (stock.next + 1) news) in (
      new_place stock n blocks free own.blocks_are (omega (arith, enough, sum)) own.size,
      own.apart,
      are_new_places (with_new stock n) news (drop k blocks) (free_with stock n blocks k free own.blocks_are) cut.1 (omega (arith, enough, sum, length-drop k blocks)),
    )

-- ---- a stock with new contents
pub all_stocked : (stock : StockView) (news : List NewContentView) → (with_all_new stock news).stocked ≡ stock.stocked ++ stocked_from stock.next news
all_stocked stock [] = sym (append-nil stock.stocked)
all_stocked stock (n ∷ news) = all_stocked (with_new stock n) news ∙ append_assoc stock.stocked (newcomer stock n ∷ []) (stocked_from (stock.next + 1) news)

pub all_next : (stock : StockView) (news : List NewContentView) → (with_all_new stock news).next ≡ stock.next + length news
all_next stock [] = omega arith
all_next stock (n ∷ news) = omega (arith, all_next (with_new stock n) news)

pub all_holdings : (stock : StockView) (news : List NewContentView) → (with_all_new stock news).holdings ≡ stock.holdings
all_holdings stock [] = refl
all_holdings stock (n ∷ news) = all_holdings (with_new stock n) news

pub all_parked : (stock : StockView) (news : List NewContentView) → (with_all_new stock news).parked ≡ stock.parked
all_parked stock [] = refl
all_parked stock (n ∷ news) = all_parked (with_new stock n) news

pub all_since : (before s : StockView) (new : List Stocked) (news : List NewContentView) → IsSince before new s → IsSince before (new ++ stocked_from s.next news) (with_all_new s news)
all_since before s new [] since = subst (λ (xs : List Stocked). IsSince before xs s) (sym (append-nil new)) since
all_since before s new (n ∷ news) since =
    subst (λ (xs : List Stocked). IsSince before xs (with_all_new (with_new s n) news)) (append_assoc new (newcomer s n ∷ []) (stocked_from (s.next + 1) news))
    (all_since before (with_new s n) (new ++ newcomer s n ∷ []) news (since_new before new s n since))

pub length_stocked : (n : ℕ) (news : List NewContentView) → length (stocked_from n news) ≡ length news
length_stocked n [] = refl
length_stocked n (x ∷ news) = ap (λ k. suc k) (length_stocked (n + 1) news)
