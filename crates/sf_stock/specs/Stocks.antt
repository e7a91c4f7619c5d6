-- What a store keeps of contents: who holds them, where they stand, and the blocks of those that left (our own, after VLDB 2008).
use Rattle.std.specs.Prelude.{◌≡◌, ◌≢◌, ℕ, ◌+◌, ◌≤◌, ◌<◌, ◌^◌, Bool, not, ◌&&◌, ◌==◌, bytes_eq, List, [], ◌∷◌, ◌++◌, map, length, drop, find, All, AllPairs, Contains, Option, true, false}
use Rattle.std.specs.List.{AllByRecursion, filter, list_any}
use Rattle.std.specs.Option.{option_map}
use Rattle.std.specs.FinMap as fin
use Rattle.sha2.specs.Sha256.{sha256}
use Rattle.sf_types.specs.declared.holder.Holder.{Holder}
use Rattle.sf_types.specs.declared.limits.TheConstants.{CONTENT_BYTES}
use Rattle.sf_types.specs.declared.place.Place.{Place}
use Rattle.sf_types.specs.declared.run.Run.{Run}
use Rattle.sf_types.specs.Inside.Births.{IsRising}
use Rattle.sf_types.specs.Table.Parts.{Content}
use Rattle.sf_types.specs.Space.BlockRuns.{blocks_in}
use Rattle.sf_types.specs.Space.Contents.{blocks_of}
use Rattle.sf_types.specs.Space.Grants.{maximal_runs}
use Rattle.sf_types.specs.Space.Placings.{Placed, all_blocks}
use Rattle.sf_types.specs.Play.Blocks.{places_by_first}
use Rattle.sf_shrink.specs.declared.shifts.Shift.{Shift}
use Rattle.sf_shrink.specs.Plans.{blocks_of_shifts}
use Rattle.sf_lifetimes.specs.Ledgers.{Holdings, with_births, without_holders, is_live}

-- A birth that has a place: its content, and its blocks in the content's order.
pub record Stocked : Type 0 where
  pub birth : ℕ
  pub content : Content
  pub blocks : List ℕ

-- A content that comes: its bytes, whether it is shared, and the runs in which it is to stand.
pub record NewContentView : Type 0 where
  pub content : Content
  pub runs : List Run

-- A stock: the births of each holder; the number of the next birth; the births that have a place, rising; those that nobody
-- holds any more and whose blocks are not parked yet, in the order in which they left; and the parked blocks, the one that
-- was parked first before the others.
pub record StockView : Type 0 where
  pub holdings : Holdings
  pub next : ℕ
  pub stocked : List Stocked
  pub left : List Placed
  pub parked : List ℕ

-- A stock of nothing. Births are numbered from 1.
abbrev pub empty_stock : StockView
empty_stock = record { holdings = fin.empty; next = 1; stocked = []; left = []; parked = [] }

-- The place of a birth.
abbrev pub place_of : Stocked → Placed
place_of x = record { birth = x.birth; blocks = x.blocks }

-- The births that have a place, and their places, rising.
abbrev pub births_of : List Stocked → List ℕ
births_of stocked = map (λ x. x.birth) stocked

abbrev pub places_of : List Stocked → List Placed
places_of stocked = map place_of stocked

-- Whether a birth has a place.
abbrev pub is_stocked : List Stocked → ℕ → Bool
is_stocked stocked birth = list_any (λ x. birth == x.birth) stocked

-- The next birth, with a new content.
abbrev pub newcomer : StockView → NewContentView → Stocked
newcomer stock new = record { birth = stock.next; content = new.content; blocks = blocks_in new.runs }

-- The stock with a new content, which gets the next birth and which nobody holds yet.
abbrev pub with_new : StockView → NewContentView → StockView
with_new stock new = record stock {
  next = stock.next + 1;
  stocked = stock.stocked ++ newcomer stock new ∷ [];
}

-- Whether a birth was held and isn't any more.
abbrev pub has_left : Holdings → Holdings → ℕ → Bool
has_left before after birth = is_live before birth && not (is_live after birth)

-- The stock once holders hold other births: those that nobody holds any more leave, each with its place, in rising order.
abbrev pub with_holdings : StockView → Holdings → StockView
with_holdings stock after = record stock {
  holdings = after;
  stocked = filter (λ x. not (has_left stock.holdings after x.birth)) stock.stocked;
  left = stock.left ++ places_of (filter (λ x. has_left stock.holdings after x.birth) stock.stocked);
}

-- The stock once a holder holds these births in place of what it held.
abbrev pub with_holder : StockView → Holder → List ℕ → StockView
with_holder stock holder births = with_holdings stock (with_births stock.holdings holder births)

-- The stock once the blocks of all births that left are parked, of a place that begins with a lower block first.
abbrev pub with_left_parked : StockView → StockView
with_left_parked stock = record stock { left = []; parked = stock.parked ++ all_blocks (places_by_first stock.left) }

-- Whether this is a shared content of these bytes.
abbrev pub is_shared_with : List ℕ → Stocked → Bool
is_shared_with bytes x = x.content.is_shared && bytes_eq x.content.bytes bytes

-- The birth of the shared content of these bytes, where there is one.
abbrev pub shared_birth : List Stocked → List ℕ → Option ℕ
shared_birth stocked bytes = option_map (λ x. x.birth) (find (is_shared_with bytes) stocked)

-- All blocks of a stock: of the places, of those that left, and the parked ones.
abbrev pub stock_blocks : StockView → List ℕ
stock_blocks stock = all_blocks (places_of stock.stocked) ++ (all_blocks stock.left ++ stock.parked)

-- A content that a stock can take: it is no longer than a content may be; its blocks are below 2^32, named once each, and stand
-- nowhere in the stock; and they are as many as its bytes take, one at least.
pub record IsNewPlace (stock : StockView) (new : NewContentView) : Type 0 where
  pub below : All (λ block. block < 2 ^ 32) (blocks_in new.runs)
  pub once : AllPairs (λ block other. block ≢ other) (blocks_in new.runs)
  pub apart : All (λ block. ¬ (Contains (stock_blocks stock) block)) (blocks_in new.runs)
  pub count : length (blocks_in new.runs) ≡ blocks_of (length new.content.bytes)
  pub some : 1 ≤ length (blocks_in new.runs)
  pub size : length new.content.bytes ≤ CONTENT_BYTES

-- The births that somebody holds.
abbrev pub live_of : StockView → List Stocked
live_of stock = filter (λ x. is_live stock.holdings x.birth) stock.stocked

-- How a birth is listed: its length in bytes, its digest, and the maximal runs of its blocks.
abbrev pub listed_place : Stocked → Place
listed_place x = record { birth = x.birth; len = length x.content.bytes; sum = sha256 x.content.bytes; runs = maximal_runs x.blocks }

-- What a birth has that has a place.
abbrev pub stocked_at : List Stocked → ℕ → Option Stocked
stocked_at stocked birth = find (λ x. birth == x.birth) stocked

-- The number of blocks of some births.
abbrev pub block_count : List Stocked → ℕ
block_count stocked = length (all_blocks (places_of stocked))

-- The blocks of the births that none but some holders hold.
abbrev pub freed_blocks : StockView → List Holder → ℕ
freed_blocks stock holders = block_count (filter (λ x. has_left stock.holdings (without_holders stock.holdings holders) x.birth) stock.stocked)

-- The stock without its first parked blocks.
abbrev pub without_ripe : StockView → ℕ → StockView
without_ripe stock count = record stock { parked = drop count stock.parked }

-- Births with the blocks of the runs to which they move.
abbrev pub moved_by : List Stocked → List Shift → List Stocked
moved_by [] shifts = []
moved_by (x ∷ xs) [] = x ∷ xs
moved_by (x ∷ xs) (shift ∷ shifts) = record x { blocks = blocks_in shift.to } ∷ moved_by xs shifts

-- The stock whose contents have moved.
abbrev pub with_shifts : StockView → List Shift → StockView
with_shifts stock shifts = record stock { stocked = moved_by stock.stocked shifts }

-- Shifts that a stock can take: somebody holds each birth that has a place, and no block is parked or waits to be; they name
-- these births, rising, each with as many blocks as it has, in one run; and each block is below 2^32 and stands once.
pub record AreShifts (stock : StockView) (shifts : List Shift) : Type 0 where
  pub held : All (λ x. is_live stock.holdings x.birth ≡ true) stock.stocked
  pub none_left : stock.left ≡ []
  pub none_parked : stock.parked ≡ []
  pub births : map {B = ℕ × ℕ} (λ shift. (shift.birth, length (blocks_in shift.to))) shifts ≡ map {B = ℕ × ℕ} (λ x. (x.birth, length x.blocks)) stock.stocked
  pub one_run : All (λ shift. length shift.to ≡ 1) shifts
  pub below : All (λ block. block < 2 ^ 32) (blocks_of_shifts shifts)
  pub once : AllPairs (λ block other. block ≢ other) (blocks_of_shifts shifts)

-- No two shared births have the same bytes.
abbrev pub AreSharedOnce : List Stocked → Type 0
AreSharedOnce [] = Unit {0}
AreSharedOnce (x ∷ xs) = AllByRecursion (λ y. (x.content.is_shared && is_shared_with x.content.bytes y) ≡ false) xs × AreSharedOnce xs

-- What holds of every stock: births rise, and each is below the next one; each birth that somebody holds has a place; each has as
-- many blocks as its content takes, which is no longer than one may be; no two shared births have the same bytes; what left has a
-- block; and all blocks are below 2^32 and stand once.
pub record IsSound (stock : StockView) : Type 0 where
  pub rising : IsRising (births_of stock.stocked)
  pub before_next : All (λ x. x.birth < stock.next) stock.stocked
  pub held : (birth : ℕ) → is_live stock.holdings birth ≡ true → is_stocked stock.stocked birth ≡ true
  pub counts : All (λ x. length x.blocks ≡ blocks_of (length x.content.bytes)) stock.stocked
  pub sizes : All (λ x. length x.content.bytes ≤ CONTENT_BYTES) stock.stocked
  pub shared_once : AreSharedOnce stock.stocked
  pub filled : All (λ x. 1 ≤ length x.blocks) stock.left
  pub below : All (λ block. block < 2 ^ 32) (stock_blocks stock)
  pub once : AllPairs (λ block other. block ≢ other) (stock_blocks stock)
