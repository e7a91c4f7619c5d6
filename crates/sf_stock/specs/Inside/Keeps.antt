-- What a stock keeps of each birth, and what has to hold of it (our own).
use Rattle.std.specs.Prelude.{◌≡◌, ℕ, ◌+◌, ◌≤◌, ◌<◌, ◌^◌, ◌==◌, Bool, true, not, T, cond, nat_lt, is_some, List, [], map, length, filter, filter_map, count_by, sum_by, unwrap_or, Option, Some, None, if◌then◌else◌, ◌∷◌}
use Rattle.std.specs.List.{AllByRecursion}
use Rattle.std.specs.Ordering.{nat_cmp}
use Rattle.std.specs.FinMap as fin
use Rattle.std.specs.FinMap.Entries.{is_sorted}
use Rattle.sf_types.specs.declared.birth_runs.BirthRuns.{BirthRuns}
use Rattle.sf_types.specs.declared.limits.TheConstants.{CONTENT_BYTES}
use Rattle.sf_types.specs.declared.place.Place.{Place}
use Rattle.sf_types.specs.declared.run.Run.{Run}
use Rattle.sf_types.specs.Rooms.{Roomy}
use Rattle.sf_types.specs.Space.BlockRuns.{blocks_in, AreRuns}
use Rattle.sf_types.specs.Space.Contents.{blocks_of}
use Rattle.sf_room_map.specs.Entries.{value_for}
use Rattle.sf_dedup.specs.Prints.{print_of}
use Rattle.sf_dedup.specs.Contents.{Contents, with_content}
use Rattle.sf_shrink.specs.Plans.{placed_at}
use Rattle.sf_lifetimes.specs.Ledgers.{Places, LedgerView, is_live, has_birth}
use Rattle.sf_stock.specs.declared.known.Known.{Known}
use Rattle.sf_stock.specs.Stocks.{Stocked, StockView, stock_blocks, listed_place}

-- A copy of a content, where it is shared.
abbrev pub copied_if : Bool → List ℕ → Option (List ℕ)
copied_if is_shared content = if is_shared then Some content else None

-- What holds of a content that comes: the print is that of its bytes, a copy is there where it is shared, and the runs are
-- maximal, and fewer than there can be blocks.
pub record IsNewContent (known : Known) (shared : Option (List ℕ)) (runs : List Run) : Type 0 where
  pub printed : known.print ≡ print_of known.content
  pub copied : shared ≡ copied_if known.is_shared known.content
  pub maximal : AreRuns runs
  pub few : length runs < 2 ^ 32

-- What is known of each birth that has a place.
abbrev pub KnownMap : Type 0
KnownMap = List (ℕ × Known)

-- The runs of a birth, none where it has no place.
abbrev pub runs_in : Places → ℕ → List Run
runs_in places birth = unwrap_or (fin.get places birth) []

-- A birth with all that is kept of it.
abbrev pub stocked_in : Places → ℕ × Known → Stocked
stocked_in places e = record {
  birth = e.0;
  content = record { bytes = e.1.content; is_shared = e.1.is_shared };
  blocks = blocks_in (runs_in places e.0);
}

-- The shared contents by birth.
abbrev pub shared_entry : ℕ × Known → Option (ℕ × List ℕ)
shared_entry e = if e.1.is_shared then Some (e.0, e.1.content) else None

abbrev pub shared_in : KnownMap → Contents
shared_in known = filter_map shared_entry known

-- A content has the print of its bytes, is no longer than one may be, and stands in as many blocks as it takes, one or more, in
-- maximal runs.
pub record IsKept (known : Known) (runs : List Run) : Type 0 where
  pub printed : known.print ≡ print_of known.content
  pub maximal : AreRuns runs
  pub count : length (blocks_in runs) ≡ blocks_of (length known.content)
  pub size : length known.content ≤ CONTENT_BYTES
  pub some : 1 ≤ length (blocks_in runs)

-- How a birth is listed that somebody holds: with these runs, or not at all.
abbrev pub listed_if : ℕ → Known → Option (List Run) → List Place
listed_if birth known None = []
listed_if birth known (Some runs) =
    listed_place (record { birth = birth; content = record { bytes = known.content; is_shared = known.is_shared }; blocks = blocks_in runs }) ∷ []

-- A place that left has a block, and maximal runs.
pub record IsWhole (place : BirthRuns) : Type 0 where
  pub maximal : AreRuns place.runs
  pub some : 1 ≤ length (blocks_in place.runs)

-- What the parts of a stock are seen as together.
abbrev pub stock_in : LedgerView → KnownMap → List BirthRuns → List Run → ℕ → StockView
stock_in ledger known left parked next = record {
  holdings = ledger.holdings;
  next = next;
  stocked = map (stocked_in ledger.places) known;
  left = map placed_at left;
  parked = blocks_in parked;
}

-- Each block is below 2^32 and stands once.
abbrev pub AreOnce : List ℕ → Type 0
AreOnce blocks = (block : ℕ) → count_by (λ b. block == b) blocks ≤ cond (nat_lt block (2 ^ 32)) 1 0

-- The contents with one more under a birth, where it is shared.
abbrev pub with_shared : Contents → ℕ → Option (List ℕ) → Contents
with_shared contents birth None = contents
with_shared contents birth (Some content) = with_content contents birth content

-- The entries of a map without those of some births.
abbrev pub without_births : {X : Type 0} → List (ℕ × X) → List BirthRuns → List (ℕ × X)
without_births entries gone = filter (λ e. not (has_birth (map (λ x. x.birth) gone) e.0)) entries

-- The number of runs of all places and of what left.
abbrev pub run_count : Places → KnownMap → List BirthRuns → ℕ
run_count places known left = sum_by (λ e. length (runs_in places e.0)) known + sum_by (λ x. length x.runs) left

-- What holds of the births of a stock: they rise, each is below the next one and has a place, all else has none, and each birth
-- that somebody holds is among them; and the index has just the shared ones.
pub record AreBirths (ledger : LedgerView) (index : Contents) (known : KnownMap) (next : ℕ) : Type 0 where
  pub rising : T (is_sorted nat_cmp known)
  pub below : AllByRecursion (λ e. e.0 < next) known
  pub placed : (birth : ℕ) → is_some (fin.get ledger.places birth) ≡ is_some (value_for nat_cmp known birth)
  pub live : (birth : ℕ) → is_live ledger.holdings birth ≡ true → is_some (value_for nat_cmp known birth) ≡ true
  pub indexed : index ≡ shared_in known

-- What holds of the blocks of a stock: those of a birth are as they have to be, a place that left has some, and each block stands
-- once.
pub record AreBlocks (ledger : LedgerView) (known : KnownMap) (left : List BirthRuns) (parked : List Run) : Type 0 where
  pub kept : AllByRecursion (λ e. IsKept e.1 (runs_in ledger.places e.0)) known
  pub whole : AllByRecursion IsWhole left
  pub once : AreOnce (stock_blocks (stock_in ledger known left parked 0))

-- The rooms of a stock's parts: each has that of the stock; beside it a place of the list of those that left for each birth, and
-- of the parked list for each run of a place and of what left.
pub record HasRooms (ledger index known left parked : ℕ) (births runs next room : ℕ) : Type 0 where
  pub ledger_room : room ≤ ledger
  pub index_room : room ≤ index
  pub known_room : room ≤ known
  pub left_room : births + room ≤ left
  pub parked_room : runs + room ≤ parked
  pub birth_room : next + room < 2 ^ 128
  pub run_number : runs + room < 2 ^ 64

-- The parts of a stock hang together: births and blocks are as they have to be, the runs are counted, and the rooms are there.
pub record IsStock (ledger : Roomy LedgerView) (index : Roomy Contents) (known : Roomy KnownMap) (left : Roomy (List BirthRuns)) (parked : Roomy (List Run)) (next runs room : ℕ) : Type 0 where
  pub births : AreBirths ledger.held index.held known.held next
  pub blocks : AreBlocks ledger.held known.held left.held parked.held
  pub counted : runs ≡ run_count ledger.held.places known.held left.held
  pub rooms : HasRooms ledger.spare index.spare known.spare left.spare parked.spare (length known.held) runs next room
