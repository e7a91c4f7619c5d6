-- The shared state of a store for any number of sessions, by its history (our own).
use Rattle.std.specs.Prelude.{◌≢◌, not, filter, ℕ, ◌≤◌, ◌<◌, List, ◌++◌, All, AllPairs}
use Rattle.sf_types.specs.declared.history.Entry.{Entry}
use Rattle.sf_types.specs.declared.options.Options.{Options}
use Rattle.sf_types.specs.declared.place.Place.{Place}
use Rattle.sf_types.specs.Limits.{IsInRange}
use Rattle.sf_types.specs.declared.limits.TheConstants.{STORE_SESSIONS}
use Rattle.sf_types.specs.Table.Parts.{Table, opening_table}
use Rattle.sf_types.specs.Table.Versions.{present_rows}
use Rattle.sf_types.specs.Space.Grants.{maximal_runs}
use Rattle.sf_types.specs.Space.Placings.{Placed, IsSafe, all_blocks}
use Rattle.sf_types.specs.Space.Reach.{reach}
use Rattle.sf_types.specs.Space.Use.{blocks_of_births}
use Rattle.sf_types.specs.Play.Blocks.{is_among}
use Rattle.sf_types.specs.Orders.Histories.{IsLegalHistory, history_table}
use Rattle.sf_types.specs.Orders.Transcripts.{place_of_birth}
use Rattle.sf_store_half.specs.Reads.{births_of_rows}

-- A Book: the options and the number of sessions of its store, what was done so far, where the births in reach stand, rising,
-- and the parked blocks, the one that was parked first before the others. All else is a function of the history.
pub record BookView : Type 0 where
  pub options : Options
  pub sessions : ℕ
  pub history : List Entry
  pub places : List Placed
  pub parked : List ℕ

-- The table after a Book's history.
abbrev pub table_of : BookView → Table
table_of b = history_table b.options b.sessions b.history

-- A Book is sound where its options and sessions are in range, its history is legal, its places are a safe placing, and the parked
-- blocks are below the capacity and stand once, in no place.
pub record IsSound (b : BookView) : Type 0 where
  pub in_range : IsInRange b.options
  pub some_sessions : 1 ≤ b.sessions
  pub few_sessions : b.sessions ≤ STORE_SESSIONS
  pub legal : IsLegalHistory (opening_table b.options b.sessions) b.history
  pub safe : IsSafe (table_of b) b.places
  pub below : All (λ block. block < b.options.capacity) b.parked
  pub once : AllPairs (λ block other. block ≢ other) (all_blocks b.places ++ b.parked)

-- How a place is listed: its birth with the length and the digest of its content, and the maximal runs of its blocks.
abbrev pub listed_place : Table → Placed → Place
listed_place t x = place_of_birth t x.birth (maximal_runs x.blocks)

-- The blocks of the births in reach that occur in no row's current value.
abbrev pub uncommitted_blocks : Table → ℕ
uncommitted_blocks t = blocks_of_births t.contents (filter (λ birth. not (is_among (births_of_rows (present_rows t)) birth)) (reach t))
