-- What the Book's calls ask, and what each of them does to it (our own).
use Rattle.std.specs.Prelude.{◌≡◌, ◌≢◌, ℕ, ◌<◌, IsTrue, List, ◌++◌, All, AllPairs, Contains}
use Rattle.std.specs.Option.{IfSome, IsSome}
use Rattle.sf_types.specs.declared.call.Call.{Call}
use Rattle.sf_types.specs.declared.history.Entry.{Entry}
use Rattle.sf_types.specs.Table.Parts.{Table}
use Rattle.sf_types.specs.Table.Sessions.{has_session, session_of}
use Rattle.sf_types.specs.Space.Placings.{all_blocks}
use Rattle.sf_types.specs.Orders.Histories.{call_entries, table_after}
use Rattle.sf_types.specs.Halves.Own.{Own, own_of, own_after, AreLocal, MayCall}
use Rattle.sf_types.specs.Play.Blocks.{places_after, departed_blocks}
use Rattle.sf_versions.specs.declared.asks.Batch.{Batch}
use Rattle.sf_versions.specs.Asks.{HasBirths}
use Rattle.sf_book.specs.Books.{BookView, table_of, IsSound}

-- A session's own part once the local calls of a batch are done.
abbrev pub own_with_batch : Table → ℕ → Batch → Own
own_with_batch t s batch = own_after (own_of t s) batch.calls

-- The table once they are done.
abbrev pub table_with_batch : Table → ℕ → Batch → Table
table_with_batch t s batch = table_after t (call_entries s batch.calls)

-- A batch is one of a session that goes on and for which no promise stands: its calls are local, one after the other, and its
-- births are those that the session then holds.
pub record IsBatch (t : Table) (s : ℕ) (batch : Batch) : Type 0 where
  pub session : IsTrue (has_session t s)
  pub may : MayCall (session_of t s)
  pub local : AreLocal t.options.gather (own_of t s) batch.calls
  pub births : HasBirths (own_with_batch t s batch) batch

-- A promise of a session stands for a call, with so many blocks.
pub record Stands (t : Table) (s : ℕ) (c : Call) (blocks : ℕ) : Type 0 where
  pub session : IsTrue (has_session t s)
  pub some : IsSome (session_of t s).promise
  pub promised : IfSome (session_of t s).promise (λ promise. (promise.call ≡ c) × (promise.blocks ≡ blocks))

-- Blocks that a Book can place: each is below the capacity, stands once among them, and in no place and not among the parked ones.
pub record AreAway (b : BookView) (blocks : List ℕ) : Type 0 where
  pub below : All (λ block. block < b.options.capacity) blocks
  pub once : AllPairs (λ block other. block ≢ other) blocks
  pub apart : All (λ block. ¬ (Contains (all_blocks b.places ++ b.parked) block)) blocks

-- A Book gained entries: births that left reach lost their places, and their blocks are parked behind the others, of a place that
-- begins with a lower block first; new births stand in these blocks, in the order of the cuts; and the Book is sound.
pub record IsMoved (before after : BookView) (entries : List Entry) (given : List ℕ) : Type 0 where
  pub options : after.options ≡ before.options
  pub sessions : after.sessions ≡ before.sessions
  pub history : after.history ≡ before.history ++ entries
  pub places : after.places ≡ places_after (table_of before) (table_of after) before.places given
  pub parked : after.parked ≡ before.parked ++ departed_blocks (table_of after) before.places
  pub sound : IsSound after
