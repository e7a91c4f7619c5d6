-- What holds of the parts of a store (our own).
use Rattle.std.specs.Prelude.{◌≡◌, ℕ, IsTrue, List, length, map, Option}
use Rattle.std.specs.Option.{IfSome}
use Rattle.sf_types.specs.declared.options.Options.{Options}
use Rattle.sf_types.specs.Limits.{IsInRange}
use Rattle.sf_types.specs.Space.BlockRuns.{blocks_in}
use Rattle.sf_types.specs.Table.Parts.{Table}
use Rattle.sf_types.specs.Table.Sessions.{has_session, session_of}
use Rattle.sf_types.specs.Halves.Own.{own_of}
use Rattle.sf_block_space.specs.Free.{FreeSpace, AreFreeRuns}
use Rattle.sf_versions.specs.declared.asks.Flush.{Flush}
use Rattle.sf_versions.specs.Asks.{IsFlush}
use Rattle.sf_store_half.specs.HalfMoves.{HasPrints}
use Rattle.sf_laws.specs.Stages.{IsSoundStage}
use Rattle.sf_book.specs.Books.{BookView}
use Rattle.sf_plain_store.specs.declared.due_calls.DueCall.{DueCall}
use Rattle.sf_plain_store.specs.Inside.DueCalls.{due_call_of}
use Rattle.sf_plain_store.specs.Stores.{StoreView, stage_of}

-- What contracts see of a store with these parts.
abbrev pub store_of : BookView → FreeSpace → List DueCall → StoreView
store_of book free due_calls = record {
  options = book.options;
  sessions = book.sessions;
  history = book.history;
  space = record {
    places = book.places;
    parked = book.parked;
    free = blocks_in free.runs;
    collected = map (λ due. blocks_in due.blocks.held) due_calls;
  };
}

-- The flush that is kept for session s.
abbrev pub flush_at : List DueCall → ℕ → Option Flush
flush_at due_calls s = (due_call_of due_calls s).flush

-- A flush that is kept for a session is that of the call for which its promise stands.
abbrev pub IsKept : Options → Table → ℕ → Flush → Type 0
IsKept options t s flush = HasPrints flush
    × IfSome (session_of t s).promise (λ promise. (promise.call ≡ flush.ask.call) × IsFlush options (own_of t s) flush)

-- The parts of a store: the free runs are those of its blocks, it is sound as a stage, and each session's flush is kept.
pub record IsStore (book : BookView) (free : FreeSpace) (due_calls : List DueCall) : Type 0 where
  pub options : IsInRange book.options
  pub order : AreFreeRuns free.capacity free.runs
  pub capacity : free.capacity ≡ book.options.capacity
  pub sound : IsSoundStage book.options book.sessions (stage_of (store_of book free due_calls))
  pub flushes : (s : ℕ) → IsTrue (has_session (stage_of (store_of book free due_calls)).table s) → IfSome (flush_at due_calls s) (IsKept book.options (stage_of (store_of book free due_calls)).table s)
