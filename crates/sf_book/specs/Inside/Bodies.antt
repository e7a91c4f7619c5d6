-- What always holds of a Book's fields (our own).
use Rattle.std.specs.Prelude.{◌≡◌, ℕ, ◌≤◌, List, length, filter, is_some}
use Rattle.sf_types.specs.declared.call.Call.{Call}
use Rattle.sf_types.specs.declared.history.Entry.{Entry}
use Rattle.sf_types.specs.Halves.Asks.{half_of}
use Rattle.sf_versions.specs.declared.asks.Flush.{Flush}
use Rattle.sf_stock.specs.Stocks.{places_of}
use Rattle.sf_stock.specs.Stocks as stock
use Rattle.sf_store_half.specs.declared.session_fields.SessionField.{SessionField}
use Rattle.sf_store_half.specs.Fields.{Fields, Keeps}
use Rattle.sf_book.specs.Books.{BookView, table_of, IsSound}

-- A Book by the fields of its half of the table and its history.
abbrev pub book_of : Fields → List Entry → BookView
book_of f history = record {
  options = f.options;
  sessions = length f.sessions;
  history = history;
  places = places_of f.stock.stocked;
  parked = f.stock.parked;
}

-- The number of standing promises.
abbrev pub promise_count : List SessionField → ℕ
promise_count fields = length (filter (λ field. is_some field.promise) fields)

-- A flush with this call in its ask.
abbrev pub with_call : Flush → Call → Flush
with_call flush c = record flush { ask = record flush.ask { call = c } }

-- The sessions are counted; the Book is sound; its fields keep the half of the table after its history; its stock is sound; and its
-- history has room for the cancel of each standing promise.
pub record IsBook (f : Fields) (history : List Entry) (sessions spare : ℕ) : Type 0 where
  pub count : sessions ≡ length f.sessions
  pub sound : IsSound (book_of f history)
  pub keeps : Keeps f (half_of (table_of (book_of f history)))
  pub stocked : stock.IsSound f.stock
  pub room : promise_count f.sessions ≤ spare
