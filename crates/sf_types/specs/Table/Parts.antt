-- The table: the plain state of a store, and nothing but it (our own).
use Rattle.std.specs.Prelude.{ℕ, Bool, false, List, [], replicate, Option, None}
use Rattle.sf_types.specs.declared.options.Options.{Options}
use Rattle.sf_types.specs.declared.call.Call.{Call}
use Rattle.sf_types.specs.Inside.NameMaps.{NameMap}
use Rattle.sf_types.specs.Values.Marks.{Value}

-- A content that was given out: its bytes, and whether it is shared or apart. Birth b is the b-th of them.
pub record Content : Type 0 where
  pub bytes : List ℕ
  pub is_shared : Bool

-- What a commit or a transaction says of rows: a name has a value, or is absent.
abbrev pub Rows : Type 0
Rows = NameMap (Option Value)

-- A locator. The transaction's number is 0 for none.
pub record Locator : Type 0 where
  pub row : List ℕ
  pub value : Value
  pub transaction : ℕ
  pub epoch : ℕ
  pub is_dirty : Bool
  pub is_lost : Bool
  pub is_read_only : Bool

-- A savepoint: its name, its epoch, the working values at its moment, and the rows locked by the session then.
pub record Savepoint : Type 0 where
  pub name : List ℕ
  pub epoch : ℕ
  pub working : Rows
  pub locked : List (List ℕ)

-- A standing promise: the call for which it stands, its blocks, and the births that it found.
pub record Promise : Type 0 where
  pub call : Call
  pub blocks : ℕ
  pub births : List ℕ

-- The part of one session. The open transaction, where there is one, has the number of transactions opened so far.
pub record Session : Type 0 where
  pub opened : ℕ
  pub is_open : Bool
  pub working : Rows
  pub locators : NameMap Locator
  pub promise : Option Promise
  pub epoch : ℕ
  pub savepoints : List Savepoint
  pub has_ended : Bool

-- The whole table. The locks give each locked row its session's number.
pub record Table : Type 0 where
  pub options : Options
  pub contents : List Content
  pub commits : List Rows
  pub floor : ℕ
  pub locks : NameMap ℕ
  pub sessions : List Session

-- A session that has made no call.
abbrev pub new_session : Session
new_session = record {
  opened = 0;
  is_open = false;
  working = [];
  locators = [];
  promise = None;
  epoch = 0;
  savepoints = [];
  has_ended = false;
}

-- The opening table of a store with these options and so many sessions.
abbrev pub opening_table : Options → ℕ → Table
opening_table options sessions = record {
  options = options;
  contents = [];
  commits = [];
  floor = 0;
  locks = [];
  sessions = replicate sessions new_session;
}
