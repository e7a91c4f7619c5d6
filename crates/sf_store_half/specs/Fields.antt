-- What fields keep of the store's half of a table (our own).
use Rattle.std.specs.Prelude.{◌≡◌, ℕ, ◌+◌, ◌-◌, ◌&&◌, Bool, nat_le, nat_lt, List, [], map, filter, filter_map, flat_map, length, take, slice_index_or, All, Some, if◌then◌else◌, replicate, true}
use Rattle.std.specs.List.{range_with_len}
use Rattle.std.specs.Option.{option_map, option_map_or}
use Rattle.sf_types.specs.declared.holder.Holder.{Holder}
use Rattle.sf_types.specs.declared.holder.Holder.TheVariants as holder
use Rattle.sf_types.specs.declared.options.Options.{Options}
use Rattle.sf_types.specs.Inside.NameMaps.{NameMap, get}
use Rattle.sf_types.specs.Values.Marks.{births_in}
use Rattle.sf_types.specs.Table.Parts.{Rows}
use Rattle.sf_types.specs.Table.Versions.{value_or_absent}
use Rattle.sf_types.specs.Space.Reach.{is_kept}
use Rattle.sf_types.specs.Space.Use.{content_of}
use Rattle.sf_types.specs.Halves.Asks.{Half, Kept, kept_at, new_kept}
use Rattle.sf_types.specs.Halves.Flushes.{table_of_half}
use Rattle.sf_lifetimes.specs.Ledgers.{held_by, is_live}
use Rattle.sf_stock.specs.Stocks.{StockView, empty_stock}
use Rattle.sf_retention.specs.declared.retention.Note.{Note}
use Rattle.sf_retention.specs.Notes.{note_of}
use Rattle.sf_versions.specs.RowChanges.{RowChanges, changes_of, last_number}
use Rattle.sf_versions.specs.VersionTables.{VersionTable, versions_of, no_versions, AreCommits}
use Rattle.sf_store_half.specs.declared.session_fields.Promised.{Promised}
use Rattle.sf_store_half.specs.declared.session_fields.SessionField.{SessionField}

-- What is kept of a session beside its births and the births of its promise.
abbrev pub session_field : Kept → SessionField
session_field k = record {
  is_open = k.is_open;
  has_ended = k.has_ended;
  promise = option_map {U = Promised} (λ q. record { call = q.call; blocks = q.blocks }) k.promise;
}

-- All that is kept of a store's half.
pub record Fields : Type 0 where
  pub options : Options
  pub locks : NameMap ℕ
  pub versions : VersionTable
  pub notes : List Note
  pub floor : ℕ
  pub sessions : List SessionField
  pub stock : StockView

-- The fields of a store to which nothing was done.
abbrev pub opening_fields : Options → ℕ → Fields
opening_fields options sessions = record {
  options = options;
  locks = [];
  versions = no_versions;
  notes = [];
  floor = 0;
  sessions = replicate sessions (session_field new_kept);
  stock = empty_stock;
}

-- What the version holds that a commit gave a row, where it is kept.
abbrev pub version_births : Half → List ℕ → ℕ → List ℕ
version_births h row n =
    if nat_le 1 n && is_kept (table_of_half h) row n
    then option_map_or births_in (value_or_absent (get (slice_index_or h.commits (n - 1) []) row)) []
    else []

-- Whether a half has session s.
abbrev pub is_session : Half → ℕ → Bool
is_session h s = nat_le 1 s && nat_le s (length h.sessions)

-- What a holder holds: a version its births, a session those that its values name, and a promise those that it found.
abbrev pub held_in : Half → Holder → List ℕ
held_in h (holder.Version row n) = version_births h row n
held_in h (holder.Session s) = if is_session h s then (kept_at h s).births else []
held_in h (holder.Promise s) = if is_session h s then option_map_or (λ q. q.births) (kept_at h s).promise [] else []

-- The versions of a row that are kept.
abbrev pub kept_versions : Half → List ℕ → RowChanges
kept_versions h row = filter (λ version. is_kept (table_of_half h) row version.0) (changes_of 0 h.commits row)

-- The versions that one commit displaces, by the rows that it names.
abbrev pub displaced_by : List Rows → ℕ → List Note
displaced_by commits until =
    filter_map (λ e. option_map (λ from. note_of e.0 from until) (last_number (changes_of 0 (take (until - 1) commits) e.0))) (slice_index_or commits (until - 1) [])

-- The versions that were displaced and are still kept, in the order of the commits that displaced them, and then of rows.
abbrev pub notes_of : Half → List Note
notes_of h = filter (λ note. nat_lt h.floor note.until) (flat_map (displaced_by h.commits) (range_with_len 1 (length h.commits)))

-- The fields keep a half: locks, floor, sessions and the number of commits are its own; a row's versions are those that are kept;
-- the notes are of the versions that a higher floor gives up; each holder holds what it holds there; and the births that have a
-- place are held, each with its content. So they are those in reach.
pub record Keeps (f : Fields) (h : Half) : Type 0 where
  pub options : f.options ≡ h.options
  pub locks : f.locks ≡ h.locks
  pub floor : f.floor ≡ h.floor
  pub sessions : f.sessions ≡ map session_field h.sessions
  pub now : f.versions.now ≡ length h.commits
  pub commits : AreCommits h.commits
  pub rows : (row : List ℕ) → versions_of f.versions.rows row ≡ kept_versions h row
  pub notes : f.notes ≡ notes_of h
  pub next : f.stock.next ≡ length h.contents + 1
  pub held : (x : Holder) → held_by f.stock.holdings x ≡ held_in h x
  pub live : All (λ x. is_live f.stock.holdings x.birth ≡ true) f.stock.stocked
  pub contents : All (λ x. content_of h.contents x.birth ≡ Some x.content) f.stock.stocked
  pub none_left : f.stock.left ≡ []
