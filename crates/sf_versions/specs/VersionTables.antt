-- The versions of all rows, and what commits make of them (our own; after the rules of the table's versions).
use Rattle.std.specs.Prelude.{ℕ, ◌+◌, ◌<◌, IsSome, IfSome, List, [], ◌∷◌, ◌++◌, Option, unwrap_or}
use Rattle.std.specs.List.{AllByRecursion}
use Rattle.std.specs.List.Sorted.{IsStrictlySortedBy}
use Rattle.std.specs.Map.{keys_of}
use Rattle.std.specs.Ordering.{nat_cmp}
use Rattle.sf_types.specs.Values.Names.{name_cmp}
use Rattle.sf_types.specs.Inside.NameMaps.{NameMap, get, with_entry}
use Rattle.sf_types.specs.Values.Marks.{Value}
use Rattle.sf_types.specs.Table.Parts.{Rows}
use Rattle.sf_room_map.specs.Entries.{value_for, without_key}
use Rattle.sf_versions.specs.RowChanges.{RowChanges, last_number}

-- The number of commits, and the versions of each row that a commit names.
pub record VersionTable : Type 0 where
  pub now : ℕ
  pub rows : NameMap RowChanges

-- No commits.
abbrev pub no_versions : VersionTable
no_versions = record { now = 0; rows = [] }

-- The versions of a row. A row that no commit names has none.
abbrev pub versions_of : NameMap RowChanges → List ℕ → RowChanges
versions_of rows name = unwrap_or (get rows name) []

-- The rows where the commit with this number makes one change.
abbrev pub with_version : NameMap RowChanges → ℕ → List ℕ × Option Value → NameMap RowChanges
with_version rows number change = with_entry rows change.0 (versions_of rows change.0 ++ (number, change.1) ∷ [])

-- The rows where the commit with this number makes all its changes: each row that it names gets a version, and no other row.
abbrev pub with_versions : NameMap RowChanges → ℕ → Rows → NameMap RowChanges
with_versions rows number [] = rows
with_versions rows number (c ∷ cs) = with_version (with_versions rows number cs) number c

-- The versions after one commit more.
abbrev pub after_commit : VersionTable → Rows → VersionTable
after_commit t changes = record { now = t.now + 1; rows = with_versions t.rows (t.now + 1) changes }

-- The versions after more commits, one after the other.
abbrev pub after_commits : VersionTable → List Rows → VersionTable
after_commits t [] = t
after_commits t (c ∷ cs) = after_commits (after_commit t c) cs

-- The versions of a row after these commits.
abbrev pub versions_after : List Rows → List ℕ → RowChanges
versions_after commits name = versions_of (after_commits no_versions commits).rows name

-- In each commit the names of the rows rise, each once.
abbrev pub AreCommits : List Rows → Type 0
AreCommits commits = AllByRecursion (λ c. IsStrictlySortedBy name_cmp (keys_of c)) commits

-- A commit made a version of a row, and a later one displaced it.
pub record IsDisplaced (rows : NameMap RowChanges) (name : List ℕ) (number : ℕ) : Type 0 where
  pub made : IsSome (value_for nat_cmp (versions_of rows name) number)
  pub later : IfSome (last_number (versions_of rows name)) (λ last. number < last)

-- The versions without the one that a commit made of a row.
abbrev pub without_version : VersionTable → List ℕ → ℕ → VersionTable
without_version t name number = record t { rows = with_entry t.rows name (without_key nat_cmp (versions_of t.rows name) number) }
