-- Where the versions of rows stand: each row has a number, and its versions have consecutive ranks (our own).
use Rattle.std.specs.Prelude.{◌≡◌, ℕ, zero, suc, ◌+◌, ◌<◌, ◌≤◌, T, List, [], ◌∷◌, length, map, Option, Some, None, unwrap_or}
use denote.Ref.{Bor}
use Rattle.std.specs.Option.{option_copied}
use Rattle.std.specs.FinMap.Entries.{is_sorted}
use Rattle.sf_types.specs.Values.Names.{name_cmp}
use Rattle.sf_types.specs.Values.Marks.{Value}
use Rattle.sf_types.specs.Inside.NameMaps.{NameMap, get}
use Rattle.sf_room_map.specs.Entries.{value_for}
use Rattle.sf_versions.specs.declared.key.VersionKey.{VersionKey}
use Rattle.sf_versions.specs.declared.span.Span.{Span}
use Rattle.sf_versions.specs.RowChanges.{RowChanges, RiseWithin}
use Rattle.sf_versions.specs.Inside.VersionOrder.{key_cmp}

-- The versions of all rows by their places.
abbrev pub Ranked : Type 0
Ranked = List (VersionKey × (ℕ × Option Value))

-- The place of a row's version with this rank.
abbrev pub key_at : ℕ → ℕ → VersionKey
key_at row rank = record { row = row; rank = rank }

-- The version at a rank of a row. Where none stands there it has the number 0, which no commit has.
abbrev pub version_at : Ranked → ℕ → ℕ → ℕ × Option Value
version_at versions row rank = unwrap_or (value_for key_cmp versions (key_at row rank)) (0, None)

-- So many versions of a row from a rank on.
abbrev pub versions_from : Ranked → ℕ → ℕ → ℕ → RowChanges
versions_from versions row first zero = []
versions_from versions row first (suc count) = version_at versions row first ∷ versions_from versions row (first + 1) count

-- The versions of a span.
abbrev pub versions_in : Ranked → Span → RowChanges
versions_in versions span = versions_from versions span.row span.first span.count

-- The versions of all rows.
abbrev pub rows_in : Ranked → NameMap Span → NameMap RowChanges
rows_in versions spans = map (λ e. (e.0, versions_in versions e.1)) spans

-- The span of a row. A row that no commit has named gets the next number, and has no versions yet.
abbrev pub span_for : NameMap Span → List ℕ → Span
span_for spans name = unwrap_or (get spans name) (record { row = length spans; first = 0; count = 0 })

-- A row with its value, behind references.
abbrev pub current_row : Bor (List ℕ) × Option (Bor Value) → List ℕ × Option Value
current_row (name, value) = (name.now, option_copied value)

-- A row has versions, and fewer than `rows` rows came before it. The rank of its last version is less than that version's
-- number, so that ranks are no greater than numbers of commits.
pub record IsSpan (now rows : ℕ) (versions : Ranked) (span : Span) : Type 0 where
  pub some : 1 ≤ span.count
  pub numbered : span.row < rows
  pub rising : RiseWithin 0 now (versions_in versions span)
  pub early : (rank : ℕ) → rank + 1 ≡ span.first + span.count → rank < (version_at versions span.row rank).0

-- Names and places rise, each row has its span, and no two rows have one number.
pub record AreSpans (now : ℕ) (spans : NameMap Span) (versions : Ranked) : Type 0 where
  pub named : T (is_sorted name_cmp spans)
  pub ordered : T (is_sorted key_cmp versions)
  pub each : (name : List ℕ) (span : Span) → get spans name ≡ Some span → IsSpan now (length spans) versions span
  pub apart : (name other : List ℕ) (span next : Span) → get spans name ≡ Some span → get spans other ≡ Some next → span.row ≡ next.row → name ≡ other

-- So many versions of a row have numbers up to a number: the last of these has, and the next one hasn't.
pub record CountsUpTo (versions : Ranked) (span : Span) (number count : ℕ) : Type 0 where
  pub within : count ≤ span.count
  pub before : (at : ℕ) → at + 1 ≡ count → (version_at versions span.row (span.first + at)).0 ≤ number
  pub after : count < span.count → number < (version_at versions span.row (span.first + count)).0

-- A version of a row is taken out, and those before it have moved to the next ranks. All else is as before.
pub record TakesOut (before after : Ranked) (row first taken : ℕ) : Type 0 where
  pub ordered : T (is_sorted key_cmp after)
  pub moved : (rank : ℕ) → first ≤ rank → rank < taken → version_at after row (rank + 1) ≡ version_at before row rank
  pub later : (rank : ℕ) → taken < rank → version_at after row rank ≡ version_at before row rank
  pub others : (other rank : ℕ) → (other ≡ row → ⊥) → version_at after other rank ≡ version_at before other rank
