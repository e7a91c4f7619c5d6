-- What the laws about legal runs say of contents, rows and maps (our own).
use Rattle.std.specs.Prelude.{ℕ, ◌≤◌, ◌<◌, length, All}
use Rattle.std.specs.List.Sorted.{IsStrictlySortedBy}
use Rattle.std.specs.Map.{keys_of}
use Rattle.sf_types.specs.declared.limits.TheConstants.{CONTENT_BYTES}
use Rattle.sf_types.specs.Values.Names.{name_cmp}
use Rattle.sf_types.specs.Inside.NameMaps.{NameMap}
use Rattle.sf_types.specs.Values.Marks.{fresh_count}
use Rattle.sf_types.specs.Table.Parts.{Content, Rows}
use Rattle.sf_types.specs.Space.Reach.{values_in}

-- A content has at least one byte and at most as many as a content may have.
pub record HasContentSize (x : Content) : Type 0 where
  pub low : 1 ≤ length x.bytes
  pub high : length x.bytes ≤ CONTENT_BYTES

-- Each value of some rows has fewer fresh bytes than a number.
abbrev pub HaveFewFresh : ℕ → Rows → Type 0
HaveFewFresh bound rows = All (λ v. fresh_count v < bound) (values_in rows)

-- The names of a map rise in byte order, each of them once.
abbrev pub HasRisingNames : {X : Type 0} → NameMap X → Type 0
HasRisingNames m = IsStrictlySortedBy name_cmp (keys_of m)
