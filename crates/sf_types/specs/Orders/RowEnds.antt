-- What a transcript tells of the rows that are present at the end (our own; the digest is that of FIPS 180-4).
use Rattle.std.specs.Prelude.{ℕ, List, map}
use Rattle.sha2.specs.Sha256.{sha256}
use Rattle.sf_types.specs.declared.row_end.RowEnd.{RowEnd}
use Rattle.sf_types.specs.Inside.NameMaps.{NameMap}
use Rattle.sf_types.specs.Values.Marks.{Value, strip, size_of}
use Rattle.sf_types.specs.Table.Parts.{Table}
use Rattle.sf_types.specs.Table.Versions.{present_rows}

-- A row that is present: its name, its length and the digest of its bytes.
abbrev pub row_end : List ℕ × Value → RowEnd
row_end (name, value) = record { name = name; len = size_of value; sum = sha256 (strip value) }

-- The rows that are present, in byte order of names.
abbrev pub row_ends : NameMap Value → List RowEnd
row_ends rows = map row_end rows

-- What is told of the rows of a table.
abbrev pub row_ends_of : Table → List RowEnd
row_ends_of t = row_ends (present_rows t)
