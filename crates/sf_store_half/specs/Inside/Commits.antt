-- What a commit makes of versions, notes of displaced versions and the stock (our own).
use Rattle.std.specs.Prelude.{◌≡◌, ◌<◌, ◌^◌, ◌+◌, ◌-◌, ℕ, true, List, [], ◌∷◌, ◌++◌, map, length, sum_by, filter_map, All, Option}
use Rattle.std.specs.Option.{option_map, option_map_or}
use Rattle.sf_types.specs.declared.holder.Holder.TheVariants as holder
use Rattle.sf_types.specs.Values.Marks.{Value, births_in}
use Rattle.sf_types.specs.Table.Parts.{Rows}
use Rattle.sf_lifetimes.specs.Ledgers.{Holdings, with_births}
use Rattle.sf_retention.specs.declared.retention.Note.{Note}
use Rattle.sf_retention.specs.Notes.{due_pairs, note_of}
use Rattle.sf_stock.specs.Stocks.{StockView, is_stocked, with_holder}
use Rattle.sf_versions.specs.RowChanges.{last_number}
use Rattle.sf_versions.specs.VersionTables.{VersionTable, versions_of}
use Rattle.sf_store_half.specs.declared.commits.RowBirths.{RowBirths}
use Rattle.sf_store_half.specs.declared.commits.CommitPlan.{CommitPlan}

-- What a row's new version holds: the births of its value, and nothing where the row is made absent.
abbrev pub births_of_change : List ℕ × Option Value → RowBirths
births_of_change e = record { row = e.0; births = option_map_or births_in e.1 [] }

-- What the new versions of a commit hold, row by row.
abbrev pub row_births : Rows → List RowBirths
row_births rows = map {B = RowBirths} births_of_change rows

-- How many births they hold.
abbrev pub birth_count : List RowBirths → ℕ
birth_count held = sum_by (λ x. length x.births) held

-- The notes of the versions that the next commit displaces, by the rows that it names: a row's last version.
abbrev pub displaced_notes : VersionTable → Rows → List Note
displaced_notes t rows = filter_map (λ e. option_map (λ from. note_of e.0 from (t.now + 1)) (last_number (versions_of t.rows e.0))) rows

-- The stock once the versions that commit `number` gives these rows hold their births, and the holdings then.
abbrev pub stock_with : StockView → ℕ → List RowBirths → StockView
stock_with s number [] = s
stock_with s number (x ∷ xs) = stock_with (with_holder s (holder.Version x.row number) x.births) number xs

abbrev pub holdings_with : Holdings → ℕ → List RowBirths → Holdings
holdings_with m number [] = m
holdings_with m number (x ∷ xs) = holdings_with (with_births m (holder.Version x.row number) x.births) number xs

-- A plan is that of a commit of these rows, by the versions and notes before it: its number; what the new versions hold and how
-- much that is; the notes of those that it displaces; and, of all notes, the versions that are due at the floor after it.
pub record IsPlan (t : VersionTable) (notes : List Note) (rows : Rows) (plan : CommitPlan) : Type 0 where
  pub within : t.now < 2 ^ 64 - 1
  pub number : plan.number ≡ t.now + 1
  pub held : plan.held ≡ row_births rows
  pub births : plan.births ≡ birth_count (row_births rows)
  pub displaced : plan.displaced ≡ displaced_notes t rows
  pub due : plan.due ≡ due_pairs (notes ++ displaced_notes t rows) plan.floor

-- A stock can take what the versions that commit `number` makes and then a session are to hold: when its turn comes, each of
-- their births has a place.
abbrev pub CanHold : StockView → ℕ → List RowBirths → List ℕ → Type 0
CanHold s number [] kept = All (λ birth. is_stocked s.stocked birth ≡ true) kept
CanHold s number (x ∷ xs) kept = All (λ birth. is_stocked s.stocked birth ≡ true) x.births × CanHold (with_holder s (holder.Version x.row number) x.births) number xs kept
