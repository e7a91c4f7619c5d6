-- What the calls on the store's half ask, and how each of them moves the places (our own).
use Rattle.std.specs.Prelude.{◌≡◌, ◌≢◌, ℕ, ◌+◌, ◌-◌, ◌≤◌, ◌<◌, ◌^◌, true, not, List, [], ◌∷◌, ◌++◌, map, length, drop, filter, flat_map, slice_get, unwrap_or, All, AllPairs, Contains, Some}
use Rattle.std.specs.List.{range_with_len}
use Rattle.sf_types.specs.declared.options.Options.{Options}
use Rattle.sf_types.specs.Values.Marks.{births_in}
use Rattle.sf_types.specs.Table.Parts.{Rows}
use Rattle.sf_types.specs.Space.Cuts.{Cut, cuts}
use Rattle.sf_types.specs.Space.Placings.{Placed, all_blocks}
use Rattle.sf_types.specs.Space.Reach.{values_in}
use Rattle.sf_types.specs.Space.Use.{blocks_of_births}
use Rattle.sf_types.specs.Halves.Asks.{Request, Commits, Settles, Half, new_kept}
use Rattle.sf_types.specs.Halves.Flushes.{half_wanted_blocks}
use Rattle.sf_types.specs.Play.Blocks.{places_by_first, places_of_new}
use Rattle.sf_dedup.specs.Prints.{print_of}
use Rattle.sf_stock.specs.Stocks.{StockView, is_stocked, places_of}
use Rattle.sf_versions.specs.declared.asks.Ask.{Ask}
use Rattle.sf_versions.specs.declared.asks.Flush.{Flush}
use Rattle.sf_versions.specs.Asks.{request_of_part, cuts_with}
use Rattle.sf_store_half.specs.declared.session_fields.SessionField.{SessionField}
use Rattle.sf_store_half.specs.Fields.{Fields, Keeps, session_field}

-- Sessions are numbered from 1.
pub record HasField (f : Fields) (s : ℕ) : Type 0 where
  pub low : 1 ≤ s
  pub high : s ≤ length f.sessions

-- What is kept of session s.
abbrev pub field_at : Fields → ℕ → SessionField
field_at f s = unwrap_or (slice_get f.sessions (s - 1)) (session_field new_kept)

-- Each of some births has a place.
abbrev pub AreStocked : Fields → List ℕ → Type 0
AreStocked f births = All (λ birth. is_stocked f.stock.stocked birth ≡ true) births

-- The rows that become a commit's. Another request has none.
abbrev pub committed_rows : Request → Rows
committed_rows (Commits rows) = rows
committed_rows _ = []

-- What a request's publication settles: a commit's rows, or the result of a writing call.
abbrev pub flushed_rows : Request → Rows
flushed_rows (Commits rows) = rows
flushed_rows (Settles value) = ([], Some value) ∷ []
flushed_rows _ = []

-- The births that an ask brings have places: those that its session keeps, and those that its values name.
pub record BringsStocked (f : Fields) (ask : Ask) : Type 0 where
  pub kept : AreStocked f ask.kept
  pub named : AreStocked f (flat_map births_in (values_in (flushed_rows (request_of_part ask.part))))

-- The prints of a flush are those of its contents.
abbrev pub HasPrints : Flush → Type 0
HasPrints flush = flush.prints ≡ map print_of flush.contents

-- The cuts of a flush.
abbrev pub cuts_in : Options → Flush → List Cut
cuts_in options flush = cuts_with options flush.contents flush.choices

-- A flush has the cuts of what its publication settles.
abbrev pub HasCutsOfRequest : Options → Flush → Type 0
HasCutsOfRequest options flush = cuts_in options flush ≡ cuts options (flushed_rows (request_of_part flush.ask.part))

-- Blocks in which new contents can be placed: each is below 2^32 and stands once among them, and in no place and not among the
-- parked ones.
pub record ArePlaceable (f : Fields) (blocks : List ℕ) : Type 0 where
  pub below : All (λ block. block < 2 ^ 32) blocks
  pub once : AllPairs (λ block other. block ≢ other) blocks
  pub apart : All (λ block. ¬ (Contains (all_blocks (places_of f.stock.stocked) ++ f.stock.parked) block)) blocks

-- So many blocks are enough for the new contents of some cuts.
abbrev pub AreEnough : Fields → List Cut → ℕ → Type 0
AreEnough f of blocks = (h : Half) × Keeps f h × (half_wanted_blocks h of h.floor ≤ blocks)

-- The births that were given out from one half to a later one.
abbrev pub births_between : Half → Half → List ℕ
births_between before after = range_with_len (length before.contents + 1) (length after.contents - length before.contents)

-- The places of these births in some blocks, and those blocks that none of them takes.
abbrev pub new_places : Half → Half → List ℕ → List Placed
new_places before after blocks = places_of_new after.contents (births_between before after) blocks

abbrev pub blocks_left_over : Half → Half → List ℕ → List ℕ
blocks_left_over before after blocks = drop (blocks_of_births after.contents (births_between before after)) blocks

-- The places that births keep, and those that births lost.
abbrev pub remaining_places : StockView → StockView → List Placed
remaining_places before after = filter (λ x. is_stocked after.stocked x.birth) (places_of before.stocked)

abbrev pub departed_places : StockView → StockView → List Placed
departed_places before after = filter (λ x. not (is_stocked after.stocked x.birth)) (places_of before.stocked)

-- A call moved a stock: births that nobody holds any more lost their places, and their blocks are parked behind the others, of a
-- place that begins with a lower block first; new places stand behind those that remained.
pub record IsRepacked (before after : StockView) (new : List Placed) : Type 0 where
  pub places : places_of after.stocked ≡ remaining_places before after ++ new
  pub parked : after.parked ≡ before.parked ++ all_blocks (places_by_first (departed_places before after))
