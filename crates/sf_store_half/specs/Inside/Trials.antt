-- What would be in reach once holders were given up and a session held other births (our own).
use Rattle.std.specs.Prelude.{◌≡◌, ◌≢◌, ℕ, Bool, not, ◌&&◌, ◌||◌, List, [], ◌∷◌, filter, filter_map, Option, None, if◌then◌else◌}
use Rattle.std.specs.List.{AllByRecursion}
use Rattle.sf_types.specs.declared.holder.Holder.{Holder}
use Rattle.sf_types.specs.declared.holder.Holder.TheVariants as holder
use Rattle.sf_retention.specs.declared.retention.Pair.{Pair}
use Rattle.sf_lifetimes.specs.Ledgers.{Holdings, GivenUpView, freed_by, has_birth, is_live, without_holders}
use Rattle.sf_stock.specs.Stocks.{Stocked, StockView, freed_blocks}
use Rattle.sf_types.specs.Inside.Births.{rising_births}
use Rattle.sf_store_half.specs.declared.cut_notes.CutNote.{CutNote}
use Rattle.sf_store_half.specs.Inside.CutNotes.{is_found_among}

-- Whether a birth would be reached where some holders held nothing, and a session these births.
abbrev pub is_reached : Holdings → List Holder → List ℕ → ℕ → Bool
is_reached holdings holders births birth = is_live (without_holders holdings holders) birth || has_birth births birth

-- The births of a stock that would be reached.
abbrev pub reached_stock : StockView → List Holder → List ℕ → List Stocked
reached_stock stock holders births = filter (λ x. is_reached stock.holdings holders births x.birth) stock.stocked

-- Whether a birth would be reached by these births alone.
abbrev pub kept_alone : StockView → List Holder → List ℕ → Stocked → Bool
kept_alone stock holders births x = not (is_live (without_holders stock.holdings holders) x.birth) && has_birth births x.birth

-- Holders of a stock are given up.
pub record IsGivenUpOf (stock : StockView) (given : GivenUpView) : Type 0 where
  pub holdings : given.ledger.holdings ≡ stock.holdings
  pub freed : (holders : List Holder) → freed_by given.ledger holders ≡ freed_blocks stock holders

-- The holder that a given up version is.
abbrev pub version_of : Pair → Holder
version_of p = holder.Version p.name p.from

-- No holder is named twice.
abbrev pub AreHoldersOnce : List Holder → Type 0
AreHoldersOnce [] = Unit {0}
AreHoldersOnce (x ∷ xs) = AllByRecursion (λ y. x ≢ y) xs × AreHoldersOnce xs

-- The birth that is found for a cut among the births that are reached.
abbrev pub found_among : (ℕ → Bool) → CutNote → Option ℕ
found_among reached note = if is_found_among reached note then note.found else None

-- The births that are found for cuts, rising, each once.
abbrev pub births_found : (ℕ → Bool) → List CutNote → List ℕ
births_found reached cuts = rising_births (filter_map (found_among reached) cuts)
