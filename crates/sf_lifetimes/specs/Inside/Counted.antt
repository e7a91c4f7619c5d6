-- What counts say of a ledger (our own).
use Rattle.std.specs.Prelude.{◌≡◌, ℕ, not, ◌==◌, ◌≤◌, map}
use Rattle.std.specs.FinMap as fin
use Rattle.sf_types.specs.Rooms.{Roomy}
use Rattle.sf_lifetimes.specs.Ledgers.{Places, Holdings, number_of_holders}
use Rattle.sf_lifetimes.specs.Inside.Counts.{CountedMap, holders_in}

-- The places without the counts.
abbrev pub places_in : CountedMap → Places
places_in m = fin.from_sorted (map (λ e. (e.0, e.1.runs)) (fin.entries m))

-- The places that some holder holds, and the others.
abbrev pub live_places_in : CountedMap → Places
live_places_in m = fin.retain_keys (places_in m) (λ birth. not (holders_in (fin.get m birth) == 0))

abbrev pub waiting_places_in : CountedMap → Places
waiting_places_in m = fin.retain_keys (places_in m) (λ birth. not (not (holders_in (fin.get m birth) == 0)))

-- Each count is the number of holders that hold the birth. So a birth that somebody holds has a place.
abbrev pub IsCountedBy : CountedMap → Holdings → Type 0
IsCountedBy m holdings = (birth : ℕ) → holders_in (fin.get m birth) ≡ number_of_holders birth holdings

-- The maps of a ledger: the counts are right, and both maps have the ledger's room.
pub record IsLedger (places : Roomy CountedMap) (holdings : Roomy Holdings) (room : ℕ) : Type 0 where
  pub counted : IsCountedBy places.held holdings.held
  pub places_room : room ≤ places.spare
  pub holdings_room : room ≤ holdings.spare
