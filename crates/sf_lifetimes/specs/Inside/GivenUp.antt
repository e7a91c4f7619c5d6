-- What is counted of holders that are given up (our own).
use Rattle.std.specs.Prelude.{◌≡◌, ◌≢◌, ℕ, List, AllPairs}
use Rattle.std.specs.FinMap as fin
use Rattle.sf_types.specs.declared.holder.Holder.{Holder}
use Rattle.sf_lifetimes.specs.Ledgers.{Holdings, GivenUpView}
use Rattle.sf_lifetimes.specs.Inside.Counts.{CountedMap}
use Rattle.sf_lifetimes.specs.Inside.Counted.{IsCountedBy, places_in}
use Rattle.sf_lifetimes.specs.Inside.Tallies.{Tallies, tally_of, number_among}

-- What holders that are given up are seen as.
abbrev pub given_up_in : CountedMap → Holdings → List Holder → GivenUpView
given_up_in places holdings holders = record { ledger = record { places = places_in places; holdings = holdings }; holders = holders }

-- The holders differ, and each of them was counted off.
pub record IsGivenUp (places : CountedMap) (holdings : Holdings) (holders : List Holder) (tallies : Tallies) : Type 0 where
  pub counted : IsCountedBy places holdings
  pub once : AllPairs (λ holder other. holder ≢ other) holders
  pub tallied : (birth : ℕ) → fin.get tallies birth ≡ tally_of (fin.get places birth) (number_among holdings holders birth)
