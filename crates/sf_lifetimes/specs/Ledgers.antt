-- The places of births and the births of holders (our own).
use Rattle.std.specs.Prelude.{◌≢◌, ℕ, ◌<◌, ◌^◌, Bool, not, ◌==◌, List, [], ◌∷◌, ◌++◌, map, length, flat_map, All, AllPairs, Contains, Option}
use Rattle.std.specs.List.{list_any, sum_by, count_by, filter}
use Rattle.std.specs.Option.{unwrap_or}
use Rattle.std.specs.Ordering.{nat_cmp}
use Rattle.std.specs.FinMap as fin
use Rattle.sf_types.specs.declared.birth_runs.BirthRuns.{BirthRuns}
use Rattle.sf_types.specs.declared.holder.Holder.{Holder}
use Rattle.sf_types.specs.declared.run.Run.{Run}
use Rattle.sf_types.specs.Inside.Holders.{holder_cmp}
use Rattle.sf_types.specs.Space.BlockRuns.{blocks_in}

-- The places of births: the runs of each birth that has a place.
abbrev pub Places : Type 0
Places = fin.FinMap nat_cmp (List Run)

-- The holdings by their holders: the births of each holder that holds some.
abbrev pub Holdings : Type 0
Holdings = fin.FinMap holder_cmp (List ℕ)

-- What a ledger holds: the place of each birth that was placed and whose place hasn't been handed out since, and the
-- holdings.
pub record LedgerView : Type 0 where
  pub places : Places
  pub holdings : Holdings

-- What a holder holds, nothing where it has no entry.
abbrev pub held_by : Holdings → Holder → List ℕ
held_by holdings holder = unwrap_or (fin.get holdings holder) []

-- Whether a list has a birth.
abbrev pub has_birth : List ℕ → ℕ → Bool
has_birth births birth = list_any (λ b. birth == b) births

-- The number of holders that hold a birth.
abbrev pub number_of_holders : ℕ → Holdings → ℕ
number_of_holders birth holdings = count_by (λ births. has_birth births birth) (fin.values holdings)

-- A birth is live where some holder holds it.
abbrev pub is_live : Holdings → ℕ → Bool
is_live holdings birth = not (number_of_holders birth holdings == 0)

-- The places of the live births.
abbrev pub live_places : LedgerView → Places
live_places ledger = fin.retain_keys ledger.places (is_live ledger.holdings)

-- The places of the births that wait for their first holder.
abbrev pub waiting_places : LedgerView → Places
waiting_places ledger = fin.retain_keys ledger.places (λ birth. not (is_live ledger.holdings birth))

-- The place of a live birth.
abbrev pub place_of : LedgerView → ℕ → Option (List Run)
place_of ledger birth = fin.get (live_places ledger) birth

-- The live births with their places, in rising order.
abbrev pub listed_places : LedgerView → List BirthRuns
listed_places ledger = map (λ e. record { birth = e.0; runs = e.1 }) (fin.entries (live_places ledger))

-- The blocks of all places, place by place.
abbrev pub occupied_blocks : Places → List ℕ
occupied_blocks places = flat_map blocks_in (fin.values places)

-- The number of blocks of all places.
abbrev pub number_of_blocks : Places → ℕ
number_of_blocks places = sum_by (λ runs. length (blocks_in runs)) (fin.values places)

-- The number of blocks of all live births.
abbrev pub live_blocks : LedgerView → ℕ
live_blocks ledger = number_of_blocks (live_places ledger)

-- Runs whose blocks are below 2^32, are named once each, and stand in no place.
pub record IsNewPlace (places : Places) (runs : List Run) : Type 0 where
  pub below : All (λ block. block < 2 ^ 32) (blocks_in runs)
  pub once : AllPairs (λ block other. block ≢ other) (blocks_in runs)
  pub apart : All (λ block. ¬ (Contains (occupied_blocks places) block)) (blocks_in runs)

-- The holdings where a holder holds these births in place of what it held. One that holds nothing has no entry.
abbrev pub with_births : Holdings → Holder → List ℕ → Holdings
with_births holdings holder [] = fin.remove holdings holder
with_births holdings holder (b ∷ bs) = fin.insert holdings holder (b ∷ bs)

-- The births that a holder held and that nobody holds once it holds these.
abbrev pub unheld_births : Holdings → Holder → List ℕ → List ℕ
unheld_births holdings holder births =
    filter (λ b. number_of_holders b (with_births holdings holder births) == 0) (held_by holdings holder)

-- The ledger once a holder holds these births: the places of those that nobody holds any more are handed out.
abbrev pub with_holding : LedgerView → Holder → List ℕ → LedgerView
with_holding ledger holder births = record {
  places = fin.retain_keys ledger.places (λ b. not (has_birth (unheld_births ledger.holdings holder births) b));
  holdings = with_births ledger.holdings holder births;
}

-- The births that nobody holds any more with their places, in rising order.
abbrev pub unheld_places : LedgerView → Holder → List ℕ → List BirthRuns
unheld_places ledger holder births =
    map (λ b. record { birth = b; runs = unwrap_or (fin.get ledger.places b) [] }) (unheld_births ledger.holdings holder births)

-- The holdings without those of some holders.
abbrev pub without_holders : Holdings → List Holder → Holdings
without_holders holdings [] = holdings
without_holders holdings (h ∷ hs) = fin.remove (without_holders holdings hs) h

-- The number of blocks of the live births that none but these holders hold.
abbrev pub freed_by : LedgerView → List Holder → ℕ
freed_by ledger holders =
    number_of_blocks (fin.retain_keys (live_places ledger) (λ b. not (is_live (without_holders ledger.holdings holders) b)))

-- Holders that are given up, of what a ledger holds.
pub record GivenUpView : Type 0 where
  pub ledger : LedgerView
  pub holders : List Holder

-- One holder more is given up.
abbrev pub with_given_up : GivenUpView → Holder → GivenUpView
with_given_up given holder = record given { holders = given.holders ++ holder ∷ [] }
