-- Places with the number of their holders (our own).
use Rattle.std.specs.Prelude.{◌≡◌, ℕ, ◌+◌, ◌-◌, ◌≤◌, ◌<◌, ◌^◌, true, cond, is_some, nat_lt, ◌==◌, List, [], ◌∷◌, map, length, Option, Some, None}
use Rattle.std.specs.List.{sum_by, count_by, filter}
use Rattle.std.specs.Ordering.{nat_cmp}
use Rattle.std.specs.FinMap as fin
use Rattle.sf_types.specs.declared.birth_runs.BirthRuns.{BirthRuns}
use Rattle.sf_types.specs.declared.run.Run.{Run}
use Rattle.sf_types.specs.Space.BlockRuns.{blocks_in}
use Rattle.sf_shrink.specs.declared.shifts.Shift.{Shift}
use Rattle.sf_lifetimes.specs.declared.counted.Counted.{Counted}
use Rattle.sf_lifetimes.specs.Ledgers.{has_birth}

-- What a ledger keeps of each birth.
abbrev pub CountedMap : Type 0
CountedMap = fin.FinMap nat_cmp Counted

-- The number of holders, none where there is no place.
abbrev pub holders_in : Option Counted → ℕ
holders_in None = 0
holders_in (Some c) = c.holders

-- The runs, none where there is no place.
abbrev pub runs_in : Option Counted → List Run
runs_in None = []
runs_in (Some c) = c.runs

-- The runs of a place that some holder holds.
abbrev pub live_runs : Option Counted → Option (List Run)
live_runs None = None
live_runs (Some c) = cond (c.holders == 0) None (Some c.runs)

-- The list of a birth with its runs, where it has any.
abbrev pub live_place : ℕ → Option (List Run) → List BirthRuns
live_place birth None = []
live_place birth (Some runs) = record { birth = birth; runs = runs } ∷ []

-- A place with one holder more.
abbrev pub with_one_more : Option Counted → Option Counted
with_one_more None = None
with_one_more (Some c) = Some (record { runs = c.runs; holders = c.holders + 1 })

-- A place with one holder fewer goes where that was the last.
abbrev pub with_one_fewer : Option Counted → Option Counted
with_one_fewer None = None
with_one_fewer (Some c) = cond (c.holders == 1) None (Some (record { runs = c.runs; holders = c.holders - 1 }))

-- One birth is changed so.
abbrev pub IsChangedAt : (Option Counted → Option Counted) → CountedMap → ℕ → CountedMap → Type 0
IsChangedAt change m birth n = (q : ℕ) → fin.get n q ≡ cond (q == birth) (change (fin.get m birth)) (fin.get m q)

-- All births of a list are changed so, but those that another list has.
abbrev pub AreChangedBut : (Option Counted → Option Counted) → CountedMap → List ℕ → List ℕ → CountedMap → Type 0
AreChangedBut change m births others n =
    (q : ℕ) → fin.get n q ≡ cond (has_birth births q) (cond (has_birth others q) (fin.get m q) (change (fin.get m q))) (fin.get m q)

-- Some births have one holder more, and then others one fewer.
abbrev pub AreExchanged : CountedMap → List ℕ → List ℕ → CountedMap → Type 0
AreExchanged m old new n =
    (q : ℕ) → fin.get n q ≡ cond (has_birth old q) (with_one_fewer (cond (has_birth new q) (with_one_more (fin.get m q)) (fin.get m q))) (cond (has_birth new q) (with_one_more (fin.get m q)) (fin.get m q))

-- The live blocks of a place, and of all places.
abbrev pub live_in : Counted → ℕ
live_in c = cond (c.holders == 0) 0 (length (blocks_in c.runs))

abbrev pub live_sum : CountedMap → ℕ
live_sum m = sum_by live_in (fin.values m)

-- How many times a place names a block.
abbrev pub times : ℕ → Counted → ℕ
times block c = count_by (λ b. block == b) (blocks_in c.runs)

-- A block below 2^32 stands in one place at most, and once there; no other stands in any. The live blocks are known.
pub record IsCounted (m : CountedMap) (live : ℕ) : Type 0 where
  pub once : (block : ℕ) → sum_by (times block) (fin.values m) ≤ cond (nat_lt block (2 ^ 32)) 1 0
  pub live_is : live ≡ live_sum m

-- Each birth of a list has a place, and fewer holders than this.
abbrev pub AreFew : CountedMap → List ℕ → Type 0
AreFew m births = (b : ℕ) → has_birth births b ≡ true → (is_some (fin.get m b) ≡ true) × (holders_in (fin.get m b) < 2 ^ 63)

-- Each birth of a list has a holder.
abbrev pub AreHeld : CountedMap → List ℕ → Type 0
AreHeld m births = (b : ℕ) → has_birth births b ≡ true → 1 ≤ holders_in (fin.get m b)

-- A place that nobody holds.
abbrev pub without_holder : List Run → Counted
without_holder runs = record { runs = runs; holders = 0 }

-- Runs whose blocks are below 2^32, stand in no place, and are named once each.
abbrev pub IsFree : CountedMap → List Run → Type 0
IsFree m runs =
    (block : ℕ) → (times block (without_holder runs) ≤ cond (nat_lt block (2 ^ 32)) 1 0)
    × (1 ≤ times block (without_holder runs) → sum_by (times block) (fin.values m) ≡ 0)

-- The births of a list that one holder holds.
abbrev pub last_births : CountedMap → List ℕ → List ℕ
last_births m births = filter (λ b. holders_in (fin.get m b) == 1) births

-- The births of a list that one holder holds once these others are held once more.
abbrev pub lone_births : CountedMap → List ℕ → List ℕ → List ℕ
lone_births m more births = filter (λ b. (holders_in (fin.get m b) + cond (has_birth more b) 1 0) == 1) births

-- Some births with their runs.
abbrev pub runs_of_births : CountedMap → List ℕ → List BirthRuns
runs_of_births m births = map (λ b. record { birth = b; runs = runs_in (fin.get m b) }) births

-- A place with other runs.
abbrev pub with_runs : List Run → Option Counted → Option Counted
with_runs to None = None
with_runs to (Some c) = Some (record { runs = to; holders = c.holders })

-- What a birth has once it has moved: the runs of its shift, where it has one.
abbrev pub with_shifts : List Shift → ℕ → Option Counted → Option Counted
with_shifts [] birth x = x
with_shifts (s ∷ shifts) birth x = cond (birth == s.birth) (with_runs s.to x) (with_shifts shifts birth x)
