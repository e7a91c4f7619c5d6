-- Floors at which a promise is tried, and the floor at which it is granted (our own).
use Rattle.std.specs.Prelude.{◌≡◌, ℕ, ◌+◌, ◌-◌, ◌≤◌, ◌<◌, Bool, true, false, nat_le, List, ◌∷◌, map, length, sum_by, All, Some, if◌then◌else◌}
use Rattle.sf_types.specs.declared.call.Call.{Call}
use Rattle.sf_types.specs.declared.holder.Holder.{Holder}
use Rattle.sf_types.specs.declared.holder.Holder.TheVariants as holder
use Rattle.sf_types.specs.Halves.Asks.{Half, kept_at, with_kept, with_kept_births}
use Rattle.sf_types.specs.Halves.Flushes.{Granted, NoSpace, Verdict, half_at}
use Rattle.sf_retention.specs.Notes.{due_pairs}
use Rattle.sf_stock.specs.Stocks.{block_count, is_stocked, with_holder}
use Rattle.sf_store_half.specs.declared.cut_notes.CutNote.{CutNote}
use Rattle.sf_store_half.specs.declared.floor_trials.Trial.{Trial}
use Rattle.sf_store_half.specs.declared.decisions.Decision.{Decision}
use Rattle.sf_store_half.specs.declared.decisions.Decision.TheVariants as decision
use Rattle.sf_store_half.specs.declared.decisions.Grant.{Grant}
use Rattle.sf_store_half.specs.Fields.{Fields}
use Rattle.sf_store_half.specs.Inside.CutNotes.{blocks_for_all}
use Rattle.sf_store_half.specs.Inside.Fields.{promised_blocks}
use Rattle.sf_store_half.specs.Inside.Trials.{IsGivenUpOf, births_found, is_reached, reached_stock, version_of}

-- The holders that are given up where a promise of session s is tried at a floor: the session, and the versions that are due there.
abbrev pub holders_at : Fields → ℕ → ℕ → List Holder
holders_at f s floor = holder.Session s ∷ map version_of (due_pairs f.notes floor)

-- Whether a birth is reached at a floor, where session s holds these births.
abbrev pub reached_at : Fields → ℕ → List ℕ → ℕ → ℕ → Bool
reached_at f s births floor = is_reached f.stock.holdings (holders_at f s floor) births

-- The blocks that cuts want at a floor, and those that are free there.
abbrev pub wanted_at : Fields → ℕ → List ℕ → List CutNote → ℕ → ℕ
wanted_at f s births cuts floor = blocks_for_all (reached_at f s births floor) cuts

abbrev pub free_at : Fields → ℕ → List ℕ → ℕ → ℕ
free_at f s births floor =
    f.options.capacity - (block_count (reached_stock f.stock (holders_at f s floor) births) + sum_by promised_blocks f.sessions)

-- Whether a promise fits at a floor.
abbrev pub fits_at_floor : Fields → ℕ → List ℕ → List CutNote → ℕ → Bool
fits_at_floor f s births cuts floor = nat_le (wanted_at f s births cuts floor) (free_at f s births floor)

-- The last floor at which a promise may be tried.
abbrev pub last_tried_floor : Fields → ℕ
last_tried_floor f = if f.options.max then f.versions.now else f.floor

-- A promise of session s is tried at a floor.
pub record IsTrial (f : Fields) (s : ℕ) (births : List ℕ) (cuts : List CutNote) (trial : Trial) : Type 0 where
  pub given : IsGivenUpOf f.stock trial.given
  pub holders : trial.given.holders ≡ holders_at f s trial.floor
  pub due : trial.due ≡ length (due_pairs f.notes trial.floor)
  pub wanted : trial.wanted ≡ wanted_at f s births cuts trial.floor
  pub free : trial.free ≡ free_at f s births trial.floor

-- A floor is between the store's floor and the number of commits; the promise fits at none below it; and without the option
-- `retention max` it is the store's floor.
pub record IsCandidate (f : Fields) (s : ℕ) (births : List ℕ) (cuts : List CutNote) (floor : ℕ) : Type 0 where
  pub low : f.floor ≤ floor
  pub high : floor ≤ f.versions.now
  pub least : (g : ℕ) → f.floor ≤ g → g < floor → fits_at_floor f s births cuts g ≡ false
  pub alone : f.options.max ≡ false → floor ≡ f.floor

-- From a floor on up to another one no more versions are due.
abbrev pub IsSameUpTo : Fields → ℕ → (ℕ → Type 0) → Type 0
IsSameUpTo f floor before = (g : ℕ) → floor ≤ g → before g → due_pairs f.notes g ≡ due_pairs f.notes floor

-- A promise doesn't fit at a floor, and more versions are due at the next one.
pub record IsNextFloor (f : Fields) (trial : Trial) (next : ℕ) : Type 0 where
  pub fails : nat_le trial.wanted trial.free ≡ false
  pub rises : f.options.max ≡ true
  pub later : trial.floor < next
  pub within : next ≤ f.versions.now
  pub same : IsSameUpTo f trial.floor (λ g. g < next)

-- A promise fits at a floor, or no more versions are due at a later one.
abbrev pub IsLastTrial : Fields → Trial → Type 0
IsLastTrial f trial = nat_le trial.wanted trial.free ≡ false → IsSameUpTo f trial.floor (λ g. g ≤ last_tried_floor f)

-- A promise is granted at a floor, which is the least one at which it fits.
pub record IsGranted (f : Fields) (s : ℕ) (births : List ℕ) (cuts : List CutNote) (grant : Grant) : Type 0 where
  pub candidate : IsCandidate f s births cuts grant.floor
  pub fits : fits_at_floor f s births cuts grant.floor ≡ true
  pub wanted : grant.wanted ≡ wanted_at f s births cuts grant.floor
  pub due : grant.due ≡ due_pairs f.notes grant.floor
  pub found : grant.found ≡ births_found (reached_at f s births grant.floor) cuts

-- A promise fits at no floor, and is refused with the numbers of the last one.
pub record IsRefused (f : Fields) (s : ℕ) (births : List ℕ) (cuts : List CutNote) (wanted free : ℕ) : Type 0 where
  pub none : (g : ℕ) → f.floor ≤ g → g ≤ last_tried_floor f → fits_at_floor f s births cuts g ≡ false
  pub wanted_there : wanted ≡ wanted_at f s births cuts (last_tried_floor f)
  pub free_there : free ≡ free_at f s births (last_tried_floor f)

-- What is decided on a promise.
abbrev pub IsDecided : Fields → ℕ → List ℕ → List CutNote → Decision → Type 0
IsDecided f s births cuts (decision.Granted grant) = IsGranted f s births cuts grant
IsDecided f s births cuts (decision.NoSpace wanted free) = IsRefused f s births cuts wanted free

-- The half where a promise of session s, which holds these births, is granted at a floor.
abbrev pub half_granted : Half → ℕ → List ℕ → Call → Grant → Half
half_granted h s births call grant =
    with_kept (half_at h grant.floor) s (record (kept_at h s) {
      births = births;
      promise = Some (record { call = call; blocks = grant.wanted; births = grant.found });
    })

-- What a grant asks of the fields: its floor is between the store's floor and the number of commits; the versions are those that
-- are due there; each birth that is found has a place while session s holds these births; and its blocks are free.
pub record CanGrant (f : Fields) (s : ℕ) (births : List ℕ) (grant : Grant) : Type 0 where
  pub low : f.floor ≤ grant.floor
  pub high : grant.floor ≤ f.versions.now
  pub due : grant.due ≡ due_pairs f.notes grant.floor
  pub found : All (λ birth. is_stocked (with_holder f.stock (holder.Session s) births).stocked birth ≡ true) grant.found
  pub fits : grant.wanted + sum_by promised_blocks f.sessions ≤ f.options.capacity

-- The same of what was decided: a refusal asks nothing.
abbrev pub CanCarryOut : Fields → ℕ → List ℕ → Decision → Type 0
CanCarryOut f s births (decision.Granted grant) = CanGrant f s births grant
CanCarryOut f s births (decision.NoSpace wanted free) = Unit {0}

-- The half once it is carried out, and the verdict.
abbrev pub half_decided : Half → ℕ → List ℕ → Call → Decision → Half
half_decided h s births call (decision.Granted grant) = half_granted h s births call grant
half_decided h s births call (decision.NoSpace wanted free) = with_kept_births h s births

abbrev pub verdict_of : Decision → Verdict
verdict_of (decision.Granted grant) = Granted grant.wanted
verdict_of (decision.NoSpace wanted free) = NoSpace wanted free
