-- What is decided on a promise that was tried.
use Rattle.std.proofs.Common.{◌≡◌, ℕ, ◌+◌, ◌-◌, ◌≤◌, ◌<◌, Bool, true, false, cond, List, ◌∷◌, map, ◌⊎◌, inl, inr, refl, sym, ap, ◌∙◌, arith}
use Rattle.std.specs.Prelude.{nat_le, sum_by}
use Rattle.std.proofs.lemmas.Bool.{cases_lt}
use Rattle.sf_types.specs.declared.holder.Holder.TheVariants as holder
use Rattle.sf_retention.specs.declared.retention.Pair.{Pair}
use Rattle.sf_retention.specs.Notes.{due_pairs}
use Rattle.sf_stock.specs.Stocks.{block_count}
use Rattle.sf_store_half.specs.declared.cut_notes.CutNote.{CutNote}
use Rattle.sf_store_half.specs.declared.floor_trials.Trial.{Trial}
use Rattle.sf_store_half.specs.Fields.{Fields}
use Rattle.sf_store_half.specs.Inside.CutNotes.{blocks_for_all}
use Rattle.sf_store_half.specs.Inside.Fields.{promised_blocks}
use Rattle.sf_store_half.specs.Inside.Promises.{IsCandidate, IsGranted, IsLastTrial, IsRefused, IsTrial, fits_at_floor, last_tried_floor}
use Rattle.sf_store_half.specs.Inside.Trials.{births_found, is_reached, reached_stock, version_of}
use Rattle.sf_store_half.proofs.FloorTrialLemmas.{fits_as_tried, fits_where_due}

pub granted_is : (f : Fields) (s : ℕ) (births : List ℕ) (cuts : List CutNote) (t : Trial) (due : List Pair) (found : List ℕ) → IsTrial f s births cuts t → IsCandidate f s births cuts t.floor
    → nat_le t.wanted t.free ≡ true → due ≡ due_pairs f.notes t.floor → found ≡ births_found (is_reached t.given.ledger.holdings t.given.holders births) cuts
    → IsGranted f s births cuts (record { floor = t.floor; due = due; wanted = t.wanted; found = found })
granted_is f s births cuts t due found tried candidate fits pairs are = record {
  candidate = candidate;
  fits = fits_as_tried f s births cuts t tried ∙ fits;
  wanted = tried.wanted;
  due = pairs;
  found = are ∙ ap (λ m. births_found (is_reached m t.given.holders births) cuts) tried.given.holdings ∙ ap (λ hs. births_found (is_reached f.stock.holdings hs births) cuts) tried.holders;
}

-- the last floor is no earlier than one that was tried
up_to_last : (f : Fields) (s : ℕ) (births : List ℕ) (cuts : List CutNote) (floor : ℕ) → IsCandidate f s births cuts floor → floor ≤ last_tried_floor f
up_to_last f s births cuts floor candidate = by_option f.options.max refl
  where
    by_option : (t : Bool) → f.options.max ≡ t → floor ≤ cond {A = ℕ} t f.versions.now f.floor
    by_option true is = candidate.high
    by_option false is = let same = candidate.alone is in omega (arith, same)

pub refused_is : (f : Fields) (s : ℕ) (births : List ℕ) (cuts : List CutNote) (t : Trial) → IsTrial f s births cuts t → IsCandidate f s births cuts t.floor → IsLastTrial f t
    → nat_le t.wanted t.free ≡ false → IsRefused f s births cuts t.wanted t.free
refused_is f s births cuts t tried candidate last fails =
    let up : t.floor ≤ last_tried_floor f = up_to_last f s births cuts t.floor candidate in
    let same : due_pairs f.notes (last_tried_floor f) ≡ due_pairs f.notes t.floor = last fails (last_tried_floor f) up (omega arith) in
    record {
      none = λ g low high. below g low high (cases_lt g t.floor);
      wanted_there = tried.wanted ∙ ap (λ (ps : List Pair). blocks_for_all (is_reached f.stock.holdings (holder.Session s ∷ map version_of ps) births) cuts) (sym same);
      free_there = tried.free ∙ ap (λ (ps : List Pair). f.options.capacity - (block_count (reached_stock f.stock (holder.Session s ∷ map version_of ps) births) + sum_by promised_blocks f.sessions)) (sym same);
    }
  where
    below : (g : ℕ) → f.floor ≤ g → g ≤ last_tried_floor f → (g < t.floor) ⊎ (t.floor ≤ g) → fits_at_floor f s births cuts g ≡ false
    below g low high (inl early) = candidate.least g low early
    below g low high (inr late) = fits_where_due f s births cuts g t.floor (last fails g late high) ∙ fits_as_tried f s births cuts t tried ∙ fails
