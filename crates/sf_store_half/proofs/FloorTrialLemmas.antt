-- A promise that is tried at a floor.
use Rattle.std.proofs.Common.{◌≡◌, ℕ, ◌+◌, ◌-◌, ◌≤◌, ◌<◌, true, false, List, ◌∷◌, ◌++◌, drop, length, map, Some, None, ◌⊎◌, inl, inr, sym, ap, subst, ◌∙◌, arith}
use Rattle.std.specs.Prelude.{nat_le, slice_get, sum_by}
use Rattle.std.specs.List.{AllByRecursion as Each}
use Rattle.std.proofs.lemmas.Bool.{cases_lt}
use Rattle.std.proofs.lemmas.List.{map-append, length-append}
use Rattle.sf_types.specs.declared.holder.Holder.{Holder}
use Rattle.sf_types.specs.declared.holder.Holder.TheVariants as holder
use Rattle.sf_retention.specs.declared.retention.Note.{Note}
use Rattle.sf_retention.specs.declared.retention.Pair.{Pair}
use Rattle.sf_retention.proofs.NoteLemmas.{IsInOrder}
use Rattle.sf_lifetimes.specs.Ledgers.{GivenUpView, freed_by}
use Rattle.sf_retention.specs.Notes.{due_pairs}
use Rattle.sf_stock.specs.Stocks.{StockView, block_count}
use Rattle.sf_store_half.specs.declared.cut_notes.CutNote.{CutNote}
use Rattle.sf_store_half.specs.declared.floor_trials.Trial.{Trial}
use Rattle.sf_store_half.specs.Fields.{Fields}
use Rattle.sf_store_half.specs.Inside.CutNotes.{blocks_for_all}
use Rattle.sf_store_half.specs.Inside.Fields.{promised_blocks}
use Rattle.sf_store_half.specs.Inside.Promises.{IsCandidate, IsLastTrial, IsNextFloor, IsTrial, fits_at_floor, free_at, holders_at}
use Rattle.sf_store_half.specs.Inside.Trials.{IsGivenUpOf, is_reached, reached_stock, version_of}
use Rattle.sf_store_half.proofs.DueLemmas.{IsBefore, due_before, due_same, each_place, in_order, later_note}

-- holders that are given up stand in the ledger of the stock, whichever they are
pub same_ledger : (stock : StockView) (before after : GivenUpView) → after.ledger ≡ before.ledger → IsGivenUpOf stock before → IsGivenUpOf stock after
same_ledger stock before after same given = record {
  holdings = ap (λ l. l.holdings) same ∙ given.holdings;
  freed = λ holders. ap (λ l. freed_by l holders) same ∙ given.freed holders;
}

pub trial_is : (f : Fields) (s : ℕ) (births : List ℕ) (cuts : List CutNote) (floor : ℕ) (given : GivenUpView) (trial : Trial) → IsGivenUpOf f.stock given
    → given.holders ≡ holders_at f s floor → trial.floor ≡ floor → trial.given ≡ given → trial.due ≡ length (due_pairs f.notes floor)
    → trial.wanted ≡ blocks_for_all (is_reached f.stock.holdings given.holders births) cuts
    → trial.free ≡ f.options.capacity - (block_count (reached_stock f.stock given.holders births) + sum_by promised_blocks f.sessions)
    → IsTrial f s births cuts trial
trial_is f s births cuts floor given trial of holders at is due wanted free = record {
  given = subst (IsGivenUpOf f.stock) (sym is) of;
  holders = ap (λ (g : GivenUpView). g.holders) is ∙ holders ∙ ap (holders_at f s) (sym at);
  due = due ∙ ap (λ g. length (due_pairs f.notes g)) (sym at);
  wanted = wanted ∙ ap (λ hs. blocks_for_all (is_reached f.stock.holdings hs births) cuts) (holders ∙ ap (holders_at f s) (sym at));
  free = free ∙ ap (λ hs. f.options.capacity - (block_count (reached_stock f.stock hs births) + sum_by promised_blocks f.sessions)) (holders ∙ ap (holders_at f s) (sym at));
}

-- ---- a higher floor
pub holders_next : (f : Fields) (s : ℕ) (births : List ℕ) (cuts : List CutNote) (t : Trial) (floor : ℕ) → IsInOrder f.notes → IsTrial f s births cuts t → t.floor ≤ floor
    → t.given.holders ++ map version_of (drop t.due (due_pairs f.notes floor)) ≡ holders_at f s floor
holders_next f s births cuts t floor rising tried up =
    let before = due_pairs f.notes t.floor in
    let after = due_pairs f.notes floor in
    ap (λ (hs : List Holder). hs ++ map version_of (drop t.due after)) tried.holders
    ∙ ap (λ n. holders_at f s t.floor ++ map version_of (drop n after)) tried.due
    ∙ ap (λ (hs : List Holder). holder.Session s ∷ hs) (sym (map-append version_of before (drop (length before) after)) ∙ ap (map version_of) (due_before f.notes t.floor floor (in_order f.notes rising) up))

pub due_next : (f : Fields) (s : ℕ) (births : List ℕ) (cuts : List CutNote) (t : Trial) (floor : ℕ) → IsInOrder f.notes → IsTrial f s births cuts t → t.floor ≤ floor → t.due ≤ length (due_pairs f.notes floor)
due_next f s births cuts t floor rising tried up =
    let before = due_pairs f.notes t.floor in
    let after = due_pairs f.notes floor in
    let whole = ap (λ (ps : List Pair). length ps) (due_before f.notes t.floor floor (in_order f.notes rising) up) in
    omega (arith, tried.due, whole, length-append before (drop (length before) after))

-- ---- the next floor
pub next_floor_is : (f : Fields) (t : Trial) (note : Note) → IsInOrder f.notes → Each (λ n. n.until ≤ f.versions.now) f.notes → t.due ≡ length (due_pairs f.notes t.floor)
    → slice_get f.notes t.due ≡ Some note → nat_le t.wanted t.free ≡ false → f.options.max ≡ true → IsNextFloor f t note.until
next_floor_is f t note rising early due is fails rises =
    let at : slice_get f.notes (length (due_pairs f.notes t.floor)) ≡ Some note = ap (slice_get f.notes) (sym due) ∙ is in
    record {
      fails = fails;
      rises = rises;
      later = later_note f.notes t.floor note (in_order f.notes rising) at;
      within = each_place (λ n. n.until ≤ f.versions.now) f.notes t.due note is early;
      same = λ g low less. due_same f.notes t.floor g (in_order f.notes rising) low (subst (IsBefore g) (sym at) less);
    }

pub last_trial_is : (f : Fields) (t : Trial) → IsInOrder f.notes → t.due ≡ length (due_pairs f.notes t.floor) → slice_get f.notes t.due ≡ None → IsLastTrial f t
last_trial_is f t rising due none _ g low _ =
    due_same f.notes t.floor g (in_order f.notes rising) low (subst (IsBefore g) (sym (ap (slice_get f.notes) (sym due) ∙ none)) tt)

-- where the same versions are due a promise fits alike
pub fits_where_due : (f : Fields) (s : ℕ) (births : List ℕ) (cuts : List CutNote) (g floor : ℕ) → due_pairs f.notes g ≡ due_pairs f.notes floor → fits_at_floor f s births cuts g ≡ fits_at_floor f s births cuts floor
fits_where_due f s births cuts g floor same =
    ap (λ (ps : List Pair). nat_le (blocks_for_all (is_reached f.stock.holdings (holder.Session s ∷ map version_of ps) births) cuts)
    (f.options.capacity - (block_count (reached_stock f.stock (holder.Session s ∷ map version_of ps) births) + sum_by promised_blocks f.sessions))) same

pub fits_as_tried : (f : Fields) (s : ℕ) (births : List ℕ) (cuts : List CutNote) (t : Trial) → IsTrial f s births cuts t → fits_at_floor f s births cuts t.floor ≡ nat_le t.wanted t.free
fits_as_tried f s births cuts t tried = ap (λ n. nat_le n (free_at f s births t.floor)) (sym tried.wanted) ∙ ap (nat_le t.wanted) (sym tried.free)

pub candidate_next : (f : Fields) (s : ℕ) (births : List ℕ) (cuts : List CutNote) (t : Trial) (next : ℕ) → IsTrial f s births cuts t → IsCandidate f s births cuts t.floor → IsNextFloor f t next → IsCandidate f s births cuts next
candidate_next f s births cuts t next tried so_far up = record {
  low = omega (arith, so_far.low, up.later);
  high = up.within;
  least = λ g low less. below g low less (cases_lt g t.floor);
  alone = λ never. absurd (let bad : true ≡ false = sym up.rises ∙ never in cc);
}
  where
    below : (g : ℕ) → f.floor ≤ g → g < next → (g < t.floor) ⊎ (t.floor ≤ g) → fits_at_floor f s births cuts g ≡ false
    below g low less (inl early) = so_far.least g low early
    below g low less (inr late) = fits_where_due f s births cuts g t.floor (up.same g late less) ∙ fits_as_tried f s births cuts t tried ∙ up.fails
