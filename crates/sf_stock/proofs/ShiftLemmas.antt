-- Contents that move together.
use Rattle.std.proofs.Common.{◌≡◌, ℕ, ◌≤◌, Bool, true, false, cond, not, List, [], ◌∷◌, ◌++◌, map, length, Option, Some, None, refl, sym, ap, subst, ◌∙◌, arith}
use Rattle.std.specs.Prelude.{is_some, flat_map, ◌==◌}
use Rattle.std.specs.List.{AllByRecursion, list_any, sum_by}
use Rattle.std.specs.Ordering.{nat_cmp, eq_by_cmp}
use Rattle.std.specs.Cmp.{nat_cmp_total, unsigned_ties}
use Rattle.std.specs.FinMap as fin
use Rattle.std.specs.FinMap.{nat_cmp-IsAntisymmetric, same_map, entries, get-entries, get-empty, get-retain_keys}
use Rattle.std.specs.FinMap.Entries.{is_some-find}
use Rattle.std.proofs.lemmas.List.{length-append}
use Rattle.std.proofs.lemmas.List.Elements.{recursion_from_All}
use Rattle.std.proofs.lemmas.List.FromFn.{length-range_with_len}
use Rattle.std.proofs.lemmas.List.Sums.{sum_by-cons}
use Rattle.sf_types.specs.declared.birth_runs.BirthRuns.{BirthRuns}
use Rattle.sf_types.specs.declared.run.Run.{Run}
use Rattle.sf_types.specs.Rooms.{Roomy}
use Rattle.sf_types.specs.Space.BlockRuns.{blocks_in, blocks_in_run, AreRuns}
use Rattle.sf_types.specs.Space.Placings.{all_blocks}
use Rattle.sf_types.proofs.NumberLemmas.{same_number}
use Rattle.sf_room_map.specs.Entries.{value_for}
use Rattle.sf_room_map.proofs.EntryLemmas.{find_is}
use Rattle.sf_dedup.specs.Contents.{Contents}
use Rattle.sf_shrink.specs.declared.shifts.Shift.{Shift}
use Rattle.sf_shrink.specs.Plans.{blocks_of_shifts, placed_at}
use Rattle.sf_lifetimes.specs.Ledgers.{Places, Holdings, LedgerView, is_live, live_places, waiting_places, occupied_blocks}
use Rattle.sf_lifetimes.specs.Shifts.{AreSafeShifts}
use Rattle.sf_lifetimes.proofs.LedgerLemmas.{named_fit}
use Rattle.sf_lifetimes.proofs.MapSumLemmas.{no_values}
use Rattle.sf_stock.specs.declared.known.Known.{Known}
use Rattle.sf_stock.specs.Stocks.{Stocked, AreShifts, places_of, moved_by, with_shifts}
use Rattle.sf_stock.specs.Inside.Keeps.{KnownMap, AreBirths, IsKept, IsStock, runs_in, stocked_in, stock_in}
use Rattle.sf_stock.proofs.KeptLemmas.{placed_entry, entries_are}
use Rattle.sf_stock.proofs.NewLemmas.{count_of, count-append}

abbrev to_pair : Shift → ℕ × List Run
to_pair = λ s. (s.birth, s.to)

abbrev sized : Shift → ℕ × ℕ
sized = λ s. (s.birth, length (blocks_in s.to))

abbrev sized_at : Stocked → ℕ × ℕ
sized_at = λ x. (x.birth, length x.blocks)

-- ---- all births are held
live_at : (h : Holdings) (places : Places) (known : KnownMap) (b : ℕ) → AllByRecursion (λ x. is_live h x.birth ≡ true) (map (stocked_in places) known) → is_some (value_for nat_cmp known b) ≡ true → is_live h b ≡ true
live_at h places [] b all some = absurd cc
live_at h places (e ∷ known) b all some =
    elim (eq_by_cmp nat_cmp b e.0) as (λ t. (b == e.0) ≡ t → is_some (cond t (Some e.1) (value_for nat_cmp known b)) ≡ true → is_live h b ≡ true) [
      | true ↦ λ same _. ap (is_live h) (same_number b e.0 same) ∙ all.0
      | false ↦ λ _ later. live_at h places known b all.1 later
    ] (unsigned_ties b e.0) some

all_of : {X : Type 0} (t : Bool) (x : Option X) → (is_some x ≡ true → t ≡ true) → cond t x None ≡ x
all_of true x live = refl
all_of false None live = refl
all_of false (Some x) live = absurd (let bad = live refl in cc)

none_of : {X : Type 0} (t : Bool) (x : Option X) → (is_some x ≡ true → t ≡ true) → cond (not t) x None ≡ None
none_of true x live = refl
none_of false None live = refl
none_of false (Some x) live = absurd (let bad = live refl in cc)

get_live : (l : LedgerView) (b : ℕ) → fin.get (live_places l) b ≡ cond (is_live l.holdings b) (fin.get l.places b) None
get_live l b = get-retain_keys l.places (is_live l.holdings) b (λ x tie. ap (is_live l.holdings) (sym (nat_cmp-IsAntisymmetric b x tie)))

get_waiting : (l : LedgerView) (b : ℕ) → fin.get (waiting_places l) b ≡ cond (not (is_live l.holdings b)) (fin.get l.places b) None
get_waiting l b = get-retain_keys l.places (λ q. not (is_live l.holdings q)) b (λ x tie. ap (λ q. not (is_live l.holdings q)) (sym (nat_cmp-IsAntisymmetric b x tie)))

module _ (l : LedgerView) (live : (b : ℕ) → is_some (fin.get l.places b) ≡ true → is_live l.holdings b ≡ true) where
  live_all : live_places l ≡ l.places
  live_all = same_map nat_cmp_total nat_cmp-IsAntisymmetric (live_places l) l.places (λ b. get_live l b ∙ all_of (is_live l.holdings b) (fin.get l.places b) (live b))

  none_wait : waiting_places l ≡ fin.empty
  none_wait = same_map nat_cmp_total nat_cmp-IsAntisymmetric (waiting_places l) fin.empty (λ b. get_waiting l b ∙ none_of (is_live l.holdings b) (fin.get l.places b) (live b) ∙ sym (get-empty nat_cmp b))

sizes_same : (places : Places) (known : KnownMap) → map {B = ℕ × ℕ} (λ e. (e.0, length (blocks_in e.1))) (map (placed_entry places) known) ≡ map sized_at (map (stocked_in places) known)
sizes_same places [] = refl
sizes_same places (e ∷ known) = ap (λ (xs : List (ℕ × ℕ)). (e.0, length (blocks_in (runs_in places e.0))) ∷ xs) (sizes_same places known)

-- ---- lists of births
pair_births : (ss : List Shift) → map {B = ℕ} (λ e. e.0) (map to_pair ss) ≡ map {B = ℕ} (λ e. e.0) (map sized ss)
pair_births [] = refl
pair_births (s ∷ ss) = ap (λ (xs : List ℕ). s.birth ∷ xs) (pair_births ss)

known_births : (places : Places) (known : KnownMap) → map {B = ℕ} (λ e. e.0) known ≡ map {B = ℕ} (λ e. e.0) (map sized_at (map (stocked_in places) known))
known_births places [] = refl
known_births places (e ∷ known) = ap (λ (xs : List ℕ). e.0 ∷ xs) (known_births places known)

-- ---- what moves
no_more : {X : Type 0} (x : X) (xs : List X) → ◌≡◌ {A = List X} [] (x ∷ xs) → ⊥
no_more x xs is = omega (arith, ap length is)

abbrev head_or : {X : Type 0} → X → List X → X
head_or d [] = d
head_or d (x ∷ xs) = x

abbrev tail_of : {X : Type 0} → List X → List X
tail_of [] = []
tail_of (x ∷ xs) = xs

one_whole : (runs : List Run) → length runs ≡ 1 → 1 ≤ length (blocks_in runs) → AreRuns runs
one_whole [] one some = absurd (omega (arith, one))
one_whole (run ∷ []) one some = omega (arith, some, length-append (blocks_in_run run) [], length-range_with_len run.first run.blocks)
one_whole (run ∷ next ∷ runs) one some = absurd (omega (arith, one))

some_run : (runs : List Run) → 1 ≤ length (blocks_in runs) → 1 ≤ length runs
some_run [] some = absurd (omega (arith, some))
some_run (run ∷ runs) some = omega arith

module _ (places after : Places) where
  pub moved_is : (known : KnownMap) (ss : List Shift) → map (placed_entry after) known ≡ map to_pair ss → map (stocked_in after) known ≡ moved_by (map (stocked_in places) known) ss
  moved_is [] ss is = refl
  moved_is (e ∷ known) [] is = absurd (no_more _ _ (sym is))
  moved_is (e ∷ known) (s ∷ ss) is =
      let first : placed_entry after e ≡ to_pair s = ap (head_or (placed_entry after e)) is in
      ap (λ (p : ℕ × List Run). record { birth = e.0; content = record { bytes = e.1.content; is_shared = e.1.is_shared }; blocks = blocks_in p.1 } ∷ map (stocked_in after) known) first
      ∙ ap (λ (xs : List Stocked). record { birth = e.0; content = record { bytes = e.1.content; is_shared = e.1.is_shared }; blocks = blocks_in s.to } ∷ xs) (moved_is known ss (ap tail_of is))

  pub kept_moved : (known : KnownMap) (ss : List Shift) → map (placed_entry after) known ≡ map to_pair ss → map sized ss ≡ map sized_at (map (stocked_in places) known) → AllByRecursion (λ s. length s.to ≡ 1) ss → AllByRecursion (λ e. IsKept e.1 (runs_in places e.0)) known
      → AllByRecursion (λ e. IsKept e.1 (runs_in after e.0)) known
  kept_moved [] ss is same one kept = tt
  kept_moved (e ∷ known) [] is same one kept = absurd (no_more _ _ (sym is))
  kept_moved (e ∷ known) (s ∷ ss) is same one kept =
      let first : placed_entry after e ≡ to_pair s = ap (head_or (placed_entry after e)) is in
      let runs : runs_in after e.0 ≡ s.to = ap (λ (p : ℕ × List Run). p.1) first in
      let size : length (blocks_in s.to) ≡ length (blocks_in (runs_in places e.0)) = ap (λ (ps : List (ℕ × ℕ)). (head_or (0, 0) ps).1) same in
      let some : 1 ≤ length (blocks_in s.to) = omega (arith, size, kept.0.some) in (
        subst (IsKept e.1) (sym runs) (record { printed = kept.0.printed; maximal = one_whole s.to one.0 some; count = size ∙ kept.0.count; size = kept.0.size; some = some }),
        kept_moved known ss (ap tail_of is) (ap tail_of same) one.1 kept.1,
      )

  pub one_each : (known : KnownMap) (ss : List Shift) → map (placed_entry after) known ≡ map to_pair ss → AllByRecursion (λ s. length s.to ≡ 1) ss → sum_by (λ (e : ℕ × Known). length (runs_in after e.0)) known ≡ length known
  one_each [] ss is one = refl
  one_each (e ∷ known) [] is one = absurd (no_more _ _ (sym is))
  one_each (e ∷ known) (s ∷ ss) is one =
      let first : placed_entry after e ≡ to_pair s = ap (head_or (placed_entry after e)) is in
      omega (
        arith,
        one_each known ss (ap tail_of is) one.1,
        sum_by-cons (λ (d : ℕ × Known). length (runs_in after d.0)) e known,
        ap (λ (p : ℕ × List Run). length p.1) first,
        one.0,
      )

  pub fewer_runs : (known : KnownMap) → AllByRecursion (λ e. IsKept e.1 (runs_in places e.0)) known → length known ≤ sum_by (λ (e : ℕ × Known). length (runs_in places e.0)) known
  fewer_runs [] kept = omega arith
  fewer_runs (e ∷ known) kept = omega (arith, fewer_runs known kept.1, sum_by-cons (λ (d : ℕ × Known). length (runs_in places d.0)) e known, some_run (runs_in places e.0) kept.0.some)

  pub blocks_moved : (known : KnownMap) (ss : List Shift) → map (placed_entry after) known ≡ map to_pair ss → all_blocks (places_of (map (stocked_in after) known)) ≡ blocks_of_shifts ss
  blocks_moved [] [] is = refl
  blocks_moved [] (s ∷ ss) is = absurd (no_more _ _ is)
  blocks_moved (e ∷ known) [] is = absurd (no_more _ _ (sym is))
  blocks_moved (e ∷ known) (s ∷ ss) is =
      let first : placed_entry after e ≡ to_pair s = ap (head_or (placed_entry after e)) is in
      ap (λ (p : ℕ × List Run). blocks_in p.1 ++ all_blocks (places_of (map (stocked_in after) known))) first
      ∙ ap (λ (bs : List ℕ). blocks_in s.to ++ bs) (blocks_moved known ss (ap tail_of is))

module _ (l : LedgerView) (index : Contents) (known : KnownMap) (left : List BirthRuns) (parked : List Run) (next : ℕ) (ss : List Shift) (are : AreBirths l index known next) (ready : AreShifts (stock_in l known left parked next) ss) where
  held : (b : ℕ) → is_some (value_for nat_cmp known b) ≡ true → is_live l.holdings b ≡ true
  held b = live_at l.holdings l.places known b (recursion_from_All (λ x. is_live l.holdings x.birth ≡ true) (map (stocked_in l.places) known) ready.held)

  placed_live : (b : ℕ) → is_some (fin.get l.places b) ≡ true → is_live l.holdings b ≡ true
  placed_live b some = held b (sym (are.placed b) ∙ some)

  pub safe_shifts : AreSafeShifts (live_places l) (waiting_places l) ss
  safe_shifts = record {
    births = ready.births ∙ sym (sizes_same l.places known)
        ∙ ap (map {B = ℕ × ℕ} (λ (e : ℕ × List Run). (e.0, length (blocks_in e.1)))) (sym (ap entries (live_all l placed_live) ∙ entries_are l.places known are.rising are.placed));
    below = ready.below;
    once = ready.once;
    apart = λ k d less there. absurd (omega (arith, there.1, ap length (ap occupied_blocks (none_wait l placed_live) ∙ ap (flat_map blocks_in) (no_values nat_cmp))));
  }

  module _ (m : LedgerView) (live : entries (live_places m) ≡ map to_pair ss) (waiting : waiting_places m ≡ waiting_places l) (holdings : m.holdings ≡ l.holdings) where
    none_waits : (b : ℕ) → cond (not (is_live m.holdings b)) (fin.get m.places b) None ≡ None
    none_waits b = sym (get_waiting m b) ∙ ap (λ p. fin.get p b) (waiting ∙ none_wait l placed_live) ∙ get-empty nat_cmp b

    live_now : (b : ℕ) → is_some (fin.get m.places b) ≡ true → is_live m.holdings b ≡ true
    live_now b some =
        elim (is_live m.holdings b) as (λ t. cond (not t) (fin.get m.places b) None ≡ None → t ≡ true) [
          | true ↦ λ _. refl
          | false ↦ λ none. absurd (let bad = sym some ∙ ap is_some none in cc)
        ] (none_waits b)

    moved_entries : entries m.places ≡ map to_pair ss
    moved_entries = ap entries (sym (live_all m live_now)) ∙ live

    same_births : map {B = ℕ} (λ e. e.0) (map to_pair ss) ≡ map {B = ℕ} (λ e. e.0) known
    same_births = pair_births ss ∙ ap (map {B = ℕ} (λ (e : ℕ × ℕ). e.0)) ready.births ∙ sym (known_births l.places known)

    placed_now : (b : ℕ) → is_some (fin.get m.places b) ≡ is_some (value_for nat_cmp known b)
    placed_now b =
        ap is_some (get-entries m.places b ∙ ap (fin.find nat_cmp b) moved_entries)
        ∙ is_some-find nat_cmp b (map to_pair ss)
        ∙ ap (list_any (eq_by_cmp nat_cmp b)) same_births
        ∙ sym (is_some-find nat_cmp b known)
        ∙ ap is_some (sym (find_is nat_cmp known b))

    pub pairs_are : map (placed_entry m.places) known ≡ map to_pair ss
    pairs_are = sym (entries_are m.places known are.rising placed_now) ∙ moved_entries

    pub births_moved : AreBirths m index known next
    births_moved = record { rising = are.rising; below = are.below; placed = placed_now; live = λ b is. are.live b (ap (λ h. is_live h b) (sym holdings) ∙ is); indexed = are.indexed }

    pub view_moved : stock_in m known left parked next ≡ with_shifts (stock_in l known left parked next) ss
    view_moved = λ i. record { holdings = holdings i; next = next; stocked = moved_is l.places m.places known ss pairs_are i; left = map placed_at left; parked = blocks_in parked }

no_items : (left : List BirthRuns) → map placed_at left ≡ [] → left ≡ []
no_items [] is = refl
no_items (x ∷ left) is = absurd (no_more _ _ (sym is))

pub stock_shifted : (ledger after : Roomy LedgerView) (index : Roomy Contents) (known : Roomy KnownMap) (left : Roomy (List BirthRuns)) (parked : Roomy (List Run)) (next runs room : ℕ) (ss : List Shift) → IsStock ledger index known left parked next runs room
    → AreShifts (stock_in ledger.held known.held left.held parked.held next) ss → entries (live_places after.held) ≡ map to_pair ss → waiting_places after.held ≡ waiting_places ledger.held → after.held.holdings ≡ ledger.held.holdings → after.spare ≡ ledger.spare
    → IsStock after index known left parked next (length known.held) room
stock_shifted ledger after index known left parked next runs room ss stands ready live waiting holdings same_room =
    let l = ledger.held in
    let m = after.held in
    let es = known.held in
    let are = stands.births in
    let pairs = pairs_are l index.held es left.held parked.held next ss are ready m live waiting holdings in
    let one = recursion_from_All (λ (s : Shift). length s.to ≡ 1) ss ready.one_run in
    let empty = no_items left.held ready.none_left in
    let rooms = stands.rooms in
    let fewer = fewer_runs l.places m.places es stands.blocks.kept in
    let counted = stands.counted in
    record {
      births = births_moved l index.held es left.held parked.held next ss are ready m live waiting holdings;
      blocks = record {
        kept = kept_moved l.places m.places es ss pairs ready.births one stands.blocks.kept;
        whole = stands.blocks.whole;
        once = λ block.
            let here = all_blocks (places_of (map (stocked_in m.places) es)) in
            omega (
              arith,
              named_fit (blocks_of_shifts ss) ready.below ready.once block,
              ap (count_of block) (blocks_moved l.places m.places es ss pairs),
              count-append block here (all_blocks (map placed_at left.held) ++ blocks_in parked.held),
              count-append block (all_blocks (map placed_at left.held)) (blocks_in parked.held),
              ap (λ xs. count_of block (all_blocks xs)) ready.none_left,
              ap (count_of block) ready.none_parked,
            );
      };
      counted = omega (arith, one_each l.places m.places es ss pairs one, ap (λ (xs : List BirthRuns). sum_by (λ x. length x.runs) xs) empty);
      rooms = record {
        ledger_room = omega (arith, rooms.ledger_room, same_room);
        index_room = rooms.index_room;
        known_room = rooms.known_room;
        left_room = rooms.left_room;
        parked_room = omega (arith, rooms.parked_room, counted, fewer);
        birth_room = rooms.birth_room;
        run_number = omega (arith, rooms.run_number, counted, fewer);
      };
    }
