-- A store that is made small.
use Rattle.std.proofs.Common.{◌≡◌, ◌≢◌, ℕ, ◌+◌, ◌-◌, ◌≤◌, ◌<◌, Bool, true, false, cond, IsTrue, List, [], ◌∷◌, ◌++◌, length, map, drop, Option, refl, sym, ap, subst, ◌∙◌, arith}
use Rattle.std.specs.Prelude.{All, AllPairs, flat_map, is_some, min}
use Rattle.std.specs.List.{AllByRecursion as Each, list_any, range_with_len}
use Rattle.std.specs.Option.{IfSome}
use Rattle.std.proofs.lemmas.List.Elements.{All-from_recursion, recursion_from_All}
use Rattle.std.proofs.Math.ListN.{drop_of_length-le}
use Rattle.sf_types.specs.declared.birth_runs.BirthRuns.{BirthRuns}
use Rattle.sf_types.specs.declared.limits.TheConstants.{STORE_BLOCKS}
use Rattle.sf_types.specs.declared.options.Options.{Options}
use Rattle.sf_types.specs.declared.place.Place.{Place}
use Rattle.sf_types.specs.declared.run.Run.{Run}
use Rattle.sf_types.specs.Limits.{IsInRange}
use Rattle.sf_types.specs.Table.Parts.{Session, Table}
use Rattle.sf_types.specs.Table.Sessions.{has_session}
use Rattle.sf_types.specs.Inside.Births.{IsRising}
use Rattle.sf_types.specs.Space.BlockRuns.{blocks_in}
use Rattle.sf_types.specs.Space.Reach.{Holding, holdings}
use Rattle.sf_types.specs.Space.Placings.{IsSafe, Placed, all_blocks}
use Rattle.sf_types.specs.Space.Plans.{planned_from, planned_places}
use Rattle.sf_types.specs.Play.Blocks.{after_shrink}
use Rattle.sf_types.specs.Play.Turns.{Stage, stage_after_shrink}
use Rattle.sf_laws.proofs.EachLemmas.{each_weaker}
use Rattle.sf_laws.proofs.SpaceLemmas.{is_safe}
use Rattle.sf_laws.proofs.StageLemmas.{Holds, holds_sound, shrunk_keeps}
use Rattle.sf_laws.proofs.SumLemmas.{rising_rises}
use Rattle.sf_shrink.specs.declared.shifts.Shift.{Shift}
use Rattle.sf_shrink.specs.declared.shifts.TheConstants.{MOST_BLOCKS}
use Rattle.sf_shrink.specs.Plans.{ArePlaced, block_count, blocks_of_places, placed_at, planned, planned_shifts, shift_to, shifted_to}
use Rattle.sf_block_space.specs.Free.{AreFreeRuns, FreeSpace}
use Rattle.sf_session.specs.Cores.{CoreView}
use Rattle.sf_book.specs.Books.{BookView, listed_place, table_of}
use Rattle.sf_plain_store.specs.declared.due_calls.DueCall.{DueCall}
use Rattle.sf_plain_store.specs.Stores.{IsAtHomeIn, StoreView, stage_of, with_stage}
use Rattle.sf_plain_store.specs.Turns.{KeepsCores}
use Rattle.sf_plain_store.specs.Inside.Bodies.{IsKept, IsStore, flush_at, store_of}
use Rattle.sf_plain_store.specs.Inside.Places.{runs_of_place}
use Rattle.sf_plain_store.proofs.ListedPlaceLemmas.{listed_runs}
use Rattle.sf_plain_store.proofs.StoreMoveLemmas.{blocks_collected, same_store, sound_at}

-- Whether a promise stands.
abbrev pub has_promises : Table → Bool
has_promises t = list_any (λ (p : Session). is_some p.promise) t.sessions

-- what a shrink does where no promise stands
pub shrunk_stage : (x : Stage) → has_promises x.table ≡ false → stage_after_shrink x ≡ record x { space = after_shrink x.table.options.capacity x.space }
shrunk_stage x none = ap (λ b. cond b x (record x { space = after_shrink x.table.options.capacity x.space })) none

pub same_stage : (x : Stage) → has_promises x.table ≡ true → stage_after_shrink x ≡ x
same_stage x some = ap (λ b. cond b x (record x { space = after_shrink x.table.options.capacity x.space })) some

pub planned_safe : (options : Options) (sessions : ℕ) (x : Stage) → Holds options sessions x → has_promises x.table ≡ false → IsSafe x.table (planned_places x.space.places)
planned_safe options sessions x holds none =
    let after = subst (Holds options sessions) (shrunk_stage x none) (shrunk_keeps options sessions x holds) in
    is_safe x.table (after_shrink x.table.options.capacity x.space) after.has

-- ---- the plan
births_placed : (xs : List BirthRuns) → map (λ x. x.birth) (map placed_at xs) ≡ map (λ x. x.birth) xs
births_placed [] = refl
births_placed (x ∷ xs) = ap (λ (bs : List ℕ). x.birth ∷ bs) (births_placed xs)

blocks_placed : (xs : List BirthRuns) → blocks_of_places xs ≡ all_blocks (map placed_at xs)
blocks_placed [] = refl
blocks_placed (x ∷ xs) = ap (λ (bs : List ℕ). blocks_in x.runs ++ bs) (blocks_placed xs)

pub can_be_planned : (t : Table) (places : List Placed) (births : List BirthRuns) → IsSafe t places → t.options.capacity ≤ STORE_BLOCKS → map placed_at births ≡ places → ArePlaced births MOST_BLOCKS
can_be_planned t places births safe few placed =
    let same : blocks_of_places births ≡ all_blocks places = blocks_placed births ∙ ap all_blocks placed in
    record {
      births = subst IsRising (sym (sym (births_placed births) ∙ ap (λ (xs : List Placed). map (λ x. x.birth) xs) placed ∙ safe.births)) (rising_rises (flat_map (λ (h : Holding). h.births) (holdings t)));
      below = subst (All (λ block. block < MOST_BLOCKS)) (sym same) (All-from_recursion (λ block. block < MOST_BLOCKS) (all_blocks places)
          (each_weaker (λ block. block < t.options.capacity) (λ block. block < MOST_BLOCKS) (all_blocks places) (λ block less. omega (arith, less, few)) (recursion_from_All (λ block. block < t.options.capacity) (all_blocks places) safe.below)));
      once = subst (AllPairs (λ block other. block ≢ other)) (sym same) safe.once;
    }

pub to_one_run : (start : ℕ) (places : List BirthRuns) → All (λ (shift : Shift). length shift.to ≡ 1) (planned_shifts start places)
to_one_run start places = All-from_recursion (λ (shift : Shift). length shift.to ≡ 1) (planned_shifts start places) (each start places)
  where
    each : (start : ℕ) (places : List BirthRuns) → Each (λ (shift : Shift). length shift.to ≡ 1) (planned_shifts start places)
    each start [] = tt
    each start (x ∷ xs) = (refl, each (start + block_count x) xs)

-- ---- the store
-- What a shrink does.
pub record IsShrunk (b a : BookView) (free next_free : FreeSpace) (due_calls : List DueCall) : Type 0 where
  pub after : store_of a next_free due_calls ≡ with_stage (store_of b free due_calls) (stage_after_shrink (stage_of (store_of b free due_calls)))
  pub store : IsStore a next_free due_calls
  pub cores : KeepsCores (store_of b free due_calls) (store_of a next_free due_calls)

pub shrunk : (b a : BookView) (free next_free : FreeSpace) (due_calls : List DueCall) (used : ℕ) → IsStore b free due_calls → has_promises (table_of b) ≡ false
    → a ≡ record b { places = planned_places b.places; parked = [] } → used ≡ length (all_blocks b.places) → AreFreeRuns next_free.capacity next_free.runs → next_free.capacity ≡ b.options.capacity
    → blocks_in next_free.runs ≡ range_with_len used (b.options.capacity - used) → IsShrunk b a free next_free due_calls
shrunk b a free next_free due_calls used store none book counted order capacity left =
    let v = store_of b free due_calls in
    let x = stage_of v in
    let before = holds_sound b.options b.sessions x store.sound in
    let size : x.table.options.capacity ≡ b.options.capacity = ap (λ (o : Options). o.capacity) before.same in
    let small = after_shrink x.table.options.capacity x.space in
    let freed : blocks_in next_free.runs ≡ small.free = left ∙ ap (λ n. range_with_len n (b.options.capacity - n)) counted ∙ ap (λ n. range_with_len (length (all_blocks b.places)) (n - length (all_blocks b.places))) (sym size) in
    let is : store_of a next_free due_calls ≡ with_stage v (stage_after_shrink x) =
    ap (λ (w : BookView). store_of w next_free due_calls) book
    ∙ same_store b.options b.options b.sessions b.sessions b.history b.history (planned_places b.places) (planned_places b.places) [] []
    (blocks_in next_free.runs) small.free (blocks_collected due_calls) (blocks_collected due_calls)
    refl refl refl refl refl freed refl
    ∙ ap (with_stage v) (sym (shrunk_stage x none)) in
    record {
      after = is;
      store = record {
        options = subst (λ (w : BookView). IsInRange w.options) (sym book) store.options;
        order = order;
        capacity = capacity ∙ ap (λ (w : BookView). w.options.capacity) (sym book);
        sound = sound_at v (store_of a next_free due_calls) (stage_after_shrink x) is (shrunk_keeps b.options b.sessions x before);
        flushes = subst (λ (w : BookView). (s : ℕ) → IsTrue (has_session (stage_of (store_of w next_free due_calls)).table s) → IfSome (flush_at due_calls s) (IsKept w.options (stage_of (store_of w next_free due_calls)).table s)) (sym book) store.flushes;
      };
      cores = subst (λ (w : StoreView). KeepsCores v w) (ap (with_stage v) (sym (shrunk_stage x none)) ∙ sym is) (λ core at. record { home = at.home; collected = at.collected });
    }

-- ---- the steps of a shrink
-- What a plan asks of a store's listed places.
pub can_plan : (b : BookView) (free : FreeSpace) (due_calls : List DueCall) (places : List Place) → IsStore b free due_calls → places ≡ map (listed_place (table_of b)) b.places → ArePlaced (map runs_of_place places) MOST_BLOCKS
can_plan b free due_calls places store is =
    let v = store_of b free due_calls in
    let t = table_of b in
    let before = holds_sound b.options b.sessions (stage_of v) store.sound in
    let few : t.options.capacity ≤ STORE_BLOCKS = subst (λ (o : Options). o.capacity ≤ STORE_BLOCKS) (sym before.same) store.options.capacity_high in
    can_be_planned t b.places (map runs_of_place places) (is_safe t v.space before.has) few (ap (λ (xs : List Place). map placed_at (map runs_of_place xs)) is ∙ listed_runs t b.places)

-- What a Book that has no parked blocks is asked before its contents move.
pub record CanShift (b a : BookView) (shifts : List Shift) : Type 0 where
  pub runs : All (λ (shift : Shift). length shift.to ≡ 1) shifts
  pub safe : IsSafe (table_of a) (map shifted_to shifts)
  pub parked : a.parked ≡ []
  pub places : map shifted_to shifts ≡ planned_places b.places

pub can_shift : (b a : BookView) (free : FreeSpace) (due_calls : List DueCall) (places : List Place) (shifts : List Shift) (count taken : ℕ) → IsStore b free due_calls → has_promises (table_of b) ≡ false → places ≡ map (listed_place (table_of b)) b.places
    → shifts ≡ planned (map runs_of_place places) → map shifted_to shifts ≡ planned_places (map placed_at (map runs_of_place places)) → count ≡ length b.parked → taken ≡ min count (length b.parked) → a ≡ record b { parked = drop taken b.parked } → CanShift b a shifts
can_shift b a free due_calls places shifts count taken store none listed is rule all some book =
    let x = stage_of (store_of b free due_calls) in
    let to : map shifted_to shifts ≡ planned_places b.places = rule ∙ ap (λ (xs : List Place). planned_places (map placed_at (map runs_of_place xs))) listed ∙ ap planned_places (listed_runs (table_of b) b.places) in
    let long : length b.parked ≤ taken = omega (arith, all, some) in
    record {
      runs = subst (All (λ (shift : Shift). length shift.to ≡ 1)) (sym is) (to_one_run 0 (map runs_of_place places));
      safe = subst (λ (w : BookView). IsSafe (table_of w) (map shifted_to shifts)) (sym book) (subst (IsSafe (table_of b)) (sym to) (planned_safe b.options b.sessions x (holds_sound b.options b.sessions x store.sound) none));
      parked = ap (λ (w : BookView). w.parked) book ∙ drop_of_length-le b.parked long;
      places = to;
    }

-- the Book once its contents have moved
pub book_shrunk : (b a next : BookView) (shifts : List Shift) (taken : ℕ) → CanShift b a shifts → a ≡ record b { parked = drop taken b.parked } → next ≡ record a { places = map shifted_to shifts } → next ≡ record b { places = planned_places b.places; parked = [] }
book_shrunk b a next shifts taken can book moved =
    moved
    ∙ ap (λ (xs : List Placed). record a { places = xs }) can.places
    ∙ ap (λ (w : BookView). record w { places = planned_places b.places }) book
    ∙ ap (λ (bs : List ℕ). record b { places = planned_places b.places; parked = bs }) (ap (λ (w : BookView). w.parked) (sym book) ∙ can.parked)
