-- What shifts leave.
use Rattle.std.proofs.Common.{◌≡◌, ℕ, ◌+◌, ◌^◌, ◌≤◌, Bool, true, false, cond, nat_lt, List, [], ◌∷◌, ◌++◌, map, flat_map, Option, Some, None, refl, sym, ap, subst, ◌∙◌, arith}
use Rattle.std.specs.Prelude.{◌==◌, T, All, Contains, IsSome}
use Rattle.std.specs.List.{sum_by, count_by}
use Rattle.std.specs.Option.{option_map}
use Rattle.std.specs.Ordering.{nat_cmp, is_eq}
use Rattle.std.specs.Cmp.{nat_cmp_total, unsigned_ties}
use Rattle.std.specs.FinMap as fin
use Rattle.std.specs.FinMap.{nat_cmp-IsAntisymmetric, same_map, entries, entries_sorted, get-entries}
use Rattle.std.specs.FinMap.Entries.{find, is_sorted, same_entries}
use Rattle.std.proofs.lemmas.Cmp.{tied_itself}
use Rattle.std.proofs.lemmas.List.Elements.{recursion_from_All, All-nil, All-cons, All-weaker}
use Rattle.sf_types.specs.declared.run.Run.{Run}
use Rattle.sf_types.specs.Space.BlockRuns.{blocks_in}
use Rattle.sf_types.proofs.NumberLemmas.{same_number}
use Rattle.sf_room_map.specs.Entries.{value_for, with_value}
use Rattle.sf_room_map.proofs.EntryLemmas.{value_for-with}
use Rattle.sf_shrink.specs.declared.shifts.Shift.{Shift}
use Rattle.sf_shrink.specs.Plans.{blocks_of_shifts}
use Rattle.sf_lifetimes.specs.declared.counted.Counted.{Counted}
use Rattle.sf_lifetimes.specs.Ledgers.{Holdings, LedgerView, live_places, waiting_places, occupied_blocks}
use Rattle.sf_lifetimes.specs.Shifts.{AreSafeShifts}
use Rattle.sf_lifetimes.specs.Inside.Counts.{CountedMap, IsCounted, holders_in, live_runs, live_in, live_sum, times, with_runs, with_shifts}
use Rattle.sf_lifetimes.specs.Inside.Counted.{places_in, live_places_in, waiting_places_in, IsCountedBy}
use Rattle.sf_lifetimes.proofs.MapSumLemmas.{weight, same_sum}
use Rattle.sf_lifetimes.proofs.CountLemmas.{both_fit, none_counted_in, stands_in}
use Rattle.sf_lifetimes.proofs.LedgerLemmas.{runs_at, size, waiting_runs, get_live, get_waiting, live_is, waiting_is, live_weight, sorted_values, find_values, is_at, not_contained, named_fit}
use Rattle.sf_lifetimes.proofs.ListingLemmas.{times_in}

moved_again : (to run : List Run) (t : Bool) (x : Option Counted) → with_runs to x ≡ with_runs to (cond t (with_runs run x) x)
moved_again to run true None = refl
moved_again to run true (Some c) = refl
moved_again to run false x = refl

-- the last of the shifts may be made first
pub shifted_push : (ss : List Shift) (s : Shift) (q : ℕ) (x : Option Counted) → with_shifts (ss ++ s ∷ []) q x ≡ with_shifts ss q (cond (q == s.birth) (with_runs s.to x) x)
shifted_push [] s q x = refl
shifted_push (r ∷ ss) s q x =
    ap (λ y. cond (q == r.birth) y (with_shifts (ss ++ s ∷ []) q x)) (moved_again r.to s.to (q == s.birth) x)
    ∙ ap (cond (q == r.birth) (with_runs r.to (cond (q == s.birth) (with_runs s.to x) x))) (shifted_push ss s q x)

holders_moved : (to : List Run) (x : Option Counted) → holders_in (with_runs to x) ≡ holders_in x
holders_moved to None = refl
holders_moved to (Some c) = refl

pub holders_shifted : (ss : List Shift) (q : ℕ) (x : Option Counted) → holders_in (with_shifts ss q x) ≡ holders_in x
holders_shifted [] q x = refl
holders_shifted (s ∷ ss) q x = elim (q == s.birth) as (λ t. holders_in (cond t (with_runs s.to x) (with_shifts ss q x)) ≡ holders_in x) [ true ↦ holders_moved s.to x | false ↦ holders_shifted ss q x ]

abbrev pub to_pair : Shift → ℕ × List Run
to_pair = λ s. (s.birth, s.to)

-- the runs that a birth has then: those of its shift, or its own
abbrev pick : Option Counted → Option (List Run) → Option (List Run)
pick None to = None
pick (Some c) None = Some c.runs
pick (Some c) (Some to) = Some to

pick_moved : (to : List Run) (x : Option Counted) → runs_at (with_runs to x) ≡ pick x (Some to)
pick_moved to None = refl
pick_moved to (Some c) = refl

pick_none : (x : Option Counted) → runs_at x ≡ pick x None
pick_none None = refl
pick_none (Some c) = refl

runs_shifted : (ss : List Shift) (q : ℕ) (x : Option Counted) → runs_at (with_shifts ss q x) ≡ pick x (find nat_cmp q (map to_pair ss))
runs_shifted [] q x = pick_none x
runs_shifted (s ∷ ss) q x =
    elim (q == s.birth) as (λ t. runs_at (cond t (with_runs s.to x) (with_shifts ss q x)) ≡ pick x (cond t (Some s.to) (find nat_cmp q (map to_pair ss)))) [ true ↦ pick_moved s.to x | false ↦ runs_shifted ss q x ]
    ∙ ap (λ t. pick x (cond t (Some s.to) (find nat_cmp q (map to_pair ss)))) (unsigned_ties q s.birth)

nothing : (to : Option (List Run)) → option_map size to ≡ None → to ≡ None
nothing None is = refl
nothing (Some to) is = absurd cc

same_weight : (x y : Option (List Run)) → option_map size x ≡ option_map size y → weight size x ≡ weight size y
same_weight None None is = refl
same_weight None (Some r) is = absurd cc
same_weight (Some r) None is = absurd cc
same_weight (Some r) (Some t) is = number (size r) (size t) is
  where
    number : (m n : ℕ) → ◌≡◌ {A = Option ℕ} (Some m) (Some n) → m ≡ n
    number m n is = cc

picked : (x : Option Counted) (to : Option (List Run)) → option_map size to ≡ option_map size (runs_at x) → to ≡ pick x to
picked None None is = refl
picked None (Some to) is = absurd cc
picked (Some c) None is = absurd cc
picked (Some c) (Some to) is = refl

sized_pairs : (ss : List Shift) → map {B = ℕ × ℕ} (λ e. (e.0, size e.1)) (map to_pair ss) ≡ map {B = ℕ × ℕ} (λ s. (s.birth, size s.to)) ss
sized_pairs [] = refl
sized_pairs (s ∷ ss) = ap (λ (es : List (ℕ × ℕ)). (s.birth, size s.to) ∷ es) (sized_pairs ss)

blocks_pairs : (ss : List Shift) → flat_map blocks_in (map (λ e. e.1) (map to_pair ss)) ≡ blocks_of_shifts ss
blocks_pairs [] = refl
blocks_pairs (s ∷ ss) = ap (λ (xs : List ℕ). blocks_in s.to ++ xs) (blocks_pairs ss)

-- what a birth with such a size in the shifts has then, where it is live, and where it waits
live_moved : (x y : Option Counted) (to : Option (List Run)) → holders_in y ≡ holders_in x → runs_at y ≡ pick x to → option_map size to ≡ option_map size (live_runs x) → live_runs y ≡ to
live_moved None None to held is sizes = sym (nothing to sizes)
live_moved None (Some d) to held is sizes = absurd cc
live_moved (Some c) None None held is sizes = absurd cc
live_moved (Some c) None (Some to) held is sizes = absurd cc
live_moved (Some c) (Some d) to held is sizes =
    ap (λ n. cond (n == 0) None (Some d.runs)) held
    ∙ elim (c.holders == 0) as (λ t. option_map size to ≡ option_map size (cond t None (Some c.runs)) → cond t None (Some d.runs) ≡ to) [
      | true ↦ λ none. sym (nothing to none)
      | false ↦ λ some. is ∙ sym (picked (Some c) to some)
    ] sizes

waiting_moved : (x y : Option Counted) (to : Option (List Run)) → holders_in y ≡ holders_in x → runs_at y ≡ pick x to → option_map size to ≡ option_map size (live_runs x) → waiting_runs y ≡ waiting_runs x
waiting_moved None None to held is sizes = refl
waiting_moved None (Some d) to held is sizes = absurd cc
waiting_moved (Some c) None None held is sizes = absurd cc
waiting_moved (Some c) None (Some to) held is sizes = absurd cc
waiting_moved (Some c) (Some d) to held is sizes =
    ap (λ n. cond (n == 0) (Some d.runs) None) held
    ∙ elim (c.holders == 0) as (λ t. option_map size to ≡ option_map size (cond t None (Some c.runs)) → cond t (Some d.runs) None ≡ cond t (Some c.runs) None) [
      | true ↦ λ none. is ∙ ap (pick (Some c)) (nothing to none)
      | false ↦ λ some. refl
    ] sizes

-- a list of shifts finds each birth that it names
later_found : (t : Bool) (to : List Run) (x : Option (List Run)) → IsSome x → IsSome (cond t (Some to) x)
later_found true to x found = refl
later_found false to x found = found

all_found : (ss : List Shift) → All (λ s. IsSome (find nat_cmp s.birth (map to_pair ss))) ss
all_found [] = All-nil (λ (s : Shift). IsSome (find nat_cmp s.birth (map to_pair [])))
all_found (s ∷ ss) =
    All-cons (λ r. IsSome (find nat_cmp r.birth (map to_pair (s ∷ ss)))) s ss
    (subst (λ r. IsSome (cond (is_eq r) (Some s.to) (find nat_cmp s.birth (map to_pair ss)))) (sym (tied_itself nat_cmp_total s.birth)) refl)
    (All-weaker (λ r. IsSome (find nat_cmp r.birth (map to_pair ss))) (λ r. IsSome (find nat_cmp r.birth (map to_pair (s ∷ ss))))
    (λ r found. later_found (is_eq (nat_cmp r.birth s.birth)) s.to (find nat_cmp r.birth (map to_pair ss)) found) ss (all_found ss))

placed : (x : Option Counted) (to : Option (List Run)) → IsSome to → option_map size to ≡ option_map size (live_runs x) → IsSome x
placed (Some c) to found is = refl
placed None None found is = absurd cc
placed None (Some to) found is = absurd cc

module _ (m : CountedMap) (ss : List Shift) (safe : AreSafeShifts (live_places_in m) (waiting_places_in m) ss) where
  sized_is : map {B = ℕ × ℕ} (λ e. (e.0, size e.1)) (map to_pair ss) ≡ map {B = ℕ × ℕ} (λ e. (e.0, size e.1)) (entries (live_places_in m))
  sized_is = sized_pairs ss ∙ safe.births

  pairs_sorted : T (is_sorted nat_cmp (map to_pair ss))
  pairs_sorted = subst T (sym (sym (sorted_values size (map to_pair ss)) ∙ ap (is_sorted nat_cmp) sized_is ∙ sorted_values size (entries (live_places_in m)))) (entries_sorted (live_places_in m))

  sizes_at : (q : ℕ) → option_map size (find nat_cmp q (map to_pair ss)) ≡ option_map size (live_runs (fin.get m q))
  sizes_at q =
      sym (find_values size q (map to_pair ss)) ∙ ap (find nat_cmp q) sized_is ∙ find_values size q (entries (live_places_in m))
      ∙ ap (option_map size) (sym (get-entries (live_places_in m) q) ∙ get_live m q)

  -- each birth that safe shifts name has a place
  pub all_placed : All (λ s. IsSome (fin.get m s.birth)) ss
  all_placed =
      All-weaker (λ s. IsSome (find nat_cmp s.birth (map to_pair ss))) (λ s. IsSome (fin.get m s.birth))
      (λ s found. placed (fin.get m s.birth) (find nat_cmp s.birth (map to_pair ss)) found (sizes_at s.birth)) ss (all_found ss)

module _ (m n : CountedMap) (ss : List Shift) (safe : AreSafeShifts (live_places_in m) (waiting_places_in m) ss) (changed : (q : ℕ) → fin.get n q ≡ with_shifts ss q (fin.get m q)) where
  runs_now : (q : ℕ) → runs_at (fin.get n q) ≡ pick (fin.get m q) (find nat_cmp q (map to_pair ss))
  runs_now q = ap runs_at (changed q) ∙ runs_shifted ss q (fin.get m q)

  same_holders : (q : ℕ) → holders_in (fin.get n q) ≡ holders_in (fin.get m q)
  same_holders q = ap holders_in (changed q) ∙ holders_shifted ss q (fin.get m q)

  live_now : (q : ℕ) → live_runs (fin.get n q) ≡ find nat_cmp q (map to_pair ss)
  live_now q = live_moved (fin.get m q) (fin.get n q) (find nat_cmp q (map to_pair ss)) (same_holders q) (runs_now q) (sizes_at m ss safe q)

  pub entries_shifted : entries (live_places_in n) ≡ map to_pair ss
  entries_shifted =
      same_entries nat_cmp nat_cmp_total nat_cmp-IsAntisymmetric (entries (live_places_in n)) (map to_pair ss) (entries_sorted (live_places_in n)) (pairs_sorted m ss safe)
      (λ q. sym (get-entries (live_places_in n) q) ∙ get_live n q ∙ live_now q)

  pub waiting_stays : waiting_places_in n ≡ waiting_places_in m
  waiting_stays = same_map nat_cmp_total nat_cmp-IsAntisymmetric _ _ (λ q.
      get_waiting n q
      ∙ waiting_moved (fin.get m q) (fin.get n q) (find nat_cmp q (map to_pair ss)) (same_holders q) (runs_now q) (sizes_at m ss safe q)
      ∙ sym (get_waiting m q))

  pub shifted_counted_by : (holdings : Holdings) → IsCountedBy m holdings → IsCountedBy n holdings
  shifted_counted_by holdings counted q = same_holders q ∙ counted q

  live_shifted : live_sum n ≡ live_sum m
  live_shifted = same_sum nat_cmp nat_cmp_total nat_cmp-IsAntisymmetric live_in live_in n m (λ q.
      live_weight (fin.get n q)
      ∙ same_weight (live_runs (fin.get n q)) (live_runs (fin.get m q)) (ap (option_map size) (live_now q) ∙ sizes_at m ss safe q)
      ∙ sym (live_weight (fin.get m q)))

  times_shifted : (block : ℕ) → sum_by (times block) (fin.values n) ≡ count_by (λ y. block == y) (blocks_of_shifts ss) + count_by (λ y. block == y) (occupied_blocks (waiting_places_in m))
  times_shifted block =
      let moved = ap (λ (es : List (ℕ × List Run)). count_by (λ y. block == y) (flat_map blocks_in (map (λ e. e.1) es))) entries_shifted ∙ ap (count_by (λ y. block == y)) (blocks_pairs ss) in
      let stayed = ap (λ places. count_by (λ y. block == y) (occupied_blocks places)) waiting_stays in
      omega (arith, times_in n block, moved, stayed)

  none_waits : (block : ℕ) → 1 ≤ count_by (λ y. block == y) (blocks_of_shifts ss) → count_by (λ y. block == y) (occupied_blocks (waiting_places_in m)) ≡ 0
  none_waits block some =
      let all = occupied_blocks (waiting_places_in m) in
      none_counted_in block all (not_contained block all (is_at (λ b. ¬ (Contains all b)) block (blocks_of_shifts ss) (recursion_from_All (λ b. ¬ (Contains all b)) (blocks_of_shifts ss) safe.apart) (stands_in block (blocks_of_shifts ss) some)))

  pub shifted_counted : (live : ℕ) → IsCounted m live → IsCounted n live
  shifted_counted live counted = record {
    once = λ block. omega (
      arith,
      times_shifted block,
      both_fit (count_by (λ y. block == y) (blocks_of_shifts ss)) (count_by (λ y. block == y) (occupied_blocks (waiting_places_in m))) (cond (nat_lt block (2 ^ 32)) 1 0)
          (named_fit (blocks_of_shifts ss) safe.below safe.once block) (none_waits block) (omega (arith, counted.once block, times_in m block)),
    );
    live_is = counted.live_is ∙ sym live_shifted;
  }

-- what the rules ask of shifts, by the counts
pub safe_by_counts : (m : CountedMap) (holdings : Holdings) (l : LedgerView) (ss : List Shift) → IsCountedBy m holdings → record { places = places_in m; holdings = holdings } ≡ l
    → AreSafeShifts (live_places l) (waiting_places l) ss → AreSafeShifts (live_places_in m) (waiting_places_in m) ss
safe_by_counts m holdings l ss counted is safe =
    let own = subst (λ v. AreSafeShifts (live_places v) (waiting_places v) ss) (sym is) safe in
    subst (λ live. AreSafeShifts live (waiting_places_in m) ss) (sym (live_is m holdings counted))
    (subst (λ waiting. AreSafeShifts (live_places (record { places = places_in m; holdings = holdings })) waiting ss) (sym (waiting_is m holdings counted)) own)

-- one birth moves
pub moved : (es : List (ℕ × Counted)) (b q : ℕ) (to : List Run) (c : Counted) → value_for nat_cmp es b ≡ Some c
    → value_for nat_cmp (with_value nat_cmp es b (record { runs = to; holders = c.holders })) q ≡ cond (q == b) (with_runs to (value_for nat_cmp es q)) (value_for nat_cmp es q)
moved es b q to c is =
    let d : Counted = record { runs = to; holders = c.holders } in
    value_for-with nat_cmp nat_cmp_total es b d q
    ∙ ap (λ t. cond t (Some d) (value_for nat_cmp es q)) (sym (unsigned_ties q b))
    ∙ elim (q == b) as (λ t. (q == b) ≡ t → cond t (Some d) (value_for nat_cmp es q) ≡ cond t (with_runs to (value_for nat_cmp es q)) (value_for nat_cmp es q)) [
      | true ↦ λ t. ap (with_runs to) (sym (ap (value_for nat_cmp es) (same_number q b t) ∙ is))
      | false ↦ λ t. refl
    ] refl

pub still_placed : (t : Bool) (to : List Run) (x : Option Counted) → IsSome x → IsSome (cond t (with_runs to x) x)
still_placed t to None found = absurd cc
still_placed true to (Some c) found = refl
still_placed false to (Some c) found = found

-- the last shift of those that are left is made
pub shift_more : (rest before all : List Shift) (s : Shift) (q : ℕ) (cur next old : Option Counted) → before ≡ rest ++ s ∷ [] → next ≡ cond (q == s.birth) (with_runs s.to cur) cur → with_shifts before q cur ≡ with_shifts all q old → with_shifts rest q next ≡ with_shifts all q old
shift_more rest before all s q cur next old is now whole =
    ap (with_shifts rest q) now ∙ sym (shifted_push rest s q cur) ∙ ap (λ ss. with_shifts ss q cur) (sym is) ∙ whole
