-- A content that comes.
use Rattle.std.proofs.Common.{◌≡◌, ℕ, ◌+◌, ◌-◌, ◌<◌, ◌≤◌, ◌^◌, Bool, true, false, cond, List, [], ◌∷◌, ◌++◌, map, length, get_or, Option, Some, None, refl, sym, ap, subst, ◌∙◌, arith}
use Rattle.std.specs.Prelude.{is_some, nat_lt, filter_map, unwrap_or, All, AllPairs, Contains, ◌==◌, ◌≢◌}
use Rattle.std.specs.List.{AllByRecursion, count_by}
use Rattle.std.specs.Ordering.{nat_cmp, eq_by_cmp}
use Rattle.std.specs.Cmp.{nat_cmp_total, unsigned_ties}
use Rattle.std.specs.FinMap as fin
use Rattle.std.specs.FinMap.{get-insert}
use Rattle.std.proofs.lemmas.Grind.{flat_map-append}
use Rattle.std.proofs.lemmas.List.{append-nil, length-append, map-append}
use Rattle.std.proofs.lemmas.List.Elements.{filter_map-append, Contains-append_left, recursion_from_All}
use Rattle.std.proofs.lemmas.List.Sums.{sum_by-append, sum_by-cons}
use Rattle.sf_types.specs.declared.birth_runs.BirthRuns.{BirthRuns}
use Rattle.sf_types.specs.declared.run.Run.{Run}
use Rattle.sf_types.specs.Rooms.{Roomy}
use Rattle.sf_types.specs.Space.BlockRuns.{blocks_in}
use Rattle.sf_types.specs.Space.Placings.{Placed, all_blocks}
use Rattle.sf_types.proofs.NumberLemmas.{own_number}
use Rattle.sf_room_map.specs.Entries.{value_for, with_value}
use Rattle.sf_room_map.proofs.EntryLemmas.{value_for-with}
use Rattle.sf_dedup.specs.Contents.{Contents}
use Rattle.sf_shrink.specs.Plans.{placed_at}
use Rattle.sf_lifetimes.specs.Ledgers.{LedgerView, Places, is_live, IsNewPlace}
use Rattle.sf_lifetimes.proofs.CountLemmas.{both_fit, none_counted_in, stands_in}
use Rattle.sf_lifetimes.proofs.LedgerLemmas.{is_at, not_contained, named_fit}
use Rattle.sf_stock.specs.declared.known.Known.{Known}
use Rattle.sf_stock.specs.Stocks.{Stocked, place_of, places_of, stock_blocks}
use Rattle.sf_stock.specs.Inside.Keeps.{KnownMap, IsKept, IsStock, AreBirths, AreBlocks, AreOnce, runs_in, stocked_in, stock_in, shared_entry, shared_in, with_shared, run_count, copied_if}
use Rattle.sf_stock.proofs.KeptLemmas.{AreBelow, put_last, sorted_last, below_last, not_itself, shared_below, occupied_are}

-- ---- places of which one is new
module _ (places : Places) (b : ℕ) (runs : List Run) where
  runs_elsewhere : (q : ℕ) → q < b → runs_in (fin.insert places b runs) q ≡ runs_in places q
  runs_elsewhere q less = ap (λ x. unwrap_or x []) (get-insert nat_cmp_total places b runs q ∙ ap (λ t. cond t (Some runs) (fin.get places q)) (not_itself q b less))

  pub runs_here : runs_in (fin.insert places b runs) b ≡ runs
  runs_here = ap (λ x. unwrap_or x []) (get-insert nat_cmp_total places b runs b ∙ ap (λ t. cond t (Some runs) (fin.get places b)) (itself b))
    where
      itself : (b : ℕ) → eq_by_cmp nat_cmp b b ≡ true
      itself b = sym (unsigned_ties b b) ∙ own_number b

  stocked_elsewhere : (known : KnownMap) → AreBelow b known → map (stocked_in (fin.insert places b runs)) known ≡ map (stocked_in places) known
  stocked_elsewhere [] below = refl
  stocked_elsewhere (e ∷ known) below =
      ap (λ rs. record { birth = e.0; content = record { bytes = e.1.content; is_shared = e.1.is_shared }; blocks = blocks_in rs } ∷ map (stocked_in (fin.insert places b runs)) known) (runs_elsewhere e.0 below.0)
      ∙ ap (λ (xs : List Stocked). stocked_in places e ∷ xs) (stocked_elsewhere known below.1)

  pub stocked_more : (known : KnownMap) (x : Known) → AreBelow b known → map (stocked_in (fin.insert places b runs)) (known ++ (b, x) ∷ []) ≡ map (stocked_in places) known ++ record { birth = b; content = record { bytes = x.content; is_shared = x.is_shared }; blocks = blocks_in runs } ∷ []
  stocked_more known x below =
      map-append (stocked_in (fin.insert places b runs)) known ((b, x) ∷ [])
      ∙ ap (λ (xs : List Stocked). xs ++ stocked_in (fin.insert places b runs) (b, x) ∷ []) (stocked_elsewhere known below)
      ∙ ap (λ rs. map (stocked_in places) known ++ record { birth = b; content = record { bytes = x.content; is_shared = x.is_shared }; blocks = blocks_in rs } ∷ []) runs_here

  kept_elsewhere : (known : KnownMap) → AreBelow b known → AllByRecursion (λ e. IsKept e.1 (runs_in places e.0)) known → AllByRecursion (λ e. IsKept e.1 (runs_in (fin.insert places b runs) e.0)) known
  kept_elsewhere [] below kept = tt
  kept_elsewhere (e ∷ known) below kept = (subst (IsKept e.1) (sym (runs_elsewhere e.0 below.0)) kept.0, kept_elsewhere known below.1 kept.1)

  pub kept_more : (known : KnownMap) (x : Known) → AreBelow b known → IsKept x runs → AllByRecursion (λ e. IsKept e.1 (runs_in places e.0)) known → AllByRecursion (λ e. IsKept e.1 (runs_in (fin.insert places b runs) e.0)) (known ++ (b, x) ∷ [])
  kept_more [] x below new kept = (subst (IsKept x) (sym runs_here) new, tt)
  kept_more (e ∷ known) x below new kept = (subst (IsKept e.1) (sym (runs_elsewhere e.0 below.0)) kept.0, kept_more known x below.1 new kept.1)

  pub counted_more : (known : KnownMap) (x : Known) (left : List BirthRuns) → AreBelow b known → run_count (fin.insert places b runs) (known ++ (b, x) ∷ []) left ≡ run_count places known left + length runs
  counted_more [] x left below = omega (arith, ap length runs_here)
  counted_more (e ∷ known) x left below =
      omega (
        arith,
        counted_more known x left below.1,
        ap length (runs_elsewhere e.0 below.0),
        sum_by-cons (λ (d : ℕ × Known). length (runs_in (fin.insert places b runs) d.0)) e (known ++ (b, x) ∷ []),
        sum_by-cons (λ (d : ℕ × Known). length (runs_in places d.0)) e known,
      )

-- ---- the index with a new content
shared_one : (b : ℕ) (x : Known) (t : Bool) (before : Contents) → AreBelow b before → with_shared before b (cond t (Some x.content) None) ≡ before ++ filter_map {X = ℕ × Known} {Y = ℕ × List ℕ} (λ e. cond t (Some (e.0, e.1.content)) None) ((b, x) ∷ [])
shared_one b x true before below = put_last before b x.content below
shared_one b x false before below = sym (append-nil before)

pub shared_more : (known : KnownMap) (b : ℕ) (x : Known) → AreBelow b known → with_shared (shared_in known) b (copied_if x.is_shared x.content) ≡ shared_in (known ++ (b, x) ∷ [])
shared_more known b x below = shared_one b x x.is_shared (shared_in known) (shared_below b known below) ∙ sym (filter_map-append shared_entry known ((b, x) ∷ []))

-- ---- births
placed_also : (t : Bool) (runs : List Run) (x : Known) (p : Option (List Run)) (k : Option Known) → is_some p ≡ is_some k → is_some (cond t (Some runs) p) ≡ is_some (cond t (Some x) k)
placed_also true runs x p k is = refl
placed_also false runs x p k is = is

still_some : (t : Bool) (x : Known) (k : Option Known) → is_some k ≡ true → is_some (cond t (Some x) k) ≡ true
still_some true x k is = refl
still_some false x k is = is

pub births_more : (l m : LedgerView) (index : Contents) (known : KnownMap) (b : ℕ) (x : Known) (runs : List Run) → AreBirths l index known b → m.places ≡ fin.insert l.places b runs → m.holdings ≡ l.holdings
    → AreBirths m (with_shared index b (copied_if x.is_shared x.content)) (known ++ (b, x) ∷ []) (b + 1)
births_more l m index known b x runs are places holdings =
    let put = put_last known b x are.below in
    record {
      rising = sorted_last known b x are.below are.rising;
      below = below_last known b x are.below;
      placed = λ q.
          ap (λ p. is_some (fin.get p q)) places
          ∙ ap is_some (get-insert nat_cmp_total l.places b runs q)
          ∙ placed_also (eq_by_cmp nat_cmp q b) runs x (fin.get l.places q) (value_for nat_cmp known q) (are.placed q)
          ∙ ap is_some (sym (value_for-with nat_cmp nat_cmp_total known b x q))
          ∙ ap (λ es. is_some (value_for nat_cmp es q)) put;
      live = λ q is.
          ap (λ es. is_some (value_for nat_cmp es q)) (sym put)
          ∙ ap is_some (value_for-with nat_cmp nat_cmp_total known b x q)
          ∙ still_some (eq_by_cmp nat_cmp q b) x (value_for nat_cmp known q) (are.live q (ap (λ h. is_live h q) (sym holdings) ∙ is));
      indexed = ap (λ contents. with_shared contents b (copied_if x.is_shared x.content)) are.indexed ∙ shared_more known b x are.below;
    }

-- ---- blocks
abbrev pub count_of : ℕ → List ℕ → ℕ
count_of block = λ blocks. count_by (λ y. block == y) blocks

pub count-append : (block : ℕ) (xs ys : List ℕ) → count_of block (xs ++ ys) ≡ count_of block xs + count_of block ys
count-append block xs ys = sum_by-append (λ y. cond (block == y) 1 0) xs ys

-- blocks that stand nowhere among others are counted once together with them
pub both_once : (all more : List ℕ) → AreOnce all → All (λ block. block < 2 ^ 32) more → AllPairs (λ block other. block ≢ other) more → All (λ block. ¬ (Contains all block)) more
    → (block : ℕ) → count_of block all + count_of block more ≤ cond (nat_lt block (2 ^ 32)) 1 0
both_once all more once below distinct apart block =
    both_fit (count_of block more) (count_of block all) (cond (nat_lt block (2 ^ 32)) 1 0) (named_fit more below distinct block)
    (λ some. none_counted_in block all (not_contained block all (is_at (λ b. ¬ (Contains all b)) block more (recursion_from_All (λ b. ¬ (Contains all b)) more apart) (stands_in block more some))))
    (once block)

pub once_more : (stocked : List Stocked) (y : Stocked) (rest : List ℕ) → AreOnce (all_blocks (places_of stocked) ++ rest) → All (λ block. block < 2 ^ 32) y.blocks → AllPairs (λ block other. block ≢ other) y.blocks
    → All (λ block. ¬ (Contains (all_blocks (places_of stocked) ++ rest) block)) y.blocks → AreOnce (all_blocks (places_of (stocked ++ y ∷ [])) ++ rest)
once_more stocked y rest once below distinct apart block =
    let old = all_blocks (places_of stocked) in
    let is : all_blocks (places_of (stocked ++ y ∷ [])) ≡ old ++ y.blocks =
    ap all_blocks (map-append place_of stocked (y ∷ [])) ∙ flat_map-append (λ (x : Placed). x.blocks) (places_of stocked) (place_of y ∷ []) ∙ ap (λ (bs : List ℕ). old ++ bs) (append-nil y.blocks) in
    omega (
      arith,
      both_once (old ++ rest) y.blocks once below distinct apart block,
      ap (λ (bs : List ℕ). count_of block (bs ++ rest)) is,
      count-append block (old ++ y.blocks) rest,
      count-append block old y.blocks,
      count-append block old rest,
    )

-- ---- the conditions of the parts
pub new_place : (l : LedgerView) (index : Contents) (known : KnownMap) (next : ℕ) (rest : List ℕ) (runs : List Run) → AreBirths l index known next → All (λ block. block < 2 ^ 32) (blocks_in runs) → AllPairs (λ block other. block ≢ other) (blocks_in runs)
    → All (λ block. ¬ (Contains (all_blocks (places_of (map (stocked_in l.places) known)) ++ rest) block)) (blocks_in runs) → IsNewPlace l.places runs
new_place l index known next rest runs are below once apart = record {
  below = below;
  once = once;
  apart = λ k d within there.
      let block = get_or (blocks_in runs) k d in
      let all = all_blocks (places_of (map (stocked_in l.places) known)) in
      apart k d within (Contains-append_left all rest block (subst (λ blocks. Contains blocks block) (occupied_are l.places known are.rising are.placed) there));
}

-- a stock with a new content
module _ (ledger ledger_after : Roomy LedgerView) (index index_after : Roomy Contents) (known known_after : Roomy KnownMap) (left : Roomy (List BirthRuns)) (parked : Roomy (List Run)) (next runs room : ℕ) (x : Known) (new : List Run)
    (stands : IsStock ledger index known left parked next runs room) (kept : IsKept x new) where
  abbrev all : List ℕ
  all = stock_blocks (stock_in ledger.held known.held left.held parked.held next)

  pub stock_more : ledger_after.held.places ≡ fin.insert ledger.held.places next new → ledger_after.held.holdings ≡ ledger.held.holdings → index_after.held ≡ with_shared index.held next (copied_if x.is_shared x.content) → known_after.held ≡ with_value nat_cmp known.held next x
      → ledger.spare ≤ ledger_after.spare + 1 → index.spare ≤ index_after.spare + 1 → known.spare ≤ known_after.spare + 1 → 1 + length new ≤ room
      → All (λ block. block < 2 ^ 32) (blocks_in new) → AllPairs (λ block other. block ≢ other) (blocks_in new) → All (λ block. ¬ (Contains all block)) (blocks_in new)
      → IsStock ledger_after index_after known_after left parked (next + 1) (runs + length new) (room - (1 + length new))
  stock_more places holdings indexed put ledger_room index_room known_room enough below distinct apart =
      let es = known.held in
      let below_next = stands.births.below in
      let grown : known_after.held ≡ es ++ (next, x) ∷ [] = put ∙ put_last es next x below_next in
      let y : Stocked = record { birth = next; content = record { bytes = x.content; is_shared = x.is_shared }; blocks = blocks_in new } in
      let rest = all_blocks (map placed_at left.held) ++ blocks_in parked.held in
      let after : map (stocked_in ledger_after.held.places) (es ++ (next, x) ∷ []) ≡ map (stocked_in ledger.held.places) es ++ y ∷ [] =
      ap (λ p. map (stocked_in p) (es ++ (next, x) ∷ [])) places ∙ stocked_more ledger.held.places next new es x below_next in
      record {
        births = subst (λ fs. AreBirths ledger_after.held index_after.held fs (next + 1)) (sym grown)
            (subst (λ contents. AreBirths ledger_after.held contents (es ++ (next, x) ∷ []) (next + 1)) (sym indexed) (births_more ledger.held ledger_after.held index.held es next x new stands.births places holdings));
        blocks = subst (λ fs. AreBlocks ledger_after.held fs left.held parked.held) (sym grown) (record {
          kept = subst (λ p. AllByRecursion (λ e. IsKept e.1 (runs_in p e.0)) (es ++ (next, x) ∷ [])) (sym places) (kept_more ledger.held.places next new es x below_next kept stands.blocks.kept);
          whole = stands.blocks.whole;
          once = subst (λ ys. AreOnce (all_blocks (places_of ys) ++ rest)) (sym after) (once_more (map (stocked_in ledger.held.places) es) y rest stands.blocks.once below distinct apart);
        });
        counted = omega (
          arith,
          stands.counted,
          ap (λ fs. run_count ledger_after.held.places fs left.held) grown,
          ap (λ p. run_count p (es ++ (next, x) ∷ []) left.held) places,
          counted_more ledger.held.places next new es x left.held below_next,
        );
        rooms = record {
          ledger_room = omega (arith, stands.rooms.ledger_room, ledger_room, enough);
          index_room = omega (arith, stands.rooms.index_room, index_room, enough);
          known_room = omega (arith, stands.rooms.known_room, known_room, enough);
          left_room = omega (arith, stands.rooms.left_room, enough, ap length grown, length-append es ((next, x) ∷ []));
          parked_room = omega (arith, stands.rooms.parked_room, enough);
          birth_room = omega (arith, stands.rooms.birth_room, enough);
          run_number = omega (arith, stands.rooms.run_number, enough);
        };
      }
