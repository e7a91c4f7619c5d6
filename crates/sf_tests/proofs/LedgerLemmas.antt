-- The ledger of the tests.
use Rattle.std.proofs.Common.{◌≡◌, ℕ, ◌<◌, ◌^◌, Bool, true, false, cond, List, [], ◌∷◌, map, Some, None, refl, sym, ap, subst, ◌∙◌, arith, eqb}
use Rattle.std.specs.Prelude.{Contains, IsSome, not, flat_map, ◌==◌, ◌||◌}
use Rattle.std.specs.List.{filter, count_by, IsDistinct}
use Rattle.std.specs.Option.{unwrap_or}
use Rattle.std.specs.Ordering.{nat_cmp}
use Rattle.std.specs.Cmp.{nat_cmp_total, nat_eq_equiv, unsigned_Decides, unsigned_ties}
use Rattle.std.specs.FinMap as fin
use Rattle.std.specs.FinMap.{nat_cmp-IsAntisymmetric, same_map, get-empty, get-insert, get-retain_keys, entries-insert}
use Rattle.std.specs.FinMap.Entries.{put}
use Rattle.std.proofs.lemmas.List.Elements.{All-from_recursion}
use Rattle.std.proofs.lemmas.Map.Made.{AllPairs-from_IsDistinct}
use Rattle.std.proofs.lemmas.Map.Views.{list_any-from_Contains}
use Rattle.sf_types.specs.declared.birth_runs.BirthRuns.{BirthRuns}
use Rattle.sf_types.specs.declared.holder.Holder.{Holder}
use Rattle.sf_types.specs.declared.run.Run.{Run}
use Rattle.sf_types.specs.Inside.Holders.{holder_cmp}
use Rattle.sf_types.specs.Space.BlockRuns.{blocks_in}
use Rattle.sf_shrink.specs.declared.shifts.TheConstants.{MOST_BLOCKS}
use Rattle.sf_shrink.specs.Plans.{ArePlaced}
use Rattle.sf_lifetimes.specs.Ledgers.{LedgerView, Places, IsNewPlace, has_birth, occupied_blocks, held_by, is_live, live_places, waiting_places, listed_places, with_holding, with_births, number_of_holders}
use Rattle.sf_tests.specs.Ledgers.{single_block, two_places, HoldsBoth}
use Rattle.sf_lifetimes.proofs.MapSumLemmas.{no_values, no_entries}
use Rattle.sf_lifetimes.proofs.LedgerLemmas.{holds, number_changes}
use Rattle.sf_lifetimes.proofs.ListingLemmas.{to_place}

-- birth 1 alone
abbrev pub one_place : Places
one_place = fin.insert fin.empty 1 (single_block 4)

one_new : (places : Places) (n : ℕ) → n < 2 ^ 32 → ¬ (Contains (occupied_blocks places) n) → IsNewPlace places (single_block n)
one_new places n less apart = record {
  below = All-from_recursion (λ b. b < 2 ^ 32) (n ∷ []) (less, tt);
  once = λ i j d before within. absurd (omega (arith, before, within));
  apart = All-from_recursion (λ b. ¬ (Contains (occupied_blocks places) b)) (n ∷ []) (apart, tt);
}

not_among : (n : ℕ) (xs ys : List ℕ) → xs ≡ ys → has_birth ys n ≡ false → ¬ (Contains xs n)
not_among n xs ys is none has =
    let bad : false ≡ true = sym none ∙ sym (ap (λ zs. has_birth zs n) is) ∙ list_any-from_Contains nat_eq_equiv n xs has in
    absurd cc

-- birth 1 is placed first
pub first_new : (places : Places) (runs : List Run) → places ≡ fin.empty → runs ≡ single_block 4 → IsNewPlace places runs
first_new places runs is runs-is =
    subst (IsNewPlace places) (sym runs-is)
    (one_new places 4 (omega arith) (not_among 4 (occupied_blocks places) [] (ap occupied_blocks is ∙ ap (flat_map blocks_in) (no_values nat_cmp)) refl))

pub first_free : (places : Places) → places ≡ fin.empty → fin.get places 1 ≡ None
first_free places is = ap (λ p. fin.get p 1) is ∙ get-empty nat_cmp 1

first_entry : fin.entries one_place ≡ (1, single_block 4) ∷ []
first_entry = entries-insert nat_cmp_total fin.empty 1 (single_block 4) ∙ ap (put nat_cmp 1 (single_block 4)) (no_entries nat_cmp)

-- what is there once it is
pub one_placed : (e p : Places) (first : List Run) → e ≡ fin.empty → first ≡ single_block 4 → p ≡ fin.insert e 1 first → p ≡ one_place
one_placed e p first none first-is is = is ∙ ap (λ m. fin.insert m 1 first) none ∙ ap (fin.insert fin.empty 1) first-is

pub second_new : (p : Places) (runs : List Run) → runs ≡ single_block 1 → p ≡ one_place → IsNewPlace p runs
second_new p runs runs-is is =
    subst (IsNewPlace p) (sym runs-is)
    (one_new p 1 (omega arith) (not_among 1 (occupied_blocks p) (4 ∷ []) (ap occupied_blocks is ∙ ap (λ (es : List (ℕ × List Run)). flat_map blocks_in (map (λ e. e.1) es)) first_entry) refl))

pub second_free : (p : Places) → p ≡ one_place → fin.get p 2 ≡ None
second_free p is = ap (λ m. fin.get m 2) is ∙ get-insert nat_cmp_total fin.empty 1 (single_block 4) 2 ∙ get-empty nat_cmp 2

pub two_placed : (p q : Places) (second : List Run) → second ≡ single_block 1 → p ≡ one_place → q ≡ fin.insert p 2 second → q ≡ two_places
two_placed p q second second-is p-is q-is = q-is ∙ ap (λ m. fin.insert m 2 second) p-is ∙ ap (fin.insert (one_place) 2) second-is

two_entries : fin.entries two_places ≡ (1, single_block 4) ∷ (2, single_block 1) ∷ []
two_entries = entries-insert nat_cmp_total (one_place) 2 (single_block 1) ∙ ap (put nat_cmp 2 (single_block 1)) first_entry

-- both births have a place
pub both_placed : (places : Places) → places ≡ two_places → IsSome (fin.get places 1) × IsSome (fin.get places 2)
both_placed places is = (
  subst IsSome (sym (ap (λ m. fin.get m 1) is ∙ get-insert nat_cmp_total (one_place) 2 (single_block 1) 1 ∙ get-insert nat_cmp_total fin.empty 1 (single_block 4) 1)) refl,
  subst IsSome (sym (ap (λ m. fin.get m 2) is ∙ get-insert nat_cmp_total (one_place) 2 (single_block 1) 2)) refl,
)

-- where nobody holds anything, a hold hands nothing out
pub both_held : (l k : LedgerView) (holder : Holder) (births : List ℕ) → births ≡ 1 ∷ 2 ∷ [] → l.places ≡ two_places → l.holdings ≡ fin.empty → k ≡ with_holding l holder births → HoldsBoth k holder
both_held l k holder births births-is places none is =
    let nothing : held_by l.holdings holder ≡ [] = ap (λ h. held_by h holder) none ∙ ap (λ x. unwrap_or x []) (get-empty holder_cmp holder) in
    let test : ℕ → Bool = λ x. number_of_holders x (with_births l.holdings holder births) == 0 in
    let kept : ℕ → Bool = λ x. not (has_birth (filter test (held_by l.holdings holder)) x) in
    record {
      places = ap (λ v. v.places) is
          ∙ same_map nat_cmp_total nat_cmp-IsAntisymmetric (fin.retain_keys l.places kept) l.places (λ q.
          get-retain_keys l.places kept q (λ x same. ap kept (sym (nat_cmp-IsAntisymmetric q x same)))
          ∙ ap (λ bs. cond (not (has_birth (filter test bs) q)) (fin.get l.places q) None) nothing)
          ∙ places;
      holdings = ap (λ v. v.holdings) is ∙ ap (with_births l.holdings holder) births-is ∙ ap (λ h. fin.insert h holder (1 ∷ 2 ∷ [])) none;
    }

-- the number of holders of a birth then
held_once : (l : LedgerView) (holder : Holder) (q : ℕ) → HoldsBoth l holder → number_of_holders q l.holdings ≡ holds q (1 ∷ 2 ∷ [])
held_once l holder q both =
    let changes = number_changes fin.empty holder (1 ∷ 2 ∷ []) q in
    let nothing = ap (λ x. holds q (unwrap_or x [])) (get-empty {X = List ℕ} holder_cmp holder) in
    let none = ap (λ (xs : List (List ℕ)). count_by (λ births. has_birth births q) xs) (no_values holder_cmp) in
    omega (arith, changes, nothing, none, ap (number_of_holders q) both.holdings)

get_one : (q : ℕ) → fin.get one_place q ≡ cond (q == 1) (Some (single_block 4)) None
get_one q =
    let none : Places = fin.empty in
    get-insert nat_cmp_total none 1 (single_block 4) q
    ∙ ap (λ t. cond t (Some (single_block 4)) (fin.get none q)) (sym (unsigned_ties q 1))
    ∙ ap (cond (q == 1) (Some (single_block 4))) (get-empty nat_cmp q)

get_two : (q : ℕ) → fin.get two_places q ≡ cond (q == 2) (Some (single_block 1)) (cond (q == 1) (Some (single_block 4)) None)
get_two q =
    get-insert nat_cmp_total one_place 2 (single_block 1) q
    ∙ ap (λ t. cond t (Some (single_block 1)) (fin.get one_place q)) (sym (unsigned_ties q 2))
    ∙ ap (cond (q == 2) (Some (single_block 1))) (get_one q)

-- so both are live, and none waits
all_live : (l : LedgerView) (holder : Holder) → HoldsBoth l holder → live_places l ≡ two_places
all_live l holder both = same_map nat_cmp_total nat_cmp-IsAntisymmetric (live_places l) two_places (λ q.
    get-retain_keys l.places (is_live l.holdings) q (λ x same. ap (is_live l.holdings) (sym (nat_cmp-IsAntisymmetric q x same)))
    ∙ ap (λ n. cond (not (n == 0)) (fin.get l.places q) None) (held_once l holder q both)
    ∙ ap (λ (m : Places). cond (not (holds q (1 ∷ 2 ∷ []) == 0)) (fin.get m q) None) both.places
    ∙ ap (λ x. cond (not (holds q (1 ∷ 2 ∷ []) == 0)) x None) (get_two q)
    ∙ by_tests (q == 1) (q == 2)
    ∙ sym (get_two q))
  where
    by_tests : (one two : Bool) → cond (not (cond (one || (two || false)) 1 0 == 0)) (cond two (Some (single_block 1)) (cond one (Some (single_block 4)) None)) None ≡ cond two (Some (single_block 1)) (cond one (Some (single_block 4)) None)
    by_tests true true = refl
    by_tests true false = refl
    by_tests false true = refl
    by_tests false false = refl

pub none_waits : (l : LedgerView) (holder : Holder) → HoldsBoth l holder → occupied_blocks (waiting_places l) ≡ []
none_waits l holder both =
    let empty = same_map nat_cmp_total nat_cmp-IsAntisymmetric (waiting_places l) fin.empty (λ q.
    get-retain_keys l.places (λ b. not (is_live l.holdings b)) q (λ x same. ap (λ b. not (is_live l.holdings b)) (sym (nat_cmp-IsAntisymmetric q x same)))
    ∙ ap (λ n. cond (not (not (n == 0))) (fin.get l.places q) None) (held_once l holder q both)
    ∙ ap (λ (m : Places). cond (not (not (holds q (1 ∷ 2 ∷ []) == 0))) (fin.get m q) None) both.places
    ∙ ap (λ x. cond (not (not (holds q (1 ∷ 2 ∷ []) == 0))) x None) (get_two q)
    ∙ by_tests (q == 1) (q == 2)
    ∙ sym (get-empty nat_cmp q)) in
    ap occupied_blocks empty ∙ ap (flat_map blocks_in) (no_values nat_cmp)
  where
    by_tests : (one two : Bool) → cond (not (not (cond (one || (two || false)) 1 0 == 0))) (cond two (Some (single_block 1)) (cond one (Some (single_block 4)) None)) None ≡ None
    by_tests true true = refl
    by_tests true false = refl
    by_tests false true = refl
    by_tests false false = refl

blocks_apart : IsDistinct eqb (4 ∷ 1 ∷ [])
unfolding IsDistinct
blocks_apart = ((refl, tt), (tt, tt))

-- there is a plan for them
pub both_listed : (l : LedgerView) (holder : Holder) (places : List BirthRuns) → HoldsBoth l holder → places ≡ listed_places l → ArePlaced places MOST_BLOCKS
both_listed l holder places both is =
    subst (λ ps. ArePlaced ps MOST_BLOCKS) (sym (is ∙ ap (λ (m : Places). map to_place (fin.entries m)) (all_live l holder both) ∙ ap (map to_place) two_entries)) (record {
      births = ((omega arith, tt), (tt, tt));
      below = All-from_recursion (λ b. b < MOST_BLOCKS) (4 ∷ 1 ∷ []) (omega arith, (omega arith, tt));
      once = AllPairs-from_IsDistinct unsigned_Decides (4 ∷ 1 ∷ []) blocks_apart;
    })
