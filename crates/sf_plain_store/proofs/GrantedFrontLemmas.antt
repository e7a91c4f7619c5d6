-- A grant of the first blocks of a store of which all are free.
use Rattle.std.proofs.Common.{◌≡◌, inl, inr, ℕ, zero, suc, ◌+◌, ◌-◌, ◌≤◌, ◌<◌, Bool, true, false, cond, ◌||◌, List, [], ◌∷◌, ◌++◌, length, Option, Some, None, refl, sym, ap, subst, ◌∙◌, arith}
use Rattle.std.specs.Prelude.{◌==◌, find, nat_le}
use Rattle.std.specs.List.{range_with_len}
use Rattle.std.specs.Option.{option_map_or}
use Rattle.std.proofs.lemmas.Bool.Decides.{leb_tells}
use Rattle.std.proofs.lemmas.List.{append-nil}
use Rattle.sf_types.specs.declared.run.Run.{Run}
use Rattle.sf_types.specs.Space.BlockRuns.{blocks_in, front_of}
use Rattle.sf_types.specs.Space.Grants.{granted_runs, maximal_runs}
use Rattle.sf_types.proofs.NumberLemmas.{same_number}
use Rattle.sf_laws.proofs.PlacingLemmas.{range_rises}
use Rattle.sf_stock.proofs.LeaveLemmas.{same_rising}
use Rattle.sf_block_space.specs.Free.{AreFreeRuns, AreOut, FreeSpace, Gains, has_block}
use Rattle.sf_block_space.proofs.GrantRunLemmas.{free-maximal}
use Rattle.sf_block_space.proofs.MemberLemmas.{in-range, is_block_in, out-of-range}
use Rattle.sf_block_space.proofs.OutLemmas.{free-not-out}
use Rattle.sf_plain_store.proofs.FreeBlockLemmas.{free_rise}

-- The one run of all blocks.
abbrev all_run : ℕ → Run
all_run n = record { first = 0; blocks = n }

-- runs of all blocks are that one
one_run : (n : ℕ) (runs : List Run) → 1 ≤ n → AreFreeRuns n runs → blocks_in runs ≡ range_with_len 0 n → runs ≡ all_run n ∷ []
one_run n runs some free blocks =
    let one : AreFreeRuns n (all_run n ∷ []) = (omega arith, some, omega arith, tt) in
    sym (free-maximal n runs free) ∙ ap maximal_runs (blocks ∙ sym (append-nil (range_with_len 0 n))) ∙ free-maximal n (all_run n ∷ []) one

-- a grant from it
front_granted : (n k : ℕ) → k ≤ n → blocks_in (granted_runs (all_run n ∷ []) k) ≡ range_with_len 0 k
front_granted n k le = by_none (k == 0) refl
  where
    front : List Run
    front = front_of (all_run n) k ∷ []

    fits : nat_le k n ≡ true
    fits = elim (leb_tells k n) [ inl is ↦ is.0 | inr is ↦ absurd (omega (arith, is.1, le)) ]

    by_none : (none : Bool) → (k == 0) ≡ none → blocks_in (cond none [] (option_map_or (λ lowest. front_of lowest k ∷ []) (find (λ (other : Run). nat_le k other.blocks) (all_run n ∷ [])) (all_run n ∷ []))) ≡ range_with_len 0 k
    by_none true is = ap (range_with_len 0) (sym (same_number k 0 is))
    by_none false is = ap (λ (b : Bool). blocks_in (option_map_or (λ lowest. front_of lowest k ∷ []) (cond b (Some (all_run n)) None) (all_run n ∷ []))) fits ∙ append-nil (range_with_len 0 k)

-- the blocks that are left
pub left_behind : (n k : ℕ) (left runs granted : List Run) → 1 ≤ n → k ≤ n → AreFreeRuns n left → AreFreeRuns n runs → blocks_in runs ≡ range_with_len 0 n → granted ≡ granted_runs runs k → Gains left runs granted
    → AreOut (record { capacity = n; runs = left }) (blocks_in granted) → blocks_in left ≡ range_with_len k (n - k)
left_behind n k left runs granted some le order before blocks is gains out =
    same_rising (blocks_in left) (range_with_len k (n - k)) (free_rise n left order) (range_rises k (n - k)) each
  where
    taken : blocks_in granted ≡ range_with_len 0 k
    taken = ap blocks_in (is ∙ ap (λ (xs : List Run). granted_runs xs k) (one_run n runs some before blocks)) ∙ front_granted n k le

    gained : (q : ℕ) → is_block_in (range_with_len 0 n) q ≡ (has_block left q || is_block_in (range_with_len 0 k) q)
    gained q = ap (λ (bs : List ℕ). is_block_in bs q) (sym blocks) ∙ gains.blocks q ∙ ap (λ (bs : List ℕ). has_block left q || is_block_in bs q) taken

    apart : (q : ℕ) → has_block left q ≡ true → is_block_in (range_with_len 0 k) q ≡ false
    apart q there = ap (λ (bs : List ℕ). is_block_in bs q) (sym taken) ∙ free-not-out (record { capacity = n; runs = left }) (blocks_in granted) q out there

    neither : (x y z : Bool) → z ≡ (x || y) → z ≡ false → x ≡ false
    neither true y z same none = sym same ∙ none
    neither false y z same none = refl

    not_taken : (x y : Bool) → (x ≡ true → y ≡ false) → y ≡ true → x ≡ false
    not_taken true y away there = sym there ∙ away refl
    not_taken false y away there = refl

    stays : (x y z : Bool) → z ≡ (x || y) → z ≡ true → y ≡ false → x ≡ true
    stays true y z same all none = refl
    stays false y z same all none = sym none ∙ sym same ∙ all

    each : (q : ℕ) → has_block left q ≡ is_block_in (range_with_len k (n - k)) q
    each q = elim (leb_tells k q) [
      | inl high ↦ elim (leb_tells (suc q) n) [
        | inl less ↦
            stays (has_block left q) (is_block_in (range_with_len 0 k) q) (is_block_in (range_with_len 0 n) q) (gained q) (in-range 0 n q (omega arith) (omega (arith, less.1))) (out-of-range 0 k q (inr (omega (arith, high.1))))
            ∙ sym (in-range k (n - k) q high.1 (omega (arith, less.1, high.1, le)))
        | inr above ↦
            neither (has_block left q) (is_block_in (range_with_len 0 k) q) (is_block_in (range_with_len 0 n) q) (gained q) (out-of-range 0 n q (inr (omega (arith, above.1))))
            ∙ sym (out-of-range k (n - k) q (inr (omega (arith, above.1, le))))
      ]
      | inr low ↦
          not_taken (has_block left q) (is_block_in (range_with_len 0 k) q) (apart q) (in-range 0 k q (omega arith) (omega (arith, low.1)))
          ∙ sym (out-of-range k (n - k) q (inl low.1))
    ]
