-- Places as they are listed.
use Rattle.std.proofs.Common.{◌≡◌, ℕ, zero, suc, ◌+◌, ◌≤◌, ◌<◌, Bool, true, false, cond, List, [], ◌∷◌, ◌++◌, map, length, drop, get_or, Bor, Option, Some, None, refl, sym, ap, subst, ◌∙◌, arith}
use Rattle.std.specs.Prelude.{◌≢◌, All, filter, unwrap_or}
use Rattle.std.specs.List.{range_with_len}
use Rattle.std.specs.FinMap as fin
use Rattle.std.specs.FinMap.{nat_cmp-IsAntisymmetric, get-retain_keys}
use Rattle.std.specs.Map.Iter.{deref_pair}
use Rattle.std.proofs.lemmas.List.{append-nil, at_drop_more, drop_all, get_or-map, length-map}
use Rattle.std.proofs.lemmas.List.Elements.{All-get_or}
use Rattle.sf_types.specs.declared.place.Place.{Place}
use Rattle.sf_types.specs.declared.run.Run.{Run}
use Rattle.sf_types.specs.Space.BlockRuns.{blocks_in, blocks_in_run, AreRuns}
use Rattle.sf_types.specs.Space.Grants.{maximal_runs, with_block_before}
use Rattle.sf_types.proofs.NumberLemmas.{own_number, other_number}
use Rattle.sf_lifetimes.specs.Ledgers.{LedgerView, is_live, place_of}
use Rattle.sf_stock.specs.declared.known.Known.{Known}
use Rattle.sf_stock.specs.Stocks.{listed_place}
use Rattle.sf_stock.specs.Inside.Keeps.{KnownMap, IsKept, listed_if, runs_in, stocked_in}

-- ---- maximal runs are those of their blocks
-- runs of which the first doesn't begin at a block
abbrev Elsewhere : ℕ → List Run → Type 0
Elsewhere block [] = Unit {0}
Elsewhere block (run ∷ runs) = run.first ≢ block

one_before : (first : ℕ) (rest : List Run) → Elsewhere (first + 1) rest → with_block_before first rest ≡ record { first = first; blocks = 1 } ∷ rest
one_before first [] apart = refl
one_before first (run ∷ rest) apart =
    ap (λ t. cond t (record { first = first; blocks = run.blocks + 1 } ∷ rest) (record { first = first; blocks = 1 } ∷ run ∷ rest)) (other_number run.first (first + 1) apart)

run_before : (first count : ℕ) (blocks : List ℕ) (rest : List Run) → maximal_runs blocks ≡ rest → Elsewhere (first + suc count) rest → maximal_runs (range_with_len first (suc count) ++ blocks) ≡ record { first = first; blocks = suc count } ∷ rest
run_before first zero blocks rest are apart = ap (with_block_before first) are ∙ one_before first rest apart
run_before first (suc count) blocks rest are apart =
    ap (with_block_before first) (run_before (first + 1) count blocks rest are (moved rest apart))
    ∙ ap (λ t. cond t (record { first = first; blocks = suc count + 1 } ∷ rest) (record { first = first; blocks = 1 } ∷ record { first = first + 1; blocks = suc count } ∷ rest)) (own_number (first + 1))
    ∙ (let more : suc count + 1 ≡ suc (suc count) = omega arith in ap (λ n. record { first = first; blocks = n } ∷ rest) more)
  where
    moved : (rest : List Run) → Elsewhere (first + suc (suc count)) rest → Elsewhere (first + 1 + suc count) rest
    moved [] apart = tt
    moved (run ∷ rest) apart = λ is. apart (omega (arith, is))

filled : (run : Run) (blocks : List ℕ) (rest : List Run) → 1 ≤ run.blocks → maximal_runs blocks ≡ rest → Elsewhere (run.first + run.blocks) rest → maximal_runs (blocks_in_run run ++ blocks) ≡ run ∷ rest
filled run blocks rest some are apart = of_count run.blocks some apart
  where
    of_count : (count : ℕ) → 1 ≤ count → Elsewhere (run.first + count) rest → maximal_runs (range_with_len run.first count ++ blocks) ≡ record { first = run.first; blocks = count } ∷ rest
    of_count zero some apart = absurd (omega (arith, some))
    of_count (suc count) some apart = run_before run.first count blocks rest are apart

pub maximal_again : (runs : List Run) → AreRuns runs → maximal_runs (blocks_in runs) ≡ runs
maximal_again [] are = refl
maximal_again (run ∷ []) are = filled run [] [] are refl tt
maximal_again (run ∷ next ∷ runs) are = filled run (blocks_in (next ∷ runs)) (next ∷ runs) are.0 (maximal_again (next ∷ runs) are.2) are.1

-- ---- one place
some_runs : (x : Option (List Run)) → 1 ≤ length (blocks_in (unwrap_or x [])) → x ≡ Some (unwrap_or x [])
some_runs None some = absurd (omega (arith, some))
some_runs (Some runs) some = refl

pub live_runs_at : (l : LedgerView) (b : ℕ) → place_of l b ≡ cond (is_live l.holdings b) (fin.get l.places b) None
live_runs_at l b = get-retain_keys l.places (is_live l.holdings) b (λ x tie. ap (is_live l.holdings) (sym (nat_cmp-IsAntisymmetric b x tie)))

pub kept_runs : (l : LedgerView) (e : ℕ × Known) (runs : List Run) → IsKept e.1 (runs_in l.places e.0) → place_of l e.0 ≡ Some runs → IsKept e.1 runs
kept_runs l e runs kept is = subst (IsKept e.1) same kept
  where
    there : (t : Bool) (x : Option (List Run)) → cond t x None ≡ Some runs → unwrap_or x [] ≡ runs
    there true x is = ap (λ y. unwrap_or y []) is
    there false x is = absurd cc

    same : runs_in l.places e.0 ≡ runs
    same = there (is_live l.holdings e.0) (fin.get l.places e.0) (sym (live_runs_at l e.0) ∙ is)

abbrev pub shown : LedgerView → KnownMap → List Place
shown l es = map listed_place (filter (λ x. is_live l.holdings x.birth) (map (stocked_in l.places) es))

pub shown_first : (l : LedgerView) (e : ℕ × Known) (rest : KnownMap) → IsKept e.1 (runs_in l.places e.0) → shown l (e ∷ rest) ≡ listed_if e.0 e.1 (place_of l e.0) ++ shown l rest
shown_first l e rest kept =
    elim (is_live l.holdings e.0) as (λ t. map listed_place (cond t (stocked_in l.places e ∷ filter (λ x. is_live l.holdings x.birth) (map (stocked_in l.places) rest)) (filter (λ x. is_live l.holdings x.birth) (map (stocked_in l.places) rest))) ≡ listed_if e.0 e.1 (cond t (fin.get l.places e.0) None) ++ shown l rest) [
      | true ↦ ap (λ x. listed_if e.0 e.1 x ++ shown l rest) (sym (some_runs (fin.get l.places e.0) kept.some))
      | false ↦ refl
    ]
    ∙ ap (λ x. listed_if e.0 e.1 x ++ shown l rest) (sym (live_runs_at l e.0))

-- ---- entries that are lent
pub kept_item : (l : LedgerView) (es : KnownMap) (items : List (Bor ℕ × Bor Known)) (k : ℕ) (x : Bor ℕ × Bor Known) → map deref_pair items ≡ es → k < length items → x ≡ get_or items k x → All (λ e. IsKept e.1 (runs_in l.places e.0)) es
    → IsKept x.1.now (runs_in l.places x.0.now)
kept_item l es items k x lent less is kept =
    let own : get_or es k (deref_pair x) ≡ deref_pair x =
    ap (λ (fs : KnownMap). get_or fs k (deref_pair x)) (sym lent) ∙ get_or-map deref_pair items k x (deref_pair x) less ∙ ap deref_pair (sym is) in
    subst (λ e. IsKept e.1 (runs_in l.places e.0)) own
    (All-get_or (λ (e : ℕ × Known). IsKept e.1 (runs_in l.places e.0)) es k (deref_pair x) (omega (arith, less, ap length lent, length-map {B = ℕ × Known} items deref_pair)) kept)

abbrev pub shown_items : LedgerView → List (Bor ℕ × Bor Known) → List Place
shown_items l items = shown l (map deref_pair items)

pub shown_next : (l : LedgerView) (items : List (Bor ℕ × Bor Known)) (k : ℕ) (x : Bor ℕ × Bor Known) → k < length items → x ≡ get_or items k x → IsKept x.1.now (runs_in l.places x.0.now)
    → listed_if x.0.now x.1.now (place_of l x.0.now) ++ shown_items l (drop (k + 1) items) ≡ shown_items l (drop k items)
shown_next l items k x less is kept =
    sym (shown_first l (deref_pair x) (map deref_pair (drop (k + 1) items)) kept)
    ∙ ap (λ (y : Bor ℕ × Bor Known). shown_items l (y ∷ drop (k + 1) items)) is
    ∙ sym (at_drop_more (shown_items l) items k x less)

pub all_shown : (l : LedgerView) (places all : List Place) (items : List (Bor ℕ × Bor Known)) (k : ℕ) → length items ≤ k → places ++ shown_items l (drop k items) ≡ all → places ≡ all
all_shown l places all items k end is = sym (append-nil places) ∙ ap (λ (xs : List (Bor ℕ × Bor Known)). places ++ shown_items l xs) (sym (drop_all k items end)) ∙ is

pub listed_is : (b len : ℕ) (known : Known) (runs copied : List Run) → IsKept known runs → len ≡ length known.content → copied ≡ runs
    → record { birth = b; len = len; sum = known.print.sum; runs = copied } ≡ listed_place (record { birth = b; content = record { bytes = known.content; is_shared = known.is_shared }; blocks = blocks_in runs })
listed_is b len known runs copied kept is same = λ i. record { birth = b; len = is i; sum = (kept.printed i).sum; runs = (same ∙ sym (maximal_again runs kept.maximal)) i }
