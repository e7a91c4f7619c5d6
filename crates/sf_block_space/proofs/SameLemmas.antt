-- Maximal runs in their order are determined by their blocks.
use Rattle.std.proofs.Common.{◌≡◌, ℕ, ◌+◌, ◌≤◌, ◌<◌, ◌⊎◌, inl, inr, List, [], ◌∷◌, Bool, true, false, ◌||◌, refl, sym, ap, ◌∙◌, subst, arith}
use Rattle.std.proofs.lemmas.Bool.{cases_lt}
use Rattle.sf_types.specs.declared.run.Run.{Run}
use Rattle.sf_types.specs.Space.BlockRuns.{blocks_in_run}
use Rattle.sf_block_space.specs.Free.{AreFreeRuns, AreFreeRunsFrom, has_block}
use Rattle.sf_types.proofs.BoolLemmas.{none-of-both}
use Rattle.sf_block_space.proofs.MemberLemmas.{is_block_in, in-range, out-of-range, has-cons, none-below}

-- the blocks of the first run
has-first : (run : Run) (runs : List Run) (block : ℕ) → run.first ≤ block → block < run.first + run.blocks → has_block (run ∷ runs) block ≡ true
has-first run runs block from to =
    has-cons run runs block ∙ ap (λ x. x || has_block runs block) (in-range run.first run.blocks block from to)

-- none before it, and none just behind it
none-before-first : (from capacity : ℕ) (run : Run) (runs : List Run) (block : ℕ) → AreFreeRunsFrom from capacity (run ∷ runs) → block < run.first → has_block (run ∷ runs) block ≡ false
none-before-first from capacity run runs block free less =
    none-below run.first capacity (run ∷ runs) block (omega arith, free.1, free.2, free.3) less

none-at-end : (from capacity : ℕ) (run : Run) (runs : List Run) → AreFreeRunsFrom from capacity (run ∷ runs) → has_block (run ∷ runs) (run.first + run.blocks) ≡ false
none-at-end from capacity run runs free =
    has-cons run runs (run.first + run.blocks)
    ∙ none-of-both (is_block_in (blocks_in_run run) (run.first + run.blocks)) (has_block runs (run.first + run.blocks))
    (out-of-range run.first run.blocks (run.first + run.blocks) (inr (omega arith)))
    (none-below (run.first + run.blocks + 1) capacity runs (run.first + run.blocks) free.3 (omega arith))

-- the blocks of the others
has-others : (from capacity : ℕ) (run : Run) (runs : List Run) (block : ℕ) → AreFreeRunsFrom from capacity (run ∷ runs) → run.first + run.blocks ≤ block → has_block (run ∷ runs) block ≡ has_block runs block
has-others from capacity run runs block free behind =
    has-cons run runs block ∙ ap (λ x. x || has_block runs block) (out-of-range run.first run.blocks block (inr behind))

never : {b : Bool} → b ≡ true → b ≡ false → ⊥
never is is-not = cc

-- a run that begins earlier, or is longer, has a block that the others lack
not-earlier : (from capacity : ℕ) (x y : Run) (xs ys : List Run) → AreFreeRunsFrom from capacity (x ∷ xs) → AreFreeRunsFrom from capacity (y ∷ ys) → ((block : ℕ) → has_block (x ∷ xs) block ≡ has_block (y ∷ ys) block) → y.first ≤ x.first
not-earlier from capacity x y xs ys free-x free-y same = choose (cases_lt x.first y.first)
  where
    choose : (x.first < y.first) ⊎ (y.first ≤ x.first) → y.first ≤ x.first
    choose (inl less) =
        absurd (never (has-first x xs x.first (omega arith) (omega (arith, free-x.1))) (same x.first ∙ none-before-first from capacity y ys x.first free-y less))
    choose (inr more) = more

not-longer : (from capacity : ℕ) (x y : Run) (xs ys : List Run) → AreFreeRunsFrom from capacity (x ∷ xs) → AreFreeRunsFrom from capacity (y ∷ ys) → x.first ≡ y.first → ((block : ℕ) → has_block (x ∷ xs) block ≡ has_block (y ∷ ys) block) → x.blocks ≤ y.blocks
not-longer from capacity x y xs ys free-x free-y begins same = choose (cases_lt y.blocks x.blocks)
  where
    choose : (y.blocks < x.blocks) ⊎ (x.blocks ≤ y.blocks) → x.blocks ≤ y.blocks
    choose (inl less) =
        absurd (never (has-first x xs (y.first + y.blocks) (omega (arith, begins)) (omega (arith, begins, less))) (same (y.first + y.blocks) ∙ none-at-end from capacity y ys free-y))
    choose (inr more) = more

same-run : (x y : Run) → x.first ≡ y.first → x.blocks ≡ y.blocks → x ≡ y
same-run x y begins sizes = ap (λ k. record { first = k; blocks = x.blocks }) begins ∙ ap (λ k. record { first = y.first; blocks = k }) sizes

first-same : (from capacity : ℕ) (x y : Run) (xs ys : List Run) → AreFreeRunsFrom from capacity (x ∷ xs) → AreFreeRunsFrom from capacity (y ∷ ys) → ((block : ℕ) → has_block (x ∷ xs) block ≡ has_block (y ∷ ys) block) → x ≡ y
first-same from capacity x y xs ys free-x free-y same =
    let turned : (block : ℕ) → has_block (y ∷ ys) block ≡ has_block (x ∷ xs) block = λ block. sym (same block) in
    let begins : x.first ≡ y.first = omega (arith, not-earlier from capacity x y xs ys free-x free-y same, not-earlier from capacity y x ys xs free-y free-x turned) in
    let sizes : x.blocks ≡ y.blocks = omega (arith, not-longer from capacity x y xs ys free-x free-y begins same, not-longer from capacity y x ys xs free-y free-x (sym begins) turned) in
    same-run x y begins sizes

others-same : (from capacity : ℕ) (x y : Run) (xs ys : List Run) → AreFreeRunsFrom from capacity (x ∷ xs) → AreFreeRunsFrom from capacity (y ∷ ys) → x ≡ y → ((block : ℕ) → has_block (x ∷ xs) block ≡ has_block (y ∷ ys) block) → (block : ℕ) → has_block xs block ≡ has_block ys block
others-same from capacity x y xs ys free-x free-y is same block = choose (cases_lt block (x.first + x.blocks))
  where
    end : x.first + x.blocks ≡ y.first + y.blocks
    end = ap (λ (r : Run). r.first + r.blocks) is

    choose : (block < x.first + x.blocks) ⊎ (x.first + x.blocks ≤ block) → has_block xs block ≡ has_block ys block
    choose (inl less) =
        none-below (x.first + x.blocks + 1) capacity xs block free-x.3 (omega (arith, less))
        ∙ sym (none-below (y.first + y.blocks + 1) capacity ys block free-y.3 (omega (arith, less, end)))
    choose (inr more) =
        sym (has-others from capacity x xs block free-x more) ∙ same block ∙ has-others from capacity y ys block free-y (omega (arith, more, end))

runs-same : (from capacity : ℕ) (xs ys : List Run) → AreFreeRunsFrom from capacity xs → AreFreeRunsFrom from capacity ys → ((block : ℕ) → has_block xs block ≡ has_block ys block) → xs ≡ ys
runs-same from capacity [] [] free-x free-y same = refl
runs-same from capacity [] (y ∷ ys) free-x free-y same =
    absurd (never (has-first y ys y.first (omega arith) (omega (arith, free-y.1))) (sym (same y.first)))
runs-same from capacity (x ∷ xs) [] free-x free-y same =
    absurd (never (has-first x xs x.first (omega arith) (omega (arith, free-x.1))) (same x.first))
runs-same from capacity (x ∷ xs) (y ∷ ys) free-x free-y same =
    let is = first-same from capacity x y xs ys free-x free-y same in
    let tails = others-same from capacity x y xs ys free-x free-y is same in
    let end : y.first + y.blocks + 1 ≡ x.first + x.blocks + 1 = ap (λ (r : Run). r.first + r.blocks + 1) (sym is) in
    ap (λ (r : Run). r ∷ xs) is
    ∙ ap (λ (rs : List Run). y ∷ rs) (runs-same (x.first + x.blocks + 1) capacity xs ys free-x.3 (subst (λ k. AreFreeRunsFrom k capacity ys) end free-y.3) tails)

-- So the free runs after a grant or a return are the only ones that its clauses allow.
pub same-runs : (capacity : ℕ) (xs ys : List Run) → AreFreeRuns capacity xs → AreFreeRuns capacity ys → ((block : ℕ) → has_block xs block ≡ has_block ys block) → xs ≡ ys
same-runs capacity xs ys free-x free-y same = runs-same 0 capacity xs ys free-x free-y same
