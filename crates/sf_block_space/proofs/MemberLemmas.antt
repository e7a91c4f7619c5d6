-- The blocks of some runs.
use Rattle.std.proofs.lemmas.List.{get_or_append_left, get_or-append_right}
use Rattle.std.proofs.lemmas.List.FromFn.{length-range_with_len, get_or-range_with_len}
use Rattle.std.proofs.Common.{◌≡◌, ℕ, zero, suc, ◌+◌, ◌-◌, ◌≤◌, ◌<◌, ◌≢◌, ◌⊎◌, inl, inr, List, [], ◌∷◌, ◌++◌, length, get_or, Bool, true, false, ◌||◌, refl, sym, ap, ◌∙◌, arith}
use Rattle.std.specs.Prelude.{nat_eq, All, AllPairs}
use Rattle.std.specs.List.{range_with_len, list_any}
use Rattle.std.proofs.lemmas.Bool.{cases_lt}
use Rattle.std.proofs.lemmas.Bool.Decides.{eqb_tells, Decides-eqb}
use Rattle.std.proofs.lemmas.List.{length-append}
use Rattle.std.proofs.lemmas.List.Folds.{list_any-append, list_any_at}
use Rattle.std.proofs.lemmas.Grind.{flat_map-append}
use Rattle.sf_types.specs.declared.run.Run.{Run}
use Rattle.sf_types.specs.Space.BlockRuns.{blocks_in, blocks_in_run}
use Rattle.sf_block_space.specs.Free.{AreFreeRunsFrom, has_block, Gains}
use Rattle.sf_types.proofs.BoolLemmas.{none-of-both, middle-last}
use Rattle.sf_block_space.proofs.OrderLemmas.{first-behind}

abbrev pub is_block_in : List ℕ → ℕ → Bool
is_block_in blocks block = list_any (nat_eq block) blocks

-- a run has the blocks from its first on, and no others
pub in-range : (first n block : ℕ) → first ≤ block → block < first + n → is_block_in (range_with_len first n) block ≡ true
in-range first zero block from to = absurd (omega (arith, from, to))
in-range first (suc n) block from to = choose (λ from' to'. in-range (first + 1) n block from' to') (eqb_tells block first)
  where
    choose : (first + 1 ≤ block → block < first + 1 + n → is_block_in (range_with_len (first + 1) n) block ≡ true)
        → ((nat_eq block first ≡ true) × (block ≡ first)) ⊎ ((nat_eq block first ≡ false) × (block ≢ first)) → is_block_in (range_with_len first (suc n)) block ≡ true
    choose rest (inl same) = rw (same.0) refl
    choose rest (inr other) = rw (other.0) (rest (omega (arith, from, other.1)) (omega (arith, to)))

pub out-of-range : (first n block : ℕ) → (block < first) ⊎ (first + n ≤ block) → is_block_in (range_with_len first n) block ≡ false
out-of-range first zero block out = refl
out-of-range first (suc n) block out = choose (out-of-range (first + 1) n block (further out)) (eqb_tells block first)
  where
    further : (block < first) ⊎ (first + suc n ≤ block) → (block < first + 1) ⊎ (first + 1 + n ≤ block)
    further (inl less) = inl (omega (arith, less))
    further (inr more) = inr (omega (arith, more))

    other-than : (block < first) ⊎ (first + suc n ≤ block) → block ≡ first → ⊥
    other-than (inl less) same = omega (arith, less, same)
    other-than (inr more) same = omega (arith, more, same)

    choose : is_block_in (range_with_len (first + 1) n) block ≡ false → ((nat_eq block first ≡ true) × (block ≡ first)) ⊎ ((nat_eq block first ≡ false) × (block ≢ first)) → is_block_in (range_with_len first (suc n)) block ≡ false
    choose rest (inl same) = absurd (other-than out same.1)
    choose rest (inr other) = rw (other.0) rest

pub has-append : (runs more : List Run) (block : ℕ) → has_block (runs ++ more) block ≡ (has_block runs block || has_block more block)
has-append runs more block =
    ap (list_any (nat_eq block)) (flat_map-append blocks_in_run runs more)
    ∙ list_any-append (nat_eq block) (blocks_in runs) (blocks_in more)

pub has-cons : (run : Run) (runs : List Run) (block : ℕ) → has_block (run ∷ runs) block ≡ (is_block_in (blocks_in_run run) block || has_block runs block)
has-cons run runs block = list_any-append (nat_eq block) (blocks_in_run run) (blocks_in runs)

-- no block before the first run
pub none-below : (from capacity : ℕ) (runs : List Run) (block : ℕ) → AreFreeRunsFrom from capacity runs → block < from → has_block runs block ≡ false
none-below from capacity [] block free less = refl
none-below from capacity (run ∷ runs) block free less =
    has-cons run runs block
    ∙ none-of-both (is_block_in (blocks_in_run run) block) (has_block runs block)
    (out-of-range run.first run.blocks block (inl (omega (arith, less, free.0))))
    (none-below (run.first + run.blocks + 1) capacity runs block free.3 (omega (arith, less, free.0)))

-- no block of a run or behind it is in the runs before
pub none-before : (from capacity : ℕ) (before : List Run) (run : Run) (after : List Run) (block : ℕ) → AreFreeRunsFrom from capacity (before ++ run ∷ after) → run.first ≤ block → has_block before block ≡ false
none-before from capacity [] run after block free less = refl
none-before from capacity (other ∷ before) run after block free less =
    has-cons other before block
    ∙ none-of-both (is_block_in (blocks_in_run other) block) (has_block before block)
    (out-of-range other.first other.blocks block (inr (omega (arith, less, first-behind (other.first + other.blocks + 1) capacity before run after free.3))))
    (none-before (other.first + other.blocks + 1) capacity before run after block free.3 less)

-- an item is among its list
pub item-among : (blocks : List ℕ) (k d : ℕ) → k < length blocks → is_block_in blocks (get_or blocks k d) ≡ true
item-among blocks k d less = list_any_at (nat_eq (get_or blocks k d)) blocks k d less ((Decides-eqb (get_or blocks k d) (get_or blocks k d)).1 refl)

-- the blocks of a run are apart
pub range-once : (first n : ℕ) → AllPairs (λ x y. x ≢ y) (range_with_len first n)
range-once first n i j d less within same =
    let size = length-range_with_len first n in
    let below : j < n = omega (arith, within, size) in
    let at-i = get_or-range_with_len first n i d (omega (arith, less, below)) in
    let at-j = get_or-range_with_len first n j d below in
    omega (arith, less, at-i, at-j, same)

-- two lists with items apart, and apart from each other
pub pairs-append : (xs ys : List ℕ) → AllPairs (λ x y. x ≢ y) xs → AllPairs (λ x y. x ≢ y) ys → All (λ y. is_block_in xs y ≡ false) ys → AllPairs (λ x y. x ≢ y) (xs ++ ys)
pairs-append xs ys first then apart i j d less within same = choose (cases_lt j (length xs)) (cases_lt i (length xs))
  where
    size : length (xs ++ ys) ≡ length xs + length ys
    size = length-append xs ys

    choose : (j < length xs) ⊎ (length xs ≤ j) → (i < length xs) ⊎ (length xs ≤ i) → ⊥
    choose (inl left) _ =
        let at-i = get_or_append_left xs ys d i (omega (arith, less, left)) in
        let at-j = get_or_append_left xs ys d j left in
        first i j d less left (sym at-i ∙ same ∙ at-j)
    choose (inr right) (inl left) =
        let at-i = get_or_append_left xs ys d i left in
        let at-j = get_or-append_right xs ys (length xs) j d refl right in
        let in-ys : j - length xs < length ys = omega (arith, within, size, right) in
        let yes = item-among xs i d left in
        let no = apart (j - length xs) d in-ys in
        let is = sym at-i ∙ same ∙ at-j in
        absurd (cc)
    choose (inr right) (inr more) =
        let at-i = get_or-append_right xs ys (length xs) i d refl more in
        let at-j = get_or-append_right xs ys (length xs) j d refl right in
        then (i - length xs) (j - length xs) d (omega (arith, less, more)) (omega (arith, within, size, right)) (sym at-i ∙ same ∙ at-j)

-- runs that have some blocks more between their others
pub gains-from : (runs more gained : List Run) (before put after : List ℕ) → blocks_in runs ≡ before ++ after → blocks_in more ≡ before ++ (put ++ after) → blocks_in gained ≡ put → Gains runs more gained
gains-from runs more gained before put after runs-are more-are gained-are =
    record {
      blocks = λ block.
          ap (list_any (nat_eq block)) more-are
          ∙ list_any-append (nat_eq block) before (put ++ after)
          ∙ ap (λ x. is_block_in before block || x) (list_any-append (nat_eq block) put after)
          ∙ middle-last (is_block_in before block) (is_block_in put block) (is_block_in after block)
          ∙ ap (λ x. x || is_block_in put block) (sym (list_any-append (nat_eq block) before after))
          ∙ sym (ap (λ (xs : List ℕ). is_block_in xs block || is_block_in put block) runs-are)
          ∙ sym (ap (λ (xs : List ℕ). has_block runs block || is_block_in xs block) gained-are);
      count = omega (arith, ap length runs-are, ap length more-are, ap length gained-are, length-append before after, length-append before (put ++ after), length-append put after);
    }
