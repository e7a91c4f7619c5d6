-- The blocks of some births of a stock.
use Rattle.std.proofs.Common.{◌≡◌, ℕ, ◌+◌, ◌<◌, Bool, true, false, cond, List, [], ◌∷◌, length, Some, refl, sym, ap, subst, ◌∙◌, arith}
use Rattle.std.specs.Prelude.{not, ◌&&◌, ◌||◌, ◌==◌, filter, sum_by}
use Rattle.std.specs.List.{AllByRecursion as Each}
use Rattle.std.specs.Option.{option_map_or}
use Rattle.std.proofs.lemmas.List.{length-append}
use Rattle.std.proofs.lemmas.List.Sums.{sum_by-cons}
use Rattle.sf_types.proofs.NumberLemmas.{own_number, other_number, same_number}
use Rattle.sf_types.specs.Inside.Births.{IsBelowAll, IsRising}
use Rattle.sf_types.specs.Space.Contents.{blocks_of}
use Rattle.sf_types.specs.Space.Placings.{all_blocks}
use Rattle.sf_lifetimes.specs.Ledgers.{has_birth}
use Rattle.sf_stock.specs.Stocks.{Stocked, block_count, births_of, is_stocked, places_of, stocked_at}

pub count_next : (x : Stocked) (xs : List Stocked) → block_count (x ∷ xs) ≡ length x.blocks + block_count xs
count_next x xs = length-append x.blocks (all_blocks (places_of xs))

-- what a test takes out and what it leaves are all
pub count_split : (p : Stocked → Bool) (xs : List Stocked) → block_count (filter p xs) + block_count (filter (λ x. not (p x)) xs) ≡ block_count xs
count_split p [] = refl
count_split p (x ∷ xs) =
    elim (p x) as (λ t. block_count (cond t (x ∷ filter p xs) (filter p xs)) + block_count (cond (not t) (x ∷ filter (λ y. not (p y)) xs) (filter (λ y. not (p y)) xs)) ≡ block_count (x ∷ xs)) [
      | true ↦ omega (arith, count_split p xs, count_next x xs, count_next x (filter p xs))
      | false ↦ omega (arith, count_split p xs, count_next x xs, count_next x (filter (λ y. not (p y)) xs))
    ]

-- births that pass one test or another are those that pass the first, and of the rest those that pass the second
pub count_either : (p q : Stocked → Bool) (xs : List Stocked) → block_count (filter (λ x. p x || q x) xs) ≡ block_count (filter p xs) + block_count (filter (λ x. not (p x) && q x) xs)
count_either p q [] = refl
count_either p q (x ∷ xs) =
    elim (p x) as (λ t. block_count (cond (t || q x) (x ∷ filter (λ y. p y || q y) xs) (filter (λ y. p y || q y) xs)) ≡ block_count (cond t (x ∷ filter p xs) (filter p xs)) + block_count (cond (not t && q x) (x ∷ filter (λ y. not (p y) && q y) xs) (filter (λ y. not (p y) && q y) xs))) [
      | true ↦ omega (arith, count_either p q xs, count_next x (filter (λ y. p y || q y) xs), count_next x (filter p xs))
      | false ↦
          elim (q x) as (λ u. block_count (cond u (x ∷ filter (λ y. p y || q y) xs) (filter (λ y. p y || q y) xs)) ≡ block_count (filter p xs) + block_count (cond u (x ∷ filter (λ y. not (p y) && q y) xs) (filter (λ y. not (p y) && q y) xs))) [
            | true ↦ omega (arith, count_either p q xs, count_next x (filter (λ y. p y || q y) xs), count_next x (filter (λ y. not (p y) && q y) xs))
            | false ↦ count_either p q xs
          ]
    ]

-- tests that agree on all births take out the same
pub same_taken : (p q : Stocked → Bool) (xs : List Stocked) → Each (λ x. p x ≡ q x) xs → filter p xs ≡ filter q xs
same_taken p q [] same = refl
same_taken p q (x ∷ xs) same =
    ap (λ t. cond {A = List Stocked} t (x ∷ filter p xs) (filter p xs)) same.0
    ∙ ap (λ (ys : List Stocked). cond {A = List Stocked} (q x) (x ∷ ys) ys) (same_taken p q xs same.1)

-- the blocks of a birth by its content, where it passes a test
abbrev pub weight_of : (ℕ → Bool) → List Stocked → ℕ → ℕ
weight_of p xs b = cond (p b) (option_map_or (λ (x : Stocked). blocks_of (length x.content.bytes)) (stocked_at xs b) 0) 0

not_behind : (bs : List ℕ) (b : ℕ) → IsBelowAll b bs → has_birth bs b ≡ false
not_behind [] b below = refl
not_behind (c ∷ bs) b below = ap (λ t. t || has_birth bs b) (other_number b c (λ same. omega (arith, below.0, same))) ∙ not_behind bs b below.1

weights_past : (p : ℕ → Bool) (x : Stocked) (xs : List Stocked) (bs : List ℕ) → IsBelowAll x.birth bs → sum_by (weight_of p (x ∷ xs)) bs ≡ sum_by (weight_of p xs) bs
weights_past p x xs [] below = refl
weights_past p x xs (b ∷ bs) below =
    let apart : (b == x.birth) ≡ false = other_number b x.birth (λ same. omega (arith, below.0, same)) in
    omega (
      arith,
      sum_by-cons (weight_of p (x ∷ xs)) b bs,
      sum_by-cons (weight_of p xs) b bs,
      weights_past p x xs bs below.1,
      ap (λ t. cond (p b) (option_map_or (λ (y : Stocked). blocks_of (length y.content.bytes)) (cond t (Some x) (stocked_at xs b)) 0) 0) apart,
    )

-- the births that are left where the first is not that of a list
stocked_behind : (x : Stocked) (xs : List Stocked) (bs : List ℕ) → IsBelowAll x.birth bs → Each (λ b. is_stocked (x ∷ xs) b ≡ true) bs → Each (λ b. is_stocked xs b ≡ true) bs
stocked_behind x xs [] below all = tt
stocked_behind x xs (b ∷ bs) below all =
    let apart : (b == x.birth) ≡ false = other_number b x.birth (λ same. omega (arith, below.0, same)) in
    (ap (λ t. t || is_stocked xs b) (sym apart) ∙ all.0, stocked_behind x xs bs below.1 all.1)

past_first : (b : ℕ) (bs : List ℕ) (q : ℕ) → b < q → has_birth (b ∷ bs) q ≡ has_birth bs q
past_first b bs q past = ap (λ t. t || has_birth bs q) (other_number q b (λ same. omega (arith, past, same)))

each_past : (P : ℕ → Type 0) (x : ℕ) (ys : List Stocked) → ((q : ℕ) → x < q → P q) → IsBelowAll x (births_of ys) → Each (λ y. P y.birth) ys
each_past P x [] f below = tt
each_past P x (y ∷ ys) f below = (f y.birth below.0, each_past P x ys f below.1)

below_more : (a b : ℕ) (bs : List ℕ) → a < b → IsBelowAll b bs → IsBelowAll a bs
below_more a b [] less below = tt
below_more a b (c ∷ bs) less below = (omega (arith, less, below.0), below_more a b bs less below.1)

stocked_past : (x : ℕ) (ys : List Stocked) (q : ℕ) → IsBelowAll x (births_of ys) → is_stocked ys q ≡ true → x < q
stocked_past x [] q below there = absurd cc
stocked_past x (y ∷ ys) q below there =
    elim (q == y.birth) as (λ t. (q == y.birth) ≡ t → (t || is_stocked ys q) ≡ true → x < q) [
      | true ↦ λ is _. let same : q ≡ y.birth = same_number q y.birth is in omega (arith, below.0, same)
      | false ↦ λ _ later. stocked_past x ys q below.1 later
    ] refl there

never : (t : Bool) → (t && false) ≡ false
never true = refl
never false = refl

-- whether a birth passes a test and is one of some
abbrev pub passes : (ℕ → Bool) → List ℕ → Stocked → Bool
passes p bs x = p x.birth && has_birth bs x.birth

module _ (p : ℕ → Bool) (x : Stocked) (xs : List Stocked) where
  joined : (t : Bool) (ys : List Stocked) → length x.blocks ≡ blocks_of (length x.content.bytes) → cond t (blocks_of (length x.content.bytes)) 0 + block_count ys ≡ block_count (cond {A = List Stocked} (t && true) (x ∷ ys) ys)
  joined true ys count = omega (arith, count_next x ys, count)
  joined false ys count = omega arith

  at_first : (b : ℕ) (bs : List ℕ) → b ≡ x.birth → IsBelowAll x.birth (births_of xs) → IsBelowAll b bs → length x.blocks ≡ blocks_of (length x.content.bytes)
      → sum_by (weight_of p xs) bs ≡ block_count (filter (passes p bs) xs) → sum_by (weight_of p (x ∷ xs)) (b ∷ bs) ≡ block_count (filter (passes p (b ∷ bs)) (x ∷ xs))
  at_first b bs same rx rb count rest =
      let below : IsBelowAll x.birth bs = subst (λ n. IsBelowAll n bs) same rb in
      let later : filter (passes p (b ∷ bs)) xs ≡ filter (passes p bs) xs =
      same_taken (passes p (b ∷ bs)) (passes p bs) xs
      (each_past (λ q. (p q && has_birth (b ∷ bs) q) ≡ (p q && has_birth bs q)) x.birth xs (λ q past. ap (λ t. p q && t) (past_first b bs q (omega (arith, past, same)))) rx) in
      let here : has_birth (b ∷ bs) x.birth ≡ true = ap (λ t. t || has_birth bs x.birth) (ap (λ n. x.birth == n) same ∙ own_number x.birth) in
      let own : weight_of p (x ∷ xs) b ≡ cond (p x.birth) (blocks_of (length x.content.bytes)) 0 =
      ap (λ n. weight_of p (x ∷ xs) n) same ∙ ap (λ t. cond (p x.birth) (option_map_or (λ (y : Stocked). blocks_of (length y.content.bytes)) (cond t (Some x) (stocked_at xs x.birth)) 0) 0) (own_number x.birth) in
      sum_by-cons (weight_of p (x ∷ xs)) b bs
      ∙ ap (λ n. n + sum_by (weight_of p (x ∷ xs)) bs) own
      ∙ ap (λ n. cond (p x.birth) (blocks_of (length x.content.bytes)) 0 + n) (weights_past p x xs bs below ∙ rest)
      ∙ joined (p x.birth) (filter (passes p bs) xs) count
      ∙ ap (λ (ys : List Stocked). block_count (cond {A = List Stocked} (p x.birth && true) (x ∷ ys) ys)) (sym later)
      ∙ ap (λ t. block_count (cond {A = List Stocked} (p x.birth && t) (x ∷ filter (passes p (b ∷ bs)) xs) (filter (passes p (b ∷ bs)) xs))) (sym here)

  not_first : (bs : List ℕ) → IsBelowAll x.birth bs → sum_by (weight_of p xs) bs ≡ block_count (filter (passes p bs) xs) → sum_by (weight_of p (x ∷ xs)) bs ≡ block_count (filter (passes p bs) (x ∷ xs))
  not_first bs below rest =
      let skipped : List Stocked = filter (passes p bs) xs in
      weights_past p x xs bs below ∙ rest
      ∙ ap (λ t. block_count (cond {A = List Stocked} t (x ∷ skipped) skipped)) (sym (never (p x.birth)))
      ∙ ap (λ t. block_count (cond {A = List Stocked} (p x.birth && t) (x ∷ skipped) skipped)) (sym (not_behind bs x.birth below))

-- the blocks of rising births that stand in a stock, and pass a test, by their contents
pub weights_are : (p : ℕ → Bool) (xs : List Stocked) (bs : List ℕ) → IsRising (births_of xs) → IsRising bs → Each (λ b. is_stocked xs b ≡ true) bs → Each (λ x. length x.blocks ≡ blocks_of (length x.content.bytes)) xs
    → sum_by (weight_of p xs) bs ≡ block_count (filter (passes p bs) xs)
weights_are p [] [] rx rb all counts = refl
weights_are p [] (b ∷ bs) rx rb all counts = absurd (let bad = all.0 in cc)
weights_are p (x ∷ xs) [] rx rb all counts = not_first p x xs [] tt (weights_are p xs [] rx.1 tt tt counts.1)
weights_are p (x ∷ xs) (b ∷ bs) rx rb all counts =
    elim (b == x.birth) as (λ t. (b == x.birth) ≡ t → sum_by (weight_of p (x ∷ xs)) (b ∷ bs) ≡ block_count (filter (passes p (b ∷ bs)) (x ∷ xs))) [
      | true ↦ λ is.
          let same : b ≡ x.birth = same_number b x.birth is in
          let below : IsBelowAll x.birth bs = subst (λ n. IsBelowAll n bs) same rb.0 in
          at_first p x xs b bs same rx.0 rb.0 counts.0 (weights_are p xs bs rx.1 rb.1 (stocked_behind x xs bs below all.1) counts.1)
      | false ↦ λ apart.
          let there : is_stocked xs b ≡ true = ap (λ t. t || is_stocked xs b) (sym apart) ∙ all.0 in
          let past : x.birth < b = stocked_past x.birth xs b rx.0 there in
          let below : IsBelowAll x.birth (b ∷ bs) = (past, below_more x.birth b bs past rb.0) in
          not_first p x xs (b ∷ bs) below (weights_are p xs (b ∷ bs) rx.1 rb (stocked_behind x xs (b ∷ bs) below all) counts.1)
    ] refl
