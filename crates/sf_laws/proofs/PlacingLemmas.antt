-- How places move from one table to a later one.
use Rattle.std.proofs.Common.{◌≡◌, ℕ, zero, suc, ◌+◌, ◌-◌, ◌≤◌, ◌<◌, Bool, true, false, cond, not, ◌||◌, Option, List, [], ◌∷◌, ◌++◌, length, map, take, drop, refl, sym, ap, subst, ◌∙◌, ⊎_elim, arith}
use Rattle.std.specs.Prelude.{nat_lt, sum_by, ◌==◌, filter, flat_map, Contains}
use Rattle.std.specs.List.{AllByRecursion as Each, range_with_len}
use Rattle.std.specs.Option.{option_map_or}
use Rattle.std.proofs.lemmas.Grind.{flat_map-append}
use Rattle.sf_types.specs.Space.Contents.{blocks_of}
use Rattle.std.proofs.lemmas.List.{drop-drop, length-take-le, length-drop, map-append}
use Rattle.std.proofs.lemmas.List.Sums.{sum_by-cons, sum_by-append, sum_by-take-drop}
use Rattle.std.proofs.lemmas.List.Filters.{sum_by-filter_both}
use Rattle.sf_types.specs.Inside.Births.{IsBelowAll, IsRising}
use Rattle.sf_types.specs.Table.Parts.{Content, Table}
use Rattle.sf_types.specs.Space.Reach.{holdings, reach}
use Rattle.sf_types.specs.Space.Use.{blocks_of_birth, blocks_of_births}
use Rattle.sf_types.specs.Space.Placings.{Placed, all_blocks}
use Rattle.sf_types.specs.Play.Blocks.{is_among, kept_places, departed_places, first_block, with_place_by_first, places_by_first, departed_blocks, new_births, places_of_new, places_after, unused_blocks}
use Rattle.sf_types.proofs.NumberLemmas.{same_number, less, not_less}
use Rattle.sf_laws.specs.TrueMarks.{IsGivenOut}
use Rattle.sf_laws.proofs.EachLemmas.{each_weaker, each-append, each-filter, each_from_map}
use Rattle.sf_laws.proofs.GivenBirthLemmas.{GoesOn, content_kept}
use Rattle.sf_laws.proofs.NewBirthLemmas.{IsOldOrNew}
use Rattle.sf_laws.proofs.SumLemmas.{rising_rises, below_more}
use Rattle.sf_laws.proofs.BlockSumLemmas.{is_one, count_of, one_itself, one_apart, each_counted, from_counted, counted_some, count_below}

-- a number among others is counted there
pub among_counted : (b : ℕ) (xs : List ℕ) → is_among xs b ≡ true → 1 ≤ count_of b xs
among_counted b [] is = absurd cc
among_counted b (x ∷ xs) is =
    let cons = sum_by-cons (is_one b) x xs in
    elim (b == x) as (λ c. (b == x) ≡ c → (c || is_among xs b) ≡ true → 1 ≤ count_of b (x ∷ xs)) [
      | true ↦ λ same some. let one : is_one b x ≡ 1 = rw same refl in omega (arith, cons, one)
      | false ↦ λ apart some. let rest = among_counted b xs some in omega (arith, cons, rest)
    ] refl is

pub counted_among : (b : ℕ) (xs : List ℕ) → 1 ≤ count_of b xs → is_among xs b ≡ true
counted_among b [] le = absurd (omega (arith, le))
counted_among b (x ∷ xs) le =
    let cons = sum_by-cons (is_one b) x xs in
    elim (b == x) as (λ c. (b == x) ≡ c → (c || is_among xs b) ≡ true) [
      | true ↦ λ same. refl
      | false ↦ λ apart. let none : is_one b x ≡ 0 = rw apart refl in counted_among b xs (omega (arith, cons, none, le))
    ] refl

-- rising lists with the same numbers are one
head_least : (x y : ℕ) (xs ys : List ℕ) → IsBelowAll y ys → 1 ≤ count_of x (y ∷ ys) → y ≤ x
head_least x y xs ys below le =
    elim (nat_lt x y) as (λ b. nat_lt x y ≡ b → y ≤ x) [
      | true ↦ λ is.
          let lt = less x y is in
          let none = count_below x ys (below_more x y ys lt below) in
          let apart = one_apart x y (λ same. omega (arith, lt, same)) in
          let cons = sum_by-cons (is_one x) y ys in
          absurd (omega (arith, none, apart, cons, le))
      | false ↦ λ is. not_less x y is
    ] refl

tail_within : (x : ℕ) (xs ys : List ℕ) → IsBelowAll x xs → ((b : ℕ) → 1 ≤ count_of b (x ∷ xs) → 1 ≤ count_of b (x ∷ ys)) → (b : ℕ) → 1 ≤ count_of b xs → 1 ≤ count_of b ys
tail_within x xs ys below within b le =
    let cons = sum_by-cons (is_one b) x xs in
    let its = within b (omega (arith, cons, le)) in
    let more = sum_by-cons (is_one b) x ys in
    elim (b == x) as (λ c. (b == x) ≡ c → 1 ≤ count_of b ys) [
      | true ↦ λ is.
          let same : count_of b xs ≡ count_of x xs = ap (λ y. count_of y xs) (same_number b x is) in
          let none = count_below x xs below in
          absurd (omega (arith, same, none, le))
      | false ↦ λ is. let none : is_one b x ≡ 0 = rw is refl in omega (arith, none, its, more)
    ] refl

pub rising_same : (xs ys : List ℕ) → IsRising xs → IsRising ys → ((b : ℕ) → 1 ≤ count_of b xs → 1 ≤ count_of b ys) → ((b : ℕ) → 1 ≤ count_of b ys → 1 ≤ count_of b xs) → xs ≡ ys
rising_same [] [] rises risen to from = refl
rising_same [] (y ∷ ys) rises risen to from =
    let own = one_itself y in
    let cons = sum_by-cons (is_one y) y ys in
    let its = from y (omega (arith, own, cons)) in
    absurd (omega (arith, its))
rising_same (x ∷ xs) [] rises risen to from =
    let own = one_itself x in
    let cons = sum_by-cons (is_one x) x xs in
    let its = to x (omega (arith, own, cons)) in
    absurd (omega (arith, its))
rising_same (x ∷ xs) (y ∷ ys) rises risen to from =
    let own = one_itself x in
    let cons = sum_by-cons (is_one x) x xs in
    let its = one_itself y in
    let other = sum_by-cons (is_one y) y ys in
    let high = head_least x y xs ys risen.0 (to x (omega (arith, own, cons))) in
    let low = head_least y x ys xs rises.0 (from y (omega (arith, its, other))) in
    let same : x ≡ y = omega (arith, high, low) in
    let there = subst (λ z. (b : ℕ) → 1 ≤ count_of b (x ∷ xs) → 1 ≤ count_of b (z ∷ ys)) (sym same) to in
    let back = subst (λ z. (b : ℕ) → 1 ≤ count_of b (z ∷ ys) → 1 ≤ count_of b (x ∷ xs)) (sym same) from in
    let below = subst (λ z. IsBelowAll z ys) (sym same) risen.0 in
    ap (λ (z : ℕ). z ∷ xs) same ∙ ap (λ (zs : List ℕ). y ∷ zs) (rising_same xs ys rises.1 risen.1 (tail_within x xs ys rises.0 there) (tail_within x ys xs below back))

-- rising lists, one behind the other
below_each : (a : ℕ) (xs : List ℕ) → Each (λ x. a < x) xs → IsBelowAll a xs
below_each a [] all = tt
below_each a (x ∷ xs) all = (all.0, below_each a xs all.1)

below-append : (a : ℕ) (xs ys : List ℕ) → IsBelowAll a xs → IsBelowAll a ys → IsBelowAll a (xs ++ ys)
below-append a [] ys below later = later
below-append a (x ∷ xs) ys below later = (below.0, below-append a xs ys below.1 later)

pub rising-append : (xs ys : List ℕ) → IsRising xs → IsRising ys → Each (λ x. IsBelowAll x ys) xs → IsRising (xs ++ ys)
rising-append [] ys rises risen all = risen
rising-append (x ∷ xs) ys rises risen all = (below-append x xs ys rises.0 all.0, rising-append xs ys rises.1 risen all.1)

range_above : (a b n : ℕ) → a < b → IsBelowAll a (range_with_len b n)
range_above a b zero lt = tt
range_above a b (suc n) lt = (lt, range_above a (b + 1) n (omega (arith, lt)))

pub range_rises : (a n : ℕ) → IsRising (range_with_len a n)
range_rises a zero = tt
range_rises a (suc n) = (range_above a (a + 1) n (omega arith), range_rises (a + 1) n)

pub range_within : (a n : ℕ) → Each (λ b. (a ≤ b) × (b < a + n)) (range_with_len a n)
range_within a zero = tt
range_within a (suc n) = ((omega arith, omega arith), each_weaker (λ b. (a + 1 ≤ b) × (b < a + 1 + n)) (λ b. (a ≤ b) × (b < a + suc n)) (range_with_len (a + 1) n) (λ b is. let low = is.0 in let high = is.1 in (omega (arith, low), omega (arith, high))) (range_within (a + 1) n))

pub range_counted : (a n b : ℕ) → a ≤ b → b < a + n → 1 ≤ count_of b (range_with_len a n)
range_counted a zero b low high = absurd (omega (arith, low, high))
range_counted a (suc n) b low high =
    let cons = sum_by-cons (is_one b) a (range_with_len (a + 1) n) in
    elim (b == a) as (λ c. (b == a) ≡ c → 1 ≤ count_of b (range_with_len a (suc n))) [
      | true ↦ λ is. let one : is_one b a ≡ 1 = rw is refl in omega (arith, one, cons)
      | false ↦ λ is.
          let rest = range_counted (a + 1) n b (grind (arith, is, low)) (omega (arith, high)) in
          omega (arith, cons, rest)
    ] refl

below-filter : (test : ℕ → Bool) (a : ℕ) (xs : List ℕ) → IsBelowAll a xs → IsBelowAll a (filter test xs)
below-filter test a [] below = tt
below-filter test a (x ∷ xs) below =
    elim (test x) as (λ b. IsBelowAll a (cond b (x ∷ filter test xs) (filter test xs))) [
      | true ↦ (below.0, below-filter test a xs below.1)
      | false ↦ below-filter test a xs below.1
    ]

pub rising_births-filter : (test : ℕ → Bool) (xs : List ℕ) → IsRising xs → IsRising (filter test xs)
rising_births-filter test [] rises = tt
rising_births-filter test (x ∷ xs) rises =
    elim (test x) as (λ b. IsRising (cond b (x ∷ filter test xs) (filter test xs))) [
      | true ↦ (below-filter test x xs rises.0, rising_births-filter test xs rises.1)
      | false ↦ rising_births-filter test xs rises.1
    ]

-- what is counted among those that pass
pub filter_counted : (test : ℕ → Bool) (b : ℕ) (xs : List ℕ) → 1 ≤ count_of b xs → test b ≡ true → 1 ≤ count_of b (filter test xs)
filter_counted test b [] le is = absurd (omega (arith, le))
filter_counted test b (x ∷ xs) le is =
    let cons = sum_by-cons (is_one b) x xs in
    elim (b == x) as (λ c. (b == x) ≡ c → 1 ≤ count_of b (filter test (x ∷ xs))) [
      | true ↦ λ same.
          let passes : test x ≡ true = subst (λ y. test y ≡ true) (same_number b x same) is in
          let first : filter test (x ∷ xs) ≡ x ∷ filter test xs = ap (λ c. cond c (x ∷ filter test xs) (filter test xs)) passes in
          let one : is_one b x ≡ 1 = rw same refl in
          let more = sum_by-cons (is_one b) x (filter test xs) in
          subst (λ ys. 1 ≤ count_of b ys) (sym first) (omega (arith, one, more))
      | false ↦ λ apart.
          let none : is_one b x ≡ 0 = rw apart refl in
          let rest = filter_counted test b xs (omega (arith, cons, none, le)) is in
          let more = sum_by-cons (is_one b) x (filter test xs) in
          elim (test x) as (λ c. 1 ≤ count_of b (cond c (x ∷ filter test xs) (filter test xs))) [
            | true ↦ omega (arith, rest, more)
            | false ↦ rest
          ]
    ] refl

pub counted_filter : (test : ℕ → Bool) (b : ℕ) (xs : List ℕ) → 1 ≤ count_of b (filter test xs) → 1 ≤ count_of b xs
counted_filter test b xs le = from_counted (λ x. 1 ≤ count_of x xs) (filter test xs) b (each-filter (λ x. 1 ≤ count_of x xs) test xs (each_counted (λ x. 1 ≤ count_of x xs) xs (λ x is. is))) le

pub passed_filter : (test : ℕ → Bool) (b : ℕ) (xs : List ℕ) → 1 ≤ count_of b (filter test xs) → test b ≡ true
passed_filter test b [] le = absurd (omega (arith, le))
passed_filter test b (x ∷ xs) le =
    elim (test x) as (λ c. test x ≡ c → 1 ≤ count_of b (cond c (x ∷ filter test xs) (filter test xs)) → test b ≡ true) [
      | true ↦ λ is some.
          let more = sum_by-cons (is_one b) x (filter test xs) in
          elim (b == x) as (λ c. (b == x) ≡ c → test b ≡ true) [
            | true ↦ λ same. subst (λ y. test y ≡ true) (sym (same_number b x same)) is
            | false ↦ λ apart. let none : is_one b x ≡ 0 = rw apart refl in passed_filter test b xs (omega (arith, none, more, some))
          ] refl
      | false ↦ λ is some. passed_filter test b xs some
    ] refl le

-- The blocks of a place, summed.
abbrev sum_placed : (ℕ → ℕ) → Placed → ℕ
sum_placed f x = sum_by f x.blocks

pub placed_sum : (f : ℕ → ℕ) (places : List Placed) → sum_by f (all_blocks places) ≡ sum_by (sum_placed f) places
placed_sum f [] = refl
placed_sum f (x ∷ places) =
    let both = sum_by-append f x.blocks (all_blocks places) in
    let cons = sum_by-cons (sum_placed f) x places in
    let rest = placed_sum f places in
    omega (arith, both, cons, rest)

by_first_sum : (g : Placed → ℕ) (x : Placed) (ys : List Placed) → sum_by g (with_place_by_first x ys) ≡ g x + sum_by g ys
by_first_sum g x [] = sum_by-cons g x []
by_first_sum g x (y ∷ ys) =
    elim (nat_lt (first_block x) (first_block y)) as (λ b. sum_by g (cond b (x ∷ y ∷ ys) (y ∷ with_place_by_first x ys)) ≡ g x + sum_by g (y ∷ ys)) [
      | true ↦ sum_by-cons g x (y ∷ ys)
      | false ↦
          let rest = by_first_sum g x ys in
          let cons = sum_by-cons g y (with_place_by_first x ys) in
          let all = sum_by-cons g y ys in
          omega (arith, rest, cons, all)
    ]

places_by_first_sum : (g : Placed → ℕ) (xs : List Placed) → sum_by g (places_by_first xs) ≡ sum_by g xs
places_by_first_sum g [] = refl
places_by_first_sum g (x ∷ xs) =
    let first = by_first_sum g x (places_by_first xs) in
    let rest = places_by_first_sum g xs in
    let cons = sum_by-cons g x xs in
    omega (arith, first, rest, cons)

-- each place stays or departs
pub kept_or_departed : (f : ℕ → ℕ) (t : Table) (places : List Placed) → sum_by f (all_blocks (kept_places t places)) + sum_by f (departed_blocks t places) ≡ sum_by f (all_blocks places)
kept_or_departed f t places =
    let stays = λ (x : Placed). is_among (reach t) x.birth in
    let goes = λ (x : Placed). not (is_among (reach t) x.birth) in
    let both = sum_by-filter_both stays goes (λ x. refl) (sum_placed f) places in
    let kept = placed_sum f (kept_places t places) in
    let gone = placed_sum f (places_by_first (departed_places t places)) in
    let sorted = places_by_first_sum (sum_placed f) (departed_places t places) in
    let all = placed_sum f places in
    omega (arith, both, kept, gone, sorted, all)

pub new_sum : (f : ℕ → ℕ) (contents : List Content) (births blocks : List ℕ) → sum_by f (all_blocks (places_of_new contents births blocks)) + sum_by f (drop (blocks_of_births contents births) blocks) ≡ sum_by f blocks
new_sum f contents [] blocks = let none : sum_by f (all_blocks (places_of_new contents [] blocks)) ≡ 0 = refl in omega (arith, none)
new_sum f contents (b ∷ births) blocks =
    let count = blocks_of_birth contents b in
    let rest = new_sum f contents births (drop count blocks) in
    let front = sum_by-take-drop f blocks count in
    let both = sum_by-append f (take count blocks) (all_blocks (places_of_new contents births (drop count blocks))) in
    let later : sum_by f (drop (blocks_of_births contents births) (drop count blocks)) ≡ sum_by f (drop (blocks_of_births contents (b ∷ births)) blocks) =
    ap (sum_by f) (drop-drop (blocks_of_births contents births) count blocks ∙ ap (λ n. drop n blocks) (sym (sum_by-cons (blocks_of_birth contents) b births))) in
    omega (arith, rest, front, both, later)

new_counts : (contents : List Content) (births blocks : List ℕ) → blocks_of_births contents births ≤ length blocks → Each (λ x. length x.blocks ≡ blocks_of_birth contents x.birth) (places_of_new contents births blocks)
new_counts contents [] blocks le = tt
new_counts contents (b ∷ births) blocks le =
    let count = blocks_of_birth contents b in
    let cons = sum_by-cons (blocks_of_birth contents) b births in
    let left = length-drop count blocks in
    (length-take-le count blocks (omega (arith, cons, le)), new_counts contents births (drop count blocks) (omega (arith, cons, le, left)))

new_placed : (contents : List Content) (births blocks : List ℕ) → map (λ x. x.birth) (places_of_new contents births blocks) ≡ births
new_placed contents [] blocks = refl
new_placed contents (b ∷ births) blocks = ap (λ (xs : List ℕ). b ∷ xs) (new_placed contents births (drop (blocks_of_birth contents b) blocks))

kept_births : (test : ℕ → Bool) (places : List Placed) → map (λ x. x.birth) (filter (λ x. test x.birth) places) ≡ filter test (map (λ x. x.birth) places)
kept_births test [] = refl
kept_births test (x ∷ places) =
    elim (test x.birth) as (λ b. map (λ (y : Placed). y.birth) (cond b (x ∷ filter (λ y. test y.birth) places) (filter (λ y. test y.birth) places)) ≡ cond b (x.birth ∷ filter test (map (λ y. y.birth) places)) (filter test (map (λ y. y.birth) places))) [
      | true ↦ ap (λ (xs : List ℕ). x.birth ∷ xs) (kept_births test places)
      | false ↦ kept_births test places
    ]

-- What a turn does to the births in reach: contents go on, a birth that is in reach was so before or is new, and each new one
-- is in reach and gets its blocks.
pub record Moves (before after : Table) (given : List ℕ) : Type 0 where
  pub on : GoesOn before.contents after.contents
  pub old : Each (IsGivenOut before.contents) (reach before)
  pub high : Each (IsGivenOut after.contents) (reach after)
  pub within : Each (IsOldOrNew (reach before) (length before.contents)) (reach after)
  pub new : Each (Contains (reach after)) (new_births before after)
  pub enough : blocks_of_births after.contents (new_births before after) ≤ length given

-- What becomes of the places, and of the blocks.
pub record IsPlaced (before after : Table) (places : List Placed) (given : List ℕ) : Type 0 where
  pub births : map (λ x. x.birth) (places_after before after places given) ≡ reach after
  pub counts : Each (λ x. length x.blocks ≡ blocks_of_birth after.contents x.birth) (places_after before after places given)
  pub sums : (f : ℕ → ℕ) → sum_by f (all_blocks (places_after before after places given)) + sum_by f (departed_blocks after places) + sum_by f (unused_blocks before after given)
      ≡ sum_by f (all_blocks places) + sum_by f given

pub reach_rising : (t : Table) → IsRising (reach t)
reach_rising t = rising_rises (flat_map (λ h. h.births) (holdings t))

-- the births of a range, where a list ends before it
stay_counted : (before after : Table) (given : List ℕ) → Moves before after given → (b : ℕ) → 1 ≤ count_of b (reach after) → 1 ≤ count_of b (filter (is_among (reach after)) (reach before) ++ new_births before after)
stay_counted before after given moves b le =
    let stay = filter (is_among (reach after)) (reach before) in
    let new = new_births before after in
    let both = sum_by-append (is_one b) stay new in
    let within = from_counted (IsOldOrNew (reach before) (length before.contents)) (reach after) b moves.within le in
    let given_out = from_counted (IsGivenOut after.contents) (reach after) b moves.high le in
    ⊎_elim
    (λ (old : Contains (reach before) b). let own = filter_counted (is_among (reach after)) b (reach before) (counted_some (reach before) b old) (counted_among b (reach after) le) in omega (arith, own, both))
    (λ (later : length before.contents < b). let own = range_counted (length before.contents + 1) (length after.contents - length before.contents) b (omega (arith, later)) (omega (arith, later, given_out.high)) in omega (arith, own, both))
    within

counted_stay : (before after : Table) (given : List ℕ) → Moves before after given → (b : ℕ) → 1 ≤ count_of b (filter (is_among (reach after)) (reach before) ++ new_births before after) → 1 ≤ count_of b (reach after)
counted_stay before after given moves b le =
    let stay = filter (is_among (reach after)) (reach before) in
    let new = new_births before after in
    let both = sum_by-append (is_one b) stay new in
    elim (is_among (reach after) b) as (λ c. is_among (reach after) b ≡ c → 1 ≤ count_of b (reach after)) [
      | true ↦ λ is. among_counted b (reach after) is
      | false ↦ λ is.
          let none : (n : ℕ) → count_of b stay ≡ n → n ≡ 0 = λ n. elim n as (λ m. count_of b stay ≡ m → m ≡ 0) [
            | zero ↦ λ h. refl
            | suc m ↦ λ h. let some = passed_filter (is_among (reach after)) b (reach before) (omega (arith, h)) in absurd cc
          ] in
          let zero_stay = none (count_of b stay) refl in
          counted_some (reach after) b (from_counted (Contains (reach after)) new b moves.new (omega (arith, both, zero_stay, le)))
    ] refl

stay_rises : (before after : Table) (given : List ℕ) → Moves before after given → IsRising (filter (is_among (reach after)) (reach before) ++ new_births before after)
stay_rises before after given moves =
    let new = new_births before after in
    rising-append (filter (is_among (reach after)) (reach before)) new (rising_births-filter (is_among (reach after)) (reach before) (reach_rising before))
    (range_rises (length before.contents + 1) (length after.contents - length before.contents))
    (each-filter (λ x. IsBelowAll x new) (is_among (reach after)) (reach before)
    (each_weaker (IsGivenOut before.contents) (λ x. IsBelowAll x new) (reach before)
    (λ x is. range_above x (length before.contents + 1) (length after.contents - length before.contents) (omega (arith, is.high))) moves.old))

-- reach is what stays of it, and then the new births in their order
pub reach_after_turn : (before after : Table) (given : List ℕ) → Moves before after given → filter (is_among (reach after)) (reach before) ++ new_births before after ≡ reach after
reach_after_turn before after given moves =
    rising_same (filter (is_among (reach after)) (reach before) ++ new_births before after) (reach after) (stay_rises before after given moves) (reach_rising after)
    (counted_stay before after given moves) (stay_counted before after given moves)

-- what holds of each place and of each birth's number
counts_kept : (before after : List Content) (places : List Placed) → GoesOn before after → Each (λ x. IsGivenOut before x.birth) places → Each (λ x. length x.blocks ≡ blocks_of_birth before x.birth) places → Each (λ x. length x.blocks ≡ blocks_of_birth after x.birth) places
counts_kept before after [] on given counts = tt
counts_kept before after (x ∷ places) on given counts =
    let same : blocks_of_birth after x.birth ≡ blocks_of_birth before x.birth = ap (λ (o : Option Content). option_map_or (λ c. blocks_of (length c.bytes)) o 0) (content_kept before after x.birth on given.0) in
    (counts.0 ∙ sym same, counts_kept before after places on given.1 counts.1)

pub is_placed : (before after : Table) (places : List Placed) (given : List ℕ) → Moves before after given → map (λ x. x.birth) places ≡ reach before → Each (λ x. length x.blocks ≡ blocks_of_birth before.contents x.birth) places → IsPlaced before after places given
is_placed before after places given moves births counts =
    let new = new_births before after in
    let kept = kept_places after places in
    let placed_new = places_of_new after.contents new given in
    let given_out : Each (λ (x : Placed). IsGivenOut before.contents x.birth) places = each_from_map (IsGivenOut before.contents) (λ x. x.birth) places (subst (Each (IsGivenOut before.contents)) (sym births) moves.old) in
    record {
      births = map-append (λ (x : Placed). x.birth) kept placed_new
          ∙ ap (λ (xs : List ℕ). xs ++ map (λ x. x.birth) placed_new) (kept_births (is_among (reach after)) places ∙ ap (filter (is_among (reach after))) births)
          ∙ ap (λ (xs : List ℕ). filter (is_among (reach after)) (reach before) ++ xs) (new_placed after.contents new given)
          ∙ reach_after_turn before after given moves;
      counts = each-append (λ (x : Placed). length x.blocks ≡ blocks_of_birth after.contents x.birth) kept placed_new
          (each-filter (λ (x : Placed). length x.blocks ≡ blocks_of_birth after.contents x.birth) (λ x. is_among (reach after) x.birth) places (counts_kept before.contents after.contents places moves.on given_out counts))
          (new_counts after.contents new given moves.enough);
      sums = λ f.
          let stay = kept_or_departed f after places in
          let more = new_sum f after.contents new given in
          let split : sum_by f (all_blocks (kept ++ placed_new)) ≡ sum_by f (all_blocks kept) + sum_by f (all_blocks placed_new) = ap (sum_by f) (flat_map-append (λ (x : Placed). x.blocks) kept placed_new) ∙ sum_by-append f (all_blocks kept) (all_blocks placed_new) in
          omega (arith, stay, more, split);
    }
