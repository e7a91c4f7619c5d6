-- Births that nobody holds any more.
use Rattle.std.proofs.Common.{◌≡◌, ℕ, ◌+◌, ◌-◌, ◌≤◌, ◌⊎◌, inl, inr, ⊎_elim, Bool, true, false, cond, not, ◌&&◌, ◌||◌, List, [], ◌∷◌, ◌++◌, map, length, take, drop, Option, Some, None, refl, sym, ap, subst, ◌∙◌, arith}
use Rattle.std.specs.Prelude.{T, is_some, filter, filter_map, unwrap_or, ◌==◌}
use Rattle.std.specs.List.{AllByRecursion, cons_option, sum_by}
use Rattle.std.specs.Ordering.{nat_cmp, eq_by_cmp, is_lt}
use Rattle.std.specs.declared.cmp.Ordering.TheVariants.{Less}
use Rattle.std.specs.Cmp.{nat_cmp_total, nat_cmp_is, unsigned_ties}
use Rattle.std.specs.FinMap as fin
use Rattle.std.specs.FinMap.{nat_cmp-IsAntisymmetric, get-retain_keys}
use Rattle.std.specs.FinMap.Entries.{is_sorted, below_all, find-where_key, is_sorted-where_key, same_entries}
use Rattle.std.proofs.lemmas.Grind.{flat_map-append}
use Rattle.std.proofs.lemmas.List.{length-append, length-map, map-append, take_all}
use Rattle.std.proofs.lemmas.List.Elements.{filter_agree}
use Rattle.std.proofs.lemmas.List.Filters.{length-filter_both}
use Rattle.std.proofs.lemmas.List.Sums.{sum_by-append, sum_by-cons}
use Rattle.sf_types.specs.declared.birth_runs.BirthRuns.{BirthRuns}
use Rattle.sf_types.specs.declared.holder.Holder.{Holder}
use Rattle.sf_types.specs.declared.run.Run.{Run}
use Rattle.sf_types.specs.Inside.Births.{IsBelowAll, IsRising}
use Rattle.sf_types.specs.Rooms.{Roomy}
use Rattle.sf_types.specs.Space.BlockRuns.{blocks_in}
use Rattle.sf_types.specs.Space.Placings.{Placed, all_blocks}
use Rattle.sf_types.proofs.BoolLemmas.{both, both_first}
use Rattle.sf_types.proofs.NumberLemmas.{same_number, not_same, other_number}
use Rattle.sf_room_map.specs.Entries.{value_for}
use Rattle.sf_room_map.proofs.EntryLemmas.{find_is}
use Rattle.sf_dedup.specs.Contents.{Contents}
use Rattle.sf_shrink.specs.Plans.{placed_at}
use Rattle.sf_lifetimes.specs.Ledgers.{Holdings, LedgerView, Places, has_birth, held_by, is_live, number_of_holders, unheld_births, unheld_places, with_births, with_holding}
use Rattle.sf_lifetimes.proofs.LedgerLemmas.{holds, number_changes, holds_one}
use Rattle.sf_lifetimes.proofs.ListingLemmas.{rising_keys}
use Rattle.sf_stock.specs.declared.known.Known.{Known}
use Rattle.sf_stock.specs.Stocks.{Stocked, places_of, has_left, with_holdings}
use Rattle.sf_stock.specs.Inside.Keeps.{KnownMap, IsKept, IsWhole, IsStock, AreBirths, AreBlocks, runs_in, stocked_in, stock_in, shared_entry, shared_in, without_births, run_count}
use Rattle.sf_stock.proofs.KeptLemmas.{AreBelow}
use Rattle.sf_stock.proofs.NewLemmas.{count_of, count-append}

-- ---- which births have left
fewer_live : (old new : Bool) (before after : ℕ) → after + cond old 1 0 ≡ before + cond new 1 0 → (new ≡ true → 1 ≤ after) → (old ≡ true → 1 ≤ before)
    → (old && (after == 0)) ≡ (not (before == 0) && not (not (after == 0)))
fewer_live old new before after sums held was =
    elim (after == 0) as (λ a. (after == 0) ≡ a → (old && a) ≡ (not (before == 0) && not (not a))) [
      | false ↦ λ _. nothing old (not (before == 0))
      | true ↦ λ gone. elim old as (λ o. (o ≡ true → 1 ≤ before) → after + cond o 1 0 ≡ before + cond new 1 0 → (o && true) ≡ (not (before == 0) && true)) [
        | true ↦ λ some _. ap (λ t. not t && true) (sym (not_none before (some refl)))
        | false ↦ λ _ same. ap (λ t. not t && true) (sym (none_before new before after (same_number after 0 gone) same held))
      ] was sums
    ] refl
  where
    nothing : (x y : Bool) → (x && false) ≡ (y && false)
    nothing true true = refl
    nothing true false = refl
    nothing false true = refl
    nothing false false = refl

    not_none : (n : ℕ) → 1 ≤ n → (n == 0) ≡ false
    not_none n some = elim (n == 0) as (λ t. (n == 0) ≡ t → t ≡ false) [ true ↦ λ is. absurd (let none = same_number n 0 is in omega (arith, some, none)) | false ↦ λ _. refl ] refl

    none_before : (new : Bool) (before after : ℕ) → after ≡ 0 → after + 0 ≡ before + cond new 1 0 → (new ≡ true → 1 ≤ after) → (before == 0) ≡ true
    none_before true before after gone same held = absurd (omega (arith, gone, held refl))
    none_before false before after gone same held = let zero : before ≡ 0 = omega (arith, gone, same) in ap (λ n. n == 0) zero

has-filter : (p : ℕ → Bool) (xs : List ℕ) (b : ℕ) → has_birth (filter p xs) b ≡ (has_birth xs b && p b)
has-filter p [] b = refl
has-filter p (x ∷ xs) b =
    elim (b == x) as (λ t. (b == x) ≡ t → has_birth (cond (p x) (x ∷ filter p xs) (filter p xs)) b ≡ ((t || has_birth xs b) && p b)) [
      | true ↦ λ t.
          let same : b ≡ x = same_number b x t in
          ap (λ u. has_birth (cond u (x ∷ filter p xs) (filter p xs)) b) (ap p (sym same))
          ∙ elim (p b) as (λ u. has_birth (filter p xs) b ≡ (has_birth xs b && u) → has_birth (cond u (x ∷ filter p xs) (filter p xs)) b ≡ u) [
            | true ↦ λ _. ap (λ u. u || has_birth (filter p xs) b) t
            | false ↦ λ rest. rest ∙ never (has_birth xs b)
          ] (has-filter p xs b)
      | false ↦ λ t. elim (p x) as (λ u. has_birth (cond u (x ∷ filter p xs) (filter p xs)) b ≡ (has_birth xs b && p b)) [
        | true ↦ ap (λ u. u || has_birth (filter p xs) b) t ∙ has-filter p xs b
        | false ↦ has-filter p xs b
      ]
    ] refl
  where
    never : (x : Bool) → (x && false) ≡ false
    never true = refl
    never false = refl

held_then : (h : Holdings) (holder : Holder) (births : List ℕ) (b : ℕ) → has_birth births b ≡ true → 1 ≤ number_of_holders b (with_births h holder births)
held_then h holder births b is =
    let sums = number_changes h holder births b in
    let one : holds b births ≡ 1 = ap (λ t. cond t 1 0) is in
    elim (has_birth (held_by h holder) b) as (λ t. (t ≡ true → 1 ≤ number_of_holders b h) → number_of_holders b (with_births h holder births) + cond t 1 0 ≡ number_of_holders b h + holds b births → 1 ≤ number_of_holders b (with_births h holder births)) [
      | true ↦ λ some same. let before = some refl in omega (arith, before, same, one)
      | false ↦ λ _ same. omega (arith, same, one)
    ] (holds_one h holder b) sums

pub unheld_is : (h : Holdings) (holder : Holder) (births : List ℕ) (b : ℕ) → has_birth (unheld_births h holder births) b ≡ has_left h (with_births h holder births) b
unheld_is h holder births b =
    has-filter (λ q. number_of_holders q (with_births h holder births) == 0) (held_by h holder) b
    ∙ fewer_live (has_birth (held_by h holder) b) (has_birth births b) (number_of_holders b h) (number_of_holders b (with_births h holder births)) (number_changes h holder births b) (λ is. held_then h holder births b is) (λ is. holds_one h holder b is)

-- ---- a birth that is live then was live before, or is among the new ones
pub live_before : (h : Holdings) (holder : Holder) (births : List ℕ) (b : ℕ) → is_live (with_births h holder births) b ≡ true → (has_birth births b ≡ true) ⊎ (is_live h b ≡ true)
live_before h holder births b live =
    elim (has_birth births b) as (λ t. number_of_holders b (with_births h holder births) + holds b (held_by h holder) ≡ number_of_holders b h + cond t 1 0 → (t ≡ true) ⊎ (is_live h b ≡ true)) [
      | true ↦ λ _. inl refl
      | false ↦ λ same. inr (not_zero (number_of_holders b h) (omega (arith, same, some_live (number_of_holders b (with_births h holder births)) live)))
    ] (number_changes h holder births b)
  where
    some_live : (n : ℕ) → not (n == 0) ≡ true → 1 ≤ n
    some_live n is = elim (n == 0) as (λ t. (n == 0) ≡ t → not t ≡ true → 1 ≤ n) [ true ↦ λ _ bad. absurd cc | false ↦ λ apart _. positive n apart ] refl is
      where
        positive : (n : ℕ) → (n == 0) ≡ false → 1 ≤ n
        positive n apart = omega (arith, not_same n 0 apart)

    not_zero : (n : ℕ) → 1 ≤ n → not (n == 0) ≡ true
    not_zero n some = ap not (other_number n 0 (λ is. omega (arith, is, some)))

-- ---- rising lists of the same births
abbrev pair : ℕ → ℕ × ℕ
pair = λ b. (b, b)

find_pair : (bs : List ℕ) (q : ℕ) → fin.find nat_cmp q (map pair bs) ≡ cond (has_birth bs q) (Some q) None
find_pair [] q = refl
find_pair (b ∷ bs) q =
    elim (eq_by_cmp nat_cmp q b) as (λ t. (q == b) ≡ t → cond t (Some b) (fin.find nat_cmp q (map pair bs)) ≡ cond (t || has_birth bs q) (Some q) None) [
      | true ↦ λ same. ap (λ (n : ℕ). Some n) (sym (same_number q b same))
      | false ↦ λ _. find_pair bs q
    ] (unsigned_ties q b)
    ∙ ap (λ t. cond (t || has_birth bs q) (Some q) None) (sym (unsigned_ties q b))

sorted_below : (b : ℕ) (bs : List ℕ) → IsBelowAll b bs → T (below_all nat_cmp b (map pair bs))
sorted_below b [] below = tt
sorted_below b (c ∷ bs) below = both _ _ (subst (λ r. T (is_lt r)) (nat_cmp_is b c Less below.0) tt) (sorted_below b bs below.1)

sorted_pairs : (bs : List ℕ) → IsRising bs → T (is_sorted nat_cmp (map pair bs))
sorted_pairs [] rising = tt
sorted_pairs (b ∷ bs) rising = both _ _ (sorted_below b bs rising.0) (sorted_pairs bs rising.1)

firsts : (bs : List ℕ) → map (λ e. e.0) (map pair bs) ≡ bs
firsts [] = refl
firsts (b ∷ bs) = ap (λ (cs : List ℕ). b ∷ cs) (firsts bs)

pub same_rising : (xs ys : List ℕ) → IsRising xs → IsRising ys → ((b : ℕ) → has_birth xs b ≡ has_birth ys b) → xs ≡ ys
same_rising xs ys rising risen same =
    sym (firsts xs)
    ∙ ap (map {B = ℕ} (λ (e : ℕ × ℕ). e.0)) (same_entries nat_cmp nat_cmp_total nat_cmp-IsAntisymmetric (map pair xs) (map pair ys) (sorted_pairs xs rising) (sorted_pairs ys risen)
    (λ q. find_pair xs q ∙ ap (λ t. cond t (Some q) None) (same q) ∙ sym (find_pair ys q)))
    ∙ firsts ys

-- ---- what stays of some births, by a test g of those that leave
module _ (g : ℕ → Bool) where
  abbrev pub stays : {X : Type 0} → List (ℕ × X) → List (ℕ × X)
  stays es = filter (λ e. not (g e.0)) es

  abbrev pub leaves : {X : Type 0} → List (ℕ × X) → List (ℕ × X)
  leaves es = filter (λ e. g e.0) es

  -- a birth that leaves, with its runs
  abbrev pub gone_in : {X : Type 0} → Places → ℕ × X → BirthRuns
  gone_in places e = record { birth = e.0; runs = runs_in places e.0 }

  pub below_stays : {X : Type 0} (next : ℕ) (es : List (ℕ × X)) → AreBelow next es → AreBelow next (stays es)
  below_stays next [] below = tt
  below_stays next (e ∷ es) below =
      let rest = below_stays next es below.1 in
      elim (g e.0) as (λ t. AreBelow next (cond (not t) (e ∷ stays es) (stays es))) [ true ↦ rest | false ↦ (below.0, rest) ]

  entry_stays : (e : ℕ × Known) (rest : Contents) (u : Bool) → g e.0 ≡ u → stays (cons_option {X = ℕ × List ℕ} (shared_entry e) rest) ≡ cond (not u) (cons_option {X = ℕ × List ℕ} (shared_entry e) (stays rest)) (stays rest)
  entry_stays e rest u is =
      elim e.1.is_shared as (λ t. stays (cons_option {X = ℕ × List ℕ} (cond t (Some (e.0, e.1.content)) None) rest) ≡ cond (not u) (cons_option {X = ℕ × List ℕ} (cond t (Some (e.0, e.1.content)) None) (stays rest)) (stays rest)) [
        | true ↦ ap (λ t. cond (not t) ((e.0, e.1.content) ∷ stays rest) (stays rest)) is
        | false ↦ elim u as (λ t. stays rest ≡ cond (not t) (stays rest) (stays rest)) [ true ↦ refl | false ↦ refl ]
      ]

  pub shared_stays : (known : KnownMap) → stays (shared_in known) ≡ shared_in (stays known)
  shared_stays [] = refl
  shared_stays (e ∷ known) =
      let rest = shared_stays known in
      elim (g e.0) as (λ u. g e.0 ≡ u → stays (cons_option {X = ℕ × List ℕ} (shared_entry e) (shared_in known)) ≡ filter_map {X = ℕ × Known} {Y = ℕ × List ℕ} shared_entry (cond (not u) (e ∷ stays known) (stays known))) [
        | true ↦ λ is. entry_stays e (shared_in known) true is ∙ rest
        | false ↦ λ is. entry_stays e (shared_in known) false is ∙ ap (λ (es : Contents). cons_option {X = ℕ × List ℕ} (shared_entry e) es) rest
      ] refl

  pub value_stays : {X : Type 0} (es : List (ℕ × X)) (b : ℕ) → value_for nat_cmp (stays es) b ≡ cond (not (g b)) (value_for nat_cmp es b) None
  value_stays es b =
      find_is nat_cmp (stays es) b
      ∙ find-where_key nat_cmp (λ q. not (g q)) b (λ q tie. ap (λ n. not (g n)) (sym (nat_cmp-IsAntisymmetric b q tie))) es
      ∙ ap (λ x. cond (not (g b)) x None) (sym (find_is nat_cmp es b))

  pub has_leaves : {X : Type 0} (es : List (ℕ × X)) (b : ℕ) → has_birth (map (λ e. e.0) (leaves es)) b ≡ (is_some (value_for nat_cmp es b) && g b)
  has_leaves [] b = refl
  has_leaves (e ∷ es) b =
      let rest = has_leaves es b in
      elim (eq_by_cmp nat_cmp b e.0) as (λ t. (b == e.0) ≡ t → has_birth (map (λ e. e.0) (cond (g e.0) (e ∷ leaves es) (leaves es))) b ≡ (is_some (cond t (Some e.1) (value_for nat_cmp es b)) && g b)) [
        | true ↦ λ t.
            let same : b ≡ e.0 = same_number b e.0 t in
            ap (λ u. has_birth (map (λ e. e.0) (cond u (e ∷ leaves es) (leaves es))) b) (ap g (sym same))
            ∙ elim (g b) as (λ u. has_birth (map (λ e. e.0) (leaves es)) b ≡ (is_some (value_for nat_cmp es b) && u) → has_birth (map (λ e. e.0) (cond u (e ∷ leaves es) (leaves es))) b ≡ u) [
              | true ↦ λ _. ap (λ u. u || has_birth (map (λ e. e.0) (leaves es)) b) t
              | false ↦ λ none. none ∙ and_false (is_some (value_for nat_cmp es b))
            ] rest
        | false ↦ λ t. elim (g e.0) as (λ u. has_birth (map (λ e. e.0) (cond u (e ∷ leaves es) (leaves es))) b ≡ (is_some (value_for nat_cmp es b) && g b)) [
          | true ↦ ap (λ u. u || has_birth (map (λ e. e.0) (leaves es)) b) t ∙ rest
          | false ↦ rest
        ]
      ] (unsigned_ties b e.0)
    where
      and_false : (x : Bool) → (x && false) ≡ false
      and_false true = refl
      and_false false = refl

  -- the blocks of those that stay and those that leave are those of all
  pub blocks_split : (block : ℕ) (xs : List Stocked) → count_of block (all_blocks (places_of (filter (λ x. not (g x.birth)) xs))) + count_of block (all_blocks (places_of (filter (λ x. g x.birth) xs))) ≡ count_of block (all_blocks (places_of xs))
  blocks_split block [] = refl
  blocks_split block (x ∷ xs) =
      let rest = blocks_split block xs in
      let stay = all_blocks (places_of (filter (λ x. not (g x.birth)) xs)) in
      let leave = all_blocks (places_of (filter (λ x. g x.birth) xs)) in
      elim (g x.birth) as (λ t. count_of block (all_blocks (places_of (cond (not t) (x ∷ filter (λ x. not (g x.birth)) xs) (filter (λ x. not (g x.birth)) xs)))) + count_of block (all_blocks (places_of (cond t (x ∷ filter (λ x. g x.birth) xs) (filter (λ x. g x.birth) xs)))) ≡ count_of block (x.blocks ++ all_blocks (places_of xs))) [
        | true ↦ omega (arith, rest, count-append block x.blocks leave, count-append block x.blocks (all_blocks (places_of xs)))
        | false ↦ omega (arith, rest, count-append block x.blocks stay, count-append block x.blocks (all_blocks (places_of xs)))
      ]

  abbrev runs_of : Places → ℕ × Known → ℕ
  runs_of places = λ e. length (runs_in places e.0)

  pub runs_split : (places after : Places) → ((b : ℕ) → g b ≡ false → runs_in after b ≡ runs_in places b) → (known : KnownMap)
      → sum_by (runs_of after) (stays known) + sum_by (λ x. length x.runs) (map (gone_in places) (leaves known)) ≡ sum_by (runs_of places) known
  runs_split places after same [] = refl
  runs_split places after same (e ∷ known) =
      let rest = runs_split places after same known in
      let gone = map (gone_in places) (leaves known) in
      elim (g e.0) as (λ t. g e.0 ≡ t → sum_by (runs_of after) (cond (not t) (e ∷ stays known) (stays known)) + sum_by (λ x. length x.runs) (map (gone_in places) (cond t (e ∷ leaves known) (leaves known))) ≡ sum_by (runs_of places) (e ∷ known)) [
        | true ↦ λ _. omega (arith, rest, sum_by-cons (λ (x : BirthRuns). length x.runs) (gone_in places e) gone, sum_by-cons (runs_of places) e known)
        | false ↦ λ is. omega (arith, rest, sum_by-cons (runs_of after) e (stays known), sum_by-cons (runs_of places) e known, ap length (same e.0 is))
      ] refl

  module _ (places after : Places) (moved : (b : ℕ) → fin.get after b ≡ cond (not (g b)) (fin.get places b) None) where
    pub same_runs : (b : ℕ) → g b ≡ false → runs_in after b ≡ runs_in places b
    same_runs b kept = ap (λ x. unwrap_or x []) (moved b ∙ ap (λ t. cond (not t) (fin.get places b) None) kept)

    pub stocked_stays : (known : KnownMap) → map (stocked_in after) (stays known) ≡ filter (λ x. not (g x.birth)) (map (stocked_in places) known)
    stocked_stays [] = refl
    stocked_stays (e ∷ known) =
        let rest = stocked_stays known in
        elim (g e.0) as (λ t. g e.0 ≡ t → map (stocked_in after) (cond (not t) (e ∷ stays known) (stays known)) ≡ cond (not t) (stocked_in places e ∷ filter (λ x. not (g x.birth)) (map (stocked_in places) known)) (filter (λ x. not (g x.birth)) (map (stocked_in places) known))) [
          | true ↦ λ _. rest
          | false ↦ λ kept.
              ap (λ rs. record { birth = e.0; content = record { bytes = e.1.content; is_shared = e.1.is_shared }; blocks = blocks_in rs } ∷ map (stocked_in after) (stays known)) (same_runs e.0 kept)
              ∙ ap (λ (xs : List Stocked). stocked_in places e ∷ xs) rest
        ] refl

    pub kept_stays : (known : KnownMap) → AllByRecursion (λ e. IsKept e.1 (runs_in places e.0)) known → AllByRecursion (λ e. IsKept e.1 (runs_in after e.0)) (stays known)
    kept_stays [] kept = tt
    kept_stays (e ∷ known) kept =
        let rest = kept_stays known kept.1 in
        elim (g e.0) as (λ t. g e.0 ≡ t → AllByRecursion (λ e. IsKept e.1 (runs_in after e.0)) (cond (not t) (e ∷ stays known) (stays known))) [
          | true ↦ λ _. rest
          | false ↦ λ is. (subst (IsKept e.1) (sym (same_runs e.0 is)) kept.0, rest)
        ] refl

  pub placed_leaves : (places : Places) (known : KnownMap) → map placed_at (map (gone_in places) (leaves known)) ≡ places_of (filter (λ x. g x.birth) (map (stocked_in places) known))
  placed_leaves places [] = refl
  placed_leaves places (e ∷ known) =
      let rest = placed_leaves places known in
      elim (g e.0) as (λ t. map placed_at (map (gone_in places) (cond t (e ∷ leaves known) (leaves known))) ≡ places_of (cond t (stocked_in places e ∷ filter (λ x. g x.birth) (map (stocked_in places) known)) (filter (λ x. g x.birth) (map (stocked_in places) known)))) [
        | true ↦ ap (λ (xs : List Placed). record { birth = e.0; blocks = blocks_in (runs_in places e.0) } ∷ xs) rest
        | false ↦ rest
      ]

  pub whole_leaves : (places : Places) (known : KnownMap) → AllByRecursion (λ e. IsKept e.1 (runs_in places e.0)) known → AllByRecursion IsWhole (map (gone_in places) (leaves known))
  whole_leaves places [] kept = tt
  whole_leaves places (e ∷ known) kept =
      let rest = whole_leaves places known kept.1 in
      elim (g e.0) as (λ t. AllByRecursion IsWhole (map (gone_in places) (cond t (e ∷ leaves known) (leaves known)))) [
        | true ↦ (record { maximal = kept.0.maximal; some = kept.0.some }, rest)
        | false ↦ rest
      ]

-- ---- births whose last holder lets them go
below-filter : (p : ℕ → Bool) (x : ℕ) (bs : List ℕ) → IsBelowAll x bs → IsBelowAll x (filter p bs)
below-filter p x [] below = tt
below-filter p x (b ∷ bs) below =
    let rest = below-filter p x bs below.1 in
    elim (p b) as (λ t. IsBelowAll x (cond t (b ∷ filter p bs) (filter p bs))) [ true ↦ (below.0, rest) | false ↦ rest ]

rising-filter : (p : ℕ → Bool) (bs : List ℕ) → IsRising bs → IsRising (filter p bs)
rising-filter p [] rising = tt
rising-filter p (b ∷ bs) rising =
    let rest = rising-filter p bs rising.1 in
    elim (p b) as (λ t. IsRising (cond t (b ∷ filter p bs) (filter p bs))) [ true ↦ (below-filter p b bs rising.0, rest) | false ↦ rest ]

module _ (l : LedgerView) (index : Contents) (known : KnownMap) (next : ℕ) (holder : Holder) (births : List ℕ) (are : AreBirths l index known next) (rising : IsRising (held_by l.holdings holder)) where
  abbrev pub after : Holdings
  after = with_births l.holdings holder births

  abbrev pub gone : ℕ → Bool
  gone = has_left l.holdings after

  known_gone : (b : ℕ) → gone b ≡ (is_some (value_for nat_cmp known b) && gone b)
  known_gone b =
      elim (gone b) as (λ t. gone b ≡ t → t ≡ (is_some (value_for nat_cmp known b) && t)) [
        | true ↦ λ is. ap (λ t. t && true) (sym (are.live b (both_first (is_live l.holdings b) (not (is_live after b)) is)))
        | false ↦ λ _. sym (and_false (is_some (value_for nat_cmp known b)))
      ] refl
    where
      and_false : (x : Bool) → (x && false) ≡ false
      and_false true = refl
      and_false false = refl

  pub gone_births : unheld_births l.holdings holder births ≡ map (λ e. e.0) (leaves gone known)
  gone_births =
      same_rising (unheld_births l.holdings holder births) (map (λ e. e.0) (leaves gone known))
      (rising-filter (λ b. number_of_holders b after == 0) (held_by l.holdings holder) rising)
      (rising_keys (leaves gone known) (is_sorted-where_key nat_cmp gone known are.rising))
      (λ b. unheld_is l.holdings holder births b ∙ known_gone b ∙ sym (has_leaves gone known b))

  pub few_gone : length (unheld_births l.holdings holder births) + length (stays gone known) ≡ length known
  few_gone = omega (arith, ap length gone_births, length-map {B = ℕ} (leaves gone known) (λ e. e.0), length-filter_both (λ (e : ℕ × Known). gone e.0) (λ e. not (gone e.0)) (λ _. refl) known)

  runs_of_gone : (es : KnownMap) → map (λ b. record { birth = b; runs = unwrap_or (fin.get l.places b) [] }) (map (λ e. e.0) es) ≡ map (gone_in gone l.places) es
  runs_of_gone [] = refl
  runs_of_gone (e ∷ es) = ap (λ (xs : List BirthRuns). record { birth = e.0; runs = unwrap_or (fin.get l.places e.0) [] } ∷ xs) (runs_of_gone es)

  pub gone_places : unheld_places l holder births ≡ map (gone_in gone l.places) (leaves gone known)
  gone_places = ap (map (λ b. record { birth = b; runs = unwrap_or (fin.get l.places b) [] })) gone_births ∙ runs_of_gone (leaves gone known)

  pub places_moved : (b : ℕ) → fin.get (with_holding l holder births).places b ≡ cond (not (gone b)) (fin.get l.places b) None
  places_moved b =
      get-retain_keys l.places (λ q. not (has_birth (unheld_births l.holdings holder births) q)) b (λ q tie. ap (λ n. not (has_birth (unheld_births l.holdings holder births) n)) (sym (nat_cmp-IsAntisymmetric b q tie)))
      ∙ ap (λ t. cond (not t) (fin.get l.places b) None) (unheld_is l.holdings holder births b)

  births_listed : (bs : List ℕ) → map {B = ℕ} (λ (x : BirthRuns). x.birth) (map (λ b. record { birth = b; runs = unwrap_or (fin.get l.places b) [] }) bs) ≡ bs
  births_listed [] = refl
  births_listed (b ∷ bs) = ap (λ (cs : List ℕ). b ∷ cs) (births_listed bs)

  pub without_gone : {X : Type 0} (es : List (ℕ × X)) → without_births es (unheld_places l holder births) ≡ stays gone es
  without_gone es =
      ap (λ (bs : List ℕ). filter (λ (e : ℕ × _). not (has_birth bs e.0)) es) (births_listed (unheld_births l.holdings holder births))
      ∙ filter_agree (λ (e : ℕ × _). not (has_birth (unheld_births l.holdings holder births) e.0)) (λ e. not (gone e.0)) (λ e. ap not (unheld_is l.holdings holder births e.0)) es

  still : (t : Bool) (x : Option Known) → t ≡ false → is_some x ≡ true → is_some (cond (not t) x None) ≡ true
  still true x kept some = absurd cc
  still false x kept some = some

  none_of : (x : Bool) → x ≡ true → (y : Bool) → (y && not x) ≡ false
  none_of true is true = refl
  none_of true is false = refl
  none_of false is y = absurd cc

  pub births_leave : ((b : ℕ) → has_birth births b ≡ true → is_some (value_for nat_cmp known b) ≡ true) → AreBirths (with_holding l holder births) (stays gone index) (stays gone known) next
  births_leave stocked = record {
    rising = is_sorted-where_key nat_cmp (λ q. not (gone q)) known are.rising;
    below = below_stays gone next known are.below;
    placed = λ b.
        ap is_some (places_moved b) ∙ same_answer (not (gone b)) (fin.get l.places b) (value_for nat_cmp known b) (are.placed b) ∙ ap is_some (sym (value_stays gone known b));
    live = λ b live.
        let some : is_some (value_for nat_cmp known b) ≡ true = ⊎_elim (stocked b) (are.live b) (live_before l.holdings holder births b live) in
        ap is_some (value_stays gone known b) ∙ still (gone b) (value_for nat_cmp known b) (none_of (is_live after b) live (is_live l.holdings b)) some;
    indexed = ap (stays gone) are.indexed ∙ shared_stays gone known;
  }
    where
      same_answer : (t : Bool) (x : Option (List Run)) (y : Option Known) → is_some x ≡ is_some y → is_some (cond t x None) ≡ is_some (cond t y None)
      same_answer true x y same = same
      same_answer false x y same = refl

-- ---- a stock once a holder holds other births
whole_both : (xs ys : List BirthRuns) → AllByRecursion IsWhole xs → AllByRecursion IsWhole ys → AllByRecursion IsWhole (xs ++ ys)
whole_both [] ys are also = also
whole_both (x ∷ xs) ys are also = (are.0, whole_both xs ys are.1 also)

module _ (ledger ledger_after : Roomy LedgerView) (index : Roomy Contents) (known known_after : Roomy KnownMap) (left left_after : Roomy (List BirthRuns)) (parked : Roomy (List Run)) (next runs room : ℕ) (holder : Holder) (births : List ℕ)
    (stands : IsStock ledger index known left parked next runs room) (rising : IsRising (held_by ledger.held.holdings holder))
    (held : ledger_after.held ≡ with_holding ledger.held holder births) (also_left : left_after.held ≡ left.held ++ unheld_places ledger.held holder births) where
  abbrev l : LedgerView
  l = ledger.held

  abbrev es : KnownMap
  es = known.held

  abbrev g : ℕ → Bool
  g = has_left l.holdings (with_births l.holdings holder births)

  abbrev goes : List BirthRuns
  goes = map (gone_in g l.places) (leaves g es)

  places_are : unheld_places l holder births ≡ goes
  places_are = gone_places l index.held es next holder births stands.births rising

  now_left : left_after.held ≡ left.held ++ goes
  now_left = also_left ∙ ap (λ (xs : List BirthRuns). left.held ++ xs) places_are

  moved : (b : ℕ) → fin.get ledger_after.held.places b ≡ cond (not (g b)) (fin.get l.places b) None
  moved b = ap (λ v. fin.get v.places b) held ∙ places_moved l index.held es next holder births stands.births rising b

  -- what is seen of it
  pub stock_left : known_after.held ≡ without_births es (unheld_places l holder births) → stock_in ledger_after.held known_after.held left_after.held parked.held next ≡ with_holdings (stock_in l es left.held parked.held next) (with_births l.holdings holder births)
  stock_left knows =
      let stay = knows ∙ without_gone l index.held es next holder births stands.births rising es in
      let stocked : map (stocked_in ledger_after.held.places) known_after.held ≡ filter (λ x. not (g x.birth)) (map (stocked_in l.places) es) =
      ap (map (stocked_in ledger_after.held.places)) stay ∙ stocked_stays g l.places ledger_after.held.places moved es in
      let leave : map placed_at left_after.held ≡ map placed_at left.held ++ places_of (filter (λ x. g x.birth) (map (stocked_in l.places) es)) =
      ap (map placed_at) now_left ∙ map-append placed_at left.held goes ∙ ap (λ (xs : List Placed). map placed_at left.held ++ xs) (placed_leaves g l.places es) in
      λ i. record { holdings = (held i).holdings; next = next; stocked = stocked i; left = leave i; parked = blocks_in parked.held }

  pub stock_after : (index_after : Roomy Contents) (added rest : ℕ) → known_after.held ≡ without_births es (unheld_places l holder births) → index_after.held ≡ without_births index.held (unheld_places l holder births) → ((b : ℕ) → has_birth births b ≡ true → is_some (value_for nat_cmp es b) ≡ true)
      → ledger.spare ≤ ledger_after.spare + added → index.spare ≤ index_after.spare → known.spare ≤ known_after.spare → left.spare ≤ left_after.spare + length (unheld_births l.holdings holder births) → rest + added ≤ room
      → IsStock ledger_after index_after known_after left_after parked next runs rest
  stock_after index_after added rest knows finds stocked ledger_room index_room known_room left_room enough =
      let stay = knows ∙ without_gone l index.held es next holder births stands.births rising es in
      let shared = finds ∙ without_gone l index.held es next holder births stands.births rising index.held in
      let rooms = stands.rooms in
      let all = map (stocked_in l.places) es in
      record {
        births = subst (λ fs. AreBirths ledger_after.held index_after.held fs next) (sym stay)
            (subst (λ contents. AreBirths ledger_after.held contents (stays g es) next) (sym shared)
            (subst (λ v. AreBirths v (stays g index.held) (stays g es) next) (sym held) (births_leave l index.held es next holder births stands.births rising stocked)));
        blocks = subst (λ fs. AreBlocks ledger_after.held fs left_after.held parked.held) (sym stay) (subst (λ xs. AreBlocks ledger_after.held (stays g es) xs parked.held) (sym now_left) (record {
          kept = kept_stays g l.places ledger_after.held.places moved es stands.blocks.kept;
          whole = whole_both left.held goes stands.blocks.whole (whole_leaves g l.places es stands.blocks.kept);
          once = λ block.
              let stayed = all_blocks (places_of (map (stocked_in ledger_after.held.places) (stays g es))) in
              let before = all_blocks (map placed_at left.held) in
              let parts = blocks_in parked.held in
              let went : all_blocks (map placed_at (left.held ++ goes)) ≡ before ++ all_blocks (places_of (filter (λ x. g x.birth) all)) =
              ap all_blocks (map-append placed_at left.held goes) ∙ flat_map-append (λ (x : Placed). x.blocks) (map placed_at left.held) (map placed_at goes)
              ∙ ap (λ xs. before ++ all_blocks xs) (placed_leaves g l.places es) in
              omega (
                arith,
                stands.blocks.once block,
                blocks_split g block all,
                ap (λ xs. count_of block (all_blocks (places_of xs))) (stocked_stays g l.places ledger_after.held.places moved es),
                count-append block stayed (all_blocks (map placed_at (left.held ++ goes)) ++ parts),
                count-append block (all_blocks (map placed_at (left.held ++ goes))) parts,
                ap (count_of block) went,
                count-append block before (all_blocks (places_of (filter (λ x. g x.birth) all))),
                count-append block (all_blocks (places_of all)) (before ++ parts),
                count-append block before parts,
              );
        }));
        counted = omega (
          arith,
          stands.counted,
          ap (λ fs. run_count ledger_after.held.places fs left_after.held) stay,
          ap (run_count ledger_after.held.places (stays g es)) now_left,
          runs_split g l.places ledger_after.held.places (same_runs g l.places ledger_after.held.places moved) es,
          sum_by-append (λ (x : BirthRuns). length x.runs) left.held goes,
        );
        rooms = record {
          ledger_room = omega (arith, rooms.ledger_room, ledger_room, enough);
          index_room = omega (arith, enough, rooms.index_room, index_room);
          known_room = omega (arith, enough, rooms.known_room, known_room);
          left_room = omega (arith, enough, rooms.left_room, left_room, few_gone l index.held es next holder births stands.births rising, ap length stay);
          parked_room = omega (arith, enough, rooms.parked_room);
          birth_room = omega (arith, enough, rooms.birth_room);
          run_number = omega (arith, enough, rooms.run_number);
        };
      }

-- those that a call puts at the end of a list
pub last_put : (before more all shown : List BirthRuns) (from : ℕ) → from ≡ length before → shown ≡ all → all ≡ before ++ more → take (length shown - from) (drop from shown) ≡ more
last_put before more all shown from is shows put =
    let rest : drop from shown ≡ more = ap (λ n. drop n shown) is ∙ ap (drop (length before)) (shows ∙ put) ∙ drop_front before more in
    ap (take (length shown - from)) rest ∙ take_all (length shown - from) more (omega (arith, is, ap length (shows ∙ put), length-append before more))
  where
    drop_front : (xs ys : List BirthRuns) → drop (length xs) (xs ++ ys) ≡ ys
    drop_front [] ys = refl
    drop_front (x ∷ xs) ys = drop_front xs ys
