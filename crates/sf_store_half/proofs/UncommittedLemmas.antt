-- The blocks of births that occur in no row's current value.
use Rattle.std.proofs.Common.{◌≡◌, ℕ, ◌-◌, ◌≤◌, Bool, true, false, cond, List, [], ◌∷◌, length, Some, refl, sym, ap, subst, ◌∙◌, arith}
use Rattle.std.specs.Prelude.{All, not, filter}
use Rattle.std.specs.List.{AllByRecursion as Each}
use Rattle.std.specs.List.Sorted.{IsStrictlySortedBy}
use Rattle.std.specs.Map.{keys_of}
use Rattle.std.specs.Option.{option_map_or}
use Rattle.std.proofs.lemmas.List.Elements.{All-from_recursion, filter_agree, recursion_from_All}
use Rattle.std.proofs.lemmas.List.Sums.{sum_by-cons}
use Rattle.sf_types.specs.Values.Marks.{births_in}
use Rattle.sf_types.specs.Values.Names.{name_cmp}
use Rattle.sf_types.specs.Inside.Births.{rising_births}
use Rattle.sf_types.specs.Inside.NameMaps.{get}
use Rattle.sf_types.specs.Table.Parts.{Content}
use Rattle.sf_types.specs.Table.Versions.{present_rows}
use Rattle.sf_types.specs.Space.Contents.{blocks_of}
use Rattle.sf_types.specs.Space.Use.{blocks_of_birth, blocks_of_births, content_of}
use Rattle.sf_types.specs.Play.Blocks.{is_among}
use Rattle.sf_types.specs.Halves.Asks.{Half}
use Rattle.sf_types.specs.Halves.Flushes.{half_reach, table_of_half}
use Rattle.sf_types.proofs.VersionLemmas.{get-present, rising-present}
use Rattle.sf_laws.proofs.EachLemmas.{each_weaker, each-flat_map}
use Rattle.sf_laws.proofs.ReachLemmas.{each-rising, each_from_rising}
use Rattle.sf_lifetimes.specs.Ledgers.{has_birth}
use Rattle.sf_lifetimes.proofs.LedgerLemmas.{is_at}
use Rattle.sf_stock.specs.Stocks.{IsSound, Stocked, block_count, births_of, is_stocked, live_of}
use Rattle.sf_versions.specs.RowChanges.{last_value}
use Rattle.sf_versions.specs.VersionTables.{versions_of}
use Rattle.sf_store_half.specs.Fields.{Fields, Keeps}
use Rattle.sf_store_half.specs.Inside.Answered.{OfValue}
use Rattle.sf_store_half.specs.Reads.{births_of_rows, half_uncommitted, last_entries, last_rows}
use Rattle.sf_store_half.proofs.BlockLemmas.{count_next, count_split}
use Rattle.sf_store_half.proofs.FieldLemmas.{live_are_all}
use Rattle.sf_store_half.proofs.HeldReachLemmas.{each_found}
use Rattle.sf_store_half.proofs.KeptRowLemmas.{current_stocked}
use Rattle.sf_store_half.proofs.ReadLemmas.{last_named, rising_entries, rows_by_half}
use Rattle.sf_store_half.proofs.StockReachLemmas.{both_ways, holds_itself, stocked_are_reached}

-- a rising list has the same births
has_rising : (bs : List ℕ) (b : ℕ) → has_birth (rising_births bs) b ≡ has_birth bs b
has_rising bs b =
    both_ways (has_birth (rising_births bs) b) (has_birth bs b)
    (is_at (λ c. has_birth bs c ≡ true) b (rising_births bs) (each-rising (λ c. has_birth bs c ≡ true) bs (holds_itself bs)))
    (is_at (λ c. has_birth (rising_births bs) c ≡ true) b bs (each_from_rising (λ c. has_birth (rising_births bs) c ≡ true) bs (holds_itself (rising_births bs))))

-- the births of current values have places
pub current_births_stocked : (f : Fields) (h : Half) → Keeps f h → IsSound f.stock → IsStrictlySortedBy name_cmp (keys_of f.versions.rows) → All (λ b. is_stocked f.stock.stocked b ≡ true) (rising_births (births_of_rows (last_rows f.versions.rows)))
current_births_stocked f h keeps sound rising =
    let P : ℕ → Type 0 = λ b. is_stocked f.stock.stocked b ≡ true in
    let rows = f.versions.rows in
    let es = last_entries rows in
    let m = last_rows rows in
    let ordered = rising_entries rows rising in
    let own : Each (λ e. Each P (births_in e.1)) m =
    each_weaker (λ e. get m e.0 ≡ Some e.1) (λ e. Each P (births_in e.1)) m
    (λ e is.
    let value : last_value (versions_of rows e.0) ≡ Some e.1 = sym (get-present es e.0 ordered ∙ last_named rows e.0) ∙ is in
    recursion_from_All P (births_in e.1) (subst (OfValue P) value (current_stocked f h e.0 keeps sound)))
    (each_found m (rising-present es ordered)) in
    All-from_recursion P (rising_births (births_of_rows m)) (each-rising P (births_of_rows m) (each-flat_map P (λ e. births_in e.1) m own))

-- the blocks of those births that pass a test
filtered_use : (contents : List Content) (p : ℕ → Bool) (xs : List Stocked) → Each (λ x. content_of contents x.birth ≡ Some x.content) xs → Each (λ x. length x.blocks ≡ blocks_of (length x.content.bytes)) xs
    → block_count (filter (λ x. p x.birth) xs) ≡ blocks_of_births contents (filter p (births_of xs))
filtered_use contents p [] known counts = refl
filtered_use contents p (x ∷ xs) known counts =
    let rest = filtered_use contents p xs known.1 counts.1 in
    let own : blocks_of_birth contents x.birth ≡ blocks_of (length x.content.bytes) = ap (λ y. option_map_or (λ (c : Content). blocks_of (length c.bytes)) y 0) known.0 in
    elim (p x.birth) as (λ t. block_count (cond t (x ∷ filter (λ y. p y.birth) xs) (filter (λ y. p y.birth) xs)) ≡ blocks_of_births contents (cond t (x.birth ∷ filter p (births_of xs)) (filter p (births_of xs)))) [
      | true ↦ omega (arith, rest, own, counts.0, count_next x (filter (λ y. p y.birth) xs), sum_by-cons (blocks_of_birth contents) x.birth (filter p (births_of xs)))
      | false ↦ rest
    ]

-- the blocks of the births in reach, without those of current values, are those that no current value names
module _ (f : Fields) (h : Half) (live committed : ℕ) (births : List ℕ) (keeps : Keeps f h) (sound : IsSound f.stock) (rising : IsStrictlySortedBy name_cmp (keys_of f.versions.rows))
    (lives : live ≡ block_count (live_of f.stock)) (of : births ≡ rising_births (births_of_rows (last_rows f.versions.rows))) (is : committed ≡ block_count (filter (λ x. has_birth births x.birth) f.stock.stocked)) where
  whole : live ≡ block_count f.stock.stocked
  whole = lives ∙ ap block_count (live_are_all f.stock.holdings f.stock.stocked keeps.live)

  pub committed_within : committed ≤ live
  committed_within =
      let split = count_split (λ x. has_birth births x.birth) f.stock.stocked in
      let all = whole in
      omega (arith, split, all, is)

  pub uncommitted_is : live - committed ≡ half_uncommitted h
  uncommitted_is =
      let xs = f.stock.stocked in
      let split = count_split (λ x. has_birth births x.birth) xs in
      let all = whole in
      let left : live - committed ≡ block_count (filter (λ x. not (has_birth births x.birth)) xs) = omega (arith, split, all, is) in
      let rows : births_of_rows (last_rows f.versions.rows) ≡ births_of_rows (present_rows (table_of_half h)) = ap births_of_rows (rows_by_half f h keeps rising) in
      let same : (b : ℕ) → not (has_birth births b) ≡ not (is_among (births_of_rows (present_rows (table_of_half h))) b) = λ b.
      ap not (ap (λ (bs : List ℕ). has_birth bs b) of ∙ has_rising (births_of_rows (last_rows f.versions.rows)) b ∙ ap (λ (bs : List ℕ). has_birth bs b) rows)
      in
      left
      ∙ filtered_use h.contents (λ b. not (has_birth births b)) xs
      (recursion_from_All (λ (x : Stocked). content_of h.contents x.birth ≡ Some x.content) xs keeps.contents)
      (recursion_from_All (λ (x : Stocked). length x.blocks ≡ blocks_of (length x.content.bytes)) xs sound.counts)
      ∙ ap (λ (bs : List ℕ). blocks_of_births h.contents (filter (λ b. not (has_birth births b)) bs)) (stocked_are_reached f h keeps sound)
      ∙ ap (blocks_of_births h.contents) (filter_agree (λ b. not (has_birth births b)) (λ b. not (is_among (births_of_rows (present_rows (table_of_half h))) b)) same (half_reach h))
