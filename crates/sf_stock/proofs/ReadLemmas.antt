-- What is read of a stock.
use Rattle.std.proofs.Common.{◌≡◌, ℕ, Bool, true, false, cond, not, List, [], ◌∷◌, map, length, Some, None, refl, sym, ap, ◌∙◌, arith}
use Rattle.std.specs.Prelude.{filter, ◌==◌}
use Rattle.std.specs.List.{AllByRecursion, sum_by}
use Rattle.std.specs.Option.{option_map}
use Rattle.std.specs.Ordering.{nat_cmp, eq_by_cmp}
use Rattle.std.specs.Cmp.{nat_cmp_total, unsigned_ties}
use Rattle.std.specs.FinMap as fin
use Rattle.std.specs.FinMap.{nat_cmp-IsAntisymmetric, entries, entries_sorted, get-entries, get-retain_keys}
use Rattle.std.specs.FinMap.Entries.{is_sorted-where_key, find-where_key, same_entries}
use Rattle.std.proofs.lemmas.List.{length-append}
use Rattle.std.proofs.lemmas.List.Sums.{sum_by-cons}
use Rattle.sf_types.specs.declared.holder.Holder.{Holder}
use Rattle.sf_types.specs.declared.run.Run.{Run}
use Rattle.sf_types.specs.Space.BlockRuns.{blocks_in}
use Rattle.sf_types.specs.Space.Placings.{all_blocks}
use Rattle.sf_types.proofs.NumberLemmas.{same_number}
use Rattle.sf_room_map.specs.Entries.{value_for}
use Rattle.sf_dedup.specs.declared.print.Print.{Print}
use Rattle.sf_dedup.specs.Prints.{print_of}
use Rattle.sf_dedup.specs.Contents.{Contents}
use Rattle.sf_lifetimes.specs.Ledgers.{Places, LedgerView, is_live, live_places, live_blocks, without_holders, freed_by}
use Rattle.sf_stock.specs.declared.known.Known.{Known}
use Rattle.sf_stock.specs.Stocks.{Stocked, places_of, stocked_at, block_count, has_left}
use Rattle.sf_stock.specs.Inside.Keeps.{KnownMap, AreBirths, IsKept, runs_in, stocked_in}
use Rattle.sf_stock.proofs.KeptLemmas.{placed_entry, entries_are}
use Rattle.sf_stock.proofs.ForgetLemmas.{filter_both}

-- ---- what is known of a birth
pub stocked_find : (places : Places) (known : KnownMap) (b : ℕ) → stocked_at (map (stocked_in places) known) b ≡ option_map (λ x. stocked_in places (b, x)) (value_for nat_cmp known b)
stocked_find places [] b = refl
stocked_find places (e ∷ known) b =
    let rest = stocked_find places known b in
    elim (eq_by_cmp nat_cmp b e.0) as (λ t. (b == e.0) ≡ t → cond (b == e.0) (Some (stocked_in places e)) (stocked_at (map (stocked_in places) known) b) ≡ option_map {U = Stocked} (λ (x : Known). stocked_in places (b, x)) (cond t (Some e.1) (value_for nat_cmp known b))) [
      | true ↦ λ t.
          let same : b ≡ e.0 = same_number b e.0 t in
          ap (λ u. cond u (Some (stocked_in places e)) (stocked_at (map (stocked_in places) known) b)) t ∙ ap (λ k. Some (stocked_in places (k, e.1))) (sym same)
      | false ↦ λ t. ap (λ u. cond u (Some (stocked_in places e)) (stocked_at (map (stocked_in places) known) b)) t ∙ rest
    ] (unsigned_ties b e.0)

-- ---- the blocks of some births
pub kept_entries : {X : Type 0} (m : fin.FinMap nat_cmp X) (p : ℕ → Bool) → entries (fin.retain_keys m p) ≡ filter (λ e. p e.0) (entries m)
kept_entries m p =
    same_entries nat_cmp nat_cmp_total nat_cmp-IsAntisymmetric (entries (fin.retain_keys m p)) (filter (λ e. p e.0) (entries m)) (entries_sorted (fin.retain_keys m p)) (is_sorted-where_key nat_cmp p (entries m) (entries_sorted m))
    (λ q.
    sym (get-entries (fin.retain_keys m p) q)
    ∙ get-retain_keys m p q (λ x tie. ap p (sym (nat_cmp-IsAntisymmetric q x tie)))
    ∙ ap (λ x. cond (p q) x None) (get-entries m q)
    ∙ sym (find-where_key nat_cmp p q (λ x tie. ap p (sym (nat_cmp-IsAntisymmetric q x tie))) (entries m)))

abbrev size : List Run → ℕ
size = λ runs. length (blocks_in runs)

sizes : (places : Places) (p : ℕ → Bool) (known : KnownMap) → sum_by size (map (λ e. e.1) (filter (λ e. p e.0) (map (placed_entry places) known))) ≡ block_count (filter (λ x. p x.birth) (map (stocked_in places) known))
sizes places p [] = refl
sizes places p (e ∷ known) =
    let rest = sizes places p known in
    let kept = filter (λ (d : ℕ × List Run). p d.0) (map (placed_entry places) known) in
    let also = filter (λ (x : Stocked). p x.birth) (map (stocked_in places) known) in
    elim (p e.0) as (λ t. sum_by size (map (λ d. d.1) (cond t (placed_entry places e ∷ kept) kept)) ≡ block_count (cond t (stocked_in places e ∷ also) also)) [
      | true ↦ omega (arith, rest, sum_by-cons size (runs_in places e.0) (map (λ d. d.1) kept), length-append (blocks_in (runs_in places e.0)) (all_blocks (places_of also)))
      | false ↦ rest
    ]

module _ (l : LedgerView) (index : Contents) (known : KnownMap) (next : ℕ) (are : AreBirths l index known next) where
  sized : (p : ℕ → Bool) → sum_by size (map (λ e. e.1) (filter (λ e. p e.0) (entries l.places))) ≡ block_count (filter (λ x. p x.birth) (map (stocked_in l.places) known))
  sized p = ap (λ (es : List (ℕ × List Run)). sum_by size (map (λ e. e.1) (filter (λ e. p e.0) es))) (entries_are l.places known are.rising are.placed) ∙ sizes l.places p known

  pub live_are : live_blocks l ≡ block_count (filter (λ x. is_live l.holdings x.birth) (map (stocked_in l.places) known))
  live_are = ap (λ (es : List (ℕ × List Run)). sum_by size (map (λ e. e.1) es)) (kept_entries l.places (is_live l.holdings)) ∙ sized (is_live l.holdings)

  pub freed_are : (holders : List Holder) → freed_by l holders ≡ block_count (filter (λ x. has_left l.holdings (without_holders l.holdings holders) x.birth) (map (stocked_in l.places) known))
  freed_are holders =
      let gone : ℕ → Bool = λ b. not (is_live (without_holders l.holdings holders) b) in
      ap (λ (es : List (ℕ × List Run)). sum_by size (map (λ e. e.1) es)) (kept_entries (live_places l) gone)
      ∙ ap (λ (es : List (ℕ × List Run)). sum_by size (map (λ e. e.1) (filter (λ e. gone e.0) es))) (kept_entries l.places (is_live l.holdings))
      ∙ ap (λ (es : List (ℕ × List Run)). sum_by size (map (λ e. e.1) es)) (filter_both (λ (e : ℕ × List Run). gone e.0) (λ e. is_live l.holdings e.0) (entries l.places))
      ∙ sized (has_left l.holdings (without_holders l.holdings holders))

pub bytes_at : (places : Places) (known : KnownMap) (b : ℕ) → option_map (λ (x : Known). x.content) (value_for nat_cmp known b) ≡ option_map (λ x. x.content.bytes) (stocked_at (map (stocked_in places) known) b)
bytes_at places known b =
    elim (value_for nat_cmp known b) as (λ v. option_map (λ (x : Known). x.content) v ≡ option_map {U = List ℕ} (λ (x : Stocked). x.content.bytes) (option_map (λ (x : Known). stocked_in places (b, x)) v)) [ None ↦ refl | Some x ↦ refl ]
    ∙ ap (option_map {U = List ℕ} (λ (x : Stocked). x.content.bytes)) (sym (stocked_find places known b))

prints_kept : (places : Places) (known : KnownMap) (b : ℕ) → AllByRecursion (λ e. IsKept e.1 (runs_in places e.0)) known → option_map (λ (x : Known). x.print) (value_for nat_cmp known b) ≡ option_map (λ (x : Known). print_of x.content) (value_for nat_cmp known b)
prints_kept places [] b kept = refl
prints_kept places (e ∷ known) b kept =
    elim (eq_by_cmp nat_cmp b e.0) as (λ t. option_map (λ (x : Known). x.print) (cond t (Some e.1) (value_for nat_cmp known b)) ≡ option_map (λ (x : Known). print_of x.content) (cond t (Some e.1) (value_for nat_cmp known b))) [
      | true ↦ ap (λ (x : Print). Some x) kept.0.printed
      | false ↦ prints_kept places known b kept.1
    ]

pub print_at : (places : Places) (known : KnownMap) (b : ℕ) → AllByRecursion (λ e. IsKept e.1 (runs_in places e.0)) known → option_map (λ (x : Known). x.print) (value_for nat_cmp known b) ≡ option_map (λ x. print_of x.content.bytes) (stocked_at (map (stocked_in places) known) b)
print_at places known b kept =
    prints_kept places known b kept
    ∙ elim (value_for nat_cmp known b) as (λ v. option_map (λ (x : Known). print_of x.content) v ≡ option_map {U = Print} (λ (x : Stocked). print_of x.content.bytes) (option_map (λ (x : Known). stocked_in places (b, x)) v)) [ None ↦ refl | Some x ↦ refl ]
    ∙ ap (option_map {U = Print} (λ (x : Stocked). print_of x.content.bytes)) (sym (stocked_find places known b))
