-- What is known of births as entries whose births rise.
use Rattle.std.proofs.Common.{◌≡◌, ℕ, ◌+◌, ◌<◌, ◌≤◌, true, false, cond, ◌||◌, ◌&&◌, List, [], ◌∷◌, ◌++◌, map, Option, Some, None, refl, sym, ap, subst, ◌∙◌, arith}
use Rattle.std.specs.Prelude.{T, is_some, find, flat_map, bytes_eq, unwrap_or, ◌==◌}
use Rattle.std.specs.List.{AllByRecursion, cons_option}
use Rattle.std.specs.Option.{option_map}
use Rattle.std.specs.declared.cmp.Ordering.TheVariants.{Less, Greater}
use Rattle.std.specs.Ordering.{nat_cmp, is_eq, eq_by_cmp, match_ordering}
use Rattle.std.specs.Cmp.{nat_cmp_total, nat_cmp_is, unsigned_ties}
use Rattle.std.specs.FinMap as fin
use Rattle.std.specs.FinMap.{nat_cmp-IsAntisymmetric, entries, entries_sorted, get-entries}
use Rattle.std.specs.FinMap.Entries.{is_sorted, below_all, same_entries}
use Rattle.sf_types.specs.declared.run.Run.{Run}
use Rattle.sf_types.specs.Space.BlockRuns.{blocks_in}
use Rattle.sf_types.specs.Space.Placings.{all_blocks}
use Rattle.sf_types.proofs.BoolLemmas.{both, first, second}
use Rattle.sf_types.proofs.NumberLemmas.{same_number}
use Rattle.sf_room_map.specs.Entries.{value_for, with_value}
use Rattle.sf_room_map.proofs.EntryLemmas.{put_is}
use Rattle.sf_dedup.specs.Contents.{birth_with}
use Rattle.sf_lifetimes.specs.Ledgers.{Places, occupied_blocks}
use Rattle.sf_stock.specs.Stocks.{Stocked, is_stocked, places_of, shared_birth, is_shared_with}
use Rattle.sf_stock.specs.declared.known.Known.{Known}
use Rattle.sf_stock.specs.Inside.Keeps.{KnownMap, runs_in, stocked_in, shared_in}

abbrev pub AreBelow : {X : Type 0} → ℕ → List (ℕ × X) → Type 0
AreBelow next es = AllByRecursion (λ e. e.0 < next) es

greater : (b k : ℕ) → k < b → nat_cmp b k ≡ Greater
greater b k less = sym (nat_cmp_is b k Greater less)

-- ---- a birth above all
pub put_last : {X : Type 0} (es : List (ℕ × X)) (b : ℕ) (v : X) → AreBelow b es → with_value nat_cmp es b v ≡ es ++ (b, v) ∷ []
put_last [] b v below = refl
put_last (e ∷ es) b v below =
    ap (λ r. match_ordering r ((b, v) ∷ e ∷ es) ((e.0, v) ∷ es) (e ∷ with_value nat_cmp es b v)) (greater b e.0 below.0)
    ∙ ap (λ (rest : List (ℕ × _)). e ∷ rest) (put_last es b v below.1)

pub absent_last : {X : Type 0} (es : List (ℕ × X)) (b : ℕ) → AreBelow b es → value_for nat_cmp es b ≡ None
absent_last [] b below = refl
absent_last (e ∷ es) b below = ap (λ r. cond (is_eq r) (Some e.1) (value_for nat_cmp es b)) (greater b e.0 below.0) ∙ absent_last es b below.1

pub sorted_last : {X : Type 0} (es : List (ℕ × X)) (b : ℕ) (v : X) → AreBelow b es → T (is_sorted nat_cmp es) → T (is_sorted nat_cmp (es ++ (b, v) ∷ []))
sorted_last es b v below sorted =
    subst (λ fs. T (is_sorted nat_cmp fs)) (sym (put_is nat_cmp es b v) ∙ put_last es b v below) (fin.Entries.is_sorted-put nat_cmp nat_cmp_total b v es sorted)

pub below_weaker : {X : Type 0} (es : List (ℕ × X)) (b c : ℕ) → b ≤ c → AreBelow b es → AreBelow c es
below_weaker [] b c le below = tt
below_weaker (e ∷ es) b c le below = (omega (arith, below.0, le), below_weaker es b c le below.1)

pub below_last : {X : Type 0} (es : List (ℕ × X)) (b : ℕ) (v : X) → AreBelow b es → AreBelow (b + 1) (es ++ (b, v) ∷ [])
below_last [] b v below = (omega arith, tt)
below_last (e ∷ es) b v below = (omega (arith, below.0), below_last es b v below.1)

pub not_itself : (q b : ℕ) → q < b → eq_by_cmp nat_cmp q b ≡ false
not_itself q b less = ap is_eq (sym (nat_cmp_is q b Less less))

-- ---- the shared contents
pub shared_below : (b : ℕ) (known : KnownMap) → AreBelow b known → AreBelow b (shared_in known)
shared_below b [] below = tt
shared_below b (e ∷ known) below =
    let rest = shared_below b known below.1 in
    elim e.1.is_shared as (λ t. AreBelow b (cons_option {X = ℕ × List ℕ} (cond t (Some (e.0, e.1.content)) None) (shared_in known))) [ true ↦ (below.0, rest) | false ↦ rest ]

-- what the index finds is what the stock has
pub found_is : (places : Places) (known : KnownMap) (bytes : List ℕ) → birth_with (shared_in known) bytes ≡ shared_birth (map (stocked_in places) known) bytes
found_is places [] bytes = refl
found_is places (e ∷ known) bytes =
    let x = e.1 in
    let later = found_is places known bytes in
    elim x.is_shared as (λ t.
    option_map {U = ℕ} (λ (d : ℕ × List ℕ). d.0) (find (λ (d : ℕ × List ℕ). bytes_eq d.1 bytes) (cons_option {X = ℕ × List ℕ} (cond t (Some (e.0, x.content)) None) (shared_in known)))
    ≡ option_map {U = ℕ} (λ (y : Stocked). y.birth) (cond (t && bytes_eq x.content bytes) (Some (stocked_in places e)) (find (is_shared_with bytes) (map (stocked_in places) known)))) [
      | true ↦ elim (bytes_eq x.content bytes) as (λ u.
          option_map {U = ℕ} (λ (d : ℕ × List ℕ). d.0) (cond u (Some (e.0, x.content)) (find (λ (d : ℕ × List ℕ). bytes_eq d.1 bytes) (shared_in known)))
          ≡ option_map {U = ℕ} (λ (y : Stocked). y.birth) (cond u (Some (stocked_in places e)) (find (is_shared_with bytes) (map (stocked_in places) known)))) [
            | true ↦ refl
            | false ↦ later
          ]
      | false ↦ later
    ]

-- ---- births that have a place
pub stocked_is : (places : Places) (known : KnownMap) (b : ℕ) → is_stocked (map (stocked_in places) known) b ≡ is_some (value_for nat_cmp known b)
stocked_is places [] b = refl
stocked_is places (e ∷ known) b =
    ap (λ t. t || is_stocked (map (stocked_in places) known) b) (unsigned_ties b e.0)
    ∙ elim (eq_by_cmp nat_cmp b e.0) as (λ t. (t || is_stocked (map (stocked_in places) known) b) ≡ is_some (cond t (Some e.1) (value_for nat_cmp known b))) [
      | true ↦ refl
      | false ↦ stocked_is places known b
    ]

-- the entries of the places, by what is known
abbrev pub placed_entry : Places → ℕ × Known → ℕ × List Run
placed_entry places e = (e.0, runs_in places e.0)

found_entry : (places : Places) (known : KnownMap) (q : ℕ) → fin.find nat_cmp q (map (placed_entry places) known) ≡ option_map (λ _. runs_in places q) (value_for nat_cmp known q)
found_entry places [] q = refl
found_entry places (e ∷ known) q =
    elim (eq_by_cmp nat_cmp q e.0) as (λ t. (q == e.0) ≡ t → cond t (Some (runs_in places e.0)) (fin.find nat_cmp q (map (placed_entry places) known)) ≡ option_map (λ _. runs_in places q) (cond t (Some e.1) (value_for nat_cmp known q))) [
      | true ↦ λ same. ap (λ k. Some (runs_in places k)) (sym (same_number q e.0 same))
      | false ↦ λ apart. found_entry places known q
    ] (unsigned_ties q e.0)

sorted_head : (places : Places) (b : ℕ) (known : KnownMap) → T (below_all nat_cmp b known) → T (below_all nat_cmp b (map (placed_entry places) known))
sorted_head places b [] below = tt
sorted_head places b (e ∷ known) below = both _ _ (first _ _ below) (sorted_head places b known (second _ _ below))

sorted_entries_of : (places : Places) (known : KnownMap) → T (is_sorted nat_cmp known) → T (is_sorted nat_cmp (map (placed_entry places) known))
sorted_entries_of places [] sorted = tt
sorted_entries_of places (e ∷ known) sorted = both _ _ (sorted_head places e.0 known (first _ _ sorted)) (sorted_entries_of places known (second _ _ sorted))

known_or_not : (x : Option (List Run)) (y : Option Known) → is_some x ≡ is_some y → x ≡ option_map (λ _. unwrap_or x []) y
known_or_not None None is = refl
known_or_not None (Some y) is = absurd cc
known_or_not (Some x) None is = absurd cc
known_or_not (Some x) (Some y) is = refl

pub entries_are : (places : Places) (known : KnownMap) → T (is_sorted nat_cmp known) → ((b : ℕ) → is_some (fin.get places b) ≡ is_some (value_for nat_cmp known b)) → entries places ≡ map (placed_entry places) known
entries_are places known sorted placed =
    same_entries nat_cmp nat_cmp_total nat_cmp-IsAntisymmetric (entries places) (map (placed_entry places) known) (entries_sorted places) (sorted_entries_of places known sorted)
    (λ q. sym (get-entries places q) ∙ known_or_not (fin.get places q) (value_for nat_cmp known q) (placed q) ∙ sym (found_entry places known q))

same_blocks : (places : Places) (known : KnownMap) → flat_map blocks_in (map {B = List Run} (λ e. e.1) (map (placed_entry places) known)) ≡ all_blocks (places_of (map (stocked_in places) known))
same_blocks places [] = refl
same_blocks places (e ∷ known) = ap (λ (bs : List ℕ). blocks_in (runs_in places e.0) ++ bs) (same_blocks places known)

-- the blocks of all places
pub occupied_are : (places : Places) (known : KnownMap) → T (is_sorted nat_cmp known) → ((b : ℕ) → is_some (fin.get places b) ≡ is_some (value_for nat_cmp known b)) → occupied_blocks places ≡ all_blocks (places_of (map (stocked_in places) known))
occupied_are places known sorted placed = ap (λ (es : List (ℕ × List Run)). flat_map blocks_in (map (λ e. e.1) es)) (entries_are places known sorted placed) ∙ same_blocks places known
