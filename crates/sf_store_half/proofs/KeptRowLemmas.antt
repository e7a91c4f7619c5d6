-- What the kept versions of a row tell: what it holds, and that their births have places.
use Rattle.std.proofs.Common.{◌≡◌, ℕ, zero, suc, ◌+◌, ◌-◌, ◌≤◌, true, false, cond, List, [], ◌∷◌, length, take, drop, Option, Some, None, refl, sym, ap, subst, ◌∙◌, arith, ◌++◌}
use Rattle.std.specs.Prelude.{All, nat_le, ◌&&◌, is_none, filter, slice_get, slice_index_or}
use Rattle.std.specs.Option.{option_map, option_map_or}
use Rattle.std.proofs.lemmas.List.Elements.{All-from_recursion, All-nil, recursion_from_All}
use Rattle.sf_types.specs.Values.Marks.{Value, births_in}
use Rattle.sf_types.specs.Halves.Asks.{Half, births_with}
use Rattle.sf_laws.proofs.EachLemmas.{each_weaker, each-append}
use Rattle.sf_laws.proofs.ReachLemmas.{each-rising, kept_by_later}
use Rattle.sf_lifetimes.specs.Ledgers.{has_birth, held_by}
use Rattle.sf_stock.specs.Stocks.{IsSound, is_stocked}
use Rattle.sf_versions.specs.RowChanges.{RowChanges, RiseWithin, change_up_to, changes_of, last_value}
use Rattle.sf_store_half.specs.Fields.{Fields, Keeps, kept_versions, version_births}
use Rattle.sf_store_half.specs.Inside.Answered.{OfValue}
use Rattle.sf_store_half.proofs.LiveLemmas.{holder_live}
use Rattle.sf_store_half.proofs.StockReachLemmas.{holds_itself}
use Rattle.std.specs.List.{AllByRecursion as Each}
use Rattle.std.proofs.lemmas.Bool.Decides.{nat_tests}
use Rattle.std.proofs.lemmas.List.{take_all}
use Rattle.std.proofs.lemmas.Option.{get_or_from_slice_get}
use Rattle.sf_types.specs.declared.holder.Holder.{Holder}
use Rattle.sf_types.specs.declared.holder.Holder.TheVariants as holder
use Rattle.sf_types.specs.Inside.NameMaps.{get}
use Rattle.sf_types.specs.Table.Parts.{Rows, Table}
use Rattle.sf_types.specs.Table.Versions.{last_change, later_change, value_or_absent}
use Rattle.sf_types.specs.Space.Reach.{is_kept}
use Rattle.sf_types.specs.Halves.Flushes.{table_of_half}
use Rattle.sf_types.proofs.VersionLemmas.{none_before}
use Rattle.sf_laws.proofs.PositionLemmas.{at_drop}
use Rattle.sf_versions.specs.VersionTables.{versions_of}
use Rattle.sf_versions.proofs.TableLemmas.{last_up_to}

-- ---- what the row held after so many commits
none_of : (m : ℕ) → take {A = Rows} m [] ≡ []
none_of zero = refl
none_of (suc m) = refl

-- more commits name a row where fewer do
some_in_more : (cs : List Rows) (row : List ℕ) (m n : ℕ) → m ≤ n → is_none (last_change (take m cs) row) ≡ false → is_none (last_change (take n cs) row) ≡ false
some_in_more [] row m n less some = absurd (let none = ap (λ (xs : List Rows). is_none (last_change xs row)) (none_of m) in cc)
some_in_more (c ∷ cs) row zero n less some = absurd cc
some_in_more (c ∷ cs) row (suc m) zero less some = absurd (omega (arith, less))
some_in_more (c ∷ cs) row (suc m) (suc n) less some =
    elim (last_change (take m cs) row) as (λ o. last_change (take m cs) row ≡ o → is_none (later_change (get c row) o) ≡ false → is_none (later_change (get c row) (last_change (take n cs) row)) ≡ false) [
      | Some x ↦ λ is _. later_some (get c row) (last_change (take n cs) row) (some_in_more cs row m n (omega (arith, less)) (ap (λ (o : Option (Option Value)). is_none o) is))
      | None ↦ λ _ some. earlier_some (get c row) (last_change (take n cs) row) some
    ] refl some
  where
    later_some : (x y : Option (Option Value)) → is_none y ≡ false → is_none (later_change x y) ≡ false
    later_some x None some = absurd cc
    later_some x (Some y) some = refl

    earlier_some : (x y : Option (Option Value)) → is_none (later_change x None) ≡ false → is_none (later_change x y) ≡ false
    earlier_some x None some = some
    earlier_some x (Some y) some = refl

-- the change that a row's k + 1-st commit makes comes before those of later ones
first_of : (cs : List Rows) (c : Rows) (row : List ℕ) (n k : ℕ) (change : Option Value) → get c row ≡ Some change
    → later_change (cond (nat_le (k + 1) n) (Some change) None) (last_change (take (n - (k + 1)) cs) row) ≡ last_change (take (n - k) (c ∷ cs)) row
first_of cs c row n k change is =
    elim (nat_le (k + 1) n) as (λ t. nat_le (k + 1) n ≡ t → later_change (cond t (Some change) None) (last_change (take (n - (k + 1)) cs) row) ≡ last_change (take (n - k) (c ∷ cs)) row) [
      | true ↦ λ t.
          let more : suc (n - (k + 1)) ≡ n - k = grind (arith, nat_tests) in
          ap (λ o. later_change o (last_change (take (n - (k + 1)) cs) row)) (sym is) ∙ ap (λ m. last_change (take m (c ∷ cs)) row) more
      | false ↦ λ t.
          let none : n - (k + 1) ≡ 0 = grind (arith, nat_tests) in
          let also : 0 ≡ n - k = grind (arith, nat_tests) in
          ap (λ m. later_change None (last_change (take m cs) row)) none ∙ ap (λ m. last_change (take m (c ∷ cs)) row) also
    ] refl

unnamed : (cs : List Rows) (c : Rows) (row : List ℕ) (n k : ℕ) → get c row ≡ None → last_change (take (n - (k + 1)) cs) row ≡ last_change (take (n - k) (c ∷ cs)) row
unnamed cs c row n k is =
    elim (nat_le (k + 1) n) as (λ t. nat_le (k + 1) n ≡ t → last_change (take (n - (k + 1)) cs) row ≡ last_change (take (n - k) (c ∷ cs)) row) [
      | true ↦ λ t.
          let more : suc (n - (k + 1)) ≡ n - k = grind (arith, nat_tests) in
          sym (none_before (last_change (take (n - (k + 1)) cs) row)) ∙ ap (λ o. later_change o (last_change (take (n - (k + 1)) cs) row)) (sym is) ∙ ap (λ m. last_change (take m (c ∷ cs)) row) more
      | false ↦ λ t.
          let none : n - (k + 1) ≡ 0 = grind (arith, nat_tests) in
          let also : 0 ≡ n - k = grind (arith, nat_tests) in
          ap (λ m. last_change (take m cs) row) none ∙ ap (λ m. last_change (take m (c ∷ cs)) row) also
    ] refl

-- a change that isn't kept is displaced by a later one
displaced : (x y : Option (Option Value)) → is_none y ≡ false → y ≡ later_change x y
displaced x None some = absurd cc
displaced x (Some y) some = refl

module _ (t : Table) (row : List ℕ) where
  abbrev kept_changes : RowChanges → RowChanges
  kept_changes vs = filter (λ v. is_kept t row v.0) vs

  kept_up_to : (n k : ℕ) (cs : List Rows) → t.floor ≤ n → drop k t.commits ≡ cs → change_up_to (kept_changes (changes_of k cs row)) n ≡ last_change (take (n - k) cs) row
  kept_up_to n k [] within at = ap (λ (xs : List Rows). last_change xs row) (sym (none_of (n - k)))
  kept_up_to n k (c ∷ cs) within at =
      let here = at_drop t.commits k c cs at in
      let rest = kept_up_to n (k + 1) cs within here.1 in
      elim (get c row) as (λ o. get c row ≡ o → change_up_to (kept_changes (option_map_or (λ change. (k + 1, change) ∷ changes_of (k + 1) cs row) o (changes_of (k + 1) cs row))) n ≡ last_change (take (n - k) (c ∷ cs)) row) [
        | None ↦ λ is. rest ∙ unnamed cs c row n k is
        | Some change ↦ λ is. elim (is_kept t row (k + 1)) as (λ b. is_kept t row (k + 1) ≡ b → change_up_to (cond b ((k + 1, change) ∷ kept_changes (changes_of (k + 1) cs row)) (kept_changes (changes_of (k + 1) cs row))) n ≡ last_change (take (n - k) (c ∷ cs)) row) [
          | true ↦ λ _. ap (later_change (cond (nat_le (k + 1) n) (Some change) None)) rest ∙ first_of cs c row n k change is
          | false ↦ λ gone.
              let some = some_in_more cs row (t.floor - (k + 1)) (n - (k + 1)) (omega (arith, within)) (sym (kept_by_later t (k + 1) cs row here.1) ∙ gone) in
              rest ∙ displaced (cond (nat_le (k + 1) n) (Some change) None) (last_change (take (n - (k + 1)) cs) row) some ∙ first_of cs c row n k change is
        ] refl
      ] refl

  changes_within : (k : ℕ) (cs : List Rows) (low now : ℕ) → low ≤ k → k + length cs ≤ now → RiseWithin low now (kept_changes (changes_of k cs row))
  changes_within k [] low now under within = tt
  changes_within k (c ∷ cs) low now under within =
      elim (get c row) as (λ o. RiseWithin low now (kept_changes (option_map_or (λ change. (k + 1, change) ∷ changes_of (k + 1) cs row) o (changes_of (k + 1) cs row)))) [
        | None ↦ changes_within (k + 1) cs low now (omega (arith, under)) (omega (arith, within))
        | Some change ↦ elim (is_kept t row (k + 1)) as (λ b. RiseWithin low now (cond b ((k + 1, change) ∷ kept_changes (changes_of (k + 1) cs row)) (kept_changes (changes_of (k + 1) cs row)))) [
          | true ↦ (omega (arith, under), omega (arith, within), changes_within (k + 1) cs (k + 1) now (omega arith) (omega (arith, within)))
          | false ↦ changes_within (k + 1) cs low now (omega (arith, under)) (omega (arith, within))
        ]
      ]

  -- each kept version is that of its commit
  versions_are : (P : ℕ × Option Value → Type 0) (k : ℕ) (cs : List Rows) → drop k t.commits ≡ cs
      → ((n : ℕ) (change : Option Value) → 1 ≤ n → is_kept t row n ≡ true → get (slice_index_or t.commits (n - 1) []) row ≡ Some change → P (n, change)) → Each P (kept_changes (changes_of k cs row))
  versions_are P k [] at f = tt
  versions_are P k (c ∷ cs) at f =
      let here = at_drop t.commits k c cs at in
      let rest = versions_are P (k + 1) cs here.1 f in
      let off : k + 1 - 1 ≡ k = omega arith in
      let commit : slice_index_or t.commits (k + 1 - 1) [] ≡ c = ap (λ n. slice_index_or t.commits n []) off ∙ get_or_from_slice_get t.commits k c [] here.0 in
      elim (get c row) as (λ o. get c row ≡ o → Each P (kept_changes (option_map_or (λ change. (k + 1, change) ∷ changes_of (k + 1) cs row) o (changes_of (k + 1) cs row)))) [
        | None ↦ λ _. rest
        | Some change ↦ λ is. elim (is_kept t row (k + 1)) as (λ b. is_kept t row (k + 1) ≡ b → Each P (cond b ((k + 1, change) ∷ kept_changes (changes_of (k + 1) cs row)) (kept_changes (changes_of (k + 1) cs row)))) [
          | true ↦ λ kept. (f (k + 1) change (omega arith) kept (ap (λ (m : Rows). get m row) commit ∙ is), rest)
          | false ↦ λ _. rest
        ] refl
      ] refl

none_off : (n : ℕ) → n - 0 ≡ n
none_off n = omega arith

-- what the row held after so many commits, from the floor on
pub held_at : (f : Fields) (h : Half) (row : List ℕ) (n : ℕ) → Keeps f h → h.floor ≤ n → value_or_absent (change_up_to (versions_of f.versions.rows row) n) ≡ value_or_absent (last_change (take n h.commits) row)
held_at f h row n keeps within =
    ap (λ vs. value_or_absent (change_up_to vs n)) (keeps.rows row)
    ∙ ap value_or_absent (kept_up_to (table_of_half h) row n 0 h.commits within refl ∙ ap (λ m. last_change (take m h.commits) row) (none_off n))

-- what the row holds
pub holds_now : (f : Fields) (h : Half) (row : List ℕ) → Keeps f h → last_value (versions_of f.versions.rows row) ≡ value_or_absent (last_change h.commits row)
holds_now f h row keeps =
    let n = h.floor + length h.commits in
    ap last_value (keeps.rows row)
    ∙ ap value_or_absent (sym (last_up_to 0 n (kept_versions h row) (changes_within (table_of_half h) row 0 h.commits 0 n (omega arith) (omega arith))))
    ∙ ap value_or_absent (kept_up_to (table_of_half h) row n 0 h.commits (omega arith) refl ∙ ap (λ m. last_change (take m h.commits) row) (none_off n) ∙ ap (λ (cs : List Rows). last_change cs row) (take_all n h.commits (omega arith)))

-- ---- the births of versions have places
abbrev HasPlace : Fields → ℕ → Type 0
HasPlace f b = is_stocked f.stock.stocked b ≡ true

held_stocked : (f : Fields) (x : Holder) → IsSound f.stock → Each (HasPlace f) (held_by f.stock.holdings x)
held_stocked f x sound =
    each_weaker (λ b. has_birth (held_by f.stock.holdings x) b ≡ true) (HasPlace f) (held_by f.stock.holdings x) (λ b is. sound.held b (holder_live f.stock.holdings x b is)) (holds_itself (held_by f.stock.holdings x))

version_stocked : (f : Fields) (h : Half) (row : List ℕ) (n : ℕ) (change : Option Value) → Keeps f h → IsSound f.stock → 1 ≤ n → is_kept (table_of_half h) row n ≡ true → get (slice_index_or h.commits (n - 1) []) row ≡ Some change
    → OfValue (HasPlace f) change
version_stocked f h row n change keeps sound low kept is =
    let first : nat_le 1 n ≡ true = grind (arith, nat_tests) in
    let own : version_births h row n ≡ option_map_or births_in change [] =
    ap (λ t. cond t (option_map_or births_in (value_or_absent (get (slice_index_or h.commits (n - 1) []) row)) []) []) (ap (λ t. t && is_kept (table_of_half h) row n) first ∙ kept)
    ∙ ap (λ (o : Option (Option Value)). option_map_or births_in (value_or_absent o) []) is in
    All-from_recursion (HasPlace f) (option_map_or births_in change []) (subst (Each (HasPlace f)) (keeps.held (holder.Version row n) ∙ own) (held_stocked f (holder.Version row n) sound))

all_stocked : (f : Fields) (h : Half) (row : List ℕ) → Keeps f h → IsSound f.stock → Each (λ v. OfValue (HasPlace f) v.1) (versions_of f.versions.rows row)
all_stocked f h row keeps sound =
    subst (Each (λ v. OfValue (HasPlace f) v.1)) (sym (keeps.rows row))
    (versions_are (table_of_half h) row (λ v. OfValue (HasPlace f) v.1) 0 h.commits refl (λ n change low kept is. version_stocked f h row n change keeps sound low kept is))

none_named : (P : ℕ → Type 0) → OfValue P None
none_named P = All-nil P

up_to_holds : (P : ℕ → Type 0) (vs : RowChanges) (n : ℕ) → Each (λ v. OfValue P v.1) vs → OfValue P (value_or_absent (change_up_to vs n))
up_to_holds P [] n all = none_named P
up_to_holds P (v ∷ vs) n all =
    let rest = up_to_holds P vs n all.1 in
    elim (change_up_to vs n) as (λ o. OfValue P (value_or_absent o) → OfValue P (value_or_absent (later_change (cond (nat_le v.0 n) (Some v.1) None) o))) [
      | Some x ↦ λ there. there
      | None ↦ λ _. elim (nat_le v.0 n) as (λ t. OfValue P (value_or_absent (cond t (Some v.1) None))) [ true ↦ all.0 | false ↦ none_named P ]
    ] rest

at_holds : (P : ℕ → Type 0) (vs : RowChanges) (i : ℕ) → Each (λ v. OfValue P v.1) vs → OfValue P (value_or_absent (option_map (λ v. v.1) (slice_get vs i)))
at_holds P [] i all = none_named P
at_holds P (v ∷ vs) zero all = all.0
at_holds P (v ∷ vs) (suc i) all = at_holds P vs i all.1

pub current_stocked : (f : Fields) (h : Half) (row : List ℕ) → Keeps f h → IsSound f.stock → OfValue (HasPlace f) (last_value (versions_of f.versions.rows row))
current_stocked f h row keeps sound = at_holds (HasPlace f) (versions_of f.versions.rows row) (length (versions_of f.versions.rows row) - 1) (all_stocked f h row keeps sound)

pub earlier_stocked : (f : Fields) (h : Half) (row : List ℕ) (n : ℕ) → Keeps f h → IsSound f.stock → OfValue (HasPlace f) (value_or_absent (change_up_to (versions_of f.versions.rows row) n))
earlier_stocked f h row n keeps sound = up_to_holds (HasPlace f) (versions_of f.versions.rows row) n (all_stocked f h row keeps sound)

-- births with those of a value
pub with_stocked : (P : ℕ → Type 0) (births : List ℕ) (v : Value) → All P births → OfValue P (Some v) → All P (births_with births v)
with_stocked P births v all named =
    All-from_recursion P (births_with births v)
    (each-rising P (births ++ births_in v) (each-append P births (births_in v) (recursion_from_All P births all) (recursion_from_All P (births_in v) named)))
