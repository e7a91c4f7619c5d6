-- The floor rises over several commits.
use Rattle.std.proofs.Common.{◌≡◌, ℕ, zero, suc, ◌+◌, ◌-◌, ◌≤◌, ◌<◌, cond, List, [], ◌∷◌, ◌++◌, length, take, drop, map, Option, Some, None, refl, sym, ap, subst, ◌∙◌, arith}
use Rattle.std.specs.Prelude.{filter_map, slice_index_or, is_some}
use Rattle.std.specs.List.{AllByRecursion as Each}
use Rattle.std.specs.Option.{option_map, option_map_or}
use Rattle.std.specs.Ordering.{nat_cmp}
use Rattle.sf_types.specs.declared.holder.Holder.TheVariants as holder
use Rattle.sf_room_map.specs.Entries.{without_key}
use Rattle.std.proofs.lemmas.List.{map-append}
use Rattle.sf_types.specs.Inside.NameMaps.{get, has}
use Rattle.sf_types.specs.Values.Marks.{Value}
use Rattle.sf_types.specs.Table.Parts.{Rows}
use Rattle.sf_types.proofs.NameMapLemmas.{IsRisingMap, rising_from_ordered}
use Rattle.sf_lifetimes.specs.Ledgers.{Holdings, held_by, with_births}
use Rattle.sf_retention.specs.declared.retention.Pair.{Pair}
use Rattle.sf_retention.specs.Notes.{note_of, pair_of}
use Rattle.sf_versions.specs.RowChanges.{RowChanges, changes_of, last_number}
use Rattle.sf_versions.specs.VersionTables.{AreCommits, VersionTable, versions_of, without_version}
use Rattle.sf_store_half.specs.Fields.{displaced_by}
use Rattle.sf_store_half.specs.Inside.Floors.{AreDisplaced, holdings_without, versions_without}
use Rattle.sf_store_half.proofs.FloorLemmas.{displaced, kept_at_number, kept_next}
use Rattle.sf_store_half.proofs.GivenUpLemmas.{HoldVersions, give_each, pairs_of}
use Rattle.sf_store_half.proofs.HeldReachLemmas.{each_found}
use Rattle.sf_store_half.proofs.NoteLemmas.{notes_between}
use Rattle.sf_store_half.proofs.VersionHoldLemmas.{births_of_version}

without_both : (t : VersionTable) (ps qs : List Pair) → versions_without t (ps ++ qs) ≡ versions_without (versions_without t ps) qs
without_both t [] qs = refl
without_both t (p ∷ ps) qs = without_both (without_version t p.name p.from) ps qs

holding_neither : (m : Holdings) (ps qs : List Pair) → holdings_without m (ps ++ qs) ≡ holdings_without (holdings_without m ps) qs
holding_neither m [] qs = refl
holding_neither m (p ∷ ps) qs = holding_neither (with_births m (holder.Version p.name p.from) []) ps qs

displaced_both : (t : VersionTable) (ps qs : List Pair) → AreDisplaced t ps → AreDisplaced (versions_without t ps) qs → AreDisplaced t (ps ++ qs)
displaced_both t [] qs first second = second
displaced_both t (p ∷ ps) qs first second = (first.0, displaced_both (without_version t p.name p.from) ps qs first.1 second)

-- what giving up versions up to a floor comes to
pub record IsRaised (commits : List Rows) (floor : ℕ) (ps : List Pair) (t : VersionTable) (m : Holdings) : Type 0 where
  pub rows : (row : List ℕ) → versions_of (versions_without t ps).rows row ≡ kept_at_number commits floor row
  pub held : HoldVersions (holdings_without m ps) (versions_without t ps)
  pub displaced_each : AreDisplaced t ps

ordered_at : (cs : List Rows) (k : ℕ) (c : Rows) (after : List Rows) → drop k cs ≡ c ∷ after → AreCommits cs → Each (λ e. get c e.0 ≡ Some e.1) c
ordered_at [] zero c after at are = absurd cc
ordered_at [] (suc k) c after at are = absurd cc
ordered_at (d ∷ cs) zero c after at are = let same : d ≡ c = cc in subst (λ (x : Rows). Each (λ e. get x e.0 ≡ Some e.1) x) same (each_found d (rising_from_ordered d are.0))
ordered_at (d ∷ cs) (suc k) c after at are = ordered_at cs k c after at are.1

rising_at : (cs : List Rows) (k : ℕ) (c : Rows) (after : List Rows) → drop k cs ≡ c ∷ after → AreCommits cs → IsRisingMap c
rising_at [] zero c after at are = absurd cc
rising_at [] (suc k) c after at are = absurd cc
rising_at (d ∷ cs) zero c after at are = let same : d ≡ c = cc in subst (λ (x : Rows). IsRisingMap x) same (rising_from_ordered d are.0)
rising_at (d ∷ cs) (suc k) c after at are = rising_at cs k c after at are.1

next_of : (cs : List Rows) (k : ℕ) → k < length cs → (c : Rows) × (after : List Rows) × (drop k cs ≡ c ∷ after) × (slice_index_or cs k [] ≡ c)
next_of [] k within = absurd (omega (arith, within))
next_of (c ∷ cs) zero within = (c, cs, refl, refl)
next_of (c ∷ cs) (suc k) within = next_of cs k (omega (arith, within))

-- over one commit
raised_once : (commits : List Rows) (k : ℕ) → AreCommits commits → k < length commits → (t : VersionTable) (m : Holdings)
    → ((row : List ℕ) → versions_of t.rows row ≡ kept_at_number commits k row) → HoldVersions m t → IsRaised commits (k + 1) (map pair_of (displaced_by commits (k + 1))) t m
raised_once commits k are within t m rows held =
    let next = next_of commits k within in
    let given = give_each commits k next.0 next.1 within next.2 next.0 (rising_at commits k next.0 next.1 next.2 are) (ordered_at commits k next.0 next.1 next.2 are) t m (λ row. rows row ∙ begun next.0 next.1 next.2 row) held in
    let here : k + 1 - 1 ≡ k = omega arith in
    let pairs : map pair_of (displaced_by commits (k + 1)) ≡ pairs_of commits k next.0 next.1 within next.2 next.0 =
    ap (λ n. map pair_of (filter_map (λ e. option_map (λ from. note_of e.0 from (k + 1)) (last_number (changes_of 0 (take n commits) e.0))) (slice_index_or commits n []))) here
    ∙ ap (λ (es : Rows). map pair_of (filter_map (λ e. option_map (λ from. note_of e.0 from (k + 1)) (last_number (changes_of 0 (take k commits) e.0))) es)) next.3 in
    subst (λ ps. IsRaised commits (k + 1) ps t m) (sym pairs) (record { rows = given.left; held = given.held; displaced_each = given.displaced_each })
  where
    begun : (c : Rows) (after : List Rows) → drop k commits ≡ c ∷ after → (row : List ℕ) → kept_at_number commits k row ≡ cond {A = RowChanges} (has c row) (kept_at_number commits k row) (kept_at_number commits (k + 1) row)
    begun c after at row =
        elim (get c row) as (λ o. get c row ≡ o → kept_at_number commits k row ≡ cond {A = RowChanges} (is_some o) (kept_at_number commits k row) (kept_at_number commits (k + 1) row)) [
          | None ↦ λ is. sym (kept_next commits k c after row within at ∙ ap (λ (o : Option (Option Value)). option_map_or (λ _. option_map_or (λ from. without_key nat_cmp (kept_at_number commits k row) from) (displaced commits k row) (kept_at_number commits k row)) o (kept_at_number commits k row)) is)
          | Some x ↦ λ _. refl
        ] refl

-- over as many as there are between two floors
pub raised : (commits : List Rows) (k count : ℕ) → AreCommits commits → k + count ≤ length commits → (t : VersionTable) (m : Holdings)
    → ((row : List ℕ) → versions_of t.rows row ≡ kept_at_number commits k row) → HoldVersions m t → IsRaised commits (k + count) (map pair_of (notes_between commits (k + 1) count)) t m
raised commits k zero are within t m rows held =
    let same : k ≡ k + 0 = omega arith in
    record { rows = λ row. rows row ∙ ap (λ n. kept_at_number commits n row) same; held = held; displaced_each = tt }
raised commits k (suc count) are within t m rows held =
    let ps : List Pair = map pair_of (displaced_by commits (k + 1)) in
    let qs : List Pair = map pair_of (notes_between commits (k + 1 + 1) count) in
    let once = raised_once commits k are (omega (arith, within)) t m rows held in
    let rest = raised commits (k + 1) count are (omega (arith, within)) (versions_without t ps) (holdings_without m ps) once.rows once.held in
    let far : k + 1 + count ≡ k + suc count = omega arith in
    let both : ps ++ qs ≡ map pair_of (notes_between commits (k + 1) (suc count)) = sym (map-append pair_of (displaced_by commits (k + 1)) (notes_between commits (k + 1 + 1) count)) in
    subst (λ all. IsRaised commits (k + suc count) all t m) both (subst (λ n. IsRaised commits n (ps ++ qs) t m) far (record {
      rows = λ row. ap (λ (u : VersionTable). versions_of u.rows row) (without_both t ps qs) ∙ rest.rows row;
      held = λ row n. ap (λ l. held_by l (holder.Version row n)) (holding_neither m ps qs) ∙ rest.held row n ∙ ap (λ (u : VersionTable). births_of_version (versions_of u.rows row) n) (sym (without_both t ps qs));
      displaced_each = displaced_both t ps qs once.displaced_each rest.displaced_each;
    }))
