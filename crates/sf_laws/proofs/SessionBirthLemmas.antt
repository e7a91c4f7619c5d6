-- The births of a session's values, when a locator is put.
use Rattle.std.proofs.Common.{◌≡◌, ℕ, ◌<◌, true, false, cond, List, [], ◌∷◌, ◌++◌, Some, None, refl, sym, ap, subst, ◌∙◌, arith, ⊎_elim}
use Rattle.std.specs.Prelude.{Contains, flat_map, T}
use Rattle.std.specs.List.{AllByRecursion as Each}
use Rattle.std.specs.declared.cmp.Ordering.TheVariants.{Less, Equal, Greater}
use Rattle.std.specs.Ordering.{is_eq, is_lt, match_ordering}
use Rattle.std.specs.Cmp.Lexicographic.{nat_list_cmp_total}
use Rattle.std.specs.FinMap.Entries as fin
use Rattle.sf_types.specs.Inside.Births.{IsBelowAll, IsRising, rising_births}
use Rattle.sf_types.specs.Values.Names.{name_cmp}
use Rattle.sf_types.specs.Inside.NameMaps.{NameMap, is_same_name, get, with_entry, without_entry}
use Rattle.sf_types.proofs.NameMapLemmas.{IsRisingMap, absent_below, ordering_less}
use Rattle.sf_types.specs.Values.Marks.{births_in}
use Rattle.sf_types.specs.Table.Parts.{Locator, Session}
use Rattle.sf_types.specs.Space.Reach.{session_values, session_births}
use Rattle.sf_laws.proofs.EachLemmas.{each_contained, each_itself, each-append, each_left, each_right}
use Rattle.sf_laws.proofs.HeldLemmas.{OfOption}
use Rattle.sf_laws.proofs.ReachLemmas.{OfBirth, each-rising, each_from_rising, each-births_in, each_from_births_in, each-session_births, each_from_session_births}
use Rattle.sf_laws.proofs.RisingLockLemmas.{rising_head}
use Rattle.sf_laws.proofs.SumLemmas.{rising_rises, in_rest, first_or_rest, each_below}
use Rattle.sf_types.proofs.BoolLemmas.{first, second, both}

-- rising lists of the same births are one
pub same_rising : (xs ys : List ℕ) → IsRising xs → IsRising ys → Each (Contains ys) xs → Each (Contains xs) ys → xs ≡ ys
same_rising [] [] rx ry all back = refl
same_rising [] (y ∷ ys) rx ry all back = let h = back.0.1 in absurd (omega (arith, h))
same_rising (x ∷ xs) [] rx ry all back = let h = all.0.1 in absurd (omega (arith, h))
same_rising (x ∷ xs) (y ∷ ys) rx ry all back =
    let one : x ≡ y = ⊎_elim (λ (same : x ≡ y). same)
    (λ (later : Contains ys x).
    let above : y < x = each_contained (λ z. y < z) ys x (each_below y ys ry.0) later in
    ⊎_elim (λ (same : y ≡ x). sym same) (λ (other : Contains xs y). let under : x < y = each_contained (λ z. x < z) xs y (each_below x xs rx.0) other in absurd (omega (arith, above, under))) (first_or_rest x xs y back.0))
    (first_or_rest y ys x all.0) in
    let rest = same_rising xs ys rx.1 ry.1
    (in_rest y ys xs (subst (λ z. IsBelowAll z xs) one rx.0) all.1)
    (in_rest x xs ys (subst (λ z. IsBelowAll z ys) (sym one) ry.0) back.1) in
    ap (λ z. z ∷ xs) one ∙ ap (λ zs. y ∷ zs) rest

-- the values of a map with one more
without_absent : {X : Type 0} (m : NameMap X) (k : List ℕ) → get m k ≡ None → without_entry m k ≡ m
without_absent [] k none = refl
without_absent (e ∷ m) k none =
    elim (is_same_name k e.0) as (λ b. cond b (Some e.1) (get m k) ≡ None → cond b m (e ∷ without_entry m k) ≡ e ∷ m) [
      | true ↦ λ h. absurd cc
      | false ↦ λ h. ap (λ n. e ∷ n) (without_absent m k h)
    ] none

below_trans : {X : Type 0} (j k : List ℕ) (m : NameMap X) → name_cmp j k ≡ Less → T (fin.below_all name_cmp k m) → T (fin.below_all name_cmp j m)
below_trans j k [] lt below = tt
below_trans j k (e ∷ m) lt below =
    let next = ordering_less (name_cmp k e.0) (first (is_lt (name_cmp k e.0)) (fin.below_all name_cmp k m) below) in
    both (is_lt (name_cmp j e.0)) (fin.below_all name_cmp j m) (subst (λ r. T (is_lt r)) (sym (nat_list_cmp_total.trans j k e.0 lt next)) tt) (below_trans j k m lt (second (is_lt (name_cmp k e.0)) (fin.below_all name_cmp k m) below))

absent_before : {X : Type 0} (k : List ℕ) (e : List ℕ × X) (m : NameMap X) → IsRisingMap (e ∷ m) → name_cmp k e.0 ≡ Less → get m k ≡ None
unfolding IsRisingMap
absent_before k e m rising_births lt = absent_below k m (below_trans k e.0 m lt (first (fin.below_all name_cmp e.0 m) (fin.is_sorted name_cmp m) rising_births))

-- what holds of each locator once one is put holds of that one and of the others
pub each_put_from : {X : Type 0} (Q : X → Type 0) (m : NameMap X) (k : List ℕ) (v : X) → IsRisingMap m → Q v → Each (λ e. Q e.1) (without_entry m k) → Each (λ e. Q e.1) (with_entry m k v)
each_put_from Q [] k v rising_births is all = (is, tt)
each_put_from Q (e ∷ m) k v rising_births is all =
    elim (name_cmp k e.0) as (λ r. name_cmp k e.0 ≡ r → Each (λ x. Q x.1) (cond (is_eq r) m (e ∷ without_entry m k)) → Each (λ x. Q x.1) (match_ordering r ((k, v) ∷ e ∷ m) ((e.0, v) ∷ m) (e ∷ with_entry m k v))) [
      | Less ↦ λ lt h. (is, (h.0, subst (Each (λ x. Q x.1)) (without_absent m k (absent_before k e m rising_births lt)) h.1))
      | Equal ↦ λ same h. (is, h)
      | Greater ↦ λ gt h. (h.0, each_put_from Q m k v (rising_head e m rising_births).1 is h.1)
    ] refl all

pub each_of_put : {X : Type 0} (Q : X → Type 0) (m : NameMap X) (k : List ℕ) (v : X) → IsRisingMap m → Each (λ e. Q e.1) (with_entry m k v) → Q v × Each (λ e. Q e.1) (without_entry m k)
each_of_put Q [] k v rising_births all = (all.0, tt)
each_of_put Q (e ∷ m) k v rising_births all =
    elim (name_cmp k e.0) as (λ r. name_cmp k e.0 ≡ r → Each (λ x. Q x.1) (match_ordering r ((k, v) ∷ e ∷ m) ((e.0, v) ∷ m) (e ∷ with_entry m k v)) → Q v × Each (λ x. Q x.1) (cond (is_eq r) m (e ∷ without_entry m k))) [
      | Less ↦ λ lt h. (h.0, (h.1.0, subst (Each (λ x. Q x.1)) (sym (without_absent m k (absent_before k e m rising_births lt))) h.1.1))
      | Equal ↦ λ same h. (h.0, h.1)
      | Greater ↦ λ gt h. let rest = each_of_put Q m k v (rising_head e m rising_births).1 h.1 in (rest.0, (h.0, rest.1))
    ] refl all

-- The births of a session after a locator was put: those without the one of that name, and those of its value.
pub births_put : (p : Session) (to : List ℕ) (l : Locator) → IsRisingMap p.locators
    → session_births (record p { locators = with_entry p.locators to l }) ≡ rising_births (session_births (record p { locators = without_entry p.locators to }) ++ births_in l.value)
births_put p to l rising_l =
    let put_p : Session = record p { locators = with_entry p.locators to l } in
    let left_p : Session = record p { locators = without_entry p.locators to } in
    let both_lists = session_births left_p ++ births_in l.value in
    same_rising (session_births put_p) (rising_births both_lists) (rising_rises (flat_map births_in (session_values put_p))) (rising_rises both_lists)
    (let P : ℕ → Type 0 = Contains (rising_births both_lists) in
    let all = each_from_rising P both_lists (each_itself (rising_births both_lists)) in
    let own = each_from_session_births P left_p (each_left P (session_births left_p) (births_in l.value) all) in
    let value = each_from_births_in P l.value (each_right P (session_births left_p) (births_in l.value) all) in
    each-session_births P put_p (record { working = own.working; locators = each_put_from (λ x. Each (OfBirth P) x.value.bytes) p.locators to l rising_l value own.locators; savepoints = own.savepoints }))
    (let P : ℕ → Type 0 = Contains (session_births put_p) in
    let own = each_from_session_births P put_p (each_itself (session_births put_p)) in
    let parts = each_of_put (λ x. Each (OfBirth P) x.value.bytes) p.locators to l rising_l own.locators in
    each-rising P both_lists (each-append P (session_births left_p) (births_in l.value)
    (each-session_births P left_p (record { working = own.working; locators = parts.1; savepoints = own.savepoints }))
    (each-births_in P l.value parts.0)))

-- The births of a session after a locator and a working value of one content were put.
pub births_written : (p : Session) (row at : List ℕ) (l : Locator) → IsRisingMap p.locators → IsRisingMap p.working
    → session_births (record p { working = with_entry p.working row (Some l.value); locators = with_entry p.locators at l })
    ≡ rising_births (session_births (record p { working = without_entry p.working row; locators = without_entry p.locators at }) ++ births_in l.value)
births_written p row at l rising_l rising_w =
    let put_p : Session = record p { working = with_entry p.working row (Some l.value); locators = with_entry p.locators at l } in
    let left_p : Session = record p { working = without_entry p.working row; locators = without_entry p.locators at } in
    let both_lists = session_births left_p ++ births_in l.value in
    same_rising (session_births put_p) (rising_births both_lists) (rising_rises (flat_map births_in (session_values put_p))) (rising_rises both_lists)
    (let P : ℕ → Type 0 = Contains (rising_births both_lists) in
    let all = each_from_rising P both_lists (each_itself (rising_births both_lists)) in
    let own = each_from_session_births P left_p (each_left P (session_births left_p) (births_in l.value) all) in
    let value = each_from_births_in P l.value (each_right P (session_births left_p) (births_in l.value) all) in
    each-session_births P put_p (record {
      working = each_put_from (OfOption (OfBirth P)) p.working row (Some l.value) rising_w value own.working;
      locators = each_put_from (λ x. Each (OfBirth P) x.value.bytes) p.locators at l rising_l value own.locators;
      savepoints = own.savepoints;
    }))
    (let P : ℕ → Type 0 = Contains (session_births put_p) in
    let own = each_from_session_births P put_p (each_itself (session_births put_p)) in
    let parts = each_of_put (λ x. Each (OfBirth P) x.value.bytes) p.locators at l rising_l own.locators in
    let rows = each_of_put (OfOption (OfBirth P)) p.working row (Some l.value) rising_w own.working in
    each-rising P both_lists (each-append P (session_births left_p) (births_in l.value)
    (each-session_births P left_p (record { working = rows.1; locators = parts.1; savepoints = own.savepoints }))
    (each-births_in P l.value parts.0)))
