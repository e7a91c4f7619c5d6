-- The births that holders hold in a half are those in its reach.
use Rattle.std.proofs.Common.{◌≡◌, ℕ, zero, suc, ◌+◌, ◌-◌, ◌≤◌, ◌<◌, true, false, cond, List, [], ◌∷◌, ◌++◌, length, drop, Option, Some, None, refl, sym, ap, subst, ◌∙◌, arith}
use Rattle.std.specs.Prelude.{◌&&◌, filter_map, flat_map, slice_get, slice_index_or, nat_le, unwrap_or}
use Rattle.std.specs.List.{AllByRecursion as Each, range_with_len}
use Rattle.std.specs.Option.{IfSome, option_map_or}
use Rattle.std.proofs.lemmas.Bool.Decides.{nat_tests}
use Rattle.std.proofs.lemmas.List.{get_or_past}
use Rattle.sf_types.specs.declared.holder.Holder.{Holder}
use Rattle.sf_types.specs.declared.holder.Holder.TheVariants as holder
use Rattle.sf_types.specs.Inside.NameMaps.{NameMap, is_same_name, get}
use Rattle.sf_types.specs.Values.Marks.{Value, births_in}
use Rattle.sf_types.specs.Table.Parts.{Promise, Rows}
use Rattle.sf_types.specs.Table.Versions.{value_or_absent}
use Rattle.sf_types.specs.Space.Reach.{Holding, is_kept, version_holding, version_holdings}
use Rattle.sf_types.specs.Halves.Asks.{Half, Kept, kept_at, new_kept}
use Rattle.sf_types.specs.Halves.Flushes.{table_of_half, kept_holdings, half_reach}
use Rattle.sf_types.proofs.NameMapLemmas.{IsRisingMap, rising_from_ordered, same_name}
use Rattle.sf_types.proofs.BoolLemmas.{both_first, both_second}
use Rattle.sf_laws.proofs.EachLemmas.{each_weaker, each-append, each_left, each_right, each-flat_map, each_from_flat_map, each-filter_map, each_from_filter_map}
use Rattle.sf_laws.proofs.EntryLemmas.{each_get}
use Rattle.sf_laws.proofs.LockLemmas.{own_name}
use Rattle.sf_laws.proofs.PositionLemmas.{at_drop}
use Rattle.sf_laws.proofs.ReachLemmas.{each-rising, each_from_rising}
use Rattle.sf_laws.proofs.RisingLockLemmas.{rising_head}
use Rattle.sf_versions.specs.VersionTables.{AreCommits}
use Rattle.sf_store_half.specs.Fields.{held_in, is_session, version_births}

-- ---- the numbers of a range
each_range : (P : ℕ → Type 0) (a n : ℕ) → ((k : ℕ) → a ≤ k → k < a + n → P k) → Each P (range_with_len a n)
each_range P a zero f = tt
each_range P a (suc n) f = (f a (omega arith) (omega arith), each_range P (a + 1) n (λ k low high. f k (omega (arith, low)) (omega (arith, high))))

of_range : (P : ℕ → Type 0) (a n k : ℕ) → Each P (range_with_len a n) → a ≤ k → k < a + n → P k
of_range P a zero k all low high = absurd (omega (arith, low, high))
of_range P a (suc n) k all low high =
    elim (nat_le k a) as (λ t. nat_le k a ≡ t → P k) [
      | true ↦ λ t. let same : a ≡ k = grind (arith, nat_tests) in subst P same all.0
      | false ↦ λ t. let more : a + 1 ≤ k = grind (arith, nat_tests) in of_range P (a + 1) n k all.1 more (omega (arith, high))
    ] refl

-- ---- the entries of a commit
found_behind : {X : Type 0} (e : List ℕ × X) (m : NameMap X) → get m e.0 ≡ None → (x : List ℕ × X) → get m x.0 ≡ Some x.1 → get (e ∷ m) x.0 ≡ Some x.1
found_behind e m none x is =
    elim (is_same_name x.0 e.0) as (λ b. is_same_name x.0 e.0 ≡ b → cond b (Some e.1) (get m x.0) ≡ Some x.1) [
      | true ↦ λ same. let at : get m x.0 ≡ None = ap (get m) (same_name x.0 e.0 same) ∙ none in absurd cc
      | false ↦ λ apart. is
    ] refl

pub each_found : {X : Type 0} (m : NameMap X) → IsRisingMap m → Each (λ e. get m e.0 ≡ Some e.1) m
each_found [] rising = tt
each_found (e ∷ m) rising =
    let head = rising_head e m rising in
    (rw (own_name e.0) refl, each_weaker (λ x. get m x.0 ≡ Some x.1) (λ x. get (e ∷ m) x.0 ≡ Some x.1) m (found_behind e m head.0) (each_found m head.1))

-- what the k-th commit names is found in it
named_by : (commits : List Rows) (k : ℕ) → AreCommits commits → Each (λ e. get (slice_index_or commits k []) e.0 ≡ Some e.1) (slice_index_or commits k [])
named_by [] k are = tt
named_by (c ∷ cs) zero are = each_found c (rising_from_ordered c are.0)
named_by (c ∷ cs) (suc k) are = named_by cs k are.1

-- ---- what holdings say is what their holders hold
abbrev HoldsEach : (ℕ → Type 0) → Holding → Type 0
HoldsEach P x = Each P x.births

abbrev IsHeldIn : Half → Holding → Type 0
IsHeldIn h x = held_in h x.holder ≡ x.births

version_held : (h : Half) (n : ℕ) (e : List ℕ × Option Value) → nat_le 1 n ≡ true → get (slice_index_or h.commits (n - 1) []) e.0 ≡ Some e.1 → IfSome (version_holding (table_of_half h) n e) (IsHeldIn h)
version_held h n (row, None) low is = tt
version_held h n (row, Some v) low is =
    elim (is_kept (table_of_half h) row n) as (λ t. is_kept (table_of_half h) row n ≡ t → IfSome (cond t (Some (record { holder = holder.Version row n; births = births_in v })) None) (IsHeldIn h)) [
      | true ↦ λ kept.
          ap (λ t. cond t (option_map_or births_in (value_or_absent (get (slice_index_or h.commits (n - 1) []) row)) []) []) (ap (λ t. t && is_kept (table_of_half h) row n) low ∙ kept)
          ∙ ap (λ (o : Option (Option Value)). option_map_or births_in (value_or_absent o) []) is
      | false ↦ λ _. tt
    ] refl

versions_held : (h : Half) → AreCommits h.commits → Each (IsHeldIn h) (version_holdings (table_of_half h))
versions_held h are =
    let t = table_of_half h in
    each-flat_map (IsHeldIn h) (λ n. filter_map (version_holding t n) (slice_index_or h.commits (n - 1) [])) (range_with_len 1 (length h.commits))
    (each_range (λ n. Each (IsHeldIn h) (filter_map (version_holding t n) (slice_index_or h.commits (n - 1) []))) 1 (length h.commits)
    (λ n low high. let first : nat_le 1 n ≡ true = grind (arith, nat_tests) in
    each-filter_map (IsHeldIn h) (version_holding t n) (slice_index_or h.commits (n - 1) [])
    (each_weaker (λ e. get (slice_index_or h.commits (n - 1) []) e.0 ≡ Some e.1) (λ e. IfSome (version_holding t n e) (IsHeldIn h)) (slice_index_or h.commits (n - 1) [])
    (λ e is. version_held h n e first is) (named_by h.commits (n - 1) are))))

last_off : (k : ℕ) → k + 1 - 1 ≡ k
last_off k = omega arith

pub within : {X : Type 0} (xs : List X) (k : ℕ) (x : X) → slice_get xs k ≡ Some x → k < length xs
within [] k x is = absurd cc
within (y ∷ ys) zero x is = omega arith
within (y ∷ ys) (suc k) x is = omega (arith, within ys k x is)

at_session : (h : Half) (k : ℕ) (x : Kept) → slice_get h.sessions k ≡ Some x → (is_session h (k + 1) ≡ true) × (kept_at h (k + 1) ≡ x)
at_session h k x is =
    let inside = within h.sessions k x is in
    (grind (arith, nat_tests), ap (λ n. unwrap_or (slice_get h.sessions n) new_kept) (last_off k) ∙ ap (λ (o : Option Kept). unwrap_or o new_kept) is)

sessions_held : (h : Half) (k : ℕ) (ks : List Kept) → drop k h.sessions ≡ ks → Each (IsHeldIn h) (kept_holdings (k + 1) ks)
sessions_held h k [] at = tt
sessions_held h k (x ∷ ks) at =
    let here = at_drop h.sessions k x ks at in
    let own = at_session h k x here.0 in (
      ap (λ t. cond t (kept_at h (k + 1)).births []) own.0 ∙ ap (λ (y : Kept). y.births) own.1,
      each-append (IsHeldIn h) (option_map_or (λ q. record { holder = holder.Promise (k + 1); births = q.births } ∷ []) x.promise []) (kept_holdings (k + 1 + 1) ks)
          (promised x.promise (ap (λ t. cond t (option_map_or (λ (q : Promise). q.births) (kept_at h (k + 1)).promise []) []) own.0 ∙ ap (λ (y : Kept). option_map_or (λ (q : Promise). q.births) y.promise []) own.1))
          (sessions_held h (k + 1) ks here.1),
    )
  where
    promised : (o : Option Promise) → held_in h (holder.Promise (k + 1)) ≡ option_map_or (λ q. q.births) o [] → Each (IsHeldIn h) (option_map_or (λ q. record { holder = holder.Promise (k + 1); births = q.births } ∷ []) o [])
    promised None is = tt
    promised (Some q) is = (is, tt)

-- ---- what is in reach is held
pub each_reached : (P : ℕ → Type 0) (h : Half) → AreCommits h.commits → ((x : Holder) → Each P (held_in h x)) → Each P (half_reach h)
each_reached P h are all =
    let holdings = version_holdings (table_of_half h) ++ kept_holdings 1 h.sessions in
    each-rising P (flat_map (λ x. x.births) holdings)
    (each-flat_map P (λ x. x.births) holdings
    (each_weaker (IsHeldIn h) (HoldsEach P) holdings (λ x is. subst (Each P) is (all x.holder))
    (each-append (IsHeldIn h) (version_holdings (table_of_half h)) (kept_holdings 1 h.sessions) (versions_held h are) (sessions_held h 0 h.sessions refl))))

-- ---- what is held is in reach
reached_version : (P : ℕ → Type 0) (h : Half) (n : ℕ) (row : List ℕ) (o : Option (Option Value)) → is_kept (table_of_half h) row n ≡ true → get (slice_index_or h.commits (n - 1) []) row ≡ o
    → Each (λ e. IfSome (version_holding (table_of_half h) n e) (HoldsEach P)) (slice_index_or h.commits (n - 1) []) → Each P (option_map_or births_in (value_or_absent o) [])
reached_version P h n row None kept is all = tt
reached_version P h n row (Some None) kept is all = tt
reached_version P h n row (Some (Some v)) kept is all =
    subst (λ t. IfSome (cond t (Some (record { holder = holder.Version row n; births = births_in v })) None) (HoldsEach P)) kept
    (each_get (λ e. IfSome (version_holding (table_of_half h) n e) (HoldsEach P)) (slice_index_or h.commits (n - 1) []) row (Some v) all is)

no_commit : (P : ℕ → Type 0) (commits : List Rows) (k : ℕ) (row : List ℕ) → length commits ≤ k → Each P (option_map_or births_in (value_or_absent (get (slice_index_or commits k []) row)) [])
no_commit P commits k row past = subst (λ (c : Rows). Each P (option_map_or births_in (value_or_absent (get c row)) [])) (sym (get_or_past commits k [] past)) tt

versions_reached : (P : ℕ → Type 0) (h : Half) (row : List ℕ) (n : ℕ) → Each (HoldsEach P) (version_holdings (table_of_half h)) → Each P (version_births h row n)
versions_reached P h row n all =
    let t = table_of_half h in
    elim (nat_le 1 n && is_kept t row n) as (λ u. (nat_le 1 n && is_kept t row n) ≡ u → Each P (cond u (option_map_or births_in (value_or_absent (get (slice_index_or h.commits (n - 1) []) row)) []) [])) [
      | false ↦ λ _. tt
      | true ↦ λ is. elim (nat_le n (length h.commits)) as (λ u. nat_le n (length h.commits) ≡ u → Each P (option_map_or births_in (value_or_absent (get (slice_index_or h.commits (n - 1) []) row)) [])) [
        | true ↦ λ high.
            let low : nat_le 1 n ≡ true = both_first (nat_le 1 n) (is_kept t row n) is in
            let from : 1 ≤ n = grind (arith, nat_tests) in
            let until : n < 1 + length h.commits = grind (arith, nat_tests) in
            reached_version P h n row (get (slice_index_or h.commits (n - 1) []) row) (both_second (nat_le 1 n) (is_kept t row n) is) refl
            (each_from_filter_map (HoldsEach P) (version_holding t n) (slice_index_or h.commits (n - 1) [])
            (of_range (λ k. Each (HoldsEach P) (filter_map (version_holding t k) (slice_index_or h.commits (k - 1) []))) 1 (length h.commits) n
            (each_from_flat_map (HoldsEach P) (λ k. filter_map (version_holding t k) (slice_index_or h.commits (k - 1) [])) (range_with_len 1 (length h.commits)) all) from until))
        | false ↦ λ high. let past : length h.commits ≤ n - 1 = grind (arith, nat_tests) in no_commit P h.commits (n - 1) row past
      ] refl
    ] refl

-- what the k-th of some sessions holds
session_reached : (P : ℕ → Type 0) (s : ℕ) (ks : List Kept) (k : ℕ) → Each (HoldsEach P) (kept_holdings s ks) → k < length ks
    → Each P (unwrap_or (slice_get ks k) new_kept).births × Each P (option_map_or (λ q. q.births) (unwrap_or (slice_get ks k) new_kept).promise [])
session_reached P s [] k all lt = absurd (omega (arith, lt))
session_reached P s (x ∷ ks) zero all lt =
    (all.0, promised x.promise (each_left (HoldsEach P) (option_map_or (λ q. record { holder = holder.Promise s; births = q.births } ∷ []) x.promise []) (kept_holdings (s + 1) ks) all.1))
  where
    promised : (o : Option Promise) → Each (HoldsEach P) (option_map_or (λ q. record { holder = holder.Promise s; births = q.births } ∷ []) o []) → Each P (option_map_or (λ q. q.births) o [])
    promised None all = tt
    promised (Some q) all = all.0
session_reached P s (x ∷ ks) (suc k) all lt =
    session_reached P (s + 1) ks k (each_right (HoldsEach P) (option_map_or (λ q. record { holder = holder.Promise s; births = q.births } ∷ []) x.promise []) (kept_holdings (s + 1) ks) all.1) (omega (arith, lt))

session_or_none : (P : ℕ → Type 0) (h : Half) (s : ℕ) → Each (HoldsEach P) (kept_holdings 1 h.sessions)
    → Each P (held_in h (holder.Session s)) × Each P (held_in h (holder.Promise s))
session_or_none P h s all =
    elim (is_session h s) as (λ t. is_session h s ≡ t → Each P (cond t (kept_at h s).births []) × Each P (cond t (option_map_or (λ (q : Promise). q.births) (kept_at h s).promise []) [])) [
      | true ↦ λ is. let lt : s - 1 < length h.sessions = grind (arith, nat_tests) in session_reached P 1 h.sessions (s - 1) all lt
      | false ↦ λ _. (tt, tt)
    ] refl

pub each_held : (P : ℕ → Type 0) (h : Half) → Each P (half_reach h) → (x : Holder) → Each P (held_in h x)
each_held P h all x =
    let holdings = version_holdings (table_of_half h) ++ kept_holdings 1 h.sessions in
    let each = each_from_flat_map P (λ x. x.births) holdings (each_from_rising P (flat_map (λ x. x.births) holdings) all) in
    let versions = each_left (HoldsEach P) (version_holdings (table_of_half h)) (kept_holdings 1 h.sessions) each in
    let sessions = each_right (HoldsEach P) (version_holdings (table_of_half h)) (kept_holdings 1 h.sessions) each in
    by_kind x versions sessions
  where
    by_kind : (x : Holder) → Each (HoldsEach P) (version_holdings (table_of_half h)) → Each (HoldsEach P) (kept_holdings 1 h.sessions) → Each P (held_in h x)
    by_kind (holder.Version row n) versions sessions = versions_reached P h row n versions
    by_kind (holder.Session s) versions sessions = (session_or_none P h s sessions).0
    by_kind (holder.Promise s) versions sessions = (session_or_none P h s sessions).1
