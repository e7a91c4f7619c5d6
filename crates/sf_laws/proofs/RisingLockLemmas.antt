-- The names of the locks rise, and what that tells of the rows that a session has locked.
use Rattle.std.proofs.Common.{◌≡◌, ℕ, Bool, true, false, ◌||◌, not, cond, List, [], ◌∷◌, map, Option, Some, None, refl, sym, ap, subst, ◌∙◌}
use Rattle.std.specs.Prelude.{T, filter, ◌==◌}
use Rattle.std.specs.List.{AllByRecursion as Each, list_any}
use Rattle.std.specs.declared.cmp.Ordering.TheVariants.{Less, Equal, Greater}
use Rattle.std.specs.Option.{option_map_or}
use Rattle.std.specs.Ordering.{is_eq, is_lt, match_ordering}
use Rattle.std.specs.FinMap.Entries as fin
use Rattle.sf_types.specs.Values.Names.{name_cmp}
use Rattle.sf_types.specs.Inside.NameMaps.{NameMap, is_same_name, get, with_entry}
use Rattle.sf_types.proofs.NameMapLemmas.{same_name, IsRisingMap, absent_below}
use Rattle.sf_types.specs.Table.Sessions.{holds_lock, is_busy, with_lock, without_locks, locked_rows}
use Rattle.sf_types.specs.Calls.Savepoints.{without_later_locks}
use Rattle.sf_laws.proofs.EachLemmas.{each_weaker}
use Rattle.sf_laws.proofs.LockLemmas.{holder_is, held_from, busy_where, among_locked, own_name}
use Rattle.sf_types.proofs.BoolLemmas.{both, first, second}
use Rattle.sf_types.proofs.NumberLemmas.{same_number, not_same, other_number}

-- what is below all of a map is below all that a filter leaves
below-filter : {X : Type 0} (p : List ℕ × X → Bool) (k : List ℕ) (m : NameMap X) → T (fin.below_all name_cmp k m) → T (fin.below_all name_cmp k (filter p m))
below-filter p k [] below = tt
below-filter p k (e ∷ m) below =
    let rest = below-filter p k m (second (is_lt (name_cmp k e.0)) (fin.below_all name_cmp k m) below) in
    elim (p e) as (λ b. T (fin.below_all name_cmp k (cond b (e ∷ filter p m) (filter p m)))) [
      | true ↦ both (is_lt (name_cmp k e.0)) (fin.below_all name_cmp k (filter p m)) (first (is_lt (name_cmp k e.0)) (fin.below_all name_cmp k m) below) rest
      | false ↦ rest
    ]

pub rising_map-filter : {X : Type 0} (p : List ℕ × X → Bool) (m : NameMap X) → IsRisingMap m → IsRisingMap (filter p m)
unfolding IsRisingMap
rising_map-filter p [] rising = tt
rising_map-filter p (e ∷ m) rising =
    let rest = rising_map-filter p m (second (fin.below_all name_cmp e.0 m) (fin.is_sorted name_cmp m) rising) in
    elim (p e) as (λ b. T (fin.is_sorted name_cmp (cond b (e ∷ filter p m) (filter p m)))) [
      | true ↦ both (fin.below_all name_cmp e.0 (filter p m)) (fin.is_sorted name_cmp (filter p m)) (below-filter p e.0 m (first (fin.below_all name_cmp e.0 m) (fin.is_sorted name_cmp m) rising)) rest
      | false ↦ rest
    ]

-- the first name of a rising map stands in it once, and the rest rises
pub rising_head : {X : Type 0} (e : List ℕ × X) (m : NameMap X) → IsRisingMap (e ∷ m) → (get m e.0 ≡ None) × IsRisingMap m
unfolding IsRisingMap
rising_head e m rising = (absent_below e.0 m (first (fin.below_all name_cmp e.0 m) (fin.is_sorted name_cmp m) rising), second (fin.below_all name_cmp e.0 m) (fin.is_sorted name_cmp m) rising)

-- a filter that drops an entry doesn't see that it was put at a new name
filter-put : {X : Type 0} (p : List ℕ × X → Bool) (m : NameMap X) (k : List ℕ) (v : X) → p (k, v) ≡ false → get m k ≡ None → filter p (with_entry m k v) ≡ filter p m
filter-put p [] k v drops none = rw drops refl
filter-put p (e ∷ m) k v drops none =
    elim (name_cmp k e.0) as (λ r. cond (is_eq r) (Some e.1) (get m k) ≡ None → filter p (match_ordering r ((k, v) ∷ e ∷ m) ((e.0, v) ∷ m) (e ∷ with_entry m k v)) ≡ filter p (e ∷ m)) [
      | Less ↦ λ h. rw drops refl
      | Equal ↦ λ h. absurd cc
      | Greater ↦ λ h. ap (λ n. cond (p e) (e ∷ n) n) (filter-put p m k v drops h)
    ] none

-- a row that nobody else has locked, and that the session hasn't, is locked by nobody
free_where : (locks : NameMap ℕ) (s : ℕ) (row : List ℕ) → is_busy locks s row ≡ false → holds_lock locks s row ≡ false → get locks row ≡ None
free_where locks s row free mine = go (get locks row) refl
  where
    go : (o : Option ℕ) → get locks row ≡ o → get locks row ≡ None
    go None is = is
    go (Some x) is = choose (x == s) refl
      where
        choose : (b : Bool) → (x == s) ≡ b → get locks row ≡ None
        choose true same = let held = held_from locks s row (is ∙ ap (λ n. Some n) (same_number x s same)) in absurd cc
        choose false apart = let busy = busy_where locks x s row is (λ e. not_same x s apart e) in absurd cc

-- what one session has locked while another takes a lock, or releases its own
pub listed_with_lock : (locks : NameMap ℕ) (r s : ℕ) (row : List ℕ) → (r ≡ s → ⊥) → is_busy locks s row ≡ false → locked_rows (with_lock locks s row) r ≡ locked_rows locks r
listed_with_lock locks r s row apart free = go (holds_lock locks s row) refl
  where
    go : (b : Bool) → holds_lock locks s row ≡ b → locked_rows (cond b locks (with_entry locks row s)) r ≡ locked_rows locks r
    go true mine = refl
    go false mine = ap (λ (m : NameMap ℕ). map (λ e. e.0) m) (filter-put (λ e. e.1 == r) locks row s (other_number s r (λ e. apart (sym e))) (free_where locks s row free mine))

-- a filter that passes all that another passes
filter_within : {X : Type 0} (p q : X → Bool) (xs : List X) → ((x : X) → p x ≡ true → q x ≡ true) → filter p (filter q xs) ≡ filter p xs
filter_within p q [] within = refl
filter_within p q (x ∷ xs) within = go (filter_within p q xs within) (q x) (p x) refl refl
  where
    go : filter p (filter q xs) ≡ filter p xs → (b a : Bool) → q x ≡ b → p x ≡ a → filter p (cond b (x ∷ filter q xs) (filter q xs)) ≡ cond a (x ∷ filter p xs) (filter p xs)
    go rest true a is_q is_p = ap (λ n. cond (p x) (x ∷ n) n) rest ∙ ap (λ b. cond b (x ∷ filter p xs) (filter p xs)) is_p
    go rest false true is_q is_p = let passes = within x is_p in absurd cc
    go rest false false is_q is_p = rest

kept_of_other : (r s : ℕ) → (r ≡ s → ⊥) → (e : List ℕ × ℕ) → (e.1 == r) ≡ true → not (e.1 == s) ≡ true
kept_of_other r s apart e is =
    let same : e.1 ≡ r = same_number e.1 r is in
    ap not (other_number e.1 s (λ h. apart (sym same ∙ h)))

pub listed_released : (locks : NameMap ℕ) (r s : ℕ) → (r ≡ s → ⊥) → locked_rows (without_locks locks s) r ≡ locked_rows locks r
listed_released locks r s apart = ap (λ (m : NameMap ℕ). map (λ e. e.0) m) (filter_within (λ e. e.1 == r) (λ e. not (e.1 == s)) locks (kept_of_other r s apart))

or_first : (a b : Bool) → a ≡ true → (a || b) ≡ true
or_first true b is = refl
or_first false b is = absurd cc

pub listed_released_since : (locks : NameMap ℕ) (r s : ℕ) (named : List (List ℕ)) → (r ≡ s → ⊥) → locked_rows (without_later_locks locks s named) r ≡ locked_rows locks r
listed_released_since locks r s named apart =
    ap (λ (m : NameMap ℕ). map (λ e. e.0) m)
    (filter_within (λ e. e.1 == r) (λ e. not (e.1 == s) || list_any (is_same_name e.0) named) locks (λ e is. or_first (not (e.1 == s)) (list_any (is_same_name e.0) named) (kept_of_other r s apart e is)))

still_held : (e : List ℕ × ℕ) (locks : NameMap ℕ) (s : ℕ) → get locks e.0 ≡ None → (row : List ℕ) → holds_lock locks s row ≡ true → holds_lock (e ∷ locks) s row ≡ true
still_held e locks s none row held = choose (is_same_name row e.0) refl
  where
    choose : (b : Bool) → is_same_name row e.0 ≡ b → option_map_or (λ holder. holder == s) (cond b (Some e.1) (get locks row)) false ≡ true
    choose true is = let at : get locks e.0 ≡ Some s = subst (λ n. get locks n ≡ Some s) (same_name row e.0 is) (holder_is locks s row held) in absurd cc
    choose false is = held

-- a session holds the lock of each row that it is said to have locked
pub locked_are_held : (locks : NameMap ℕ) (s : ℕ) → IsRisingMap locks → Each (λ row. holds_lock locks s row ≡ true) (locked_rows locks s)
locked_are_held [] s rising = tt
locked_are_held (e ∷ locks) s rising =
    let head = rising_head e locks rising in
    go (each_weaker (λ row. holds_lock locks s row ≡ true) (λ row. holds_lock (e ∷ locks) s row ≡ true) (locked_rows locks s) (still_held e locks s head.0) (locked_are_held locks s head.1)) (e.1 == s) refl
  where
    go : Each (λ row. holds_lock (e ∷ locks) s row ≡ true) (locked_rows locks s) → (b : Bool) → (e.1 == s) ≡ b → Each (λ row. holds_lock (e ∷ locks) s row ≡ true) (map (λ y. y.0) (cond b (e ∷ filter (λ y. y.1 == s) locks) (filter (λ y. y.1 == s) locks)))
    go rest true is = (rw (own_name e.0) is, rest)
    go rest false is = rest

held_among : (locks : NameMap ℕ) (s : ℕ) (names : List (List ℕ)) (row : List ℕ) → Each (λ n. holds_lock locks s n ≡ true) names → list_any (is_same_name row) names ≡ true → holds_lock locks s row ≡ true
held_among locks s [] row all among = absurd cc
held_among locks s (n ∷ names) row all among = go (held_among locks s names row all.1) (is_same_name row n) refl among
  where
    go : (list_any (is_same_name row) names ≡ true → holds_lock locks s row ≡ true) → (b : Bool) → is_same_name row n ≡ b → (b || list_any (is_same_name row) names) ≡ true → holds_lock locks s row ≡ true
    go rest true is h = subst (λ m. holds_lock locks s m ≡ true) (sym (same_name row n is)) all.0
    go rest false is h = rest h

bool_same : (a b : Bool) → (a ≡ true → b ≡ true) → (b ≡ true → a ≡ true) → a ≡ b
bool_same true true f g = refl
bool_same true false f g = let h = f refl in absurd cc
bool_same false true f g = let h = g refl in absurd cc
bool_same false false f g = refl

-- a row is among those that a session has locked where the session holds its lock
pub listed_where_held : (locks : NameMap ℕ) (s : ℕ) (row : List ℕ) → IsRisingMap locks → list_any (is_same_name row) (locked_rows locks s) ≡ holds_lock locks s row
listed_where_held locks s row rising = bool_same _ _ (held_among locks s (locked_rows locks s) row (locked_are_held locks s rising)) (among_locked locks s row)

-- what a map that gives each of some names a value has at a name
pub get_paired : {X : Type 0} (f : List ℕ → X) (names : List (List ℕ)) (q : List ℕ) → get (map (λ n. (n, f n)) names) q ≡ cond (list_any (is_same_name q) names) (Some (f q)) None
get_paired f [] q = refl
get_paired f (n ∷ names) q = go (get_paired f names q) (is_same_name q n) refl
  where
    go : get (map (λ m. (m, f m)) names) q ≡ cond (list_any (is_same_name q) names) (Some (f q)) None → (b : Bool) → is_same_name q n ≡ b → cond b (Some (f n)) (get (map (λ m. (m, f m)) names) q) ≡ cond (b || list_any (is_same_name q) names) (Some (f q)) None
    go rest true is = ap (λ m. Some (f m)) (sym (same_name q n is))
    go rest false is = rest
