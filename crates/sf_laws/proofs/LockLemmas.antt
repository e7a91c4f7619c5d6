-- Which locks stay held.
use Rattle.std.proofs.Common.{◌≡◌, ℕ, Bool, true, false, ◌||◌, not, cond, List, [], ◌∷◌, map, Option, Some, None, refl, sym, ap, subst, ◌∙◌}
use Rattle.std.specs.Prelude.{filter, ◌==◌}
use Rattle.std.specs.List.{list_any}
use Rattle.std.specs.Option.{option_map_or}
use Rattle.std.specs.Cmp.Lexicographic.{nat_list_cmp_total}
use Rattle.std.proofs.lemmas.Cmp.{tied_itself}
use Rattle.sf_types.specs.Inside.NameMaps.{NameMap, is_same_name, get, with_entry}
use Rattle.sf_types.proofs.NameMapLemmas.{same_name, get-put}
use Rattle.sf_types.specs.Table.Sessions.{holds_lock, is_busy, with_lock, without_locks, locked_rows}
use Rattle.sf_types.specs.Calls.Savepoints.{without_later_locks}
use Rattle.sf_types.proofs.NumberLemmas.{same_number, own_number, not_same, other_number}

pub own_name : (name : List ℕ) → is_same_name name name ≡ true
own_name name = rw (tied_itself nat_list_cmp_total name) refl

-- the holder of a lock
pub holder_is : (locks : NameMap ℕ) (s : ℕ) (row : List ℕ) → holds_lock locks s row ≡ true → get locks row ≡ Some s
holder_is locks s row held = go (get locks row) refl held
  where
    go : (o : Option ℕ) → get locks row ≡ o → option_map_or (λ holder. holder == s) o false ≡ true → get locks row ≡ Some s
    go None is h = absurd cc
    go (Some x) is h = is ∙ ap (λ n. Some n) (same_number x s h)

pub held_from : (locks : NameMap ℕ) (s : ℕ) (row : List ℕ) → get locks row ≡ Some s → holds_lock locks s row ≡ true
held_from locks s row is = rw is (own_number s)

-- one session holds a lock
pub one_holder : (locks : NameMap ℕ) (r s : ℕ) (row : List ℕ) → holds_lock locks r row ≡ true → holds_lock locks s row ≡ true → r ≡ s
one_holder locks r s row held_r held_s =
    let first = holder_is locks r row held_r in
    let second = holder_is locks s row held_s in
    cc

pub busy_where : (locks : NameMap ℕ) (r s : ℕ) (row : List ℕ) → get locks row ≡ Some r → (r ≡ s → ⊥) → is_busy locks s row ≡ true
busy_where locks r s row is apart = rw is (rw (other_number r s apart) refl)

-- a lock that is taken
pub takes_lock : (locks : NameMap ℕ) (s : ℕ) (row : List ℕ) → holds_lock (with_lock locks s row) s row ≡ true
takes_lock locks s row =
    elim (holds_lock locks s row) as (λ b. holds_lock locks s row ≡ b → holds_lock (cond b locks (with_entry locks row s)) s row ≡ true) [
      | true ↦ λ held. held
      | false ↦ λ held. held_from (with_entry locks row s) s row (get-put locks row s row ∙ ap (λ b. cond b (Some s) (get locks row)) (own_name row))
    ] refl

-- the locks that are held stay so where no other session holds the one that is taken
pub stays_with_lock : (locks : NameMap ℕ) (r s : ℕ) (row other : List ℕ) → is_busy locks s row ≡ false → holds_lock locks r other ≡ true → holds_lock (with_lock locks s row) r other ≡ true
stays_with_lock locks r s row other free held =
    elim (holds_lock locks s row) as (λ b. holds_lock (cond b locks (with_entry locks row s)) r other ≡ true) [
      | true ↦ held
      | false ↦ held_from (with_entry locks row s) r other (get-put locks row s other ∙ go (is_same_name other row) refl)
    ]
  where
    go : (b : Bool) → is_same_name other row ≡ b → cond b (Some s) (get locks other) ≡ Some r
    go false is = holder_is locks r other held
    go true is =
        let same : other ≡ row = same_name other row is in
        let at : get locks row ≡ Some r = subst (λ n. get locks n ≡ Some r) same (holder_is locks r other held) in
        elim (r == s) as (λ b. (r == s) ≡ b → Some s ≡ Some r) [
          | true ↦ λ h. ap (λ n. Some n) (sym (same_number r s h))
          | false ↦ λ h. let busy = busy_where locks r s row at (λ e. not_same r s h e) in absurd cc
        ] refl

-- the locks that a filter keeps
pub held-filter : (test : List ℕ × ℕ → Bool) (locks : NameMap ℕ) (r : ℕ) (row : List ℕ) → test (row, r) ≡ true → holds_lock locks r row ≡ true → holds_lock (filter test locks) r row ≡ true
held-filter test [] r row passes held = absurd cc
held-filter test (e ∷ locks) r row passes held = go (held-filter test locks r row passes) (is_same_name row e.0) (test e) refl refl held
  where
    go : (holds_lock locks r row ≡ true → holds_lock (filter test locks) r row ≡ true) → (b x : Bool) → is_same_name row e.0 ≡ b → test e ≡ x → option_map_or (λ holder. holder == r) (cond b (Some e.1) (get locks row)) false ≡ true
        → option_map_or (λ holder. holder == r) (get (cond x (e ∷ filter test locks) (filter test locks)) row) false ≡ true
    go rest true true name is h = rw name h
    go rest true false name is h =
        let first : row ≡ e.0 = same_name row e.0 name in
        let second : e.1 ≡ r = same_number e.1 r h in
        let gone : test (row, r) ≡ false = subst (λ n. test (n, r) ≡ false) (sym first) (subst (λ n. test (e.0, n) ≡ false) second is) in
        absurd cc
    go rest false true name is h = rw name (rest h)
    go rest false false name is h = rest h

pub stays_released : (locks : NameMap ℕ) (r s : ℕ) (row : List ℕ) → (r ≡ s → ⊥) → holds_lock locks r row ≡ true → holds_lock (without_locks locks s) r row ≡ true
stays_released locks r s row apart held = held-filter (λ e. not (e.1 == s)) locks r row (rw (other_number r s apart) refl) held

pub stays_released_since : (locks : NameMap ℕ) (r s : ℕ) (named : List (List ℕ)) (row : List ℕ) → (r ≡ s → ⊥) → holds_lock locks r row ≡ true → holds_lock (without_later_locks locks s named) r row ≡ true
stays_released_since locks r s named row apart held = held-filter (λ e. not (e.1 == s) || list_any (is_same_name e.0) named) locks r row (rw (other_number r s apart) refl) held

pub stays_named : (locks : NameMap ℕ) (s : ℕ) (named : List (List ℕ)) (row : List ℕ) → list_any (is_same_name row) named ≡ true → holds_lock locks s row ≡ true → holds_lock (without_later_locks locks s named) s row ≡ true
stays_named locks s named row among held = held-filter (λ e. not (e.1 == s) || list_any (is_same_name e.0) named) locks s row (rw (own_number s) among) held

-- a row that a session has locked is among its locked rows
pub among_locked : (locks : NameMap ℕ) (s : ℕ) (row : List ℕ) → holds_lock locks s row ≡ true → list_any (is_same_name row) (locked_rows locks s) ≡ true
among_locked [] s row held = absurd cc
among_locked (e ∷ locks) s row held = go (among_locked locks s row) (is_same_name row e.0) (e.1 == s) refl refl held
  where
    go : (holds_lock locks s row ≡ true → list_any (is_same_name row) (locked_rows locks s) ≡ true) → (b x : Bool) → is_same_name row e.0 ≡ b → (e.1 == s) ≡ x → option_map_or (λ holder. holder == s) (cond b (Some e.1) (get locks row)) false ≡ true
        → list_any (is_same_name row) (map (λ y. y.0) (cond x (e ∷ filter (λ y. y.1 == s) locks) (filter (λ y. y.1 == s) locks))) ≡ true
    go rest true true name is h = rw name refl
    go rest true false name is h = absurd cc
    go rest false true name is h = rw name (rest h)
    go rest false false name is h = rest h
