-- What holds of each birth in reach holds of the birth of each mark that the table holds and of those that promises found.
use Rattle.std.proofs.Common.{◌≡◌, ℕ, ◌+◌, ◌-◌, Bool, true, false, ◌||◌, cond, List, [], ◌∷◌, ◌++◌, length, take, drop, map, Option, Some, None, refl, sym, ap, subst, ◌∙◌, arith}
use Rattle.std.specs.Prelude.{flat_map, is_none, nat_lt, slice_index_or, ◌==◌}
use Rattle.std.specs.List.{AllByRecursion as Each, filter_map, range_with_len}
use Rattle.std.specs.Option.{option_map_or, IfSome}
use Rattle.std.proofs.lemmas.Bool.Decides.{nat_tests, Decides-eqb}
use Rattle.sf_types.specs.declared.holder.Holder.TheVariants as holder
use Rattle.sf_types.specs.Inside.Births.{with_birth, rising_births}
use Rattle.sf_types.specs.Values.Marks.{Marked, Value, birth_of_mark, births_in}
use Rattle.sf_types.specs.Table.Parts.{Promise, Rows, Session, Table}
use Rattle.sf_types.specs.Table.Versions.{last_change}
use Rattle.sf_types.specs.Space.Reach.{Holding, is_kept, version_holding, version_holdings, values_in, session_values, session_births, promise_holding, session_holdings, holdings, reach}
use Rattle.sf_laws.specs.TrueMarks.{found_by}
use Rattle.sf_laws.proofs.EachLemmas.{each_weaker, each-append, each_left, each_right, each-map, each_from_map, each-flat_map, each_from_flat_map, each-filter_map, each_from_filter_map}
use Rattle.sf_laws.proofs.HeldLemmas.{OfRows, OfKept, OfVersions, OfSession, Held}
use Rattle.sf_laws.proofs.HeldEditLemmas.{OfUnstored}
use Rattle.sf_laws.proofs.PositionLemmas.{at_drop, drop_of_take}
use Rattle.sf_laws.proofs.OptionLemmas.{none_from}
use Rattle.std.proofs.lemmas.Option.{get_or_from_slice_get}

-- Something holds of a mark's birth, where the mark names one.
abbrev pub OfBirth : (ℕ → Type 0) → Marked → Type 0
OfBirth P m = IfSome (birth_of_mark m.mark) P

pub unstored_birth : (P : ℕ → Type 0) → OfUnstored (OfBirth P)
unstored_birth P = record { of_zero = tt; of_fresh = λ b. tt }

-- a list and its births, rising
each-with_birth : (P : ℕ → Type 0) (b : ℕ) (bs : List ℕ) → P b → Each P bs → Each P (with_birth b bs)
each-with_birth P b [] is all = (is, tt)
each-with_birth P b (c ∷ bs) is all =
    elim (nat_lt b c) as (λ x. Each P (cond x (b ∷ c ∷ bs) (cond (b == c) (c ∷ bs) (c ∷ with_birth b bs)))) [
      | true ↦ (is, all)
      | false ↦ elim (b == c) as (λ x. Each P (cond x (c ∷ bs) (c ∷ with_birth b bs))) [
        | true ↦ all
        | false ↦ (all.0, each-with_birth P b bs is all.1)
      ]
    ]

each_from_with_birth : (P : ℕ → Type 0) (b : ℕ) (bs : List ℕ) → Each P (with_birth b bs) → P b × Each P bs
each_from_with_birth P b [] all = (all.0, tt)
each_from_with_birth P b (c ∷ bs) all =
    elim (nat_lt b c) as (λ x. Each P (cond x (b ∷ c ∷ bs) (cond (b == c) (c ∷ bs) (c ∷ with_birth b bs))) → P b × Each P (c ∷ bs)) [
      | true ↦ λ h. (h.0, h.1)
      | false ↦ elim (b == c) as (λ x. (b == c) ≡ x → Each P (cond x (c ∷ bs) (c ∷ with_birth b bs)) → P b × Each P (c ∷ bs)) [
        | true ↦ λ is h. (subst P (sym ((Decides-eqb b c).0 is)) h.0, h)
        | false ↦ λ is h. let rest = each_from_with_birth P b bs h.1 in (rest.0, (h.0, rest.1))
      ] refl
    ] all

pub each-rising : (P : ℕ → Type 0) (bs : List ℕ) → Each P bs → Each P (rising_births bs)
each-rising P [] all = tt
each-rising P (b ∷ bs) all = each-with_birth P b (rising_births bs) all.0 (each-rising P bs all.1)

pub each_from_rising : (P : ℕ → Type 0) (bs : List ℕ) → Each P (rising_births bs) → Each P bs
each_from_rising P [] all = tt
each_from_rising P (b ∷ bs) all = let parts = each_from_with_birth P b (rising_births bs) all in (parts.0, each_from_rising P bs parts.1)

-- the births in a value
pub each-births_in : (P : ℕ → Type 0) (v : Value) → Each (OfBirth P) v.bytes → Each P (births_in v)
each-births_in P v all = each-rising P (filter_map (λ m. birth_of_mark m.mark) v.bytes) (each-filter_map P (λ m. birth_of_mark m.mark) v.bytes all)

pub each_from_births_in : (P : ℕ → Type 0) (v : Value) → Each P (births_in v) → Each (OfBirth P) v.bytes
each_from_births_in P v all = each_from_filter_map P (λ m. birth_of_mark m.mark) v.bytes (each_from_rising P (filter_map (λ m. birth_of_mark m.mark) v.bytes) all)

-- the values of rows
pub each-values_in : (V : Value → Type 0) (M : Marked → Type 0) → ((v : Value) → Each M v.bytes → V v) → (rows : Rows) → OfRows M rows → Each V (values_in rows)
each-values_in V M f [] all = tt
each-values_in V M f ((name, None) ∷ rows) all = each-values_in V M f rows all.1
each-values_in V M f ((name, Some v) ∷ rows) all = (f v all.0, each-values_in V M f rows all.1)

pub each_from_values_in : (V : Value → Type 0) (M : Marked → Type 0) → ((v : Value) → V v → Each M v.bytes) → (rows : Rows) → Each V (values_in rows) → OfRows M rows
each_from_values_in V M f [] all = tt
each_from_values_in V M f ((name, None) ∷ rows) all = (tt, each_from_values_in V M f rows all)
each_from_values_in V M f ((name, Some v) ∷ rows) all = (f v all.0, each_from_values_in V M f rows all.1)

-- the values of a session
pub each-session_values : (V : Value → Type 0) (M : Marked → Type 0) → ((v : Value) → Each M v.bytes → V v) → (p : Session) → OfSession M p → Each V (session_values p)
each-session_values V M f p own =
    each-append V (values_in p.working ++ map (λ e. e.1.value) p.locators) _
    (each-append V (values_in p.working) _ (each-values_in V M f p.working own.working)
    (each-map V (λ e. e.1.value) p.locators (each_weaker (λ e. Each M e.1.value.bytes) (λ e. V e.1.value) p.locators (λ e is. f e.1.value is) own.locators)))
    (each-flat_map V (λ x. values_in x.working) p.savepoints (each_weaker (λ x. OfRows M x.working) (λ x. Each V (values_in x.working)) p.savepoints (λ x is. each-values_in V M f x.working is) own.savepoints))

pub each_from_session_values : (V : Value → Type 0) (M : Marked → Type 0) → ((v : Value) → V v → Each M v.bytes) → (p : Session) → Each V (session_values p) → OfSession M p
each_from_session_values V M f p all =
    let front = each_left V (values_in p.working ++ map (λ e. e.1.value) p.locators) (Rattle.std.specs.Prelude.flat_map (λ x. values_in x.working) p.savepoints) all in
    record {
      working = each_from_values_in V M f p.working (each_left V (values_in p.working) (map (λ e. e.1.value) p.locators) front);
      locators = each_weaker (λ e. V e.1.value) (λ e. Each M e.1.value.bytes) p.locators (λ e is. f e.1.value is) (each_from_map V (λ e. e.1.value) p.locators (each_right V (values_in p.working) (map (λ e. e.1.value) p.locators) front));
      savepoints = each_weaker (λ x. Each V (values_in x.working)) (λ x. OfRows M x.working) p.savepoints (λ x is. each_from_values_in V M f x.working is)
          (each_from_flat_map V (λ x. values_in x.working) p.savepoints (each_right V (values_in p.working ++ map (λ e. e.1.value) p.locators) (flat_map (λ x. values_in x.working) p.savepoints) all));
    }

pub each-session_births : (P : ℕ → Type 0) (p : Session) → OfSession (OfBirth P) p → Each P (session_births p)
each-session_births P p own =
    each-rising P (flat_map births_in (session_values p)) (each-flat_map P births_in (session_values p) (each-session_values (λ v. Each P (births_in v)) (OfBirth P) (each-births_in P) p own))

pub each_from_session_births : (P : ℕ → Type 0) (p : Session) → Each P (session_births p) → OfSession (OfBirth P) p
each_from_session_births P p all =
    each_from_session_values (λ v. Each P (births_in v)) (OfBirth P) (each_from_births_in P) p
    (each_from_flat_map P births_in (session_values p) (each_from_rising P (flat_map births_in (session_values p)) all))

-- The births of a holding.
abbrev OfHolding : (ℕ → Type 0) → Holding → Type 0
OfHolding P h = Each P h.births

of_promise : (P : ℕ → Type 0) (s : ℕ) (o : Option Promise) → Each P (option_map_or (λ q. q.births) o []) → Each (OfHolding P) (option_map_or (λ q. record { holder = holder.Promise s; births = q.births } ∷ []) o [])
of_promise P s None all = tt
of_promise P s (Some q) all = (all, tt)

from_promise : (P : ℕ → Type 0) (s : ℕ) (o : Option Promise) → Each (OfHolding P) (option_map_or (λ q. record { holder = holder.Promise s; births = q.births } ∷ []) o []) → Each P (option_map_or (λ q. q.births) o [])
from_promise P s None all = tt
from_promise P s (Some q) all = all.0

each-session_holdings : (P : ℕ → Type 0) (s : ℕ) (ps : List Session) → Each (OfSession (OfBirth P)) ps → Each (λ p. Each P (found_by p)) ps → Each (OfHolding P) (session_holdings s ps)
each-session_holdings P s [] own found = tt
each-session_holdings P s (p ∷ ps) own found =
    (each-session_births P p own.0, each-append (OfHolding P) (promise_holding s p) (session_holdings (s + 1) ps) (of_promise P s p.promise found.0) (each-session_holdings P (s + 1) ps own.1 found.1))

each_from_session_holdings : (P : ℕ → Type 0) (s : ℕ) (ps : List Session) → Each (OfHolding P) (session_holdings s ps) → Each (OfSession (OfBirth P)) ps × Each (λ p. Each P (found_by p)) ps
each_from_session_holdings P s [] all = (tt, tt)
each_from_session_holdings P s (p ∷ ps) all =
    let rest = each_from_session_holdings P (s + 1) ps (each_right (OfHolding P) (promise_holding s p) (session_holdings (s + 1) ps) all.1) in
    ((each_from_session_births P p all.0, rest.0), (from_promise P s p.promise (each_left (OfHolding P) (promise_holding s p) (session_holdings (s + 1) ps) all.1), rest.1))

or_none : (b : Bool) (o : Option (Option Value)) → (b ≡ true → o ≡ None) → (b || is_none o) ≡ is_none o
or_none true o is = rw (is refl) refl
or_none false o is = refl

pub kept_by_later : (t : Table) (n : ℕ) (cs : List Rows) (row : List ℕ) → drop n t.commits ≡ cs → is_kept t row n ≡ is_none (last_change (take (t.floor - n) cs) row)
kept_by_later t n cs row at =
    let later : drop n (take t.floor t.commits) ≡ take (t.floor - n) cs = drop_of_take n t.floor t.commits ∙ ap (take (t.floor - n)) at in
    ap (λ us. nat_lt t.floor n || is_none (last_change us row)) later
    ∙ or_none (nat_lt t.floor n) (last_change (take (t.floor - n) cs) row) (λ lt. let gone : t.floor - n ≡ 0 = grind (arith, nat_tests) in ap (λ k. last_change (take k cs) row) gone)

of_version : (P : ℕ → Type 0) (t : Table) (n : ℕ) (upto : List Rows) (e : List ℕ × Option Value) → ((row : List ℕ) → is_kept t row n ≡ is_none (last_change upto row)) → OfKept (OfBirth P) upto e → IfSome (version_holding t n e) (OfHolding P)
of_version P t n upto (row, None) kept is = tt
of_version P t n upto (row, Some v) kept is =
    elim (is_kept t row n) as (λ b. is_kept t row n ≡ b → IfSome (cond b (Some (record { holder = holder.Version row n; births = births_in v })) None) (OfHolding P)) [
      | true ↦ λ b. each-births_in P v (is (none_from (last_change upto row) (sym (kept row) ∙ b)))
      | false ↦ λ b. tt
    ] refl

from_version : (P : ℕ → Type 0) (t : Table) (n : ℕ) (upto : List Rows) (e : List ℕ × Option Value) → ((row : List ℕ) → is_kept t row n ≡ is_none (last_change upto row)) → IfSome (version_holding t n e) (OfHolding P) → OfKept (OfBirth P) upto e
from_version P t n upto (row, None) kept is none = tt
from_version P t n upto (row, Some v) kept is none =
    let b : is_kept t row n ≡ true = kept row ∙ ap is_none none in
    each_from_births_in P v (subst (λ x. IfSome (cond x (Some (record { holder = holder.Version row n; births = births_in v })) None) (OfHolding P)) b is)

abbrev versions_from : Table → ℕ → ℕ → List Holding
versions_from t k count = flat_map (λ n. filter_map (version_holding t n) (slice_index_or t.commits (n - 1) [])) (range_with_len k count)

last_off : (k : ℕ) → k + 1 - 1 ≡ k
last_off k = omega arith

each-versions : (P : ℕ → Type 0) (t : Table) (k : ℕ) (cs : List Rows) → drop k t.commits ≡ cs → OfVersions (OfBirth P) (t.floor - k) cs → Each (OfHolding P) (versions_from t (k + 1) (length cs))
each-versions P t k [] at all = tt
each-versions P t k (c ∷ cs) at all =
    let here = at_drop t.commits k c cs at in
    let first : slice_index_or t.commits (k + 1 - 1) [] ≡ c = ap (λ n. slice_index_or t.commits n []) (last_off k) ∙ get_or_from_slice_get t.commits k c [] here.0 in
    let less : t.floor - k - 1 ≡ t.floor - (k + 1) = omega arith in
    let kept : (row : List ℕ) → is_kept t row (k + 1) ≡ is_none (last_change (take (t.floor - k - 1) cs) row) = λ row. kept_by_later t (k + 1) cs row here.1 ∙ ap (λ n. is_none (last_change (take n cs) row)) (sym less) in
    each-append (OfHolding P) (filter_map (version_holding t (k + 1)) (slice_index_or t.commits (k + 1 - 1) [])) (versions_from t (k + 1 + 1) (length cs))
    (subst (λ x. Each (OfHolding P) (filter_map (version_holding t (k + 1)) x)) (sym first)
    (each-filter_map (OfHolding P) (version_holding t (k + 1)) c (each_weaker (OfKept (OfBirth P) (take (t.floor - k - 1) cs)) (λ e. IfSome (version_holding t (k + 1) e) (OfHolding P)) c (λ e is. of_version P t (k + 1) (take (t.floor - k - 1) cs) e kept is) all.0)))
    (each-versions P t (k + 1) cs here.1 (subst (λ n. OfVersions (OfBirth P) n cs) less all.1))

each_from_versions : (P : ℕ → Type 0) (t : Table) (k : ℕ) (cs : List Rows) → drop k t.commits ≡ cs → Each (OfHolding P) (versions_from t (k + 1) (length cs)) → OfVersions (OfBirth P) (t.floor - k) cs
each_from_versions P t k [] at all = tt
each_from_versions P t k (c ∷ cs) at all =
    let here = at_drop t.commits k c cs at in
    let first : slice_index_or t.commits (k + 1 - 1) [] ≡ c = ap (λ n. slice_index_or t.commits n []) (last_off k) ∙ get_or_from_slice_get t.commits k c [] here.0 in
    let less : t.floor - k - 1 ≡ t.floor - (k + 1) = omega arith in
    let kept : (row : List ℕ) → is_kept t row (k + 1) ≡ is_none (last_change (take (t.floor - k - 1) cs) row) = λ row. kept_by_later t (k + 1) cs row here.1 ∙ ap (λ n. is_none (last_change (take n cs) row)) (sym less) in
    let front = each_left (OfHolding P) (filter_map (version_holding t (k + 1)) (slice_index_or t.commits (k + 1 - 1) [])) (versions_from t (k + 1 + 1) (length cs)) all in
    let back = each_right (OfHolding P) (filter_map (version_holding t (k + 1)) (slice_index_or t.commits (k + 1 - 1) [])) (versions_from t (k + 1 + 1) (length cs)) all in (
      each_weaker (λ e. IfSome (version_holding t (k + 1) e) (OfHolding P)) (OfKept (OfBirth P) (take (t.floor - k - 1) cs)) c (λ e is. from_version P t (k + 1) (take (t.floor - k - 1) cs) e kept is)
          (each_from_filter_map (OfHolding P) (version_holding t (k + 1)) c (subst (λ x. Each (OfHolding P) (filter_map (version_holding t (k + 1)) x)) first front)),
      subst (λ n. OfVersions (OfBirth P) n cs) (sym less) (each_from_versions P t (k + 1) cs here.1 back),
    )

-- all that holds births
pub record OfHeld (P : ℕ → Type 0) (t : Table) : Type 0 where
  pub held : Held (OfBirth P) t.floor t
  pub found : Each (λ p. Each P (found_by p)) t.sessions

none_off : (n : ℕ) → n - 0 ≡ n
none_off n = omega arith

pub each-reach : (P : ℕ → Type 0) (t : Table) → OfHeld P t → Each P (reach t)
each-reach P t of =
    each-rising P (flat_map (λ h. h.births) (holdings t)) (each-flat_map P (λ h. h.births) (holdings t)
    (each-append (OfHolding P) (version_holdings t) (session_holdings 1 t.sessions)
    (each-versions P t 0 t.commits refl (subst (λ n. OfVersions (OfBirth P) n t.commits) (sym (none_off t.floor)) of.held.versions))
    (each-session_holdings P 1 t.sessions of.held.sessions of.found)))

pub each_from_reach : (P : ℕ → Type 0) (t : Table) → Each P (reach t) → OfHeld P t
each_from_reach P t all =
    let hs = each_from_flat_map P (λ h. h.births) (holdings t) (each_from_rising P (flat_map (λ h. h.births) (holdings t)) all) in
    let sessions = each_from_session_holdings P 1 t.sessions (each_right (OfHolding P) (version_holdings t) (session_holdings 1 t.sessions) hs) in
    record {
      held = record {
        versions = subst (λ n. OfVersions (OfBirth P) n t.commits) (none_off t.floor) (each_from_versions P t 0 t.commits refl (each_left (OfHolding P) (version_holdings t) (session_holdings 1 t.sessions) hs));
        sessions = sessions.0;
      };
      found = sessions.1;
    }
