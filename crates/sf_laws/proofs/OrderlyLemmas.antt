-- The names in a session's maps rise, and without a transaction it works on nothing and has locked nothing.
use Rattle.std.proofs.Common.{◌≡◌, ℕ, ◌-◌, Bool, true, false, ◌||◌, not, cond, IsTrue, List, [], ◌∷◌, map, replicate, zero, suc, Option, Some, None, refl, sym, ap, subst, ◌∙◌}
use Rattle.std.specs.Prelude.{T, filter, slice_get, slice_set, unwrap_or, ◌==◌}
use Rattle.std.specs.List.{AllByRecursion as Each, list_any}
use Rattle.std.specs.Ordering.{is_lt}
use Rattle.std.specs.FinMap.Entries as fin
use Rattle.sf_types.specs.declared.call.Call.{Call}
use Rattle.sf_types.specs.declared.history.Entry.{Entry}
use Rattle.sf_types.specs.declared.options.Options.{Options}
use Rattle.sf_types.specs.Values.Names.{name_cmp}
use Rattle.sf_types.specs.Inside.NameMaps.{NameMap, is_same_name, get, without_entry}
use Rattle.sf_types.proofs.NameMapLemmas.{IsRisingMap, rising_empty, rising-put}
use Rattle.sf_types.specs.Values.Marks.{Value}
use Rattle.sf_types.specs.Table.Parts.{Locator, Promise, Rows, Session, Table, new_session, opening_table}
use Rattle.sf_types.specs.Table.Sessions.{has_session, session_of, holds_lock, locked_rows}
use Rattle.sf_types.specs.Calls.Savepoints.{without_later_locks}
use Rattle.sf_types.specs.Space.Cuts.{settle}
use Rattle.sf_types.specs.Space.Due.{is_due}
use Rattle.sf_types.specs.Orders.Histories.{IsLegal, effect_of}
use Rattle.sf_laws.specs.UseWithinCapacity.{IsWithinCapacity, IsEnough}
use Rattle.std.specs.Option.{IfSome}
use Rattle.sf_laws.proofs.EachLemmas.{each-append, each-filter, each_found}
use Rattle.sf_laws.proofs.EntryCaseLemmas.{EntryCases, by_entry_cases}
use Rattle.sf_laws.proofs.HeldStepLemmas.{each-up_to}
use Rattle.sf_laws.proofs.LockLemmas.{among_locked}
use Rattle.sf_laws.proofs.LockStepLemmas.{due_held}
use Rattle.sf_laws.proofs.AskLemmas.{Asks, none_released}
use Rattle.sf_laws.proofs.OwnLemmas.{others_listed}
use Rattle.sf_laws.proofs.PromiseLemmas.{own_session, other_session, same_sessions}
use Rattle.sf_laws.proofs.PublishCaseLemmas.{PublishCases, by_publish_cases}
use Rattle.sf_laws.proofs.StepCaseLemmas.{StepCases, by_cases}
use Rattle.sf_types.proofs.BoolLemmas.{both, first, second}
use Rattle.sf_types.proofs.NumberLemmas.{same_number, not_same}
use Rattle.sf_types.proofs.RefusalLemmas.{same_part}

-- A session's part in order.
pub record Orderly (locks : NameMap ℕ) (s : ℕ) (p : Session) : Type 0 where
  pub locators : IsRisingMap p.locators
  pub working : IsRisingMap p.working
  pub saved : Each (λ x. IsRisingMap x.working) p.savepoints
  pub closed : p.is_open ≡ false → p.working ≡ []
  pub closed_saved : p.is_open ≡ false → Each (λ x. x.working ≡ []) p.savepoints
  pub unlocked : p.is_open ≡ false → locked_rows locks s ≡ []

below-without : {X : Type 0} (j k : List ℕ) (m : NameMap X) → T (fin.below_all name_cmp j m) → T (fin.below_all name_cmp j (without_entry m k))
below-without j k [] below = tt
below-without j k (e ∷ m) below =
    let rest = second (is_lt (name_cmp j e.0)) (fin.below_all name_cmp j m) below in
    elim (is_same_name k e.0) as (λ b. T (fin.below_all name_cmp j (cond b m (e ∷ without_entry m k)))) [
      | true ↦ rest
      | false ↦ both (is_lt (name_cmp j e.0)) (fin.below_all name_cmp j (without_entry m k)) (first (is_lt (name_cmp j e.0)) (fin.below_all name_cmp j m) below) (below-without j k m rest)
    ]

pub rising-without : {X : Type 0} (m : NameMap X) (k : List ℕ) → IsRisingMap m → IsRisingMap (without_entry m k)
unfolding IsRisingMap
rising-without [] k rising = tt
rising-without (e ∷ m) k rising =
    let rest = second (fin.below_all name_cmp e.0 m) (fin.is_sorted name_cmp m) rising in
    elim (is_same_name k e.0) as (λ b. T (fin.is_sorted name_cmp (cond b m (e ∷ without_entry m k)))) [
      | true ↦ rest
      | false ↦ both (fin.below_all name_cmp e.0 (without_entry m k)) (fin.is_sorted name_cmp (without_entry m k)) (below-without e.0 k m (first (fin.below_all name_cmp e.0 m) (fin.is_sorted name_cmp m) rising)) (rising-without m k rest)
    ]

-- other values at the same names
below-mapped : (f : Locator → Locator) (k : List ℕ) (m : NameMap Locator) → T (fin.below_all name_cmp k m) → T (fin.below_all name_cmp k (map {B = List ℕ × Locator} (λ e. (e.0, f e.1)) m))
below-mapped f k [] below = tt
below-mapped f k (e ∷ m) below = both (is_lt (name_cmp k e.0)) (fin.below_all name_cmp k (map {B = List ℕ × Locator} (λ x. (x.0, f x.1)) m)) (first (is_lt (name_cmp k e.0)) (fin.below_all name_cmp k m) below) (below-mapped f k m (second (is_lt (name_cmp k e.0)) (fin.below_all name_cmp k m) below))

rising-mapped : (f : Locator → Locator) (m : NameMap Locator) → IsRisingMap m → IsRisingMap (map {B = List ℕ × Locator} (λ e. (e.0, f e.1)) m)
unfolding IsRisingMap
rising-mapped f [] rising = tt
rising-mapped f (e ∷ m) rising = both (fin.below_all name_cmp e.0 (map {B = List ℕ × Locator} (λ x. (x.0, f x.1)) m)) (fin.is_sorted name_cmp (map {B = List ℕ × Locator} (λ x. (x.0, f x.1)) m))
    (below-mapped f e.0 m (first (fin.below_all name_cmp e.0 m) (fin.is_sorted name_cmp m) rising)) (rising-mapped f m (second (fin.below_all name_cmp e.0 m) (fin.is_sorted name_cmp m) rising))

below-settled : (k : List ℕ) (rows : Rows) (births : List ℕ) → T (fin.below_all name_cmp k rows) → T (fin.below_all name_cmp k (settle rows births))
below-settled k [] births below = tt
below-settled k ((name, None) ∷ rows) births below = both (is_lt (name_cmp k name)) (fin.below_all name_cmp k (settle rows births)) (first (is_lt (name_cmp k name)) (fin.below_all name_cmp k rows) below) (below-settled k rows births (second (is_lt (name_cmp k name)) (fin.below_all name_cmp k rows) below))
below-settled k ((name, Some v) ∷ rows) births below = both (is_lt (name_cmp k name)) (fin.below_all name_cmp k (settle rows _)) (first (is_lt (name_cmp k name)) (fin.below_all name_cmp k rows) below) (below-settled k rows _ (second (is_lt (name_cmp k name)) (fin.below_all name_cmp k rows) below))

pub rising-settled : (rows : Rows) (births : List ℕ) → IsRisingMap rows → IsRisingMap (settle rows births)
unfolding IsRisingMap
rising-settled [] births rising = tt
rising-settled ((name, None) ∷ rows) births rising = both (fin.below_all name_cmp name (settle rows births)) (fin.is_sorted name_cmp (settle rows births)) (below-settled name rows births (first (fin.below_all name_cmp name rows) (fin.is_sorted name_cmp rows) rising)) (rising-settled rows births (second (fin.below_all name_cmp name rows) (fin.is_sorted name_cmp rows) rising))
rising-settled ((name, Some v) ∷ rows) births rising = both (fin.below_all name_cmp name (settle rows _)) (fin.is_sorted name_cmp (settle rows _)) (below-settled name rows _ (first (fin.below_all name_cmp name rows) (fin.is_sorted name_cmp rows) rising)) (rising-settled rows _ (second (fin.below_all name_cmp name rows) (fin.is_sorted name_cmp rows) rising))

-- The session's part after an entry of its own.
record IsOrderlyStep (t : Table) (s : ℕ) (u : Table) : Type 0 where
  part : Session
  sessions : u.sessions ≡ slice_set t.sessions (s - 1) part
  own : Orderly u.locks s part

none_since : (locks : NameMap ℕ) (s : ℕ) (named : List (List ℕ)) → locked_rows locks s ≡ [] → locked_rows (without_later_locks locks s named) s ≡ []
none_since [] s named none = refl
none_since (e ∷ locks) s named none = go (none_since locks s named) (e.1 == s) (list_any (is_same_name e.0) named) refl none
  where
    go : (locked_rows locks s ≡ [] → locked_rows (without_later_locks locks s named) s ≡ []) → (b a : Bool) → (e.1 == s) ≡ b → map (λ x. x.0) (cond b (e ∷ filter (λ x. x.1 == s) locks) (filter (λ x. x.1 == s) locks)) ≡ []
        → locked_rows (cond (not b || a) (e ∷ without_later_locks locks s named) (without_later_locks locks s named)) s ≡ []
    go rest true a is h = absurd cc
    go rest false a is h = rw is (rest h)

opened_where : (locks : NameMap ℕ) (s : ℕ) (p : Session) (row : List ℕ) → Orderly locks s p → holds_lock locks s row ≡ true → p.is_open ≡ false → ⊥
opened_where locks s p row orderly held is =
    let none = orderly.unlocked is in
    let among = among_locked locks s row held in
    let gone : list_any (is_same_name row) (locked_rows locks s) ≡ false = ap (list_any (is_same_name row)) none in
    cc

no_true : (A : Type 0) → true ≡ false → A
no_true A is = absurd cc

orderly_cases : (t : Table) (s : ℕ) → IsTrue (has_session t s) → Orderly t.locks s (session_of t s) → StepCases t s (IsOrderlyStep t s)
orderly_cases t s has own =
    let p = session_of t s in
    record {
      refused = record { part = p; sessions = sym (ap (λ (u : Table). u.sessions) (same_part t s has)); own = own };
      inserted = λ row busy. record { part = _; sessions = refl; own = record { locators = own.locators; working = rising-put p.working row (Some _) own.working; saved = own.saved; closed = λ is. no_true _ is; closed_saved = λ is. no_true _ is; unlocked = λ is. no_true _ is } };
      deleted = λ row busy. record { part = _; sessions = refl; own = record { locators = own.locators; working = rising-put p.working row None own.working; saved = own.saved; closed = λ is. no_true _ is; closed_saved = λ is. no_true _ is; unlocked = λ is. no_true _ is } };
      locked = λ to row busy. record { part = _; sessions = refl; own = record { locators = rising-put p.locators to _ own.locators; working = own.working; saved = own.saved; closed = λ is. no_true _ is; closed_saved = λ is. no_true _ is; unlocked = λ is. no_true _ is } };
      selected = λ to row. record { part = _; sessions = refl; own = record { locators = rising-put p.locators to _ own.locators; working = own.working; saved = own.saved; closed = own.closed; closed_saved = own.closed_saved; unlocked = own.unlocked } };
      selected_as_of = λ to row n from. record { part = _; sessions = refl; own = record { locators = rising-put p.locators to _ own.locators; working = own.working; saved = own.saved; closed = own.closed; closed_saved = own.closed_saved; unlocked = own.unlocked } };
      assigned = λ to from. record { part = _; sessions = refl; own = record { locators = rising-put p.locators to _ own.locators; working = own.working; saved = own.saved; closed = own.closed; closed_saved = own.closed_saved; unlocked = own.unlocked } };
      freed = λ name. record { part = _; sessions = refl; own = record { locators = rising-without p.locators name own.locators; working = own.working; saved = own.saved; closed = own.closed; closed_saved = own.closed_saved; unlocked = own.unlocked } };
      written = λ name c held. record {
        part = _;
        sessions = refl;
        own = record {
          locators = rising-put p.locators name _ own.locators;
          working = rising-put p.working _ _ own.working;
          saved = own.saved;
          closed = λ is. absurd (opened_where t.locks s p _ own held is);
          closed_saved = own.closed_saved;
          unlocked = own.unlocked;
        };
      };
      saved = λ name. record {
        part = _;
        sessions = refl;
        own = record {
          locators = own.locators;
          working = own.working;
          saved = each-append (λ x. IsRisingMap x.working) _ _ (each-filter (λ x. IsRisingMap x.working) (λ x. not (is_same_name name x.name)) p.savepoints own.saved) (own.working, tt);
          closed = own.closed;
          closed_saved = λ is. each-append (λ x. x.working ≡ []) _ _ (each-filter (λ x. x.working ≡ []) (λ x. not (is_same_name name x.name)) p.savepoints (own.closed_saved is)) (own.closed is, tt);
          unlocked = own.unlocked;
        };
      };
      gone_back = λ name x is. record {
        part = _;
        sessions = refl;
        own = record {
          locators = rising-mapped _ p.locators own.locators;
          working = (each_found (λ y. IsRisingMap y.working) (λ y. is_same_name name y.name) p.savepoints x is own.saved).0;
          saved = each-up_to (λ y. IsRisingMap y.working) x.name p.savepoints own.saved;
          closed = λ c. (each_found (λ y. y.working ≡ []) (λ y. is_same_name name y.name) p.savepoints x is (own.closed_saved c)).0;
          closed_saved = λ c. each-up_to (λ y. y.working ≡ []) x.name p.savepoints (own.closed_saved c);
          unlocked = λ c. none_since t.locks s x.locked (own.unlocked c);
        };
      };
      committed = record { part = _; sessions = refl; own = record { locators = rising-mapped _ p.locators own.locators; working = rising_empty (Option Value); saved = tt; closed = λ is. refl; closed_saved = λ is. tt; unlocked = λ is. ap (λ (m : NameMap ℕ). map (λ e. e.0) m) (none_released t.locks s) } };
      erased = record { part = _; sessions = refl; own = record { locators = own.locators; working = own.working; saved = tt; closed = own.closed; closed_saved = λ is. tt; unlocked = own.unlocked } };
      rolled_back = record { part = _; sessions = refl; own = record { locators = rising-mapped _ p.locators own.locators; working = rising_empty (Option Value); saved = tt; closed = λ is. refl; closed_saved = λ is. tt; unlocked = λ is. ap (λ (m : NameMap ℕ). map (λ e. e.0) m) (none_released t.locks s) } };
      ended = record { part = _; sessions = refl; own = record { locators = rising_empty Locator; working = rising_empty (Option Value); saved = tt; closed = λ is. refl; closed_saved = λ is. tt; unlocked = λ is. ap (λ (m : NameMap ℕ). map (λ e. e.0) m) (none_released t.locks s) } };
    }

-- publications
settled_none : (rows : Rows) (births : List ℕ) → rows ≡ [] → settle rows births ≡ []
settled_none rows births is = ap (λ (m : Rows). settle m births) is ∙ refl

orderly_publish : (t : Table) (s : ℕ) (c : Call) → Orderly t.locks s (session_of t s) → is_due t s c ≡ true → PublishCases t s c (IsOrderlyStep t s)
orderly_publish t s c own due =
    let p = session_of t s in
    record {
      committed = λ is. record { part = _; sessions = refl; own = record { locators = rising-mapped _ p.locators own.locators; working = rising_empty (Option Value); saved = tt; closed = λ h. refl; closed_saved = λ h. tt; unlocked = λ h. ap (λ (m : NameMap ℕ). map (λ e. e.0) m) (none_released t.locks s) } };
      left_open = λ is. record { part = _; sessions = refl; own = record { locators = own.locators; working = rising-settled p.working _ own.working; saved = tt; closed = λ h. settled_none p.working _ (own.closed h); closed_saved = λ h. tt; unlocked = own.unlocked } };
      written = λ name is flush. record {
        part = _;
        sessions = refl;
        own = record {
          locators = rising-put p.locators name _ own.locators;
          working = rising-put p.working _ _ own.working;
          saved = own.saved;
          closed = λ h. absurd (opened_where t.locks s p _ own (due_held t s p c name is due) h);
          closed_saved = own.closed_saved;
          unlocked = own.unlocked;
        };
      };
      nothing = λ is flush. record { part = _; sessions = refl; own = record { locators = own.locators; working = own.working; saved = own.saved; closed = own.closed; closed_saved = own.closed_saved; unlocked = own.unlocked } };
    }

-- The parts of all sessions are in order.
abbrev pub AllOrderly : Table → Type 0
AllOrderly t = (r : ℕ) → IsTrue (has_session t r) → Orderly t.locks r (session_of t r)

orderly_entry_cases : (t : Table) (s : ℕ) (c : Call) → IsTrue (has_session t s) → IsWithinCapacity t → AllOrderly t → EntryCases t s c (IsOrderlyStep t s)
orderly_entry_cases t s c has inv all =
    let own = all s has in
    record {
      stepped = λ none due. by_cases t s (IsOrderlyStep t s) has (orderly_cases t s has own) c;
      published = λ q is same.
          let enough : IsEnough t s q = subst (λ (o : Option Promise). IfSome o (IsEnough t s)) is (inv.promises s has) in
          by_publish_cases t s c (IsOrderlyStep t s) (orderly_publish t s c own (ap (is_due t s) same ∙ enough.due));
      refused = record { part = session_of t s; sessions = sym (ap (λ (u : Table). u.sessions) (same_part t s has)); own = own };
      granted = λ none due h le fits. record { part = _; sessions = refl; own = record { locators = own.locators; working = own.working; saved = own.saved; closed = own.closed; closed_saved = own.closed_saved; unlocked = own.unlocked } };
      cancelled = λ q is. record { part = _; sessions = refl; own = record { locators = own.locators; working = own.working; saved = own.saved; closed = own.closed; closed_saved = own.closed_saved; unlocked = own.unlocked } };
    }

orderly_with : (locks other : NameMap ℕ) (s : ℕ) (p : Session) → locked_rows other s ≡ locked_rows locks s → Orderly locks s p → Orderly other s p
orderly_with locks other s p same own = record { locators = own.locators; working = own.working; saved = own.saved; closed = own.closed; closed_saved = own.closed_saved; unlocked = λ is. same ∙ own.unlocked is }

pub orderly_entry : (t : Table) (e : Entry) → IsLegal t e.token.session e.token.kind e.call → IsWithinCapacity t → IsRisingMap t.locks → AllOrderly t → AllOrderly (effect_of t e).0
orderly_entry t e legal inv rising all r has =
    let s = e.token.session in
    let u = (effect_of t e).0 in
    let stepd = by_entry_cases t s e.token.kind e.call (IsOrderlyStep t s) legal (orderly_entry_cases t s e.call legal.session inv all) in
    let there : IsTrue (has_session t r) = same_sessions t u s r stepd.part stepd.sessions has in
    elim (r == s) as (λ b. (r == s) ≡ b → Orderly u.locks r (session_of u r)) [
      | true ↦ λ is.
          let same : r ≡ s = same_number r s is in
          subst (λ n. Orderly u.locks n (session_of u n)) (sym same) (subst (Orderly u.locks s) (sym (own_session t u s stepd.part legal.session stepd.sessions)) stepd.own)
      | false ↦ λ is.
          let apart : r ≡ s → ⊥ = not_same r s is in
          subst (Orderly u.locks r) (sym (other_session t u s r stepd.part legal.session there apart stepd.sessions)) (orderly_with t.locks u.locks r (session_of t r) (others_listed t e legal rising r apart) (all r there))
    ] refl

new_orderly : (s : ℕ) → Orderly [] s new_session
new_orderly s = record { locators = rising_empty Locator; working = rising_empty (Option Value); saved = tt; closed = λ is. refl; closed_saved = λ is. tt; unlocked = λ is. refl }

new_part : (n i : ℕ) → unwrap_or (slice_get (replicate n new_session) i) new_session ≡ new_session
new_part zero i = refl
new_part (suc n) zero = refl
new_part (suc n) (suc i) = new_part n i

pub orderly_opening : (options : Options) (sessions : ℕ) → AllOrderly (opening_table options sessions)
orderly_opening options sessions r has = subst (Orderly [] r) (sym (new_part sessions (r - 1))) (new_orderly r)

-- A session in a table that stands: what a call of it needs.
pub asks_where : (t : Table) (s : ℕ) → IsTrue (has_session t s) → IsWithinCapacity t → IsRisingMap t.locks → AllOrderly t → Asks t s
asks_where t s has inv rising all =
    let own = all s has in
    record {
      session = has;
      rising = rising;
      locked = inv.locks s has;
      ordered = own.locators;
      ordered_rows = own.working;
      opened = λ row w is. go row w is (session_of t s).is_open refl;
    }
  where
    go : (row : List ℕ) (w : Option Value) → get (session_of t s).working row ≡ Some w → (b : Bool) → (session_of t s).is_open ≡ b → (session_of t s).is_open ≡ true
    go row w is true opened = opened
    go row w is false opened =
        let none : get (session_of t s).working row ≡ None = ap (λ (m : Rows). get m row) ((all s has).closed opened) in
        absurd cc
