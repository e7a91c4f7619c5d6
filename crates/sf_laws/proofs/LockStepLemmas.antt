-- What a session works on stays locked by it, and no other session changes a row that it has locked.
use Rattle.std.proofs.Common.{◌≡◌, ℕ, ◌-◌, Bool, true, false, not, cond, IsTrue, List, [], ◌∷◌, ◌++◌, Option, Some, None, refl, sym, ap, subst, ◌∙◌}
use Rattle.std.specs.Prelude.{filter, find, nat_le, slice_set}
use Rattle.std.specs.List.{AllByRecursion as Each, list_any}
use Rattle.std.specs.Option.{option_map_or}
use Rattle.sf_types.specs.declared.call.Call.{Call}
use Rattle.sf_types.specs.declared.call.Call.TheVariants as call
use Rattle.sf_types.specs.Inside.NameMaps.{NameMap, is_same_name, get}
use Rattle.sf_types.proofs.NameMapLemmas.{same_name}
use Rattle.sf_types.proofs.VersionLemmas.{last_change-append}
use Rattle.sf_types.specs.Values.Marks.{Value, fresh_count}
use Rattle.sf_types.specs.Table.Parts.{Rows, Savepoint, Session, Table}
use Rattle.sf_types.specs.Table.Versions.{value_or_absent, later_change, last_change, current_value}
use Rattle.sf_types.specs.Table.Sessions.{has_session, session_of, holds_lock, is_busy, with_lock, locked_rows}
use Rattle.sf_types.specs.Calls.WritingCalls.{written_name, writing_refusal}
use Rattle.sf_types.specs.Calls.Savepoints.{without_later_locks, savepoints_up_to}
use Rattle.sf_types.specs.Space.Cuts.{settle}
use Rattle.sf_types.specs.Space.Due.{written_row, result_in, is_writable, is_write_due, is_due_by, is_due}
use Rattle.sf_types.specs.Space.Publications.{settled_flush, publish}
use Rattle.sf_types.specs.Calls.Steps.{step}
use Rattle.sf_laws.specs.UseWithinCapacity.{AreLocked, AreAmong, NameEarlier, HasLocked}
use Rattle.sf_laws.proofs.EachLemmas.{each_weaker, each_both, each-append, each-filter, each_found}
use Rattle.sf_laws.proofs.EntryLemmas.{each-put, each_get}
use Rattle.sf_laws.proofs.HeldStepLemmas.{each-up_to}
use Rattle.sf_laws.proofs.LockLemmas.{one_holder, takes_lock, stays_with_lock, stays_released, stays_released_since, stays_named, among_locked}
use Rattle.sf_laws.proofs.StepCaseLemmas.{StepCases, by_cases, held_where_written}
use Rattle.sf_laws.proofs.PublishCaseLemmas.{PublishCases, by_publish_cases}
use Rattle.sf_laws.proofs.OptionLemmas.{none_from}
use Rattle.sf_types.proofs.RefusalLemmas.{same_part}
use Rattle.sf_types.proofs.BoolLemmas.{both_first}

-- After an entry of session s its own part is locked, and of what the other sessions have locked nothing has changed.
pub record IsLockedStep (t : Table) (s : ℕ) (u : Table) : Type 0 where
  pub part : Session
  pub sessions : u.sessions ≡ slice_set t.sessions (s - 1) part
  pub own : HasLocked u.locks s part
  pub others : (r : ℕ) (row : List ℕ) → (r ≡ s → ⊥) → holds_lock t.locks r row ≡ true → holds_lock u.locks r row ≡ true
  pub rows : (r : ℕ) (row : List ℕ) → (r ≡ s → ⊥) → holds_lock t.locks r row ≡ true → current_value u row ≡ current_value t row

-- the locks of the session stay
locked_on : (before after : NameMap ℕ) (s : ℕ) → ((row : List ℕ) → holds_lock before s row ≡ true → holds_lock after s row ≡ true) → (rows : Rows) → AreLocked before s rows → AreLocked after s rows
locked_on before after s stays rows all = each_weaker (λ e. holds_lock before s e.0 ≡ true) (λ e. holds_lock after s e.0 ≡ true) rows (λ e is. stays e.0 is) all

pub has_locked_on : (before after : NameMap ℕ) (s : ℕ) (p : Session) → ((row : List ℕ) → holds_lock before s row ≡ true → holds_lock after s row ≡ true) → HasLocked before s p → HasLocked after s p
has_locked_on before after s p stays has = record {
  working = locked_on before after s stays p.working has.working;
  saved = each_weaker (λ x. AreLocked before s x.working) (λ x. AreLocked after s x.working) p.savepoints (λ x is. locked_on before after s stays x.working is) has.saved;
  named = has.named;
}

-- the savepoints
filter_named : (test : Savepoint → Bool) (xs : List Savepoint) → NameEarlier xs → NameEarlier (filter test xs)
filter_named test [] named = tt
filter_named test (x ∷ xs) named =
    elim (test x) as (λ b. NameEarlier (cond b (x ∷ filter test xs) (filter test xs))) [
      | true ↦ ((named.0.0, each-filter (λ y. AreAmong y.locked x.working) test xs named.0.1), filter_named test xs named.1)
      | false ↦ filter_named test xs named.1
    ]

push_named : (xs : List Savepoint) (y : Savepoint) → NameEarlier xs → Each (λ x. AreAmong y.locked x.working) xs → AreAmong y.locked y.working → NameEarlier (xs ++ y ∷ [])
push_named [] y named before own = ((own, tt), tt)
push_named (x ∷ xs) y named before own = (each-append (λ later. AreAmong later.locked x.working) (x ∷ xs) (y ∷ []) named.0 (before.0, tt), push_named xs y named.1 before.1 own)

up_to_named : (name : List ℕ) (xs : List Savepoint) → NameEarlier xs → NameEarlier (savepoints_up_to name xs)
up_to_named name [] named = tt
up_to_named name (x ∷ xs) named =
    elim (is_same_name name x.name) as (λ b. NameEarlier (cond b (x ∷ []) (x ∷ savepoints_up_to name xs))) [
      | true ↦ ((named.0.0, tt), tt)
      | false ↦ ((named.0.0, each-up_to (λ y. AreAmong y.locked x.working) name xs named.0.1), up_to_named name xs named.1)
    ]

-- a savepoint names the rows of those up to it
named_up_to : (name : List ℕ) (xs : List Savepoint) (x : Savepoint) → find (λ y. is_same_name name y.name) xs ≡ Some x → NameEarlier xs → Each (λ y. AreAmong x.locked y.working) (savepoints_up_to name xs)
named_up_to name [] x is named = tt
named_up_to name (y ∷ ys) x is named =
    elim (is_same_name name y.name) as (λ b. cond b (Some y) (find (λ z. is_same_name name z.name) ys) ≡ Some x → Each (λ z. AreAmong x.locked z.working) (cond b (y ∷ []) (y ∷ savepoints_up_to name ys))) [
      | true ↦ λ h. let same : y ≡ x = cc in (subst (λ z. AreAmong z.locked y.working) same named.0.0, tt)
      | false ↦ λ h. ((each_found (λ later. AreAmong later.locked y.working) (λ z. is_same_name name z.name) ys x h named.0.1).0, named_up_to name ys x h named.1)
    ] is

-- and its own rows
own_named : (name : List ℕ) (xs : List Savepoint) (x : Savepoint) → find (λ y. is_same_name name y.name) xs ≡ Some x → NameEarlier xs → AreAmong x.locked x.working
own_named name xs x is named = (each_found (λ y. AreAmong y.locked y.working) (λ y. is_same_name name y.name) xs x is (each_own xs named)).0
  where
    each_own : (ys : List Savepoint) → NameEarlier ys → Each (λ y. AreAmong y.locked y.working) ys
    each_own [] all = tt
    each_own (y ∷ ys) all = (all.0.0, each_own ys all.1)

locked_named : (locks : NameMap ℕ) (s : ℕ) (named : List (List ℕ)) (rows : Rows) → AreLocked locks s rows → AreAmong named rows → AreLocked (without_later_locks locks s named) s rows
locked_named locks s named rows locked among =
    each_both (λ e. holds_lock locks s e.0 ≡ true) (λ e. list_any (is_same_name e.0) named ≡ true) (λ e. holds_lock (without_later_locks locks s named) s e.0 ≡ true) rows
    (λ e held in_named. stays_named locks s named e.0 in_named held) locked among

among_own : (locks : NameMap ℕ) (s : ℕ) (rows : Rows) → AreLocked locks s rows → AreAmong (locked_rows locks s) rows
among_own locks s rows locked = each_weaker (λ e. holds_lock locks s e.0 ≡ true) (λ e. list_any (is_same_name e.0) (locked_rows locks s) ≡ true) rows (λ e held. among_locked locks s e.0 held) locked

-- a commit of rows that one session has locked changes no row that another has locked
commit_apart : (t : Table) (s : ℕ) (w : Rows) → AreLocked t.locks s w → (r : ℕ) (row : List ℕ) → (r ≡ s → ⊥) → holds_lock t.locks r row ≡ true → value_or_absent (last_change (t.commits ++ w ∷ []) row) ≡ current_value t row
commit_apart t s w locked r row apart held = ap value_or_absent (last_change-append t.commits (w ∷ []) row ∙ go (get w row) refl)
  where
    go : (o : Option (Option Value)) → get w row ≡ o → later_change (last_change t.commits row) o ≡ last_change t.commits row
    go None is = refl
    go (Some x) is = absurd (apart (one_holder t.locks r s row held (each_get (λ e. holds_lock t.locks s e.0 ≡ true) w row x locked is)))

nothing_locked : (locks : NameMap ℕ) (s : ℕ) (p : Session) → p.working ≡ [] → p.savepoints ≡ [] → HasLocked locks s p
nothing_locked locks s p working savepoints = record {
  working = rw working tt;
  saved = rw savepoints tt;
  named = rw savepoints tt;
}

lock_cases : (t : Table) (s : ℕ) → IsTrue (has_session t s) → HasLocked t.locks s (session_of t s) → StepCases t s (IsLockedStep t s)
lock_cases t s has own =
    let p = session_of t s in
    let taken : (row other : List ℕ) → is_busy t.locks s row ≡ false → holds_lock t.locks s other ≡ true → holds_lock (with_lock t.locks s row) s other ≡ true = λ row other busy held. stays_with_lock t.locks s s row other busy held in
    let others : (row : List ℕ) → is_busy t.locks s row ≡ false → (r : ℕ) (other : List ℕ) → (r ≡ s → ⊥) → holds_lock t.locks r other ≡ true → holds_lock (with_lock t.locks s row) r other ≡ true = λ row busy r other apart held. stays_with_lock t.locks r s row other busy held in
    record {
      refused = record { part = p; sessions = sym (ap (λ (u : Table). u.sessions) (same_part t s has)); own = own; others = λ r row apart held. held; rows = λ r row apart held. refl };
      inserted = λ row busy. let after = has_locked_on t.locks (with_lock t.locks s row) s p (λ other held. taken row other busy held) own in
          record { part = _; sessions = refl; own = record { working = each-put (λ e. holds_lock (with_lock t.locks s row) s e.0 ≡ true) p.working row _ (takes_lock t.locks s row) after.working; saved = after.saved; named = after.named }; others = others row busy; rows = λ r other apart held. refl };
      deleted = λ row busy. let after = has_locked_on t.locks (with_lock t.locks s row) s p (λ other held. taken row other busy held) own in
          record { part = _; sessions = refl; own = record { working = each-put (λ e. holds_lock (with_lock t.locks s row) s e.0 ≡ true) p.working row _ (takes_lock t.locks s row) after.working; saved = after.saved; named = after.named }; others = others row busy; rows = λ r other apart held. refl };
      locked = λ to row busy. let after = has_locked_on t.locks (with_lock t.locks s row) s p (λ other held. taken row other busy held) own in
          record { part = _; sessions = refl; own = record { working = after.working; saved = after.saved; named = after.named }; others = others row busy; rows = λ r other apart held. refl };
      selected = λ to row. record { part = _; sessions = refl; own = record { working = own.working; saved = own.saved; named = own.named }; others = λ r other apart held. held; rows = λ r other apart held. refl };
      selected_as_of = λ to row n from. record { part = _; sessions = refl; own = record { working = own.working; saved = own.saved; named = own.named }; others = λ r other apart held. held; rows = λ r other apart held. refl };
      assigned = λ to from. record { part = _; sessions = refl; own = record { working = own.working; saved = own.saved; named = own.named }; others = λ r other apart held. held; rows = λ r other apart held. refl };
      freed = λ name. record { part = _; sessions = refl; own = record { working = own.working; saved = own.saved; named = own.named }; others = λ r other apart held. held; rows = λ r other apart held. refl };
      written = λ name c held. record { part = _; sessions = refl; own = record { working = each-put (λ e. holds_lock t.locks s e.0 ≡ true) p.working _ _ held own.working; saved = own.saved; named = own.named }; others = λ r other apart h. h; rows = λ r other apart h. refl };
      saved = λ name. record {
        part = _;
        sessions = refl;
        own = record {
          working = own.working;
          saved = each-append (λ x. AreLocked t.locks s x.working) _ _ (each-filter (λ x. AreLocked t.locks s x.working) (λ x. not (is_same_name name x.name)) p.savepoints own.saved) (own.working, tt);
          named = push_named _ _ (filter_named (λ x. not (is_same_name name x.name)) p.savepoints own.named)
              (each-filter (λ x. AreAmong (locked_rows t.locks s) x.working) (λ x. not (is_same_name name x.name)) p.savepoints (each_weaker (λ x. AreLocked t.locks s x.working) (λ x. AreAmong (locked_rows t.locks s) x.working) p.savepoints (λ x is. among_own t.locks s x.working is) own.saved))
              (among_own t.locks s p.working own.working);
        };
        others = λ r other apart held. held;
        rows = λ r other apart held. refl;
      };
      gone_back = λ name x is.
          let test = λ (y : Savepoint). is_same_name name y.name in
          let found = each_found (λ y. AreLocked t.locks s y.working) test p.savepoints x is own.saved in
          let same : name ≡ x.name = same_name name x.name found.1 in
          let is' : find (λ (y : Savepoint). is_same_name x.name y.name) p.savepoints ≡ Some x = subst (λ n. find (λ (y : Savepoint). is_same_name n y.name) p.savepoints ≡ Some x) same is in
          record {
            part = _;
            sessions = refl;
            own = record {
              working = locked_named t.locks s x.locked x.working found.0 (own_named x.name p.savepoints x is' own.named);
              saved = each_both (λ y. AreLocked t.locks s y.working) (λ y. AreAmong x.locked y.working) (λ y. AreLocked (without_later_locks t.locks s x.locked) s y.working) (savepoints_up_to x.name p.savepoints)
                  (λ y locked among. locked_named t.locks s x.locked y.working locked among)
                  (each-up_to (λ y. AreLocked t.locks s y.working) x.name p.savepoints own.saved)
                  (named_up_to x.name p.savepoints x is' own.named);
              named = up_to_named x.name p.savepoints own.named;
            };
            others = λ r other apart held. stays_released_since t.locks r s x.locked other apart held;
            rows = λ r other apart held. refl;
          };
      committed = record { part = _; sessions = refl; own = nothing_locked _ s _ refl refl; others = λ r other apart held. stays_released t.locks r s other apart held; rows = commit_apart t s p.working own.working };
      erased = record { part = _; sessions = refl; own = record { working = own.working; saved = tt; named = tt }; others = λ r other apart held. held; rows = λ r other apart held. refl };
      rolled_back = record { part = _; sessions = refl; own = nothing_locked _ s _ refl refl; others = λ r other apart held. stays_released t.locks r s other apart held; rows = λ r other apart held. refl };
      ended = record { part = _; sessions = refl; own = nothing_locked _ s _ refl refl; others = λ r other apart held. stays_released t.locks r s other apart held; rows = λ r other apart held. refl };
    }

pub lock_step : (t : Table) (s : ℕ) (c : Call) → IsTrue (has_session t s) → HasLocked t.locks s (session_of t s) → IsLockedStep t s (step t s c).0
lock_step t s c has own = by_cases t s (IsLockedStep t s) has (lock_cases t s has own) c

-- settled rows have the names that they had
settled_names : (N : List ℕ → Type 0) (rows : Rows) (births : List ℕ) → Each (λ e. N e.0) rows → Each (λ e. N e.0) (settle rows births)
settled_names N [] births all = tt
settled_names N ((name, None) ∷ rows) births all = (all.0, settled_names N rows births all.1)
settled_names N ((name, Some v) ∷ rows) births all = (all.0, settled_names N rows _ all.1)

-- a due call writes under its row's lock
due_where : (t : Table) (s : ℕ) (p : Session) (c : Call) (at : List ℕ) → written_name c ≡ Some at → is_due_by t s p c ≡ is_write_due t s p at c
due_where t s p call.Commit at is = absurd cc
due_where t s p c at is = go (written_name c) is
  where
    go : (o : Option (List ℕ)) → o ≡ Some at → option_map_or (λ name. is_write_due t s p name c) o false ≡ is_write_due t s p at c
    go None h = absurd cc
    go (Some name) h = let same : name ≡ at = cc in ap (λ n. is_write_due t s p n c) same

pub due_held : (t : Table) (s : ℕ) (p : Session) (c : Call) (at : List ℕ) → written_name c ≡ Some at → is_due_by t s p c ≡ true → holds_lock t.locks s (written_row p at) ≡ true
due_held t s p c at is due =
    let write_due : is_write_due t s p at c ≡ true = sym (due_where t s p c at is) ∙ due in
    held_where_written p (holds_lock t.locks s (written_row p at)) (current_value t (written_row p at)) at c
    (none_from (writing_refusal p (holds_lock t.locks s (written_row p at)) (current_value t (written_row p at)) at c) (both_first (is_writable t s p at c) (nat_le t.options.gather (fresh_count (result_in t p at c))) write_due))

publish_lock_cases : (t : Table) (s : ℕ) (c : Call) → HasLocked t.locks s (session_of t s) → is_due t s c ≡ true → PublishCases t s c (IsLockedStep t s)
publish_lock_cases t s c own due =
    let p = session_of t s in
    let settled : AreLocked t.locks s (settled_flush t s call.Commit) = settled_names (λ n. holds_lock t.locks s n ≡ true) p.working _ own.working in
    record {
      committed = λ is. record { part = _; sessions = refl; own = nothing_locked _ s _ refl refl; others = λ r other apart held. stays_released t.locks r s other apart held; rows = commit_apart t s (settled_flush t s call.Commit) settled };
      left_open = λ is. record { part = _; sessions = refl; own = record { working = settled; saved = tt; named = tt }; others = λ r other apart held. held; rows = λ r other apart held. refl };
      written = λ at is flush. record { part = _; sessions = refl; own = record { working = each-put (λ e. holds_lock t.locks s e.0 ≡ true) p.working _ _ (due_held t s p c at is due) own.working; saved = own.saved; named = own.named }; others = λ r other apart held. held; rows = λ r other apart held. refl };
      nothing = λ is flush. record { part = _; sessions = refl; own = record { working = own.working; saved = own.saved; named = own.named }; others = λ r other apart held. held; rows = λ r other apart held. refl };
    }

pub lock_publish : (t : Table) (s : ℕ) (c : Call) → HasLocked t.locks s (session_of t s) → is_due t s c ≡ true → IsLockedStep t s (publish t s c).0
lock_publish t s c own due = by_publish_cases t s c (IsLockedStep t s) (publish_lock_cases t s c own due)
