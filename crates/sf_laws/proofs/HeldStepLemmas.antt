-- What holds of each marked byte that a table holds holds of those that it holds after a call.
use Rattle.std.proofs.Common.{◌≡◌, ℕ, ◌-◌, ◌≤◌, max, Bool, true, false, not, cond, IsTrue, List, [], ◌∷◌, Option, Some, None, refl, arith}
use Rattle.std.specs.Prelude.{unwrap_or}
use Rattle.std.specs.List.{AllByRecursion as Each}
use Rattle.std.specs.Option.{option_map_or}
use Rattle.sf_types.specs.declared.call.Call.{Call}
use Rattle.sf_types.specs.declared.options.Options.{Options}
use Rattle.sf_types.specs.Inside.NameMaps.{NameMap, is_same_name, with_entry}
use Rattle.sf_types.specs.Values.Marks.{Marked, Value, empty_value}
use Rattle.sf_types.specs.Table.Parts.{Locator, Savepoint, Session, Table, new_session}
use Rattle.sf_types.specs.Table.Versions.{value_at, current_value}
use Rattle.sf_types.specs.Table.Sessions.{has_session, session_of, with_session, row_value}
use Rattle.sf_types.specs.Calls.LocatorCalls.{locator, no_locator}
use Rattle.sf_types.specs.Calls.WritingCalls.{source_name, source_value, old_value, result_of, after_write}
use Rattle.sf_types.specs.Calls.Savepoints.{lost_locator, with_losses, savepoints_up_to, is_since}
use Rattle.sf_types.specs.Calls.TransactionEnds.{after_commit, floor_after}
use Rattle.sf_types.specs.Calls.Steps.{step}
use Rattle.sf_laws.proofs.EachLemmas.{each_weaker, each-append, each-filter, each-map, each-set, each_at, each_found}
use Rattle.sf_laws.proofs.EntryLemmas.{each-put, each-without, each_get_or}
use Rattle.sf_laws.proofs.HeldLemmas.{OfOption, OfRows, OfSession, Held, of_at, of_current, versions_above, versions_push}
use Rattle.sf_laws.proofs.HeldEditLemmas.{OfUnstored, edited_holds}
use Rattle.sf_laws.proofs.StepCaseLemmas.{StepCases, by_cases}

pub of_new : (M : Marked → Type 0) → OfSession M new_session
of_new M = record { working = tt; locators = tt; savepoints = tt }

pub of_part : (M : Marked → Type 0) (floor : ℕ) (t : Table) (s : ℕ) → Held M floor t → OfSession M (session_of t s)
of_part M floor t s held = each_at (OfSession M) t.sessions (s - 1) new_session (of_new M) held.sessions

-- a table with another part of one session and other locks
pub of_table : (M : Marked → Type 0) (floor : ℕ) (t u : Table) (s : ℕ) (p : Session) → Held M floor t → u.commits ≡ t.commits → u.sessions ≡ (with_session t s p).sessions → OfSession M p → Held M floor u
of_table M floor t u s p held commits sessions own = record {
  versions = rw commits held.versions;
  sessions = rw sessions (each-set (OfSession M) t.sessions (s - 1) p own held.sessions);
}

pub of_unwrapped : (M : Marked → Type 0) (o : Option Value) → OfOption M o → Each M (unwrap_or o empty_value).bytes
of_unwrapped M None is = tt
of_unwrapped M (Some v) is = is

of_row : (M : Marked → Type 0) (p : Session) (value : Option Value) (row : List ℕ) → OfSession M p → OfOption M value → OfOption M (row_value p value row)
of_row M p value row own is = each_get_or (OfOption M) p.working row value own.working is

of_locator : (M : Marked → Type 0) (p : Session) (name : List ℕ) → OfSession M p → Each M (locator p name).value.bytes
of_locator M p name own = each_get_or (λ l. Each M l.value.bytes) p.locators name no_locator own.locators tt

of_source : (M : Marked → Type 0) (p : Session) (o : Option (List ℕ)) → OfSession M p → Each M (option_map_or (λ from. (locator p from).value) o empty_value).bytes
of_source M p None own = tt
of_source M p (Some from) own = of_locator M p from own

pub of_result : (M : Marked → Type 0) → OfUnstored M → (p : Session) (value : Option Value) (name : List ℕ) (c : Call) → OfSession M p → OfOption M value → Each M (result_of p value name c).bytes
of_result M un p value name c own is =
    edited_holds M un c (old_value p value name).bytes (source_value p c).bytes
    (of_unwrapped M (row_value p value (locator p name).row) (of_row M p value (locator p name).row own is))
    (of_source M p (source_name c) own)

with_locator : (M : Marked → Type 0) (p : Session) (to : List ℕ) (l : Locator) → OfSession M p → Each M l.value.bytes → OfSession M (record p { locators = with_entry p.locators to l })
with_locator M p to l own is = record { working = own.working; locators = each-put (λ e. Each M e.1.value.bytes) p.locators to l is own.locators; savepoints = own.savepoints }

pub of_written : (M : Marked → Type 0) (p : Session) (name : List ℕ) (v : Value) → OfSession M p → Each M v.bytes → OfSession M (after_write p name v)
of_written M p name v own is = record {
  working = each-put (λ e. OfOption M e.1) p.working (locator p name).row (Some v) is own.working;
  locators = each-put (λ e. Each M e.1.value.bytes) p.locators name _ is own.locators;
  savepoints = own.savepoints;
}

lost_holds : (M : Marked → Type 0) (b : Bool) (l : Locator) → Each M l.value.bytes → Each M (cond b (lost_locator l) l).value.bytes
lost_holds M true l is = tt
lost_holds M false l is = is

of_lost : (M : Marked → Type 0) (is_gone : Locator → Bool) (locators : NameMap Locator) → Each (λ e. Each M e.1.value.bytes) locators → Each (λ e. Each M e.1.value.bytes) (with_losses is_gone locators)
of_lost M is_gone locators all =
    each-map (λ e. Each M e.1.value.bytes) (λ e. (e.0, cond (is_gone e.1) (lost_locator e.1) e.1)) locators
    (each_weaker (λ e. Each M e.1.value.bytes) (λ e. Each M (cond (is_gone e.1) (lost_locator e.1) e.1).value.bytes) locators (λ e is. lost_holds M (is_gone e.1) e.1 is) all)

pub each-up_to : (P : Savepoint → Type 0) (name : List ℕ) (xs : List Savepoint) → Each P xs → Each P (savepoints_up_to name xs)
each-up_to P name [] all = tt
each-up_to P name (x ∷ xs) all =
    elim (is_same_name name x.name) as (λ b. Each P (cond b (x ∷ []) (x ∷ savepoints_up_to name xs))) [
      | true ↦ (all.0, tt)
      | false ↦ (all.0, each-up_to P name xs all.1)
    ]

pub of_committed : (M : Marked → Type 0) (p : Session) → OfSession M p → OfSession M (after_commit p)
of_committed M p own = record { working = tt; locators = each-map (λ e. Each M e.1.value.bytes) (λ e. (e.0, record e.1 { is_dirty = false })) p.locators own.locators; savepoints = tt }

pub floor_rises : (options : Options) (floor n : ℕ) → floor ≤ floor_after options floor n
floor_rises options floor n =
    elim options.max as (λ b. floor ≤ cond b floor (max floor (n - options.retention))) [
      | true ↦ omega arith
      | false ↦ omega arith
    ]

held_cases : (M : Marked → Type 0) → OfUnstored M → (floor : ℕ) (t : Table) (s : ℕ) → floor ≤ t.floor → Held M floor t → StepCases t s (Held M floor)
held_cases M un floor t s le held =
    let p = session_of t s in
    let own : OfSession M p = of_part M floor t s held in
    record {
      refused = held;
      inserted = λ row busy. of_table M floor t _ s _ held refl refl (record { working = each-put (λ e. OfOption M e.1) p.working row (Some empty_value) tt own.working; locators = own.locators; savepoints = own.savepoints });
      deleted = λ row busy. of_table M floor t _ s _ held refl refl (record { working = each-put (λ e. OfOption M e.1) p.working row None tt own.working; locators = own.locators; savepoints = own.savepoints });
      locked = λ to row busy. of_table M floor t _ s _ held refl refl (record { working = own.working; locators = each-put (λ e. Each M e.1.value.bytes) p.locators to _ (of_unwrapped M (row_value p (current_value t row) row) (of_row M p (current_value t row) row own (of_current M floor t row held))) own.locators; savepoints = own.savepoints });
      selected = λ to row. of_table M floor t _ s _ held refl refl (with_locator M p to _ own (of_unwrapped M (row_value p (current_value t row) row) (of_row M p (current_value t row) row own (of_current M floor t row held))));
      selected_as_of = λ to row n from. of_table M floor t _ s _ held refl refl (with_locator M p to _ own (of_unwrapped M (value_at t row n) (of_at M floor t row n held (omega arith))));
      assigned = λ to from. of_table M floor t _ s _ held refl refl (with_locator M p to _ own (of_locator M p from own));
      freed = λ name. of_table M floor t _ s _ held refl refl (record { working = own.working; locators = each-without (λ e. Each M e.1.value.bytes) p.locators name own.locators; savepoints = own.savepoints });
      written = λ name c is. of_table M floor t _ s _ held refl refl (of_written M p name _ own (of_result M un p (current_value t (locator p name).row) name c own (of_current M floor t (locator p name).row held)));
      saved = λ name. of_table M floor t _ s _ held refl refl (record { working = own.working; locators = own.locators; savepoints = each-append (λ x. OfRows M x.working) _ _ (each-filter (λ x. OfRows M x.working) (λ x. not (is_same_name name x.name)) p.savepoints own.savepoints) (own.working, tt) });
      gone_back = λ name x is. of_table M floor t _ s _ held refl refl (record {
        working = (each_found (λ y. OfRows M y.working) (λ y. is_same_name name y.name) p.savepoints x is own.savepoints).0;
        locators = of_lost M (is_since x) p.locators own.locators;
        savepoints = each-up_to (λ y. OfRows M y.working) x.name p.savepoints own.savepoints;
      });
      committed = record {
        versions = versions_push M floor t.commits p.working held.versions own.working;
        sessions = each-set (OfSession M) t.sessions (s - 1) (after_commit p) (of_committed M p own) held.sessions;
      };
      erased = of_table M floor t _ s _ held refl refl (record { working = own.working; locators = own.locators; savepoints = tt });
      rolled_back = of_table M floor t _ s _ held refl refl (record { working = tt; locators = of_lost M (λ l. l.is_dirty) p.locators own.locators; savepoints = tt });
      ended = of_table M floor t _ s _ held refl refl (record { working = tt; locators = tt; savepoints = tt });
    }

pub held_step : (M : Marked → Type 0) → OfUnstored M → (floor : ℕ) (t : Table) (s : ℕ) (c : Call) → IsTrue (has_session t s) → floor ≤ t.floor → Held M floor t → Held M floor (step t s c).0
held_step M un floor t s c has le held = by_cases t s (Held M floor) has (held_cases M un floor t s le held) c

-- a higher floor keeps fewer versions
pub held_above : (M : Marked → Type 0) (low high : ℕ) (t : Table) → low ≤ high → Held M low t → Held M high t
held_above M low high t le held = record { versions = versions_above M low high t.commits le held.versions; sessions = held.sessions }
