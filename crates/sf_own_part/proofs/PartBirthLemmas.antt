-- The births of a part, kind by kind, and those that a session holds after a call.
use Rattle.std.proofs.Common.{◌≡◌, ℕ, true, false, cond, List, [], ◌∷◌, ◌++◌, map, Option, Some, None, refl, sym, ap, subst, ◌∙◌, append-nil}
use Rattle.std.specs.Prelude.{Contains, flat_map, unwrap_or}
use Rattle.std.specs.List.{AllByRecursion as Each}
use Rattle.std.specs.Option.{option_map_or}
use Rattle.std.proofs.lemmas.Grind.{flat_map-append}
use Rattle.sf_types.specs.declared.call.Call.{Call}
use Rattle.sf_types.specs.declared.call.Call.TheVariants as call
use Rattle.std.specs.List.Sorted.{IsStrictlySortedBy}
use Rattle.sf_types.proofs.NameMapLemmas.{sorted_from_ordered}
use Rattle.std.specs.Map.{keys_of}
use Rattle.sf_types.specs.Values.Names.{name_cmp}
use Rattle.sf_types.specs.Inside.Births.{IsRising, rising_births}
use Rattle.sf_types.specs.Inside.NameMaps.{NameMap, is_same_name, get, with_entry, without_entry}
use Rattle.sf_types.proofs.NameMapLemmas.{IsRisingMap}
use Rattle.sf_types.specs.Values.Marks.{Value, empty_value, births_in}
use Rattle.sf_types.specs.Table.Parts.{Locator, Rows, Savepoint, Session}
use Rattle.sf_types.specs.Table.Sessions.{with_transaction}
use Rattle.sf_types.specs.Calls.RowCalls.{after_insert, after_delete, after_lock, after_select}
use Rattle.sf_types.specs.Calls.Savepoints.{after_rollback_to, with_losses, is_since, savepoints_up_to}
use Rattle.sf_types.specs.Calls.TransactionEnds.{after_commit, clean_locators}
use Rattle.sf_types.specs.Calls.LocatorCalls.{no_locator}
use Rattle.sf_types.specs.Calls.WritingCalls.{written_name}
use Rattle.sf_types.specs.Space.Reach.{values_in, session_values, session_births}
use Rattle.sf_types.specs.Halves.Own.{Own, own_row, is_event}
use Rattle.sf_types.specs.Halves.Asks.{kept_births}
use Rattle.sf_laws.proofs.EachLemmas.{each_itself, each-append, each_left, each_right}
use Rattle.sf_laws.proofs.HeldLemmas.{OfOption}
use Rattle.sf_laws.proofs.ReachLemmas.{OfBirth, each-rising, each_from_rising, each-births_in, each-session_births, each_from_session_births}
use Rattle.sf_laws.proofs.SessionBirthLemmas.{same_rising, each_put_from, each_of_put, births_put}
use Rattle.sf_laws.proofs.SumLemmas.{rising_rises}
use Rattle.sf_session_values.specs.ValueBirths.{rows_beside, locators_beside, births_of_rows, births_of_locators}
use Rattle.sf_own_part.specs.Inside.PartBirths.{part_beside, part_after_commit, births_kept_by, births_of_savepoints}

by_savepoint : (savepoints : List Savepoint) → flat_map births_in (flat_map (λ x. values_in x.working) savepoints) ≡ births_of_savepoints savepoints
by_savepoint [] = refl
by_savepoint (x ∷ savepoints) =
    flat_map-append births_in (values_in x.working) (flat_map (λ y. values_in y.working) savepoints)
    ∙ ap (λ bs. births_of_rows x.working ++ bs) (by_savepoint savepoints)

-- a part's births are those of its rows, then of its locators, then of its savepoints
pub births_by_parts : (p : Session) → session_births p ≡ rising_births ((births_of_rows p.working ++ births_of_locators p.locators) ++ births_of_savepoints p.savepoints)
births_by_parts p =
    let rows = values_in p.working in
    let locators = map (λ (e : List ℕ × Locator). e.1.value) p.locators in
    ap rising_births
    (flat_map-append births_in (rows ++ locators) (flat_map (λ x. values_in x.working) p.savepoints)
    ∙ ap (λ bs. bs ++ flat_map births_in (flat_map (λ x. values_in x.working) p.savepoints)) (flat_map-append births_in rows locators)
    ∙ ap (λ bs. births_of_rows p.working ++ births_of_locators p.locators ++ bs) (by_savepoint p.savepoints))

-- the births that savepoints keep are those of their working values
each_kept : (P : ℕ → Type 0) (savepoints : List Savepoint) → Each P (births_of_savepoints savepoints) → Each P (births_kept_by savepoints)
each_kept P [] all = tt
each_kept P (x ∷ savepoints) all =
    let own = births_of_rows x.working in
    let rest = births_of_savepoints savepoints in
    each-append P (rising_births own) (births_kept_by savepoints) (each-rising P own (each_left P own rest all)) (each_kept P savepoints (each_right P own rest all))

each_from_kept : (P : ℕ → Type 0) (savepoints : List Savepoint) → Each P (births_kept_by savepoints) → Each P (births_of_savepoints savepoints)
each_from_kept P [] all = tt
each_from_kept P (x ∷ savepoints) all =
    let own = births_of_rows x.working in
    let rest = births_kept_by savepoints in
    each-append P own (births_of_savepoints savepoints) (each_from_rising P own (each_left P (rising_births own) rest all)) (each_from_kept P savepoints (each_right P (rising_births own) rest all))

with_kept : (births same : List ℕ) (savepoints : List Savepoint) → rising_births births ≡ rising_births same → rising_births (births ++ births_kept_by savepoints) ≡ rising_births (same ++ births_of_savepoints savepoints)
with_kept births same savepoints is =
    let left = births ++ births_kept_by savepoints in
    let right = same ++ births_of_savepoints savepoints in
    same_rising (rising_births left) (rising_births right) (rising_rises left) (rising_rises right)
    (let P : ℕ → Type 0 = Contains (rising_births right) in
    let all = each_from_rising P right (each_itself (rising_births right)) in
    each-rising P left
    (each-append P births (births_kept_by savepoints)
    (each_from_rising P births (subst (Each P) (sym is) (each-rising P same (each_left P same (births_of_savepoints savepoints) all))))
    (each_kept P savepoints (each_right P same (births_of_savepoints savepoints) all))))
    (let P : ℕ → Type 0 = Contains (rising_births left) in
    let all = each_from_rising P left (each_itself (rising_births left)) in
    each-rising P right
    (each-append P same (births_of_savepoints savepoints)
    (each_from_rising P same (subst (Each P) is (each-rising P births (each_left P births (births_kept_by savepoints) all))))
    (each_from_kept P savepoints (each_right P births (births_kept_by savepoints) all))))

-- births added kind by kind are those of a part
pub put_together : (p : Session) (row at : Option (List ℕ)) (none values all : List ℕ) → none ≡ []
    → rising_births values ≡ rising_births ((none ++ births_of_rows (rows_beside row p.working)) ++ births_of_locators (locators_beside at p.locators)) → all ≡ values ++ births_kept_by p.savepoints
    → rising_births all ≡ session_births (part_beside row at p)
put_together p row at none values all none_is values_are all_is =
    ap rising_births all_is
    ∙ with_kept values (births_of_rows (rows_beside row p.working) ++ births_of_locators (locators_beside at p.locators)) p.savepoints
    (values_are ∙ ap (λ (bs : List ℕ). rising_births ((bs ++ births_of_rows (rows_beside row p.working)) ++ births_of_locators (locators_beside at p.locators))) none_is)
    ∙ sym (births_by_parts (part_beside row at p))

-- and those of a part after a rollback to a savepoint
pub rolled_together : (p : Session) (x : Savepoint) (none rows locators all : List ℕ) → none ≡ [] → rows ≡ none ++ births_of_rows x.working
    → locators ≡ rows ++ births_of_locators (with_losses (is_since x) p.locators) → all ≡ locators ++ births_kept_by (savepoints_up_to x.name p.savepoints) → rising_births all ≡ session_births (after_rollback_to p x)
rolled_together p x none rows locators all none_is rows_is locators_is all_is =
    ap rising_births all_is
    ∙ with_kept locators (births_of_rows x.working ++ births_of_locators (with_losses (is_since x) p.locators)) (savepoints_up_to x.name p.savepoints)
    (ap rising_births (locators_is ∙ ap (λ bs. bs ++ births_of_locators (with_losses (is_since x) p.locators)) (rows_is ∙ ap (λ bs. bs ++ births_of_rows x.working) none_is)))
    ∙ sym (births_by_parts (after_rollback_to p x))

-- births that are there already add none
pub rising_with : (births more : List ℕ) → IsRising births → Each (Contains births) more → rising_births (births ++ more) ≡ births
rising_with births more rising known =
    same_rising (rising_births (births ++ more)) births (rising_rises (births ++ more)) rising
    (each-rising (Contains births) (births ++ more) (each-append (Contains births) births more (each_itself births) known))
    (let P : ℕ → Type 0 = Contains (rising_births (births ++ more)) in
    each_left P births more (each_from_rising P (births ++ more) (each_itself (rising_births (births ++ more)))))

-- a transaction that is opened holds no birth
opened_births : (p : Session) (rows : Rows) → session_births (record (with_transaction p) { working = rows }) ≡ session_births (record p { working = rows })
opened_births p rows = refl

opened_births_of_locators : (p : Session) (locators : NameMap Locator) → session_births (record (with_transaction p) { locators = locators }) ≡ session_births (record p { locators = locators })
opened_births_of_locators p locators = refl

-- a row's value without births, put among the working values
births_put_row : (p : Session) (row : List ℕ) (v : Option Value) → IsRisingMap p.working → ((P : ℕ → Type 0) → OfOption (OfBirth P) v)
    → session_births (record p { working = with_entry p.working row v }) ≡ session_births (record p { working = without_entry p.working row })
births_put_row p row v rising none =
    let put_p : Session = record p { working = with_entry p.working row v } in
    let left_p : Session = record p { working = without_entry p.working row } in
    same_rising (session_births put_p) (session_births left_p) (rising_rises (flat_map births_in (session_values put_p))) (rising_rises (flat_map births_in (session_values left_p)))
    (let P : ℕ → Type 0 = Contains (session_births left_p) in
    let own = each_from_session_births P left_p (each_itself (session_births left_p)) in
    each-session_births P put_p (record { working = each_put_from (OfOption (OfBirth P)) p.working row v rising (none P) own.working; locators = own.locators; savepoints = own.savepoints }))
    (let P : ℕ → Type 0 = Contains (session_births put_p) in
    let own = each_from_session_births P put_p (each_itself (session_births put_p)) in
    let rows = each_of_put (OfOption (OfBirth P)) p.working row v rising own.working in
    each-session_births P left_p (record { working = rows.1; locators = own.locators; savepoints = own.savepoints }))

pub insert_births : (p : Session) (row : List ℕ) → IsRisingMap p.working → session_births (part_beside (Some row) None p) ≡ session_births (after_insert p row)
insert_births p row rising = sym (opened_births p (with_entry p.working row (Some empty_value)) ∙ births_put_row p row (Some empty_value) rising (λ P. tt))

pub delete_births : (p : Session) (row : List ℕ) → IsRisingMap p.working → session_births (part_beside (Some row) None p) ≡ session_births (after_delete p row)
delete_births p row rising = sym (opened_births p (with_entry p.working row None) ∙ births_put_row p row None rising (λ P. tt))

got : {X : Type 0} (Q : X → Type 0) (m : NameMap X) (k : List ℕ) (x : X) → get m k ≡ Some x → Each (λ e. Q e.1) m → Q x
got Q [] k x is all = absurd cc
got Q (e ∷ m) k x is all =
    elim (is_same_name k e.0) as (λ b. cond b (Some e.1) (get m k) ≡ Some x → Q x) [
      | true ↦ λ same. let one : e.1 ≡ x = cc in subst Q one all.0
      | false ↦ λ later. got Q m k x later all.1
    ] is

-- the births of a row's working value are among those of a part
known_births : (p : Session) (row : List ℕ) (v : Option Value) → get p.working row ≡ Some v → Each (Contains (session_births p)) (births_in (unwrap_or v empty_value))
known_births p row None is = tt
known_births p row (Some v) is =
    let P : ℕ → Type 0 = Contains (session_births p) in
    let own = each_from_session_births P p (each_itself (session_births p)) in
    each-births_in P v (got (OfOption (OfBirth P)) p.working row (Some v) is own.working)

-- a locator of a row with a working value holds no birth that the session doesn't hold beside it
located : (p : Session) (to row : List ℕ) (v : Option Value) (l : Locator) → IsRisingMap p.locators → get p.working row ≡ Some v → l.value ≡ unwrap_or v empty_value
    → session_births (record p { locators = with_entry p.locators to l }) ≡ session_births (part_beside None (Some to) p)
located p to row v l rising is same =
    let left_p = part_beside None (Some to) p in
    births_put p to l rising
    ∙ ap (λ value. rising_births (session_births left_p ++ births_in value)) same
    ∙ rising_with (session_births left_p) (births_in (unwrap_or v empty_value)) (rising_rises (flat_map births_in (session_values left_p))) (known_births left_p row v is)

pub lock_births : (o : Own) (to row : List ℕ) → IsRisingMap o.part.locators → session_births (part_beside None (Some to) o.part) ≡ kept_births o (call.Lock to row)
lock_births o to row rising =
    elim (get o.part.working row) as (λ found. get o.part.working row ≡ found → session_births (part_beside None (Some to) o.part) ≡ option_map_or (λ value. session_births (after_lock o.part to row (unwrap_or value empty_value))) found (session_births (part_beside None (Some to) o.part))) [
      | None ↦ λ _. refl
      | Some v ↦ λ is. sym (opened_births_of_locators o.part _ ∙ located o.part to row v _ rising is refl)
    ] refl

pub select_births : (o : Own) (to row : List ℕ) → IsRisingMap o.part.locators → session_births (part_beside None (Some to) o.part) ≡ kept_births o (call.Select to row)
select_births o to row rising =
    elim (get o.part.working row) as (λ found. get o.part.working row ≡ found → session_births (part_beside None (Some to) o.part) ≡ option_map_or (λ value. session_births (after_select o.part to row (unwrap_or value empty_value))) found (session_births (part_beside None (Some to) o.part))) [
      | None ↦ λ _. refl
      | Some v ↦ λ is. sym (located o.part to row v _ rising is refl)
    ] refl

-- the locators of a commit keep their births
clean_births : (locators : NameMap Locator) → births_of_locators (clean_locators locators) ≡ births_of_locators locators
clean_births [] = refl
clean_births (l ∷ locators) = ap (λ bs. births_in l.1.value ++ bs) (clean_births locators)

pub open_commit_births : (p : Session) → p.is_open ≡ true → rising_births (births_of_locators p.locators) ≡ session_births (part_after_commit p)
open_commit_births p is_open =
    sym (ap (λ b. session_births (cond b (after_commit p) (record p { savepoints = [] }))) is_open
    ∙ births_by_parts (after_commit p)
    ∙ ap rising_births (append-nil (births_of_locators (clean_locators p.locators)) ∙ clean_births p.locators))

pub other_commit_births : (p : Session) → p.is_open ≡ false → session_births (record p { savepoints = [] }) ≡ session_births (part_after_commit p)
other_commit_births p is_open = sym (ap (λ b. session_births (cond b (after_commit p) (record p { savepoints = [] }))) is_open)

-- names that rise
pub risen : {X : Type 0} (m : NameMap X) → IsStrictlySortedBy name_cmp (keys_of m) → IsRisingMap m
unfolding IsRisingMap
risen m rising = sorted_from_ordered name_cmp m rising

-- the row of a locator that is there
pub row_of_locator : (o : Own) (at : List ℕ) (l : Locator) → get o.part.locators at ≡ Some l → own_row o at ≡ l.row
row_of_locator o at l is = ap (λ (found : Option Locator). (unwrap_or found no_locator).row) is

-- A writing call through a locator keeps what stands beside the locator and its row.
pub write_births : (o : Own) (c : Call) (at : List ℕ) → written_name c ≡ Some at → session_births (part_beside (Some (own_row o at)) (Some at) o.part) ≡ kept_births o c
write_births o (call.Insert row) at' is = absurd cc
write_births o (call.Delete row) at' is = absurd cc
write_births o (call.Lock to row) at' is = absurd cc
write_births o (call.Select to row) at' is = absurd cc
write_births o (call.SelectAsOf to row n) at' is = absurd cc
write_births o (call.Assign to from) at' is = absurd cc
write_births o (call.Free at) at' is = absurd cc
write_births o (call.Length at) at' is = absurd cc
write_births o (call.Read at amount offset) at' is = absurd cc
write_births o (call.Instr at pattern offset) at' is = absurd cc
write_births o (call.Compare left right amount left_offset right_offset) at' is = absurd cc
write_births o (call.Write at offset buffer) at' is = ap (λ name. option_map_or (λ at. session_births (part_beside (Some (own_row o at)) (Some at) o.part)) name []) (sym is)
write_births o (call.WriteAppend at buffer) at' is = ap (λ name. option_map_or (λ at. session_births (part_beside (Some (own_row o at)) (Some at) o.part)) name []) (sym is)
write_births o (call.Append at from) at' is = ap (λ name. option_map_or (λ at. session_births (part_beside (Some (own_row o at)) (Some at) o.part)) name []) (sym is)
write_births o (call.Copy at from amount to_offset from_offset) at' is = ap (λ name. option_map_or (λ at. session_births (part_beside (Some (own_row o at)) (Some at) o.part)) name []) (sym is)
write_births o (call.Erase at amount offset) at' is = ap (λ name. option_map_or (λ at. session_births (part_beside (Some (own_row o at)) (Some at) o.part)) name []) (sym is)
write_births o (call.Trim at size) at' is = ap (λ name. option_map_or (λ at. session_births (part_beside (Some (own_row o at)) (Some at) o.part)) name []) (sym is)
write_births o (call.FragInsert at offset buffer) at' is = ap (λ name. option_map_or (λ at. session_births (part_beside (Some (own_row o at)) (Some at) o.part)) name []) (sym is)
write_births o (call.FragDelete at amount offset) at' is = ap (λ name. option_map_or (λ at. session_births (part_beside (Some (own_row o at)) (Some at) o.part)) name []) (sym is)
write_births o (call.FragMove at amount from_offset to_offset) at' is = ap (λ name. option_map_or (λ at. session_births (part_beside (Some (own_row o at)) (Some at) o.part)) name []) (sym is)
write_births o (call.FragReplace at old_amount offset buffer) at' is = ap (λ name. option_map_or (λ at. session_births (part_beside (Some (own_row o at)) (Some at) o.part)) name []) (sym is)
write_births o (call.SetOptions at share) at' is = ap (λ name. option_map_or (λ at. session_births (part_beside (Some (own_row o at)) (Some at) o.part)) name []) (sym is)
write_births o (call.Savepoint name) at' is = absurd cc
write_births o (call.RollbackTo name) at' is = absurd cc
write_births o call.Commit at' is = absurd cc
write_births o call.Rollback at' is = absurd cc
write_births o call.End at' is = absurd cc

-- An event that is none of those with births beside is an End.
pub end_births : (o : Own) (c : Call) → is_event c ≡ true → ((row : List ℕ) → c ≡ call.Insert row → ⊥) → ((row : List ℕ) → c ≡ call.Delete row → ⊥) → ((to row : List ℕ) → c ≡ call.Lock to row → ⊥)
    → ((to row : List ℕ) → c ≡ call.Select to row → ⊥) → ((to row : List ℕ) (n : ℕ) → c ≡ call.SelectAsOf to row n → ⊥) → ((name : List ℕ) → c ≡ call.RollbackTo name → ⊥)
    → (c ≡ call.Commit → ⊥) → (c ≡ call.Rollback → ⊥) → [] ≡ kept_births o c
end_births o (call.Insert row) event hi hd hl hs ha hb hc hr = absurd (hi row refl)
end_births o (call.Delete row) event hi hd hl hs ha hb hc hr = absurd (hd row refl)
end_births o (call.Lock to row) event hi hd hl hs ha hb hc hr = absurd (hl to row refl)
end_births o (call.Select to row) event hi hd hl hs ha hb hc hr = absurd (hs to row refl)
end_births o (call.SelectAsOf to row n) event hi hd hl hs ha hb hc hr = absurd (ha to row n refl)
end_births o (call.Assign to from) event hi hd hl hs ha hb hc hr = absurd cc
end_births o (call.Free at) event hi hd hl hs ha hb hc hr = absurd cc
end_births o (call.Length at) event hi hd hl hs ha hb hc hr = absurd cc
end_births o (call.Read at amount offset) event hi hd hl hs ha hb hc hr = absurd cc
end_births o (call.Instr at pattern offset) event hi hd hl hs ha hb hc hr = absurd cc
end_births o (call.Compare left right amount left_offset right_offset) event hi hd hl hs ha hb hc hr = absurd cc
end_births o (call.Write at offset buffer) event hi hd hl hs ha hb hc hr = absurd cc
end_births o (call.WriteAppend at buffer) event hi hd hl hs ha hb hc hr = absurd cc
end_births o (call.Append at from) event hi hd hl hs ha hb hc hr = absurd cc
end_births o (call.Copy at from amount to_offset from_offset) event hi hd hl hs ha hb hc hr = absurd cc
end_births o (call.Erase at amount offset) event hi hd hl hs ha hb hc hr = absurd cc
end_births o (call.Trim at size) event hi hd hl hs ha hb hc hr = absurd cc
end_births o (call.FragInsert at offset buffer) event hi hd hl hs ha hb hc hr = absurd cc
end_births o (call.FragDelete at amount offset) event hi hd hl hs ha hb hc hr = absurd cc
end_births o (call.FragMove at amount from_offset to_offset) event hi hd hl hs ha hb hc hr = absurd cc
end_births o (call.FragReplace at old_amount offset buffer) event hi hd hl hs ha hb hc hr = absurd cc
end_births o (call.SetOptions at share) event hi hd hl hs ha hb hc hr = absurd cc
end_births o (call.Savepoint name) event hi hd hl hs ha hb hc hr = absurd cc
end_births o (call.RollbackTo name) event hi hd hl hs ha hb hc hr = absurd (hb name refl)
end_births o call.Commit event hi hd hl hs ha hb hc hr = absurd (hc refl)
end_births o call.Rollback event hi hd hl hs ha hb hc hr = absurd (hr refl)
end_births o call.End event hi hd hl hs ha hb hc hr = refl
