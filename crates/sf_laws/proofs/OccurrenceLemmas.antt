-- Births in reach are those that occur in a table.
use Rattle.std.proofs.Common.{◌≡◌, ℕ, ◌+◌, ◌-◌, ◌<◌, true, false, cond, IsTrue, List, [], ◌∷◌, length, take, drop, Option, Some, None, refl, sym, ap, subst, ◌∙◌, arith}
use Rattle.std.proofs.lemmas.Bool.Decides.{nat_tests}
use Rattle.std.proofs.lemmas.Option.{get_or_from_slice_get, slice_get_within}
use Rattle.std.specs.Prelude.{◌&&◌, nat_le, is_none, slice_get, slice_index_or, unwrap_or, Contains}
use Rattle.std.specs.List.{AllByRecursion as Each}
use Rattle.std.specs.Option.{IfSome, option_map_or}
use Rattle.sf_types.specs.Inside.NameMaps.{NameMap, is_same_name, get}
use Rattle.sf_types.specs.Values.Marks.{Mark, Zero, Fresh, Stored, Value, birth_of_mark}
use Rattle.sf_types.specs.Table.Parts.{Promise, Rows, Session, Table, new_session}
use Rattle.sf_types.specs.Table.Versions.{last_change, value_at, current_value}
use Rattle.sf_types.specs.Table.Sessions.{has_session, session_of}
use Rattle.sf_types.specs.Space.Reach.{is_kept, reach}
use Rattle.sf_types.proofs.NameMapLemmas.{IsRisingMap, same_name}
use Rattle.sf_laws.specs.KeptVersions.{IsKeptVersion}
use Rattle.sf_laws.specs.Occurrences.{IsMarkedIn, OccursIn, Current, Since, Working, Located, Saved, Found}
use Rattle.sf_laws.specs.TrueMarks.{found_by}
use Rattle.sf_laws.proofs.EachLemmas.{each_weaker, each_both, each_at, each_contained, each_itself}
use Rattle.sf_laws.proofs.EntryLemmas.{each_get}
use Rattle.sf_laws.proofs.FloorLemmas.{HasFloorWithin}
use Rattle.sf_laws.proofs.HeldLemmas.{OfOption, OfRows, OfKept, OfVersions, OfSession, of_at, of_current}
use Rattle.sf_laws.proofs.HeldStepLemmas.{of_part}
use Rattle.sf_laws.proofs.KeptVersionLemmas.{since_of}
use Rattle.sf_laws.proofs.LockLemmas.{own_name}
use Rattle.sf_laws.proofs.NameLemmas.{HasRisingCommits}
use Rattle.sf_laws.proofs.OrderlyLemmas.{AllOrderly}
use Rattle.sf_laws.proofs.PositionLemmas.{at_drop}
use Rattle.sf_laws.proofs.ReachLemmas.{OfBirth, OfHeld, each-reach, each_from_reach, kept_by_later}
use Rattle.sf_laws.proofs.RisingLockLemmas.{rising_head}

-- the marks of a value that name a birth
of_mark : (P : ℕ → Type 0) (v : Value) → ((b : ℕ) → IsMarkedIn v b → P b) → (byte : ℕ) (mark : Mark) → Contains v.bytes (record { byte = byte; mark = mark }) → IfSome (birth_of_mark mark) P
of_mark P v f byte Zero has = tt
of_mark P v f byte Fresh has = tt
of_mark P v f byte (Stored b index) has = f b (record { byte = byte; index = index; stands = has })

of_marks : (P : ℕ → Type 0) (v : Value) → ((b : ℕ) → IsMarkedIn v b → P b) → Each (OfBirth P) v.bytes
of_marks P v f = each_weaker (Contains v.bytes) (OfBirth P) v.bytes (λ m has. of_mark P v f m.byte m.mark has) (each_itself v.bytes)

marked_holds : (P : ℕ → Type 0) (v : Value) (b : ℕ) → Each (OfBirth P) v.bytes → IsMarkedIn v b → P b
marked_holds P v b all is = each_contained (OfBirth P) v.bytes (record { byte = is.byte; mark = Stored b is.index }) all is.stands

-- each entry of a map whose names rise is what the map has at its name
own_and_later : {X : Type 0} (e : List ℕ × X) (m : NameMap X) → get m e.0 ≡ None → (x : List ℕ × X) → get m x.0 ≡ Some x.1 → get (e ∷ m) x.0 ≡ Some x.1
own_and_later e m none x is =
    elim (is_same_name x.0 e.0) as (λ b. is_same_name x.0 e.0 ≡ b → cond b (Some e.1) (get m x.0) ≡ Some x.1) [
      | true ↦ λ same. let at : get m x.0 ≡ None = ap (get m) (same_name x.0 e.0 same) ∙ none in absurd cc
      | false ↦ λ apart. is
    ] refl

each_entry : {X : Type 0} (m : NameMap X) → IsRisingMap m → Each (λ e. get m e.0 ≡ Some e.1) m
each_entry [] rising = tt
each_entry (e ∷ m) rising =
    let head = rising_head e m rising in
    (rw (own_name e.0) refl, each_weaker (λ x. get m x.0 ≡ Some x.1) (λ x. get (e ∷ m) x.0 ≡ Some x.1) m (own_and_later e m head.0) (each_entry m head.1))

of_rows : (P : ℕ → Type 0) (rows : Rows) → IsRisingMap rows → ((row : List ℕ) (v : Value) → get rows row ≡ Some (Some v) → (b : ℕ) → IsMarkedIn v b → P b) → OfRows (OfBirth P) rows
of_rows P rows rising f = each_weaker (λ e. get rows e.0 ≡ Some e.1) (λ e. OfOption (OfBirth P) e.1) rows (λ e is. of_value e.0 e.1 is) (each_entry rows rising)
  where
    of_value : (row : List ℕ) (o : Option Value) → get rows row ≡ Some o → OfOption (OfBirth P) o
    of_value row None is = tt
    of_value row (Some v) is = of_marks P v (f row v is)

-- the sessions of a table have their numbers
record IsNumbered (t : Table) (p : Session) : Type 0 where
  number : ℕ
  has : IsTrue (has_session t number)
  is : session_of t number ≡ p

numbered_from : (t : Table) (k : ℕ) (ps : List Session) → drop k t.sessions ≡ ps → Each (IsNumbered t) ps
numbered_from t k [] at = tt
numbered_from t k (p ∷ ps) at =
    let here = at_drop t.sessions k p ps at in
    let less : k < length t.sessions = slice_get_within t.sessions k p here.0 in
    let first : nat_le 1 (k + 1) ≡ true = grind (arith, nat_tests) in
    let last : nat_le (k + 1) (length t.sessions) ≡ true = grind (arith, nat_tests) in
    let index : k + 1 - 1 ≡ k = omega arith in (
      record {
        number = k + 1;
        has = ap (λ b. b && nat_le (k + 1) (length t.sessions)) first ∙ last;
        is = ap (λ n. unwrap_or (slice_get t.sessions n) new_session) index ∙ ap (λ (o : Option Session). unwrap_or o new_session) here.0;
      },
      numbered_from t (k + 1) ps here.1,
    )

session_occurs : (t : Table) → AllOrderly t → (s : ℕ) → IsTrue (has_session t s) → OfSession (OfBirth (OccursIn t)) (session_of t s)
session_occurs t orderly s has =
    let p = session_of t s in
    let P = OccursIn t in
    let own = orderly s has in
    record {
      working = of_rows P p.working own.working (λ row v is b marked. Working s row v has is marked);
      locators = each_weaker (λ e. get p.locators e.0 ≡ Some e.1) (λ e. Each (OfBirth P) e.1.value.bytes) p.locators (λ e is. of_marks P e.1.value (λ b marked. Located s e.0 e.1 has is marked)) (each_entry p.locators own.locators);
      savepoints = each_both (Contains p.savepoints) (λ x. IsRisingMap x.working) (λ x. OfRows (OfBirth P) x.working) p.savepoints
          (λ x within rising. of_rows P x.working rising (λ row v is b marked. Saved s x row v has within is marked)) (each_itself p.savepoints) own.saved;
    }

found_occurs : (t : Table) (s : ℕ) → IsTrue (has_session t s) → (o : Option Promise) → (session_of t s).promise ≡ o → Each (OccursIn t) (option_map_or (λ q. q.births) o [])
found_occurs t s has None is = tt
found_occurs t s has (Some q) is = each_weaker (Contains q.births) (OccursIn t) q.births (λ b within. Found s q has is within) (each_itself q.births)

-- the kept versions
last_off : (k : ℕ) → k + 1 - 1 ≡ k
last_off k = omega arith

versions_occur : (t : Table) (k : ℕ) (cs : List Rows) → HasFloorWithin t → drop k t.commits ≡ cs → Each (λ c. IsRisingMap c) cs → OfVersions (OfBirth (OccursIn t)) (t.floor - k) cs
versions_occur t k [] within at rising = tt
versions_occur t k (c ∷ cs) within at rising =
    let here = at_drop t.commits k c cs at in
    let count : k < length t.commits = slice_get_within t.commits k c here.0 in
    let commit : slice_index_or t.commits (k + 1 - 1) [] ≡ c = ap (λ n. slice_index_or t.commits n []) (last_off k) ∙ get_or_from_slice_get t.commits k c [] here.0 in
    let less : t.floor - k - 1 ≡ t.floor - (k + 1) = omega arith in
    let P = OccursIn t in (
      each_weaker (λ e. get c e.0 ≡ Some e.1) (OfKept (OfBirth P) (take (t.floor - k - 1) cs)) c (λ e is none. version e.0 e.1 here.1 count commit less is none) (each_entry c rising.0),
      subst (λ n. OfVersions (OfBirth P) n cs) (sym less) (versions_occur t (k + 1) cs within here.1 rising.1),
    )
  where
    version : (row : List ℕ) (o : Option Value) → drop (k + 1) t.commits ≡ cs → k < length t.commits → slice_index_or t.commits (k + 1 - 1) [] ≡ c → t.floor - k - 1 ≡ t.floor - (k + 1) → get c row ≡ Some o → last_change (take (t.floor - k - 1) cs) row ≡ None → OfOption (OfBirth (OccursIn t)) o
    version row None after count commit less is none = tt
    version row (Some v) after count commit less is none =
        let kept : is_kept t row (k + 1) ≡ true = kept_by_later t (k + 1) cs row after ∙ ap (λ n. is_none (last_change (take n cs) row)) (sym less) ∙ ap (λ (o : Option (Option Value)). is_none o) none in
        let held : IsKeptVersion t row (k + 1) v = record { low = omega arith; high = omega (arith, count); given = ap (λ (m : Rows). get m row) commit ∙ is; kept = kept } in
        let (n, since) = since_of t row (k + 1) v within held in
        of_marks (OccursIn t) v (λ b marked. Since row n v since.low since.high since.is marked)

none_off : (n : ℕ) → n - 0 ≡ n
none_off n = omega arith

pub reached_occurs : (t : Table) → HasFloorWithin t → HasRisingCommits t → AllOrderly t → Each (OccursIn t) (reach t)
reached_occurs t within commits orderly =
    let P = OccursIn t in
    let numbered = numbered_from t 0 t.sessions refl in
    each-reach P t (record {
      held = record {
        versions = subst (λ n. OfVersions (OfBirth P) n t.commits) (none_off t.floor) (versions_occur t 0 t.commits within refl commits);
        sessions = each_weaker (IsNumbered t) (OfSession (OfBirth P)) t.sessions (λ p is. subst (OfSession (OfBirth P)) is.is (session_occurs t orderly is.number is.has)) numbered;
      };
      found = each_weaker (IsNumbered t) (λ p. Each P (found_by p)) t.sessions (λ p is. subst (λ (x : Session). Each P (found_by x)) is.is (found_occurs t is.number is.has (session_of t is.number).promise refl)) numbered;
    })

-- and what occurs is reached
of_some : (P : ℕ → Type 0) (o : Option Value) (v : Value) (b : ℕ) → o ≡ Some v → OfOption (OfBirth P) o → IsMarkedIn v b → P b
of_some P o v b is all marked = marked_holds P v b (subst (OfOption (OfBirth P)) is all) marked

found_part : (P : ℕ → Type 0) (t : Table) (s : ℕ) → OfHeld P t → Each P (found_by (session_of t s))
found_part P t s of = each_at (λ x. Each P (found_by x)) t.sessions (s - 1) new_session tt of.found

pub occurring_is_reached : (t : Table) (b : ℕ) → OccursIn t b → Contains (reach t) b
occurring_is_reached t b (Current row v is marked) =
    let P = Contains (reach t) in
    of_some P (current_value t row) v b is (of_current (OfBirth P) t.floor t row (each_from_reach P t (each_itself (reach t))).held) marked
occurring_is_reached t b (Since row n v low high is marked) =
    let P = Contains (reach t) in
    of_some P (value_at t row n) v b is (of_at (OfBirth P) t.floor t row n (each_from_reach P t (each_itself (reach t))).held low) marked
occurring_is_reached t b (Working s row v has is marked) =
    let P = Contains (reach t) in
    let own = of_part (OfBirth P) t.floor t s (each_from_reach P t (each_itself (reach t))).held in
    marked_holds P v b (each_get (λ e. OfOption (OfBirth P) e.1) (session_of t s).working row (Some v) own.working is) marked
occurring_is_reached t b (Located s name l has is marked) =
    let P = Contains (reach t) in
    let own = of_part (OfBirth P) t.floor t s (each_from_reach P t (each_itself (reach t))).held in
    marked_holds P l.value b (each_get (λ e. Each (OfBirth P) e.1.value.bytes) (session_of t s).locators name l own.locators is) marked
occurring_is_reached t b (Saved s x row v has within is marked) =
    let P = Contains (reach t) in
    let own = of_part (OfBirth P) t.floor t s (each_from_reach P t (each_itself (reach t))).held in
    let rows : OfRows (OfBirth P) x.working = each_contained (λ y. OfRows (OfBirth P) y.working) (session_of t s).savepoints x own.savepoints within in
    marked_holds P v b (each_get (λ e. OfOption (OfBirth P) e.1) x.working row (Some v) rows is) marked
occurring_is_reached t b (Found s q has is within) =
    let P = Contains (reach t) in
    let found : Each P q.births = subst (λ (o : Option Promise). Each P (option_map_or (λ y. y.births) o [])) is (found_part P t s (each_from_reach P t (each_itself (reach t)))) in
    each_contained P q.births b found within
