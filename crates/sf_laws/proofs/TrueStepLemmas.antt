-- Marks stay true.
use Rattle.std.proofs.Common.{ℕ, ◌-◌, IsTrue, List, [], ◌∷◌, Option, None, refl, sym, ap, subst, ◌∙◌, arith}
use Rattle.std.specs.Prelude.{flat_map, slice_get, All}
use Rattle.std.specs.List.{AllByRecursion as Each}
use Rattle.std.specs.Option.{option_map_or}
use Rattle.std.proofs.lemmas.List.Elements.{All-from_recursion, recursion_from_All}
use Rattle.sf_types.specs.declared.call.Call.{Call}
use Rattle.sf_types.specs.declared.history.Entry.{Entry}
use Rattle.sf_types.specs.declared.options.Options.{Options}
use Rattle.sf_types.specs.Values.Marks.{Mark, Zero, Fresh, Stored, Marked, Value}
use Rattle.sf_types.specs.Table.Parts.{Content, Promise, Rows, Table, new_session, opening_table}
use Rattle.sf_types.specs.Table.Sessions.{has_session, session_of}
use Rattle.sf_types.specs.Space.Cuts.{Cut}
use Rattle.sf_types.specs.Space.Reach.{values_in, session_values, reach}
use Rattle.sf_types.specs.Space.Promises.{flush_cuts, with_floor}
use Rattle.sf_types.specs.Space.Publications.{births_for, contents_after, publish}
use Rattle.sf_types.specs.Calls.Steps.{step}
use Rattle.sf_types.specs.Orders.Histories.{IsLegal, IsLegalHistory, effect_of, table_after}
use Rattle.sf_laws.specs.TrueMarks.{IsGivenOut, IsTrueMark, HasTrueMark, all_values, found_by, HasTrueMarks}
use Rattle.sf_laws.proofs.EachLemmas.{each_weaker, each-append, each_left, each_right, each-flat_map, each_from_flat_map, each-replicate, each-set, each_at}
use Rattle.sf_laws.proofs.HeldLemmas.{OfOption, OfRows, OfKept, OfVersions, OfSession, Held, held_weaker}
use Rattle.sf_laws.proofs.HeldEditLemmas.{OfUnstored}
use Rattle.sf_laws.proofs.HeldStepLemmas.{of_part, of_table, held_step, held_above}
use Rattle.sf_laws.proofs.SettleLemmas.{Paired, OfCut}
use Rattle.sf_laws.proofs.PublishCaseLemmas.{held_publish}
use Rattle.sf_laws.proofs.GivenBirthLemmas.{reached_after, GoesOn, goes_on_after, given_kept, bytes_kept, IsGivenTo, births_given, stored_true}
use Rattle.sf_laws.proofs.ReachLemmas.{OfBirth, each-reach, each-values_in, each_from_values_in, each-session_values, each_from_session_values}
use Rattle.sf_laws.proofs.ChangeLemmas.{step_changed, publish_changed, promises_hold}
use Rattle.sf_laws.proofs.EntryCaseLemmas.{EntryCases, by_entry_cases, each-found_births}

-- all versions are kept by the floor 0
versions_of_all : (M : Marked → Type 0) (cs : List Rows) → Each (OfRows M) cs → OfVersions M 0 cs
versions_of_all M [] all = tt
versions_of_all M (c ∷ cs) all = (each_weaker (λ e. OfOption M e.1) (OfKept M []) c (λ e is none. is) all.0, versions_of_all M cs all.1)

all_of_versions : (M : Marked → Type 0) (cs : List Rows) → OfVersions M 0 cs → Each (OfRows M) cs
all_of_versions M [] all = tt
all_of_versions M (c ∷ cs) all = (each_weaker (OfKept M []) (λ e. OfOption M e.1) c (λ e is. is refl) all.0, all_of_versions M cs all.1)

-- The same with what each promise found.
pub record AreTrue (t : Table) : Type 0 where
  pub held : Held (HasTrueMark t.contents) 0 t
  pub found : Each (λ p. Each (IsGivenOut t.contents) (found_by p)) t.sessions

pub are_true : (t : Table) → HasTrueMarks t → AreTrue t
are_true t has =
    let M = HasTrueMark t.contents in
    let V = λ (v : Value). Each M v.bytes in
    let all : Each V (all_values t) = each_weaker (λ v. All M v.bytes) V (all_values t) (λ v is. recursion_from_All M v.bytes is) (recursion_from_All (λ v. All M v.bytes) (all_values t) has.marks) in
    record {
      held = record {
        versions = versions_of_all M t.commits (each_weaker (λ c. Each V (values_in c)) (OfRows M) t.commits (λ c is. each_from_values_in V M (λ v h. h) c is) (each_from_flat_map V (λ c. values_in c) t.commits (each_left V (flat_map (λ c. values_in c) t.commits) (flat_map (λ p. session_values p) t.sessions) all)));
        sessions = each_weaker (λ p. Each V (session_values p)) (OfSession M) t.sessions (λ p is. each_from_session_values V M (λ v h. h) p is) (each_from_flat_map V (λ p. session_values p) t.sessions (each_right V (flat_map (λ c. values_in c) t.commits) (flat_map (λ p. session_values p) t.sessions) all));
      };
      found = each_weaker (λ p. All (IsGivenOut t.contents) (found_by p)) (λ p. Each (IsGivenOut t.contents) (found_by p)) t.sessions (λ p is. recursion_from_All (IsGivenOut t.contents) (found_by p) is) (recursion_from_All (λ p. All (IsGivenOut t.contents) (found_by p)) t.sessions has.promised);
    }

pub has_true_marks : (t : Table) → AreTrue t → HasTrueMarks t
has_true_marks t are =
    let M = HasTrueMark t.contents in
    let V = λ (v : Value). Each M v.bytes in
    let all : Each V (all_values t) =
    each-append V (flat_map (λ c. values_in c) t.commits) (flat_map (λ p. session_values p) t.sessions)
    (each-flat_map V (λ c. values_in c) t.commits (each_weaker (OfRows M) (λ c. Each V (values_in c)) t.commits (λ c is. each-values_in V M (λ v h. h) c is) (all_of_versions M t.commits are.held.versions)))
    (each-flat_map V (λ p. session_values p) t.sessions (each_weaker (OfSession M) (λ p. Each V (session_values p)) t.sessions (λ p is. each-session_values V M (λ v h. h) p is) are.held.sessions)) in
    record {
      marks = All-from_recursion (λ v. All M v.bytes) (all_values t) (each_weaker V (λ v. All M v.bytes) (all_values t) (λ v is. All-from_recursion M v.bytes is) all);
      promised = All-from_recursion (λ p. All (IsGivenOut t.contents) (found_by p)) t.sessions (each_weaker (λ p. Each (IsGivenOut t.contents) (found_by p)) (λ p. All (IsGivenOut t.contents) (found_by p)) t.sessions (λ p is. All-from_recursion (IsGivenOut t.contents) (found_by p) is) are.found);
    }

pub true_unstored : (contents : List Content) → OfUnstored (HasTrueMark contents)
true_unstored contents = record { of_zero = refl; of_fresh = λ b. tt }

-- a birth that a true mark names was given out
given_of_mark : (contents : List Content) (byte : ℕ) (k : Mark) → IsTrueMark contents byte k → OfBirth (IsGivenOut contents) (record { byte = byte; mark = k })
given_of_mark contents byte Zero is = tt
given_of_mark contents byte Fresh is = tt
given_of_mark contents byte (Stored birth index) is = is.given_out

-- each birth in reach was given out
pub reach_given : (t : Table) → AreTrue t → Each (IsGivenOut t.contents) (reach t)
reach_given t are = each-reach (IsGivenOut t.contents) t (record {
  held = held_above (OfBirth (IsGivenOut t.contents)) 0 t.floor t (omega arith) (held_weaker (HasTrueMark t.contents) (OfBirth (IsGivenOut t.contents)) 0 t (λ m is. given_of_mark t.contents m.byte m.mark is) are.held);
  found = are.found;
})

true_kept : (before after : List Content) → GoesOn before after → (byte : ℕ) (k : Mark) → IsTrueMark before byte k → IsTrueMark after byte k
true_kept before after on byte Zero is = is
true_kept before after on byte Fresh is = tt
true_kept before after on byte (Stored birth index) is = record {
  given_out = given_kept before after birth on is.given_out;
  stands = ap (λ (bs : List ℕ). slice_get bs index) (bytes_kept before after birth on is.given_out) ∙ is.stands;
}

paired_true : (contents : List Content) (reached : List ℕ) (of : List Cut) (births : List ℕ) → Paired (IsGivenTo contents reached) of births → Paired (OfCut (HasTrueMark contents)) of births
paired_true contents reached [] births all = tt
paired_true contents reached (cut ∷ rest) [] all = tt
paired_true contents reached (cut ∷ rest) (b ∷ births) all = (stored_true contents b cut.bytes all.0.given_out all.0.bytes, paired_true contents reached rest births all.1)

-- What each promise found.
abbrev FoundGiven : List Content → Option Promise → Type 0
FoundGiven contents o = Each (IsGivenOut contents) (option_map_or (λ q. q.births) o [])

true_published : (t : Table) (s : ℕ) (c : Call) → AreTrue t → AreTrue (publish t s c).0
true_published t s c are =
    let reached = reach t in
    let of = flush_cuts t s c in
    let after = contents_after t.contents reached of in
    let on : GoesOn t.contents after = goes_on_after t.contents reached of in
    let changed = publish_changed t s c in
    let u = (publish t s c).0 in
    let held : Held (HasTrueMark after) 0 u =
    held_publish (HasTrueMark after) (true_unstored after) 0 t s c
    (held_weaker (HasTrueMark t.contents) (HasTrueMark after) 0 t (λ m is. true_kept t.contents after on m.byte m.mark is) are.held)
    (paired_true after (reached_after t.contents reached of) of (births_for t.contents reached of) (births_given t.contents reached of (reach_given t are))) in
    let found : Each (λ p. FoundGiven after p.promise) u.sessions =
    promises_hold (FoundGiven after) t u s None after changed tt
    (each_weaker (λ p. Each (IsGivenOut t.contents) (found_by p)) (λ p. Each (IsGivenOut after) (found_by p)) t.sessions (λ p is. each_weaker (IsGivenOut t.contents) (IsGivenOut after) (found_by p) (λ b h. given_kept t.contents after b on h) is) are.found) in
    record {
      held = subst (λ cs. Held (HasTrueMark cs) 0 u) (sym changed.contents) held;
      found = subst (λ cs. Each (λ p. FoundGiven cs p.promise) u.sessions) (sym changed.contents) found;
    }

true_cases : (t : Table) (s : ℕ) (c : Call) → IsTrue (has_session t s) → AreTrue t → EntryCases t s c AreTrue
true_cases t s c has are =
    let p = session_of t s in
    let own : OfSession (HasTrueMark t.contents) p = of_part (HasTrueMark t.contents) 0 t s are.held in
    let part : FoundGiven t.contents p.promise = each_at (λ x. FoundGiven t.contents x.promise) t.sessions (s - 1) new_session tt are.found in
    record {
      stepped = λ none due.
          let changed = step_changed t s c has in
          record {
            held = subst (λ cs. Held (HasTrueMark cs) 0 (step t s c).0) (sym changed.contents) (held_step (HasTrueMark t.contents) (true_unstored t.contents) 0 t s c has (omega arith) are.held);
            found = subst (λ cs. Each (λ x. FoundGiven cs x.promise) (step t s c).0.sessions) (sym changed.contents) (promises_hold (FoundGiven t.contents) t (step t s c).0 s p.promise t.contents changed part are.found);
          };
      published = λ q is call. true_published t s c are;
      refused = are;
      granted = λ none due h le fits. record {
        held = of_table (HasTrueMark t.contents) 0 t _ s _ are.held refl refl (record { working = own.working; locators = own.locators; savepoints = own.savepoints });
        found = each-set (λ x. FoundGiven t.contents x.promise) t.sessions (s - 1) _ (each-found_births (IsGivenOut t.contents) t.contents (reach (with_floor t h)) (flush_cuts t s c) (reach_given (with_floor t h) (record { held = record { versions = are.held.versions; sessions = are.held.sessions }; found = are.found }))) are.found;
      };
      cancelled = λ q is. record {
        held = of_table (HasTrueMark t.contents) 0 t _ s _ are.held refl refl (record { working = own.working; locators = own.locators; savepoints = own.savepoints });
        found = each-set (λ x. FoundGiven t.contents x.promise) t.sessions (s - 1) _ tt are.found;
      };
    }

pub true_after : (t : Table) (e : Entry) → IsLegal t e.token.session e.token.kind e.call → HasTrueMarks t → HasTrueMarks (effect_of t e).0
true_after t e legal has =
    has_true_marks (effect_of t e).0 (by_entry_cases t e.token.session e.token.kind e.call AreTrue legal (true_cases t e.token.session e.call legal.session (are_true t has)))

pub true_opening : (options : Options) (sessions : ℕ) → HasTrueMarks (opening_table options sessions)
true_opening options sessions =
    has_true_marks (opening_table options sessions) (record {
      held = record { versions = tt; sessions = each-replicate (OfSession (HasTrueMark [])) sessions new_session (record { working = tt; locators = tt; savepoints = tt }) };
      found = each-replicate (λ p. Each (IsGivenOut []) (found_by p)) sessions new_session tt;
    })

pub true_run : (t : Table) (history : List Entry) → IsLegalHistory t history → HasTrueMarks t → HasTrueMarks (table_after t history)
true_run t [] legal has = has
true_run t (e ∷ es) legal has = true_run (effect_of t e).0 es legal.1 (true_after t e legal.0 has)
