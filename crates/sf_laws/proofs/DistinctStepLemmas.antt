-- Shared contents stay distinct.
use Rattle.std.proofs.Common.{◌≡◌, ℕ, ◌+◌, ◌-◌, true, false, cond, IsTrue, List, [], ◌∷◌, ◌++◌, length, Option, Some, None, refl, sym, ap, subst, ◌∙◌, arith, ⊎_elim}
use Rattle.std.specs.Prelude.{find, is_some, slice_get, Contains}
use Rattle.std.specs.List.{AllByRecursion as Each}
use Rattle.std.proofs.lemmas.Slice.Eq.{bytes_eq-Decides}
use Rattle.std.proofs.lemmas.List.Elements.{Contains-push_cases}
use Rattle.sf_types.specs.declared.call.Call.{Call}
use Rattle.sf_types.specs.declared.history.Entry.{Entry}
use Rattle.sf_types.specs.declared.options.Options.{Options}
use Rattle.sf_types.specs.Table.Parts.{Content, Table, opening_table}
use Rattle.sf_types.specs.Table.Sessions.{has_session}
use Rattle.sf_types.specs.Space.Cuts.{Cut}
use Rattle.sf_types.specs.Space.Reach.{reach}
use Rattle.sf_types.specs.Space.Promises.{is_shared_as, found_birth, flush_cuts, table_with_promise, cancel}
use Rattle.sf_types.specs.Space.Publications.{content_of_cut, contents_with, reached_with, contents_after, publish}
use Rattle.sf_types.specs.Calls.Steps.{step}
use Rattle.sf_types.specs.Orders.Histories.{IsLegal, IsLegalHistory, effect_of, table_after}
use Rattle.sf_laws.specs.TrueMarks.{IsGivenOut, HasTrueMarks}
use Rattle.sf_laws.specs.SharedContents.{IsSharedWith, AreDistinct, HasDistinctContents}
use Rattle.sf_laws.proofs.EachLemmas.{each_contained, each_itself, none_found}
use Rattle.sf_laws.proofs.GivenBirthLemmas.{reached_after, content_kept, given_with}
use Rattle.sf_laws.proofs.ReachStepLemmas.{reach_stepped, reach_published, reach_at_floor, reach_granted, reach_cancelled}
use Rattle.sf_laws.proofs.ChangeLemmas.{step_changed, publish_changed}
use Rattle.sf_laws.proofs.EntryCaseLemmas.{EntryCases, by_entry_cases}
use Rattle.sf_laws.proofs.TrueStepLemmas.{are_true, reach_given, true_after, true_opening}
use Rattle.sf_types.proofs.ListLemmas.{get_last}

-- fewer births are distinct
distinct_among : (contents : List Content) (more fewer : List ℕ) → AreDistinct contents more → Each (Contains more) fewer → AreDistinct contents fewer
distinct_among contents more fewer distinct within bytes b c in_b in_c of_b of_c =
    distinct bytes b c (each_contained (Contains more) fewer b within in_b) (each_contained (Contains more) fewer c within in_c) of_b of_c

passes_shared : (contents : List Content) (bytes : List ℕ) (b : ℕ) → IsSharedWith contents bytes b → is_shared_as contents bytes b ≡ true
passes_shared contents bytes b is = rw is ((bytes_eq-Decides bytes bytes).1 refl)

-- a sharing cut that isn't found has bytes that no shared birth has
not_found : (contents : List Content) (reached : List ℕ) (cut : Cut) (b : ℕ) → found_birth contents reached cut ≡ None → cut.is_sharing ≡ true → Contains reached b → IsSharedWith contents cut.bytes b → ⊥
not_found contents reached cut b none sharing within shared =
    let gone : find (is_shared_as contents cut.bytes) reached ≡ None = rw sharing at none in
    let fails : is_shared_as contents cut.bytes b ≡ false = each_contained (λ x. is_shared_as contents cut.bytes x ≡ false) reached b (none_found (is_shared_as contents cut.bytes) reached gone) within in
    let passes = passes_shared contents cut.bytes b shared in
    cc

-- the last content, that of a cut
last_shared : (contents : List Content) (cut : Cut) (bytes : List ℕ) (c : ℕ) → length contents + 1 ≡ c → IsSharedWith (contents ++ content_of_cut cut ∷ []) bytes c → (cut.is_sharing ≡ true) × (cut.bytes ≡ bytes)
last_shared contents cut bytes c is shared =
    let place : length contents ≡ c - 1 = omega arith in
    let last : slice_get (contents ++ content_of_cut cut ∷ []) (c - 1) ≡ Some (content_of_cut cut) = subst (λ n. slice_get (contents ++ content_of_cut cut ∷ []) n ≡ Some (content_of_cut cut)) place (get_last contents (content_of_cut cut)) in
    let same : content_of_cut cut ≡ record { bytes = bytes; is_shared = true } = cc in
    (ap (λ (x : Content). x.is_shared) same, ap (λ (x : Content). x.bytes) same)

distinct_where : (contents : List Content) (reached : List ℕ) (cut : Cut) (o : Option ℕ) → found_birth contents reached cut ≡ o → Each (IsGivenOut contents) reached → AreDistinct contents reached
    → AreDistinct (cond (is_some o) contents (contents ++ content_of_cut cut ∷ [])) (cond (is_some o) reached (reached ++ (length contents + 1) ∷ []))
distinct_where contents reached cut (Some x) is given distinct = distinct
distinct_where contents reached cut None is given distinct = λ bytes b c in_b in_c of_b of_c.
    let more : List Content = contents ++ content_of_cut cut ∷ [] in
    let before : (d : ℕ) → Contains reached d → IsSharedWith more bytes d → IsSharedWith contents bytes d =
    λ d within shared. sym (content_kept contents more d (record { more = content_of_cut cut ∷ []; parts = refl }) (each_contained (IsGivenOut contents) reached d given within)) ∙ shared in
    let apart : (d e : ℕ) → Contains reached d → length contents + 1 ≡ e → IsSharedWith more bytes d → IsSharedWith more bytes e → ⊥ =
    λ d e within last of_d of_e.
    let parts = last_shared contents cut bytes e last of_e in
    not_found contents reached cut d is parts.0 within (subst (λ bs. IsSharedWith contents bs d) (sym parts.1) (before d within of_d)) in
    ⊎_elim
    (λ (old_b : Contains reached b). ⊎_elim
    (λ (old_c : Contains reached c). distinct bytes b c old_b old_c (before b old_b of_b) (before c old_c of_c))
    (λ (new_c : length contents + 1 ≡ c). absurd (apart b c old_b new_c of_b of_c))
    (Contains-push_cases reached (length contents + 1) c in_c))
    (λ (new_b : length contents + 1 ≡ b). ⊎_elim
    (λ (old_c : Contains reached c). absurd (apart c b old_c new_b of_c of_b))
    (λ (new_c : length contents + 1 ≡ c). sym new_b ∙ new_c)
    (Contains-push_cases reached (length contents + 1) c in_c))
    (Contains-push_cases reached (length contents + 1) b in_b)

distinct_after : (contents : List Content) (reached : List ℕ) (of : List Cut) → Each (IsGivenOut contents) reached → AreDistinct contents reached → AreDistinct (contents_after contents reached of) (reached_after contents reached of)
distinct_after contents reached [] given distinct = distinct
distinct_after contents reached (cut ∷ rest) given distinct =
    distinct_after (contents_with contents reached cut) (reached_with contents reached cut) rest (given_with contents reached cut given)
    (distinct_where contents reached cut (found_birth contents reached cut) refl given distinct)

-- The births in reach alone.
abbrev IsDistinct : Table → Type 0
IsDistinct t = AreDistinct t.contents (reach t)

fewer_reached : (t u : Table) → IsDistinct t → t.contents ≡ u.contents → Each (Contains (reach t)) (reach u) → IsDistinct u
fewer_reached t u distinct same within = subst (λ cs. AreDistinct cs (reach u)) same (distinct_among t.contents (reach t) (reach u) distinct within)

distinct_cases : (t : Table) (s : ℕ) (c : Call) → IsTrue (has_session t s) → HasTrueMarks t → IsDistinct t → EntryCases t s c IsDistinct
distinct_cases t s c has marks distinct =
    let within = each_itself (reach t) in
    let of = flush_cuts t s c in
    let given = reach_given t (are_true t marks) in
    record {
      stepped = λ none due. fewer_reached t (step t s c).0 distinct (sym (step_changed t s c has).contents) (reach_stepped (Contains (reach t)) t s c has within);
      published = λ q is call.
          let reached = reached_after t.contents (reach t) of in
          subst (λ cs. AreDistinct cs (reach (publish t s c).0)) (sym (publish_changed t s c).contents)
          (distinct_among (contents_after t.contents (reach t) of) reached (reach (publish t s c).0) (distinct_after t.contents (reach t) of given distinct)
          (reach_published (Contains reached) t s c given (each_itself reached)));
      refused = distinct;
      granted = λ none due h le fits. fewer_reached t (table_with_promise t s c of h) distinct refl (reach_granted (Contains (reach t)) t s c of h (reach_at_floor (Contains (reach t)) t h le within));
      cancelled = λ q is. fewer_reached t (cancel t s) distinct refl (reach_cancelled (Contains (reach t)) t s within);
    }

pub distinct_entry : (t : Table) (e : Entry) → IsLegal t e.token.session e.token.kind e.call → HasDistinctContents t → HasDistinctContents (effect_of t e).0
distinct_entry t e legal has = record {
  true_marks = true_after t e legal has.true_marks;
  distinct = by_entry_cases t e.token.session e.token.kind e.call IsDistinct legal (distinct_cases t e.token.session e.call legal.session has.true_marks has.distinct);
}

pub distinct_opening : (options : Options) (sessions : ℕ) → HasDistinctContents (opening_table options sessions)
distinct_opening options sessions = record {
  true_marks = true_opening options sessions;
  distinct = λ bytes b c in_b in_c of_b of_c. absurd cc;
}

pub distinct_run : (t : Table) (history : List Entry) → IsLegalHistory t history → HasDistinctContents t → HasDistinctContents (table_after t history)
distinct_run t [] legal has = has
distinct_run t (e ∷ es) legal has = distinct_run (effect_of t e).0 es legal.1 (distinct_entry t e legal.0 has)
