-- The births that a publication gives to its cuts.
use Rattle.std.proofs.Common.{◌≡◌, ℕ, ◌+◌, ◌-◌, Bool, true, false, ◌&&◌, cond, List, [], ◌∷◌, ◌++◌, length, drop, Option, Some, None, refl, sym, ap, ◌∙◌, append_assoc, arith, length-append}
use Rattle.std.proofs.lemmas.List.{append-nil}
use Rattle.std.proofs.lemmas.List.Elements.{Contains-push}
use Rattle.std.specs.Prelude.{find, unwrap_or, is_some, slice_get, bytes_eq, Contains}
use Rattle.std.specs.List.{AllByRecursion as Each}
use Rattle.std.specs.Option.{option_map_or}
use Rattle.std.proofs.lemmas.Slice.Eq.{bytes_eq-Decides}
use Rattle.sf_types.specs.Table.Parts.{Content}
use Rattle.sf_types.specs.Space.Cuts.{Cut, stored_bytes_from, stored_bytes}
use Rattle.sf_types.specs.Space.Use.{content_of}
use Rattle.sf_types.specs.Space.Promises.{is_shared_as, found_birth, is_found}
use Rattle.sf_types.specs.Space.Publications.{content_of_cut, birth_for, contents_with, reached_with, births_for, contents_after}
use Rattle.sf_laws.specs.TrueMarks.{IsGivenOut, bytes_of_birth, HasTrueMark}
use Rattle.sf_laws.proofs.EachLemmas.{each_weaker, each-append, each_left, each_found, each_itself, each_contained}
use Rattle.sf_laws.proofs.SettleLemmas.{Paired}
use Rattle.sf_laws.proofs.PositionLemmas.{at_drop}
use Rattle.sf_types.proofs.ListLemmas.{get-append, get_last}
use Rattle.sf_types.proofs.BoolLemmas.{both_first, both_second}

-- All births among which a further cut would be looked for.
abbrev pub reached_after : List Content → List ℕ → List Cut → List ℕ
reached_after contents reached [] = reached
reached_after contents reached (cut ∷ rest) = reached_after (contents_with contents reached cut) (reached_with contents reached cut) rest

-- contents go on at their end alone
pub record GoesOn (before after : List Content) : Type 0 where
  pub more : List Content
  pub parts : after ≡ before ++ more

pub goes_on_same : (xs : List Content) → GoesOn xs xs
goes_on_same xs = record { more = []; parts = sym (append-nil xs) }

pub goes_on_on : (xs ys zs : List Content) → GoesOn xs ys → GoesOn ys zs → GoesOn xs zs
goes_on_on xs ys zs first then = record {
  more = first.more ++ then.more;
  parts = then.parts ∙ ap (λ (us : List Content). us ++ then.more) first.parts ∙ append_assoc xs first.more then.more;
}

goes_on_if : (b : Bool) (xs : List Content) (x : Content) → GoesOn xs (cond b xs (xs ++ x ∷ []))
goes_on_if true xs x = goes_on_same xs
goes_on_if false xs x = record { more = x ∷ []; parts = refl }

pub goes_on_with : (contents : List Content) (reached : List ℕ) (cut : Cut) → GoesOn contents (contents_with contents reached cut)
goes_on_with contents reached cut = goes_on_if (is_found contents reached cut) contents (content_of_cut cut)

pub goes_on_after : (contents : List Content) (reached : List ℕ) (of : List Cut) → GoesOn contents (contents_after contents reached of)
goes_on_after contents reached [] = goes_on_same contents
goes_on_after contents reached (cut ∷ rest) =
    goes_on_on contents (contents_with contents reached cut) (contents_after (contents_with contents reached cut) (reached_with contents reached cut) rest)
    (goes_on_with contents reached cut) (goes_on_after (contents_with contents reached cut) (reached_with contents reached cut) rest)

-- a birth that was given out stays given out, with its content
pub given_kept : (before after : List Content) (b : ℕ) → GoesOn before after → IsGivenOut before b → IsGivenOut after b
given_kept before after b on given = record { low = given.low; high = rw on.parts (rw length-append (omega (arith, given.high))) }

pub content_kept : (before after : List Content) (b : ℕ) → GoesOn before after → IsGivenOut before b → content_of after b ≡ content_of before b
content_kept before after b on given = rw on.parts (get-append before on.more (b - 1) (omega (arith, given.low, given.high)))

pub bytes_kept : (before after : List Content) (b : ℕ) → GoesOn before after → IsGivenOut before b → bytes_of_birth after b ≡ bytes_of_birth before b
bytes_kept before after b on given = ap (λ (o : Option Content). option_map_or (λ x. x.bytes) o []) (content_kept before after b on given)

-- What was found for a cut: a shared birth with its bytes.
pub record IsFoundAt (contents : List Content) (reached : List ℕ) (cut : Cut) (b : ℕ) : Type 0 where
  pub sharing : cut.is_sharing ≡ true
  pub within : Contains reached b
  pub content : Content
  pub at : content_of contents b ≡ Some content
  pub shared : content.is_shared ≡ true
  pub bytes : content.bytes ≡ cut.bytes

shared_at : (contents : List Content) (reached : List ℕ) (cut : Cut) (b : ℕ) (o : Option Content) → cut.is_sharing ≡ true → Contains reached b → content_of contents b ≡ o
    → option_map_or (λ x. x.is_shared && bytes_eq x.bytes cut.bytes) o false ≡ true → IsFoundAt contents reached cut b
shared_at contents reached cut b None sharing within at is = absurd cc
shared_at contents reached cut b (Some x) sharing within at is = record {
  sharing = sharing;
  within = within;
  content = x;
  at = at;
  shared = both_first x.is_shared (bytes_eq x.bytes cut.bytes) is;
  bytes = (bytes_eq-Decides x.bytes cut.bytes).0 (both_second x.is_shared (bytes_eq x.bytes cut.bytes) is);
}

pub found_at : (contents : List Content) (reached : List ℕ) (cut : Cut) (b : ℕ) → found_birth contents reached cut ≡ Some b → IsFoundAt contents reached cut b
found_at contents reached cut b is =
    elim cut.is_sharing as (λ c. cut.is_sharing ≡ c → cond c (find (is_shared_as contents cut.bytes) reached) None ≡ Some b → IsFoundAt contents reached cut b) [
      | true ↦ λ sharing h. let both = each_found (Contains reached) (is_shared_as contents cut.bytes) reached b h (each_itself reached) in shared_at contents reached cut b (content_of contents b) sharing both.0 refl both.1
      | false ↦ λ sharing h. absurd cc
    ] refl is

-- A birth given to a cut has its bytes, and is among those where a further cut is looked for.
pub record IsGivenTo (contents : List Content) (reached : List ℕ) (cut : Cut) (b : ℕ) : Type 0 where
  pub given_out : IsGivenOut contents b
  pub bytes : bytes_of_birth contents b ≡ cut.bytes
  pub within : Contains reached b

given_where : (contents : List Content) (reached : List ℕ) (cut : Cut) (o : Option ℕ) → found_birth contents reached cut ≡ o → Each (IsGivenOut contents) reached
    → IsGivenTo (cond (is_some o) contents (contents ++ content_of_cut cut ∷ [])) (cond (is_some o) reached (reached ++ (length contents + 1) ∷ [])) cut (unwrap_or o (length contents + 1))
given_where contents reached cut None is given = record {
  given_out = record { low = omega arith; high = rw length-append (omega arith) };
  bytes = ap (λ (o : Option Content). option_map_or (λ x. x.bytes) o []) (ap (slice_get (contents ++ content_of_cut cut ∷ [])) (place (length contents)) ∙ get_last contents (content_of_cut cut));
  within = Contains-push reached (length contents + 1);
}
  where
    place : (n : ℕ) → n + 1 - 1 ≡ n
    place n = omega arith
given_where contents reached cut (Some b) is given =
    let f = found_at contents reached cut b is in
    record {
      given_out = each_contained (IsGivenOut contents) reached b given f.within;
      bytes = ap (λ (o : Option Content). option_map_or (λ x. x.bytes) o []) f.at ∙ f.bytes;
      within = f.within;
    }

pub given_to : (contents : List Content) (reached : List ℕ) (cut : Cut) → Each (IsGivenOut contents) reached → IsGivenTo (contents_with contents reached cut) (reached_with contents reached cut) cut (birth_for contents reached cut)
given_to contents reached cut given = given_where contents reached cut (found_birth contents reached cut) refl given

pub reached_front : (P : ℕ → Type 0) (contents : List Content) (reached : List ℕ) (cut : Cut) → Each P (reached_with contents reached cut) → Each P reached
reached_front P contents reached cut all =
    elim (is_found contents reached cut) as (λ b. Each P (cond b reached (reached ++ (length contents + 1) ∷ [])) → Each P reached) [
      | true ↦ λ h. h
      | false ↦ λ h. each_left P reached ((length contents + 1) ∷ []) h
    ] all

-- each birth given out stays so, and one more is
pub given_more : (contents : List Content) (reached : List ℕ) (cut : Cut) → Each (IsGivenOut contents) reached → Each (IsGivenOut (contents ++ content_of_cut cut ∷ [])) (reached ++ (length contents + 1) ∷ [])
given_more contents reached cut given =
    each-append (IsGivenOut (contents ++ content_of_cut cut ∷ [])) reached ((length contents + 1) ∷ [])
    (each_weaker (IsGivenOut contents) (IsGivenOut (contents ++ content_of_cut cut ∷ [])) reached (λ b is. given_kept contents (contents ++ content_of_cut cut ∷ []) b (record { more = content_of_cut cut ∷ []; parts = refl }) is) given)
    (record { low = omega arith; high = rw length-append (omega arith) }, tt)

pub given_with : (contents : List Content) (reached : List ℕ) (cut : Cut) → Each (IsGivenOut contents) reached → Each (IsGivenOut (contents_with contents reached cut)) (reached_with contents reached cut)
given_with contents reached cut given =
    elim (is_found contents reached cut) as (λ b. Each (IsGivenOut (cond b contents (contents ++ content_of_cut cut ∷ []))) (cond b reached (reached ++ (length contents + 1) ∷ []))) [
      | true ↦ given
      | false ↦ given_more contents reached cut given
    ]

pub reached_kept : (P : ℕ → Type 0) (contents : List Content) (reached : List ℕ) (of : List Cut) → Each P (reached_after contents reached of) → Each P reached
reached_kept P contents reached [] all = all
reached_kept P contents reached (cut ∷ rest) all = reached_front P contents reached cut (reached_kept P (contents_with contents reached cut) (reached_with contents reached cut) rest all)

pub births_given : (contents : List Content) (reached : List ℕ) (of : List Cut) → Each (IsGivenOut contents) reached → Paired (IsGivenTo (contents_after contents reached of) (reached_after contents reached of)) of (births_for contents reached of)
births_given contents reached [] given = tt
births_given contents reached (cut ∷ rest) given =
    let own = given_to contents reached cut given in
    let cs = contents_with contents reached cut in
    let rs = reached_with contents reached cut in
    let on = goes_on_after cs rs rest in (
      record {
        given_out = given_kept cs (contents_after cs rs rest) (birth_for contents reached cut) on own.given_out;
        bytes = bytes_kept cs (contents_after cs rs rest) (birth_for contents reached cut) on own.given_out ∙ own.bytes;
        within = each_contained (Contains (reached_after cs rs rest)) rs (birth_for contents reached cut) (reached_kept (Contains (reached_after cs rs rest)) cs rs rest (each_itself (reached_after cs rs rest))) own.within;
      },
      births_given cs rs rest (given_with contents reached cut given),
    )

pub given_after : (contents : List Content) (reached : List ℕ) (of : List Cut) → Each (IsGivenOut contents) reached → Each (IsGivenOut (contents_after contents reached of)) (reached_after contents reached of)
given_after contents reached [] given = given
given_after contents reached (cut ∷ rest) given = given_after (contents_with contents reached cut) (reached_with contents reached cut) rest (given_with contents reached cut given)

-- the bytes that a birth stores are true where the birth has them
stored_true_from : (contents : List Content) (b i : ℕ) (all bytes : List ℕ) → IsGivenOut contents b → bytes_of_birth contents b ≡ all → drop i all ≡ bytes → Each (HasTrueMark contents) (stored_bytes_from b i bytes)
stored_true_from contents b i all [] given is at = tt
stored_true_from contents b i all (x ∷ bytes) given is at =
    let parts = at_drop all i x bytes at in
    (record { given_out = given; stands = ap (λ (xs : List ℕ). slice_get xs i) is ∙ parts.0 }, stored_true_from contents b (i + 1) all bytes given is parts.1)

pub stored_true : (contents : List Content) (b : ℕ) (bytes : List ℕ) → IsGivenOut contents b → bytes_of_birth contents b ≡ bytes → Each (HasTrueMark contents) (stored_bytes b bytes)
stored_true contents b bytes given is = stored_true_from contents b 0 bytes bytes given is refl
