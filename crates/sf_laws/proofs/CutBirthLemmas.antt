-- The birth of each cut of a publication, told by the cuts that stand before it.
use Rattle.std.proofs.Common.{◌≡◌, ℕ, zero, suc, ◌+◌, ◌-◌, ◌<◌, Bool, true, false, ◌||◌, ◌&&◌, not, cond, List, [], ◌∷◌, ◌++◌, length, map, take, Option, Some, None, refl, sym, ap, ◌∙◌, append_assoc, arith, length-append}
use Rattle.std.proofs.lemmas.List.{append-nil, length-map}
use Rattle.std.proofs.lemmas.List.Folds.{find-append}
use Rattle.std.proofs.lemmas.Slice.Eq.{bytes_eq-Decides}
use Rattle.std.specs.Prelude.{find, slice_get, unwrap_or, is_some, bytes_eq}
use Rattle.std.specs.List.{AllByRecursion as Each, list_any}
use Rattle.std.specs.Option.{option_map_or, option_or}
use Rattle.sf_types.specs.Table.Parts.{Content}
use Rattle.sf_types.specs.Space.Cuts.{Cut}
use Rattle.sf_types.specs.Space.Use.{content_of}
use Rattle.sf_types.specs.Space.Promises.{is_shared_as, found_birth, is_found, is_equal_sharing, new_cuts}
use Rattle.sf_types.specs.Space.Publications.{content_of_cut, birth_for, contents_with, reached_with, births_for, contents_after}
use Rattle.sf_types.proofs.ListLemmas.{get_last}
use Rattle.sf_laws.specs.NewCuts.{is_new_behind}
use Rattle.sf_laws.specs.TrueMarks.{IsGivenOut}
use Rattle.sf_laws.proofs.GivenBirthLemmas.{content_kept, given_with}
use Rattle.sf_laws.proofs.WantedLemmas.{sharing_pair, more_contents, more_reached}

-- equal bytes, either way
same_turned : (xs ys : List ℕ) → bytes_eq xs ys ≡ bytes_eq ys xs
same_turned xs ys = both_ways (bytes_eq xs ys) (bytes_eq ys xs)
    (λ h. (bytes_eq-Decides ys xs).1 (sym ((bytes_eq-Decides xs ys).0 h)))
    (λ h. (bytes_eq-Decides xs ys).1 (sym ((bytes_eq-Decides ys xs).0 h)))
  where
    both_ways : (a b : Bool) → (a ≡ true → b ≡ true) → (b ≡ true → a ≡ true) → a ≡ b
    both_ways true b f g = sym (f refl)
    both_ways false true f g = g refl
    both_ways false false f g = refl

-- what was looked for among births that were given out before is found as before
find_kept : (contents : List Content) (x : Content) (reached : List ℕ) (bytes : List ℕ) → Each (IsGivenOut contents) reached → find (is_shared_as (contents ++ x ∷ []) bytes) reached ≡ find (is_shared_as contents bytes) reached
find_kept contents x [] bytes given = refl
find_kept contents x (b ∷ reached) bytes given =
    let same : is_shared_as (contents ++ x ∷ []) bytes b ≡ is_shared_as contents bytes b =
    ap (λ (o : Option Content). option_map_or (λ y. y.is_shared && bytes_eq y.bytes bytes) o false) (content_kept contents (contents ++ x ∷ []) b (record { more = x ∷ []; parts = refl }) given.0) in
    ap (λ t. cond {A = Option ℕ} t (Some b) (find (is_shared_as (contents ++ x ∷ []) bytes) reached)) same
    ∙ ap (λ (o : Option ℕ). cond (is_shared_as contents bytes b) (Some b) o) (find_kept contents x reached bytes given.1)

last_shared : (contents : List Content) (x : Cut) (bytes : List ℕ) → is_shared_as (more_contents contents x) bytes (length contents + 1) ≡ (x.is_sharing && bytes_eq bytes x.bytes)
last_shared contents x bytes =
    let index : length contents + 1 - 1 ≡ length contents = omega arith in
    let at : content_of (more_contents contents x) (length contents + 1) ≡ Some (content_of_cut x) = ap (slice_get (more_contents contents x)) index ∙ get_last contents (content_of_cut x) in
    ap (λ (o : Option Content). option_map_or (λ y. y.is_shared && bytes_eq y.bytes bytes) o false) at ∙ ap (λ b. x.is_sharing && b) (same_turned x.bytes bytes)

none_or : (o : Option ℕ) → o ≡ option_or o None
none_or None = refl
none_or (Some b) = refl

-- what is found after a cut became a content: what was found before, else that content where it is equal
found_more : (contents : List Content) (reached : List ℕ) (x cut : Cut) → Each (IsGivenOut contents) reached
    → found_birth (more_contents contents x) (more_reached contents reached) cut ≡ option_or (found_birth contents reached cut) (cond (is_equal_sharing cut x) (Some (length contents + 1)) None)
found_more contents reached x cut given =
    elim cut.is_sharing as (λ b. cond b (find (is_shared_as (more_contents contents x) cut.bytes) (more_reached contents reached)) None ≡ option_or (cond b (find (is_shared_as contents cut.bytes) reached) None) (cond (b && x.is_sharing && bytes_eq cut.bytes x.bytes) (Some (length contents + 1)) None)) [
      | true ↦
          find-append (is_shared_as (more_contents contents x) cut.bytes) reached ((length contents + 1) ∷ [])
          ∙ ap (λ (o : Option ℕ). option_or o (cond (is_shared_as (more_contents contents x) cut.bytes (length contents + 1)) (Some (length contents + 1)) None)) (find_kept contents (content_of_cut x) reached cut.bytes given)
          ∙ ap (λ b. option_or (find (is_shared_as contents cut.bytes) reached) (cond {A = Option ℕ} b (Some (length contents + 1)) None)) (last_shared contents x cut.bytes)
      | false ↦ refl
    ]

-- equal sharing cuts find the same
found_alike : (contents : List Content) (reached : List ℕ) (cut x : Cut) → is_equal_sharing cut x ≡ true → found_birth contents reached cut ≡ found_birth contents reached x
found_alike contents reached cut x is =
    let parts = sharing_pair cut x is in
    ap (λ b. cond {A = Option ℕ} b (find (is_shared_as contents cut.bytes) reached) None) (parts.0 ∙ sym parts.1)
    ∙ ap (λ (bytes : List ℕ). cond {A = Option ℕ} x.is_sharing (find (is_shared_as contents bytes) reached) None) parts.2

-- one cut got its birth: what a further cut finds
found_with : (contents : List Content) (reached : List ℕ) (x cut : Cut) → Each (IsGivenOut contents) reached
    → found_birth (contents_with contents reached x) (reached_with contents reached x) cut ≡ option_or (found_birth contents reached cut) (cond (is_equal_sharing cut x) (Some (birth_for contents reached x)) None)
found_with contents reached x cut given = go (found_birth contents reached x) refl
  where
    equal : (b : ℕ) → found_birth contents reached x ≡ Some b → (e : Bool) → is_equal_sharing cut x ≡ e → found_birth contents reached cut ≡ option_or (found_birth contents reached cut) (cond e (Some b) None)
    equal b is true same = let both : found_birth contents reached cut ≡ Some b = found_alike contents reached cut x same ∙ is in rw both refl
    equal b is false same = none_or (found_birth contents reached cut)

    go : (o : Option ℕ) → found_birth contents reached x ≡ o
        → found_birth (cond (is_some o) contents (more_contents contents x)) (cond (is_some o) reached (more_reached contents reached)) cut ≡ option_or (found_birth contents reached cut) (cond (is_equal_sharing cut x) (Some (unwrap_or o (length contents + 1))) None)
    go None is = found_more contents reached x cut given
    go (Some b) is = equal b is (is_equal_sharing cut x) refl

-- what is found stays found
or_first : (o : Option ℕ) (b : ℕ) (rest : Option ℕ) → o ≡ Some b → option_or o rest ≡ Some b
or_first o b rest is = ap (λ (x : Option ℕ). option_or x rest) is

found_stays : (contents : List Content) (reached : List ℕ) (x cut : Cut) (b : ℕ) → Each (IsGivenOut contents) reached → found_birth contents reached cut ≡ Some b → found_birth (contents_with contents reached x) (reached_with contents reached x) cut ≡ Some b
found_stays contents reached x cut b given is = found_with contents reached x cut given ∙ or_first (found_birth contents reached cut) b _ is

pub birth_of_found : (contents : List Content) (reached : List ℕ) (of : List Cut) (at : ℕ) (cut : Cut) (b : ℕ) → Each (IsGivenOut contents) reached → slice_get of at ≡ Some cut → found_birth contents reached cut ≡ Some b → slice_get (births_for contents reached of) at ≡ Some b
birth_of_found contents reached [] at cut b given stands is = absurd cc
birth_of_found contents reached (x ∷ rest) zero cut b given stands is =
    let same : x ≡ cut = cc in
    ap (λ (o : Option ℕ). Some (unwrap_or o (length contents + 1))) (ap (found_birth contents reached) same ∙ is)
birth_of_found contents reached (x ∷ rest) (suc at) cut b given stands is =
    birth_of_found (contents_with contents reached x) (reached_with contents reached x) rest at cut b (given_with contents reached x given) stands (found_stays contents reached x cut b given is)

-- a cut that got its birth is found with it
found_itself : (contents : List Content) (reached : List ℕ) (x cut : Cut) → Each (IsGivenOut contents) reached → is_equal_sharing cut x ≡ true → found_birth (contents_with contents reached x) (reached_with contents reached x) cut ≡ Some (birth_for contents reached x)
found_itself contents reached x cut given same =
    found_with contents reached x cut given
    ∙ ap (λ b. option_or (found_birth contents reached cut) (cond {A = Option ℕ} b (Some (birth_for contents reached x)) None)) same
    ∙ ap (λ (o : Option ℕ). option_or o (Some (birth_for contents reached x))) (found_alike contents reached cut x same)
    ∙ itself (found_birth contents reached x)
  where
    itself : (o : Option ℕ) → option_or o (Some (unwrap_or o (length contents + 1))) ≡ Some (unwrap_or o (length contents + 1))
    itself None = refl
    itself (Some b) = refl

pub birth_of_equal : (contents : List Content) (reached : List ℕ) (of : List Cut) (before at : ℕ) (earlier cut : Cut) → Each (IsGivenOut contents) reached → before < at → slice_get of before ≡ Some earlier → slice_get of at ≡ Some cut → is_equal_sharing cut earlier ≡ true
    → slice_get (births_for contents reached of) at ≡ slice_get (births_for contents reached of) before
birth_of_equal contents reached [] before at earlier cut given less first second same = absurd cc
birth_of_equal contents reached (x ∷ rest) before zero earlier cut given less first second same = absurd (omega (arith, less))
birth_of_equal contents reached (x ∷ rest) zero (suc at) earlier cut given less first second same =
    let is : x ≡ earlier = cc in
    birth_of_found (contents_with contents reached x) (reached_with contents reached x) rest at cut (birth_for contents reached x) (given_with contents reached x given) second
    (found_itself contents reached x cut given (ap (is_equal_sharing cut) is ∙ same))
birth_of_equal contents reached (x ∷ rest) (suc before) (suc at) earlier cut given less first second same =
    birth_of_equal (contents_with contents reached x) (reached_with contents reached x) rest before at earlier cut (given_with contents reached x given) (omega (arith, less)) first second same

-- What is found is what was found among the first contents and births, or has an equal sharing cut among the earlier ones.
abbrev FindsThose : List Content → List ℕ → List Cut → List Content → List ℕ → Type 0
FindsThose c xs earlier contents reached = (cut : Cut) → is_found contents reached cut ≡ (is_found c xs cut || list_any (is_equal_sharing cut) earlier)

some_or : (o : Option ℕ) (e : Bool) (b : ℕ) → is_some (option_or o (cond e (Some b) None)) ≡ (is_some o || e)
some_or (Some a) e b = refl
some_or None true b = refl
some_or None false b = refl

finds_with : (c : List Content) (xs : List ℕ) (earlier : List Cut) (contents : List Content) (reached : List ℕ) (x : Cut) → Each (IsGivenOut contents) reached → FindsThose c xs earlier contents reached → FindsThose c xs (x ∷ earlier) (contents_with contents reached x) (reached_with contents reached x)
finds_with c xs earlier contents reached x given finds cut =
    ap (λ (o : Option ℕ). is_some o) (found_with contents reached x cut given)
    ∙ some_or (found_birth contents reached cut) (is_equal_sharing cut x) (birth_for contents reached x)
    ∙ ap (λ b. b || is_equal_sharing cut x) (finds cut)
    ∙ turned (is_found c xs cut) (list_any (is_equal_sharing cut) earlier) (is_equal_sharing cut x)
  where
    turned : (a b d : Bool) → ((a || b) || d) ≡ (a || (d || b))
    turned true b d = refl
    turned false true true = refl
    turned false true false = refl
    turned false false true = refl
    turned false false false = refl

one_content : (b : Bool) (contents : List Content) (x : Cut) (more : List Cut) → cond b contents (more_contents contents x) ++ map content_of_cut more ≡ contents ++ map content_of_cut (cond b more (x ∷ more))
one_content true contents x more = refl
one_content false contents x more = append_assoc contents (content_of_cut x ∷ []) (map content_of_cut more)

contents_from : (c : List Content) (xs : List ℕ) (earlier : List Cut) (contents : List Content) (reached : List ℕ) (of : List Cut) → Each (IsGivenOut contents) reached → FindsThose c xs earlier contents reached
    → contents_after contents reached of ≡ contents ++ map content_of_cut (new_cuts c xs earlier of)
contents_from c xs earlier contents reached [] given finds = sym (append-nil contents)
contents_from c xs earlier contents reached (x ∷ rest) given finds =
    contents_from c xs (x ∷ earlier) (contents_with contents reached x) (reached_with contents reached x) rest (given_with contents reached x given) (finds_with c xs earlier contents reached x given finds)
    ∙ one_content (is_found contents reached x) contents x (new_cuts c xs (x ∷ earlier) rest)
    ∙ ap (λ b. contents ++ map content_of_cut (cond b (new_cuts c xs (x ∷ earlier) rest) (x ∷ new_cuts c xs (x ∷ earlier) rest))) (finds x)

finds_at_first : (contents : List Content) (reached : List ℕ) → FindsThose contents reached [] contents reached
finds_at_first contents reached cut = last (is_found contents reached cut)
  where
    last : (a : Bool) → a ≡ (a || false)
    last true = refl
    last false = refl

pub contents_are : (contents : List Content) (reached : List ℕ) (of : List Cut) → Each (IsGivenOut contents) reached → contents_after contents reached of ≡ contents ++ map content_of_cut (new_cuts contents reached [] of)
contents_are contents reached of given = contents_from contents reached [] contents reached of given (finds_at_first contents reached)

-- a cut that finds nothing, and has no equal sharing cut before it
none_with : (contents : List Content) (reached : List ℕ) (x cut : Cut) → Each (IsGivenOut contents) reached → found_birth contents reached cut ≡ None → is_equal_sharing cut x ≡ false → found_birth (contents_with contents reached x) (reached_with contents reached x) cut ≡ None
none_with contents reached x cut given none apart =
    found_with contents reached x cut given
    ∙ ap (λ (o : Option ℕ). option_or o (cond (is_equal_sharing cut x) (Some (birth_for contents reached x)) None)) none
    ∙ ap (λ b. option_or None (cond {A = Option ℕ} b (Some (birth_for contents reached x)) None)) apart

or_both : (a b : Bool) → (a || b) ≡ false → (a ≡ false) × (b ≡ false)
or_both true b is = absurd cc
or_both false b is = (refl, is)

birth_of_next : (contents : List Content) (reached : List ℕ) (of : List Cut) (at : ℕ) (cut : Cut) → Each (IsGivenOut contents) reached → slice_get of at ≡ Some cut → found_birth contents reached cut ≡ None → list_any (is_equal_sharing cut) (take at of) ≡ false
    → slice_get (births_for contents reached of) at ≡ Some (length (contents_after contents reached (take at of)) + 1)
birth_of_next contents reached [] at cut given stands none apart = absurd cc
birth_of_next contents reached (x ∷ rest) zero cut given stands none apart =
    let same : x ≡ cut = cc in
    ap (λ (o : Option ℕ). Some (unwrap_or o (length contents + 1))) (ap (found_birth contents reached) same ∙ none)
birth_of_next contents reached (x ∷ rest) (suc at) cut given stands none apart =
    let parts = or_both (is_equal_sharing cut x) (list_any (is_equal_sharing cut) (take at rest)) apart in
    birth_of_next (contents_with contents reached x) (reached_with contents reached x) rest at cut (given_with contents reached x given) stands (none_with contents reached x cut given none parts.0) parts.1

not_both : (o : Option ℕ) (b : Bool) → (not (is_some o) && not b) ≡ true → (o ≡ None) × (b ≡ false)
not_both (Some x) b is = absurd cc
not_both None true is = absurd cc
not_both None false is = (refl, refl)

pub birth_of_new : (contents : List Content) (reached : List ℕ) (of : List Cut) (at : ℕ) (cut : Cut) → Each (IsGivenOut contents) reached → slice_get of at ≡ Some cut → is_new_behind contents reached (take at of) cut ≡ true
    → slice_get (births_for contents reached of) at ≡ Some (length contents + length (new_cuts contents reached [] (take at of)) + 1)
birth_of_new contents reached of at cut given stands is =
    let parts = not_both (found_birth contents reached cut) (list_any (is_equal_sharing cut) (take at of)) is in
    let more = new_cuts contents reached [] (take at of) in
    let count : length (contents_after contents reached (take at of)) ≡ length contents + length more =
    ap (λ (cs : List Content). length cs) (contents_are contents reached (take at of) given) ∙ length-append contents (map content_of_cut more) ∙ ap (λ n. length contents + n) (length-map more content_of_cut) in
    birth_of_next contents reached of at cut given stands parts.0 parts.1 ∙ ap (λ n. Some (n + 1)) count
