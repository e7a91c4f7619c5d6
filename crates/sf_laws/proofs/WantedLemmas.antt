-- What cuts want: less where more births are reached, and at a publication no less than the new births take.
use Rattle.std.proofs.Common.{◌≡◌, ℕ, ◌+◌, ◌-◌, ◌≤◌, Bool, true, false, ◌&&◌, ◌||◌, cond, List, [], ◌∷◌, ◌++◌, length, Option, Some, None, refl, sym, ap, subst, ◌∙◌, arith, ⊎_elim}
use Rattle.std.specs.Prelude.{find, filter_map, is_some, sum_by, slice_get, bytes_eq, Contains}
use Rattle.std.specs.List.{AllByRecursion as Each, list_any}
use Rattle.std.specs.Option.{option_map_or, IfSome}
use Rattle.std.proofs.lemmas.Slice.Eq.{bytes_eq-Decides}
use Rattle.std.proofs.lemmas.List.Sums.{sum_by-cons, sum_by_push}
use Rattle.std.proofs.lemmas.List.Elements.{Contains-push, Contains-append_left}
use Rattle.sf_types.specs.Inside.Births.{IsRising, IsAboveAll}
use Rattle.sf_types.proofs.BirthLemmas.{IsRising-push}
use Rattle.sf_types.specs.Table.Parts.{Content}
use Rattle.sf_types.specs.Space.Cuts.{Cut}
use Rattle.sf_types.specs.Space.Contents.{blocks_of}
use Rattle.sf_types.specs.Space.Use.{content_of, blocks_of_birth, blocks_of_births}
use Rattle.sf_types.specs.Space.Promises.{is_shared_as, found_birth, is_found, found_births, is_equal_sharing, new_cuts, wanted_blocks}
use Rattle.sf_types.specs.Space.Publications.{content_of_cut, contents_with, reached_with, contents_after}
use Rattle.sf_laws.specs.TrueMarks.{IsGivenOut}
use Rattle.sf_laws.proofs.EachLemmas.{each_weaker, each_of_any, each_contained, each_itself, none_found, each_from_filter_map}
use Rattle.sf_laws.proofs.GivenBirthLemmas.{reached_after, GoesOn, content_kept, given_more, given_with, IsFoundAt, found_at}
use Rattle.sf_laws.proofs.ReachLemmas.{each_from_rising}
use Rattle.sf_types.proofs.BoolLemmas.{either}
use Rattle.sf_types.proofs.ListLemmas.{get_last}

-- The blocks of a cut.
abbrev pub cut_blocks : Cut → ℕ
cut_blocks cut = blocks_of (length cut.bytes)

-- the found birth of a cut that is found
pub found_from : (contents : List Content) (reached : List ℕ) (cut : Cut) → is_found contents reached cut ≡ true → (b : ℕ) × IsFoundAt contents reached cut b
found_from contents reached cut is = go (found_birth contents reached cut) refl is
  where
    go : (o : Option ℕ) → found_birth contents reached cut ≡ o → is_some o ≡ true → (b : ℕ) × IsFoundAt contents reached cut b
    go None at some = absurd cc
    go (Some b) at some = (b, found_at contents reached cut b at)

-- a search comes to an end where an element passes
some_found : {X : Type 0} (test : X → Bool) (xs : List X) (x : X) → Contains xs x → test x ≡ true → is_some (find test xs) ≡ true
some_found {X} test xs x has passes = go (find test xs) refl
  where
    go : (o : Option X) → find test xs ≡ o → is_some o ≡ true
    go (Some y) is = refl
    go None is = let fails : test x ≡ false = each_contained (λ y. test y ≡ false) xs x (none_found test xs is) has in absurd cc

shared_as : (contents : List Content) (reached : List ℕ) (cut : Cut) (b : ℕ) → IsFoundAt contents reached cut b → is_shared_as contents cut.bytes b ≡ true
shared_as contents reached cut b f = rw f.at (rw f.shared ((bytes_eq-Decides f.content.bytes cut.bytes).1 f.bytes))

pub is_found_from : (contents : List Content) (reached : List ℕ) (cut : Cut) (b : ℕ) → IsFoundAt contents reached cut b → is_found contents reached cut ≡ true
is_found_from contents reached cut b f =
    subst (λ x. is_some (cond x (find (is_shared_as contents cut.bytes) reached) None) ≡ true) (sym f.sharing)
    (some_found (is_shared_as contents cut.bytes) reached b f.within (shared_as contents reached cut b f))

-- what is found stays found where contents go on and more births are reached
pub found_on : (before after : List Content) (fewer more : List ℕ) (cut : Cut) → GoesOn before after → Each (IsGivenOut before) fewer → Each (Contains more) fewer → is_found before fewer cut ≡ true → is_found after more cut ≡ true
found_on before after fewer more cut on given within is =
    let (b, f) = found_from before fewer cut is in
    is_found_from after more cut b (record {
      sharing = f.sharing;
      within = each_contained (Contains more) fewer b within f.within;
      content = f.content;
      at = content_kept before after b on (each_contained (IsGivenOut before) fewer b given f.within) ∙ f.at;
      shared = f.shared;
      bytes = f.bytes;
    })

pub sum_tail : (b : Bool) (cut : Cut) (cuts : List Cut) → sum_by cut_blocks cuts ≤ sum_by cut_blocks (cond b cuts (cut ∷ cuts))
sum_tail true cut cuts = omega arith
sum_tail false cut cuts = rw (sum_by-cons cut_blocks cut cuts) (omega arith)

fewer_new : (x y d : Bool) (cut : Cut) (a b : List Cut) → (x ≡ true → y ≡ true) → sum_by cut_blocks a ≤ sum_by cut_blocks b → sum_by cut_blocks (cond (y || d) a (cut ∷ a)) ≤ sum_by cut_blocks (cond (x || d) b (cut ∷ b))
fewer_new x true d cut a b more le = let tail = sum_tail (x || d) cut b in omega (arith, tail, le)
fewer_new true false d cut a b more le = absurd (differ (more refl))
  where
    differ : false ≡ true → ⊥
    differ is = cc
fewer_new false false true cut a b more le = le
fewer_new false false false cut a b more le = rw (sum_by-cons cut_blocks cut a) (rw (sum_by-cons cut_blocks cut b) (omega (arith, le)))

-- where each cut that is found is found there too, no more is wanted there
new_falls : (c d : List Content) (xs ys : List ℕ) (earlier of : List Cut) → Each (λ cut. is_found c xs cut ≡ true → is_found d ys cut ≡ true) of → sum_by cut_blocks (new_cuts d ys earlier of) ≤ sum_by cut_blocks (new_cuts c xs earlier of)
new_falls c d xs ys earlier [] more = omega arith
new_falls c d xs ys earlier (cut ∷ rest) more =
    fewer_new (is_found c xs cut) (is_found d ys cut) (list_any (is_equal_sharing cut) earlier) cut (new_cuts d ys (cut ∷ earlier) rest) (new_cuts c xs (cut ∷ earlier) rest) more.0 (new_falls c d xs ys (cut ∷ earlier) rest more.1)

pub wanted_falls : (before after : List Content) (fewer more : List ℕ) (of : List Cut) → GoesOn before after → Each (IsGivenOut before) fewer → Each (Contains more) fewer → wanted_blocks after more of ≤ wanted_blocks before fewer of
wanted_falls before after fewer more of on given within =
    new_falls before after fewer more [] of (each_of_any (λ cut. is_found before fewer cut ≡ true → is_found after more cut ≡ true) of (λ cut. found_on before after fewer more cut on given within))

-- the births found alone serve as well
found_again : (contents : List Content) (reached births : List ℕ) (cut : Cut) → IfSome (found_birth contents reached cut) (Contains births) → is_found contents reached cut ≡ true → is_found contents births cut ≡ true
found_again contents reached births cut within is = go (found_birth contents reached cut) refl within is
  where
    go : (o : Option ℕ) → found_birth contents reached cut ≡ o → IfSome o (Contains births) → is_some o ≡ true → is_found contents births cut ≡ true
    go None at has some = absurd cc
    go (Some b) at has some =
        let f = found_at contents reached cut b at in
        is_found_from contents births cut b (record { sharing = f.sharing; within = has; content = f.content; at = f.at; shared = f.shared; bytes = f.bytes })

pub wanted_of_found : (contents : List Content) (reached : List ℕ) (of : List Cut) → wanted_blocks contents (found_births contents reached of) of ≤ wanted_blocks contents reached of
wanted_of_found contents reached of =
    let births = found_births contents reached of in
    let all : Each (λ cut. IfSome (found_birth contents reached cut) (Contains births)) of =
    each_from_filter_map (Contains births) (found_birth contents reached) of (each_from_rising (Contains births) (filter_map (found_birth contents reached) of) (each_itself births)) in
    new_falls contents contents reached births [] of
    (each_weaker (λ cut. IfSome (found_birth contents reached cut) (Contains births)) (λ cut. is_found contents reached cut ≡ true → is_found contents births cut ≡ true) of (λ cut has. found_again contents reached births cut has) all)

-- blocks of births that were given out
pub blocks_kept : (before after : List Content) (births : List ℕ) → GoesOn before after → Each (IsGivenOut before) births → blocks_of_births after births ≡ blocks_of_births before births
blocks_kept before after [] on given = refl
blocks_kept before after (b ∷ births) on given =
    let own : blocks_of_birth after b ≡ blocks_of_birth before b = ap (λ (o : Option Content). option_map_or (λ x. blocks_of (length x.bytes)) o 0) (content_kept before after b on given.0) in
    let rest = blocks_kept before after births on given.1 in
    sum_by-cons (blocks_of_birth after) b births ∙ ap (λ n. n + blocks_of_births after births) own ∙ ap (λ n. blocks_of_birth before b + n) rest ∙ sym (sum_by-cons (blocks_of_birth before) b births)

above_given : (contents : List Content) (births : List ℕ) → Each (IsGivenOut contents) births → IsAboveAll (length contents + 1) births
above_given contents [] given = tt
above_given contents (b ∷ births) given = (omega (arith, given.0.high), above_given contents births given.1)

rises_with : (contents : List Content) (reached : List ℕ) (cut : Cut) → Each (IsGivenOut contents) reached → IsRising reached → IsRising (reached_with contents reached cut)
rises_with contents reached cut given rises =
    elim (is_found contents reached cut) as (λ b. IsRising (cond b reached (reached ++ (length contents + 1) ∷ []))) [
      | true ↦ rises
      | false ↦ IsRising-push reached (length contents + 1) rises (above_given contents reached given)
    ]

pub rises_after : (contents : List Content) (reached : List ℕ) (of : List Cut) → Each (IsGivenOut contents) reached → IsRising reached → IsRising (reached_after contents reached of)
rises_after contents reached [] given rises = rises
rises_after contents reached (cut ∷ rest) given rises =
    rises_after (contents_with contents reached cut) (reached_with contents reached cut) rest (given_with contents reached cut given) (rises_with contents reached cut given rises)

pub sharing_pair : (cut other : Cut) → is_equal_sharing cut other ≡ true → (cut.is_sharing ≡ true) × (other.is_sharing ≡ true) × (cut.bytes ≡ other.bytes)
sharing_pair cut other is = go cut.is_sharing other.is_sharing refl refl is
  where
    go : (a b : Bool) → cut.is_sharing ≡ a → other.is_sharing ≡ b → (a && b && bytes_eq cut.bytes other.bytes) ≡ true → (cut.is_sharing ≡ true) × (other.is_sharing ≡ true) × (cut.bytes ≡ other.bytes)
    go true true own its same = (own, its, (bytes_eq-Decides cut.bytes other.bytes).0 same)
    go true false own its same = absurd cc
    go false b own its same = absurd cc

-- an equal sharing cut is found where the other was
found_equal : (contents : List Content) (reached : List ℕ) (cut other : Cut) → is_equal_sharing cut other ≡ true → is_found contents reached other ≡ true → is_found contents reached cut ≡ true
found_equal contents reached cut other same is =
    let pair = sharing_pair cut other same in
    let (b, f) = found_from contents reached other is in
    is_found_from contents reached cut b (record { sharing = pair.0; within = f.within; content = f.content; at = f.at; shared = f.shared; bytes = f.bytes ∙ sym pair.2 })

-- The contents and the births after one more cut.
abbrev pub more_contents : List Content → Cut → List Content
more_contents contents cut = contents ++ content_of_cut cut ∷ []

abbrev pub more_reached : List Content → List ℕ → List ℕ
more_reached contents reached = reached ++ (length contents + 1) ∷ []

last_content : (contents : List Content) (cut : Cut) → content_of (more_contents contents cut) (length contents + 1) ≡ Some (content_of_cut cut)
last_content contents cut =
    let place : length contents + 1 - 1 ≡ length contents = omega arith in
    ap (slice_get (more_contents contents cut)) place ∙ get_last contents (content_of_cut cut)

-- or where the other has just become a content
found_last : (contents : List Content) (reached : List ℕ) (cut other : Cut) → is_equal_sharing cut other ≡ true → is_found (more_contents contents other) (more_reached contents reached) cut ≡ true
found_last contents reached cut other same =
    let pair = sharing_pair cut other same in
    is_found_from (more_contents contents other) (more_reached contents reached) cut (length contents + 1) (record {
      sharing = pair.0;
      within = Contains-push reached (length contents + 1);
      content = content_of_cut other;
      at = last_content contents other;
      shared = pair.1;
      bytes = sym pair.2;
    })

blocks_with : (contents : List Content) (reached : List ℕ) (cut : Cut) → Each (IsGivenOut contents) reached
    → blocks_of_births (more_contents contents cut) (more_reached contents reached) ≡ blocks_of_births contents reached + cut_blocks cut
blocks_with contents reached cut given =
    let before = blocks_kept contents (more_contents contents cut) reached (record { more = content_of_cut cut ∷ []; parts = refl }) given in
    let last : blocks_of_birth (more_contents contents cut) (length contents + 1) ≡ cut_blocks cut = ap (λ (o : Option Content). option_map_or (λ x. blocks_of (length x.bytes)) o 0) (last_content contents cut) in
    sum_by_push (blocks_of_birth (more_contents contents cut)) reached (length contents + 1)
    ∙ ap (λ n. n + blocks_of_birth (more_contents contents cut) (length contents + 1)) before
    ∙ ap (λ n. blocks_of_births contents reached + n) last

-- What is found among the first contents and births, or has an equal sharing cut among the earlier ones, is found.
record FindsAll (c : List Content) (xs : List ℕ) (earlier : List Cut) (contents : List Content) (reached : List ℕ) : Type 0 where
  first : (cut : Cut) → is_found c xs cut ≡ true → is_found contents reached cut ≡ true
  again : (cut : Cut) → list_any (is_equal_sharing cut) earlier ≡ true → is_found contents reached cut ≡ true

finds_same : (c : List Content) (xs : List ℕ) (earlier : List Cut) (contents : List Content) (reached : List ℕ) (cut : Cut) → FindsAll c xs earlier contents reached → is_found contents reached cut ≡ true → FindsAll c xs (cut ∷ earlier) contents reached
finds_same c xs earlier contents reached cut all is = record {
  first = all.first;
  again = λ other h. ⊎_elim
      (λ (same : is_equal_sharing other cut ≡ true). found_equal contents reached other cut same is)
      (λ (old : list_any (is_equal_sharing other) earlier ≡ true). all.again other old)
      (either (is_equal_sharing other cut) (list_any (is_equal_sharing other) earlier) h);
}

finds_more : (c : List Content) (xs : List ℕ) (earlier : List Cut) (contents : List Content) (reached : List ℕ) (cut : Cut) → Each (IsGivenOut contents) reached → FindsAll c xs earlier contents reached → FindsAll c xs (cut ∷ earlier) (more_contents contents cut) (more_reached contents reached)
finds_more c xs earlier contents reached cut given all =
    let on : GoesOn contents (more_contents contents cut) = record { more = content_of_cut cut ∷ []; parts = refl } in
    let within : Each (Contains (more_reached contents reached)) reached = each_weaker (Contains reached) (Contains (more_reached contents reached)) reached (λ b is. Contains-append_left reached ((length contents + 1) ∷ []) b is) (each_itself reached) in
    let stays : (other : Cut) → is_found contents reached other ≡ true → is_found (more_contents contents cut) (more_reached contents reached) other ≡ true = λ other is. found_on contents (more_contents contents cut) reached (more_reached contents reached) other on given within is in
    record {
      first = λ other is. stays other (all.first other is);
      again = λ other h. ⊎_elim
          (λ (same : is_equal_sharing other cut ≡ true). found_last contents reached other cut same)
          (λ (old : list_any (is_equal_sharing other) earlier ≡ true). stays other (all.again other old))
          (either (is_equal_sharing other cut) (list_any (is_equal_sharing other) earlier) h);
    }

-- The blocks of all births after the cuts of a publication got theirs.
abbrev blocks_at_end : List Content → List ℕ → List Cut → ℕ
blocks_at_end contents reached of = blocks_of_births (contents_after contents reached of) (reached_after contents reached of)

neither : (a b f : Bool) → f ≡ false → (a ≡ true → f ≡ true) → (b ≡ true → f ≡ true) → (a || b) ≡ false
neither true b f is x y = let both : f ≡ true = x refl in absurd cc
neither false true f is x y = let both : f ≡ true = y refl in absurd cc
neither false false f is x y = refl

blocks_after : (c : List Content) (xs : List ℕ) (earlier : List Cut) (contents : List Content) (reached : List ℕ) (of : List Cut) → Each (IsGivenOut contents) reached → FindsAll c xs earlier contents reached
    → blocks_at_end contents reached of ≤ blocks_of_births contents reached + sum_by cut_blocks (new_cuts c xs earlier of)
blocks_after c xs earlier contents reached [] given all = omega arith
blocks_after c xs earlier contents reached (cut ∷ rest) given all =
    elim (is_found contents reached cut) as (λ b. is_found contents reached cut ≡ b
    → blocks_at_end (cond b contents (more_contents contents cut)) (cond b reached (more_reached contents reached)) rest ≤ blocks_of_births contents reached + sum_by cut_blocks (new_cuts c xs earlier (cut ∷ rest))) [
      | true ↦ λ is.
          let less = blocks_after c xs (cut ∷ earlier) contents reached rest given (finds_same c xs earlier contents reached cut all is) in
          let tail = sum_tail (is_found c xs cut || list_any (is_equal_sharing cut) earlier) cut (new_cuts c xs (cut ∷ earlier) rest) in
          omega (arith, less, tail)
      | false ↦ λ is.
          let new : (is_found c xs cut || list_any (is_equal_sharing cut) earlier) ≡ false = neither (is_found c xs cut) (list_any (is_equal_sharing cut) earlier) (is_found contents reached cut) is (all.first cut) (all.again cut) in
          let less = blocks_after c xs (cut ∷ earlier) (more_contents contents cut) (more_reached contents reached) rest (given_more contents reached cut given) (finds_more c xs earlier contents reached cut given all) in
          let own = blocks_with contents reached cut given in
          let sum : sum_by cut_blocks (new_cuts c xs earlier (cut ∷ rest)) ≡ cut_blocks cut + sum_by cut_blocks (new_cuts c xs (cut ∷ earlier) rest) =
          ap (λ b. sum_by cut_blocks (cond b (new_cuts c xs (cut ∷ earlier) rest) (cut ∷ new_cuts c xs (cut ∷ earlier) rest))) new ∙ sum_by-cons cut_blocks cut (new_cuts c xs (cut ∷ earlier) rest) in
          rw sum (omega (arith, less, own))
    ] refl

-- a publication gives out no more blocks than its cuts want
pub published_blocks : (contents : List Content) (reached : List ℕ) (of : List Cut) → Each (IsGivenOut contents) reached → blocks_at_end contents reached of ≤ blocks_of_births contents reached + wanted_blocks contents reached of
published_blocks contents reached of given = blocks_after contents reached [] contents reached of given (record { first = λ cut is. is; again = λ cut is. absurd cc })
