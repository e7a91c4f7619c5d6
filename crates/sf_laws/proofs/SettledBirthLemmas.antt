-- Each birth of a cut occurs in what was settled, so each birth that a publication gives out is in reach.
use Rattle.std.proofs.Common.{◌≡◌, ℕ, zero, suc, ◌+◌, ◌-◌, ◌≤◌, List, [], ◌∷◌, ◌++◌, length, take, drop, Option, Some, None, refl, sym, ap, subst, ◌∙◌, arith}
use Rattle.std.proofs.lemmas.List.{take_all, length-append, length-map, length-take, length-drop}
use Rattle.std.specs.Prelude.{flat_map}
use Rattle.std.specs.List.{AllByRecursion as Each, range_with_len}
use Rattle.std.proofs.lemmas.List.Elements.{recursion_from_All}
use Rattle.sf_types.specs.declared.options.Options.{Options}
use Rattle.sf_types.specs.Values.Marks.{Value}
use Rattle.sf_types.specs.Table.Parts.{Content, Rows}
use Rattle.sf_types.specs.Space.Cuts.{Segment, Kept, Stretch, segments_of, contents_of_segment, contents_of_value, Cut, cuts_of_value, cuts, stored_bytes, settle_contents, settle_segments, settle_value, settle}
use Rattle.sf_types.specs.Space.Contents.{contents_of_stretch}
use Rattle.sf_types.specs.Space.Promises.{found_birth}
use Rattle.sf_types.specs.Space.Publications.{birth_for, contents_with, reached_with, births_for, contents_after, content_of_cut}
use Rattle.sf_laws.proofs.EachLemmas.{each_weaker, each_left, each_right}
use Rattle.sf_laws.proofs.GivenBirthLemmas.{GoesOn, goes_on_after}
use Rattle.sf_laws.proofs.HeldLemmas.{OfRows}
use Rattle.sf_laws.proofs.ReachLemmas.{OfBirth}
use Rattle.sf_laws.proofs.StretchLemmas.{IsContentSize, run-sizes}

-- A content has a byte.
abbrev HasByte : List ℕ → Type 0
HasByte bytes = 1 ≤ length bytes

from_stored : (P : ℕ → Type 0) (b : ℕ) (bytes : List ℕ) → HasByte bytes → Each (OfBirth P) (stored_bytes b bytes) → P b
from_stored P b [] some all = absurd (omega (arith, some))
from_stored P b (x ∷ bytes) some all = all.0

from_contents : (P : ℕ → Type 0) (contents : List (List ℕ)) (births : List ℕ) → Each HasByte contents → length contents ≤ length births → Each (OfBirth P) (settle_contents contents births) → Each P (take (length contents) births)
from_contents P [] births some le all = tt
from_contents P (bytes ∷ contents) [] some le all = absurd (omega (arith, le))
from_contents P (bytes ∷ contents) (b ∷ births) some le all = (
  from_stored P b bytes some.0 (each_left (OfBirth P) (stored_bytes b bytes) (settle_contents contents births) all),
  from_contents P contents births some.1 (omega (arith, le)) (each_right (OfBirth P) (stored_bytes b bytes) (settle_contents contents births) all),
)

-- a front of births and the rest
front_and_rest : (P : ℕ → Type 0) (m n : ℕ) (births : List ℕ) → Each P (take m births) → Each P (take n (drop m births)) → Each P (take (m + n) births)
front_and_rest P zero n births front rest = subst (λ k. Each P (take k births)) (let e : n ≡ 0 + n = omega arith in e) rest
front_and_rest P (suc m) n [] front rest = subst (λ k. Each P (take k [])) (let e : suc (m + n) ≡ suc m + n = omega arith in e) tt
front_and_rest P (suc m) n (b ∷ births) front rest = subst (λ k. Each P (take k (b ∷ births))) (let e : suc (m + n) ≡ suc m + n = omega arith in e) (front.0, front_and_rest P m n births front.1 rest)

run_has_bytes : (run : List ℕ) → Each HasByte (contents_of_stretch run)
run_has_bytes run = each_weaker IsContentSize HasByte (contents_of_stretch run) (λ bytes is. is.0) (recursion_from_All IsContentSize (contents_of_stretch run) (run-sizes run))

from_segments : (P : ℕ → Type 0) (segments : List Segment) (births : List ℕ) → length (flat_map contents_of_segment segments) ≤ length births → Each (OfBirth P) (settle_segments segments births) → Each P (take (length (flat_map contents_of_segment segments)) births)
from_segments P [] births le all = tt
from_segments P (Kept marked ∷ segments) births le all = from_segments P segments births le (each_right (OfBirth P) marked (settle_segments segments births) all)
from_segments P (Stretch run ∷ segments) births le all =
    let contents = contents_of_stretch run in
    let rest = flat_map contents_of_segment segments in
    let count = length contents in
    let both = length-append contents rest in
    subst (λ n. Each P (take n births)) (sym both)
    (front_and_rest P count (length rest) births
    (from_front (from_contents P contents (take count births) (run_has_bytes run) (omega (arith, le, both, length-take count births)) (each_left (OfBirth P) (settle_contents contents (take count births)) (settle_segments segments (drop count births)) all)))
    (from_segments P segments (drop count births) (omega (arith, le, both, length-drop count births)) (each_right (OfBirth P) (settle_contents contents (take count births)) (settle_segments segments (drop count births)) all)))
  where
    from_front : Each P (take (length (contents_of_stretch run)) (take (length (contents_of_stretch run)) births)) → Each P (take (length (contents_of_stretch run)) births)
    from_front h = subst (Each P) (take_twice (length (contents_of_stretch run)) births) h
      where
        take_twice : (n : ℕ) (xs : List ℕ) → take n (take n xs) ≡ take n xs
        take_twice n xs = take_all n (take n xs) (omega (arith, length-take n xs))

pub from_value : (P : ℕ → Type 0) (v : Value) (births : List ℕ) → length (contents_of_value v) ≤ length births → Each (OfBirth P) (settle_value v births).bytes → Each P (take (length (contents_of_value v)) births)
from_value P v births le all = from_segments P (segments_of v.bytes) births le all

pub from_rows : (P : ℕ → Type 0) (options : Options) (rows : Rows) (births : List ℕ) → length (cuts options rows) ≤ length births → OfRows (OfBirth P) (settle rows births) → Each P (take (length (cuts options rows)) births)
from_rows P options [] births le all = tt
from_rows P options ((name, None) ∷ rows) births le all = from_rows P options rows births le all.1
from_rows P options ((name, Some v) ∷ rows) births le all =
    let count = length (contents_of_value v) in
    let own : length (cuts_of_value options v) ≡ count = length-map (contents_of_value v) _ in
    let both = length-append (cuts_of_value options v) (cuts options rows) in
    let sum : length (cuts options ((name, Some v) ∷ rows)) ≡ count + length (cuts options rows) = both ∙ ap (λ n. n + length (cuts options rows)) own in
    subst (λ n. Each P (take n births)) (sym sum)
    (front_and_rest P count (length (cuts options rows)) births
    (twice (from_value P v (take count births) (omega (arith, le, sum, length-take count births)) all.0))
    (from_rows P options rows (drop count births) (omega (arith, le, sum, length-drop count births)) all.1))
  where
    twice : Each P (take (length (contents_of_value v)) (take (length (contents_of_value v)) births)) → Each P (take (length (contents_of_value v)) births)
    twice h = subst (Each P) (take_all (length (contents_of_value v)) (take (length (contents_of_value v)) births) (omega (arith, length-take (length (contents_of_value v)) births))) h

first_and_rest : (P : ℕ → Type 0) (a n m : ℕ) → n ≡ suc m → P a → Each P (range_with_len (a + 1) m) → Each P (range_with_len a n)
first_and_rest P a n m is one rest = subst (λ k. Each P (range_with_len a k)) (sym is) (one, rest)

-- the births that are given out are among those of the cuts
pub from_given : (P : ℕ → Type 0) (contents : List Content) (reached : List ℕ) (of : List Cut) → Each P (births_for contents reached of) → Each P (range_with_len (length contents + 1) (length (contents_after contents reached of) - length contents))
from_given P contents reached [] all = let none : length contents - length contents ≡ 0 = omega arith in subst (λ n. Each P (range_with_len (length contents + 1) n)) (sym none) tt
from_given P contents reached (cut ∷ of) all =
    go (found_birth contents reached cut) refl (from_given P (contents_with contents reached cut) (reached_with contents reached cut) of all.1) (goes_on_after (contents_with contents reached cut) (reached_with contents reached cut) of)
  where
    go : (o : Option ℕ) → found_birth contents reached cut ≡ o
        → Each P (range_with_len (length (contents_with contents reached cut) + 1) (length (contents_after (contents_with contents reached cut) (reached_with contents reached cut) of) - length (contents_with contents reached cut)))
        → GoesOn (contents_with contents reached cut) (contents_after (contents_with contents reached cut) (reached_with contents reached cut) of)
        → Each P (range_with_len (length contents + 1) (length (contents_after (contents_with contents reached cut) (reached_with contents reached cut) of) - length contents))
    go (Some b) is rest on =
        let same : contents_with contents reached cut ≡ contents = rw is refl in
        subst (λ (cs : List Content). Each P (range_with_len (length cs + 1) (length (contents_after (contents_with contents reached cut) (reached_with contents reached cut) of) - length cs))) same rest
    go None is rest on =
        let more : contents_with contents reached cut ≡ contents ++ content_of_cut cut ∷ [] = rw is refl in
        let birth : birth_for contents reached cut ≡ length contents + 1 = rw is refl in
        let after = length (contents_after (contents_with contents reached cut) (reached_with contents reached cut) of) in
        let one = length-append contents (content_of_cut cut ∷ []) in
        let longer : after ≡ length (contents_with contents reached cut) + length on.more = ap (λ (cs : List Content). length cs) on.parts ∙ length-append (contents_with contents reached cut) on.more in
        let count : length (contents_with contents reached cut) ≡ length contents + 1 = ap (λ (cs : List Content). length cs) more ∙ one ∙ refl in
        first_and_rest P (length contents + 1) (after - length contents) (after - length (contents_with contents reached cut)) (omega (arith, longer, count)) (subst P birth all.0) (subst (λ n. Each P (range_with_len (n + 1) (after - length (contents_with contents reached cut)))) count rest)
