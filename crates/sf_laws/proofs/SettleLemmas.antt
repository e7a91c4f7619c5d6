-- What holds of each byte of rows, and of each byte stored by the births of their cuts, holds of each byte settled.
use Rattle.std.proofs.Common.{◌≡◌, ℕ, true, false, cond, List, [], ◌∷◌, ◌++◌, length, take, drop, map, Some, None, subst}
use Rattle.std.proofs.lemmas.List.{length-map}
use Rattle.std.specs.Prelude.{flat_map}
use Rattle.std.specs.List.{AllByRecursion as Each}
use Rattle.sf_types.specs.declared.options.Options.{Options}
use Rattle.sf_types.specs.Values.Marks.{Marked, Value, fresh_bytes, is_fresh}
use Rattle.sf_types.specs.Table.Parts.{Rows}
use Rattle.sf_types.specs.Space.Cuts.{Segment, Kept, Stretch, with_byte_before, segments_of, contents_of_segment, contents_of_value, Cut, cuts_of_value, cuts, stored_bytes, settle_contents, settle_segments, settle_value, settle}
use Rattle.sf_types.specs.Space.Contents.{contents_of_stretch}
use Rattle.sf_laws.proofs.EachLemmas.{each-append}
use Rattle.sf_laws.proofs.HeldLemmas.{OfRows}
use Rattle.sf_laws.proofs.HeldEditLemmas.{OfUnstored, of_buffer}

-- A relation between the items of a list and the births at their places. Where births are wanting nothing is said.
abbrev pub Paired : {A : Type 0} → (A → ℕ → Type 0) → List A → List ℕ → Type 0
Paired R [] births = Unit {0}
Paired R (x ∷ xs) [] = Unit {0}
Paired R (x ∷ xs) (b ∷ births) = R x b × Paired R xs births

pub paired_none : {A : Type 0} (R : A → ℕ → Type 0) (xs : List A) → Paired R xs []
paired_none R [] = tt
paired_none R (x ∷ xs) = tt

pub paired_front : {A : Type 0} (R : A → ℕ → Type 0) (xs ys : List A) (births : List ℕ) → Paired R (xs ++ ys) births → Paired R xs (take (length xs) births)
paired_front R [] ys births all = tt
paired_front R (x ∷ xs) ys [] all = tt
paired_front R (x ∷ xs) ys (b ∷ births) all = (all.0, paired_front R xs ys births all.1)

pub paired_rest : {A : Type 0} (R : A → ℕ → Type 0) (xs ys : List A) (births : List ℕ) → Paired R (xs ++ ys) births → Paired R ys (drop (length xs) births)
paired_rest R [] ys births all = all
paired_rest R (x ∷ xs) ys [] all = paired_none R ys
paired_rest R (x ∷ xs) ys (b ∷ births) all = paired_rest R xs ys births all.1

pub paired_from_map : {A B : Type 0} (R : B → ℕ → Type 0) (f : A → B) (xs : List A) (births : List ℕ) → Paired R (map f xs) births → Paired (λ x b. R (f x) b) xs births
paired_from_map R f [] births all = tt
paired_from_map R f (x ∷ xs) [] all = tt
paired_from_map R f (x ∷ xs) (b ∷ births) all = (all.0, paired_from_map R f xs births all.1)

-- A content that a birth stores.
abbrev pub OfStored : (Marked → Type 0) → List ℕ → ℕ → Type 0
OfStored M bytes birth = Each M (stored_bytes birth bytes)

abbrev pub OfCut : (Marked → Type 0) → Cut → ℕ → Type 0
OfCut M cut birth = Each M (stored_bytes birth cut.bytes)

abbrev OfSegment : (Marked → Type 0) → Segment → Type 0
OfSegment M (Kept marked) = Each M marked
OfSegment M (Stretch run) = Unit {0}

of_before : (M : Marked → Type 0) (m : Marked) (segments : List Segment) → M m → Each (OfSegment M) segments → Each (OfSegment M) (with_byte_before m segments)
of_before M m [] is all = elim (is_fresh m) as (λ b. Each (OfSegment M) (cond b (Stretch (m.byte ∷ []) ∷ []) (Kept (m ∷ []) ∷ []))) [ true ↦ (tt, tt) | false ↦ ((is, tt), tt) ]
of_before M m (Kept marked ∷ segments) is all =
    elim (is_fresh m) as (λ b. Each (OfSegment M) (cond b (Stretch (m.byte ∷ []) ∷ Kept marked ∷ segments) (Kept (m ∷ marked) ∷ segments))) [ true ↦ (tt, all) | false ↦ ((is, all.0), all.1) ]
of_before M m (Stretch run ∷ segments) is all =
    elim (is_fresh m) as (λ b. Each (OfSegment M) (cond b (Stretch (m.byte ∷ run) ∷ segments) (Kept (m ∷ []) ∷ Stretch run ∷ segments))) [ true ↦ (tt, all.1) | false ↦ ((is, tt), all) ]

of_segments : (M : Marked → Type 0) (ms : List Marked) → Each M ms → Each (OfSegment M) (segments_of ms)
of_segments M [] all = tt
of_segments M (m ∷ ms) all = of_before M m (segments_of ms) all.0 (of_segments M ms all.1)

settled_run : (M : Marked → Type 0) → OfUnstored M → (contents : List (List ℕ)) (births : List ℕ) → Paired (OfStored M) contents births → Each M (settle_contents contents births)
settled_run M un [] births all = tt
settled_run M un (bytes ∷ contents) [] all = each-append M (fresh_bytes bytes) (settle_contents contents []) (of_buffer M un bytes) (settled_run M un contents [] (paired_none (OfStored M) contents))
settled_run M un (bytes ∷ contents) (b ∷ births) all = each-append M (stored_bytes b bytes) (settle_contents contents births) all.0 (settled_run M un contents births all.1)

settled_holds : (M : Marked → Type 0) → OfUnstored M → (segments : List Segment) (births : List ℕ) → Each (OfSegment M) segments → Paired (OfStored M) (flat_map contents_of_segment segments) births → Each M (settle_segments segments births)
settled_holds M un [] births all paired = tt
settled_holds M un (Kept marked ∷ segments) births all paired = each-append M marked (settle_segments segments births) all.0 (settled_holds M un segments births all.1 paired)
settled_holds M un (Stretch run ∷ segments) births all paired =
    let contents = contents_of_stretch run in
    let rest = flat_map contents_of_segment segments in
    each-append M (settle_contents contents (take (length contents) births)) (settle_segments segments (drop (length contents) births))
    (settled_run M un contents (take (length contents) births) (paired_front (OfStored M) contents rest births paired))
    (settled_holds M un segments (drop (length contents) births) all.1 (paired_rest (OfStored M) contents rest births paired))

pub settled_value_holds : (M : Marked → Type 0) → OfUnstored M → (v : Value) (births : List ℕ) → Each M v.bytes → Paired (OfStored M) (contents_of_value v) births → Each M (settle_value v births).bytes
settled_value_holds M un v births all paired = settled_holds M un (segments_of v.bytes) births (of_segments M v.bytes all) paired

count_of : (options : Options) (v : Value) → length (cuts_of_value options v) ≡ length (contents_of_value v)
count_of options v = length-map (contents_of_value v) _

pub settled_rows : (M : Marked → Type 0) → OfUnstored M → (options : Options) (rows : Rows) (births : List ℕ) → OfRows M rows → Paired (OfCut M) (cuts options rows) births → OfRows M (settle rows births)
settled_rows M un options [] births all paired = tt
settled_rows M un options ((name, None) ∷ rows) births all paired = (tt, settled_rows M un options rows births all.1 paired)
settled_rows M un options ((name, Some v) ∷ rows) births all paired =
    let own = paired_front (OfCut M) (cuts_of_value options v) (cuts options rows) births paired in
    let rest = paired_rest (OfCut M) (cuts_of_value options v) (cuts options rows) births paired in
    let own' : Paired (OfCut M) (cuts_of_value options v) (take (length (contents_of_value v)) births) = subst (λ n. Paired (OfCut M) (cuts_of_value options v) (take n births)) (count_of options v) own in
    let rest' : Paired (OfCut M) (cuts options rows) (drop (length (contents_of_value v)) births) = subst (λ n. Paired (OfCut M) (cuts options rows) (drop n births)) (count_of options v) rest in (
      settled_value_holds M un v (take (length (contents_of_value v)) births) all.0 (paired_from_map (OfCut M) _ (contents_of_value v) (take (length (contents_of_value v)) births) own'),
      settled_rows M un options rows (drop (length (contents_of_value v)) births) all.1 rest',
    )
