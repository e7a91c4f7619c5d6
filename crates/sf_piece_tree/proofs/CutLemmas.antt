-- What a cut of units does to their content and their weight.
use Rattle.std.proofs.Common.{◌≡◌, ℕ, ◌+◌, ◌≤◌, ◌<◌, List, [], ◌∷◌, ◌++◌, length, take, drop, inl, inr, sym, ap, ◌∙◌, arith, length-append}
use Rattle.std.proofs.Math.Seq.{take-append_seam, drop-append_seam, take-append-add, drop-append-add}
use Rattle.std.proofs.lemmas.List.{append-nil, take-append-le, drop-append-le}
use Rattle.std.proofs.lemmas.List.Concat.{flat_map-append}
use Rattle.sf_types.specs.Values.Marks.{Marked}
use Rattle.sf_piece_tree.specs.Contents.{joined_content}
use Rattle.sf_piece_tree.specs.Cuts.{IsCut}

-- the first bytes of units around one, up to a byte in it
pub take-within : {P : Type 0} (content : P → List Marked) (before : List P) (unit : P) (after : List P) (offset : ℕ) → offset ≤ length (content unit) → take (length (joined_content content before) + offset) (joined_content content (before ++ unit ∷ after)) ≡ joined_content content before ++ take offset (content unit)
take-within content before unit after offset most =
    ap (λ (bytes : List Marked). take (length (joined_content content before) + offset) bytes) (flat_map-append content before (unit ∷ after))
    ∙ take-append-add (joined_content content before) (content unit ++ joined_content content after) offset
    ∙ ap (λ (bytes : List Marked). joined_content content before ++ bytes) (take-append-le offset (content unit) (joined_content content after) most)

-- the other bytes
pub drop-within : {P : Type 0} (content : P → List Marked) (before : List P) (unit : P) (after : List P) (offset : ℕ) → offset ≤ length (content unit) → drop (length (joined_content content before) + offset) (joined_content content (before ++ unit ∷ after)) ≡ drop offset (content unit) ++ joined_content content after
drop-within content before unit after offset most =
    ap (λ (bytes : List Marked). drop (length (joined_content content before) + offset) bytes) (flat_map-append content before (unit ∷ after))
    ∙ drop-append-add (joined_content content before) (content unit ++ joined_content content after) offset
    ∙ drop-append-le offset (content unit) (joined_content content after) most

-- the content of units with one more
content_push : {P : Type 0} (content : P → List Marked) (before : List P) (unit : P) → joined_content content (before ++ unit ∷ []) ≡ joined_content content before ++ content unit
content_push content before unit =
    flat_map-append content before (unit ∷ [])
    ∙ ap (λ (bytes : List Marked). joined_content content before ++ bytes) (append-nil (content unit))

-- the first part has the first bytes
pub IsCut-first : {P : Type 0} (content : P → List Marked) (units : List P) (at : ℕ) (first second : List P) → IsCut content units at first second → joined_content content first ≡ take at (joined_content content units)
IsCut-first content units at first second (inl cut) =
    rw (cut.units_are, cut.at_is, flat_map-append content first second)
    (sym (take-append_seam (joined_content content first) (joined_content content second)))
IsCut-first content units at first second (inr cut) =
    let most : cut.offset ≤ length (content cut.unit) = omega (arith, cut.within) in
    rw (cut.units_are, cut.at_is, cut.first_is)
    (content_push content cut.before cut.front
    ∙ ap (λ (bytes : List Marked). joined_content content cut.before ++ bytes) cut.front_is
    ∙ sym (take-within content cut.before cut.unit cut.after cut.offset most))

-- the second part has the other bytes
pub IsCut-second : {P : Type 0} (content : P → List Marked) (units : List P) (at : ℕ) (first second : List P) → IsCut content units at first second → joined_content content second ≡ drop at (joined_content content units)
IsCut-second content units at first second (inl cut) =
    rw (cut.units_are, cut.at_is, flat_map-append content first second)
    (sym (drop-append_seam (joined_content content first) (joined_content content second)))
IsCut-second content units at first second (inr cut) =
    let most : cut.offset ≤ length (content cut.unit) = omega (arith, cut.within) in
    rw (cut.units_are, cut.at_is, cut.second_is)
    (ap (λ (bytes : List Marked). bytes ++ joined_content content cut.after) cut.back_is
    ∙ sym (drop-within content cut.before cut.unit cut.after cut.offset most))

-- a cut between two units is at no byte after the first of a unit
pub no_cut_within : {P : Type 0} (content : P → List Marked) (first second before : List P) (unit : P) (after : List P) → first ++ second ≡ before ++ unit ∷ after → length (joined_content content before) < length (joined_content content first) → length (joined_content content first) < length (joined_content content before) + length (content unit) → ⊥
no_cut_within content [] second before unit after is more less = omega arith
no_cut_within {P} content (x ∷ first) second [] unit after is more less =
    let same : x ≡ unit = cc (is) in
    omega (arith, ap (λ (other : P). length (content other)) same, length-append (content x) (joined_content content first))
no_cut_within {P} content (x ∷ first) second (y ∷ before) unit after is more less =
    let same : x ≡ y = cc (is) in
    let rest : first ++ second ≡ before ++ unit ∷ after = cc (is) in
    let sizes = ap (λ (other : P). length (content other)) same in
    no_cut_within content first second before unit after rest
    (omega (arith, sizes, length-append (content x) (joined_content content first), length-append (content y) (joined_content content before)))
    (omega (arith, sizes, length-append (content x) (joined_content content first), length-append (content y) (joined_content content before)))
