-- Contents and weights of units in order.
use Rattle.std.proofs.Common.{◌≡◌, ℕ, ◌+◌, List, ◌∷◌, ◌++◌, length, ap, ◌∙◌, sym, append_assoc, arith, length-append}
use Rattle.std.proofs.lemmas.List.Concat.{flat_map-append}
use Rattle.std.proofs.lemmas.List.Sums.{sum_by-cons, sum_by-append}
use Rattle.sf_types.specs.Values.Marks.{Marked}
use Rattle.sf_piece_tree.specs.Contents.{joined_content, weight_of, LiesIn}

-- the bytes of two lists of units
pub length-content : {P : Type 0} (content : P → List Marked) (xs ys : List P) → length (joined_content content (xs ++ ys)) ≡ length (joined_content content xs) + length (joined_content content ys)
length-content content xs ys =
    ap length (flat_map-append content xs ys) ∙ length-append (joined_content content xs) (joined_content content ys)

-- the bytes of units around one
pub length-content_node : {P : Type 0} (content : P → List Marked) (xs : List P) (unit : P) (ys : List P) → length (joined_content content (xs ++ unit ∷ ys)) ≡ length (joined_content content xs) + length (content unit) + length (joined_content content ys)
length-content_node content xs unit ys =
    omega (arith, length-content content xs (unit ∷ ys), length-append (content unit) (joined_content content ys))

-- the weight of units around one
pub weight_node : {P : Type 0} (weight : P → ℕ) (xs : List P) (unit : P) (ys : List P) → weight_of weight (xs ++ unit ∷ ys) ≡ weight_of weight xs + weight unit + weight_of weight ys
weight_node weight xs unit ys =
    omega (arith, sum_by-append weight xs (unit ∷ ys), sum_by-cons weight unit ys)

-- a byte beyond a unit
pub LiesIn-beyond : {P : Type 0} (content : P → List Marked) (xs : List P) (unit : P) {ys : List P} (at rest : ℕ) {other : P} {offset : ℕ} → at ≡ length (joined_content content xs) + length (content unit) + rest → LiesIn content ys rest other offset → LiesIn content (xs ++ unit ∷ ys) at other offset
LiesIn-beyond {P} content xs unit at rest {other} at_is lies =
    record {
      before = xs ++ unit ∷ lies.before;
      after = lies.after;
      units_are = ap (λ (zs : List P). xs ++ unit ∷ zs) lies.units_are ∙ sym (append_assoc xs (unit ∷ lies.before) (other ∷ lies.after));
      at_is = omega (arith, lies.at_is, length-content_node content xs unit lies.before);
      within = lies.within;
    }
