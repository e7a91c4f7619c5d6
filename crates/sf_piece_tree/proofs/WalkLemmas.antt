-- Walks over units.
use Rattle.std.proofs.Common.{◌≡◌, ℕ, ◌+◌, ◌-◌, ◌≤◌, ◌<◌, Bool, true, false, List, [], ◌∷◌, ◌++◌, length, drop, inl, inr, refl, sym, ap, ◌∙◌, subst, arith, length-append}
use Rattle.std.proofs.lemmas.List.{map-append, drop-append-le, drop_all}
use Rattle.std.proofs.Math.Seq.{drop-append-add}
use Rattle.std.proofs.lemmas.Bool.{cases_lt, lt-ltb, le-ltb}
use Rattle.sf_types.specs.Values.Marks.{Marked}
use Rattle.sf_piece_tree.specs.Contents.{joined_content}
use Rattle.sf_piece_tree.specs.Walks.{Walks, whole_units, units_from, shown_content}

-- whole units of two lists
pub whole_units-append : {P : Type 0} (xs ys : List P) → whole_units (xs ++ ys) ≡ whole_units xs ++ whole_units ys
whole_units-append {P} xs ys = map-append (λ (unit : P). (unit, 0)) xs ys

-- a walk that goes on through the first list goes on with the second
pub Walks-append : {P V : Type 0} (visits : V → P → ℕ → V → Bool → Type 0) (xs ys : List (P × ℕ)) (a b c : V) (more : Bool) → Walks visits xs a b true → Walks visits ys b c more → Walks visits (xs ++ ys) a c more
Walks-append {P} {V} visits [] ys a b c more through rest = subst (λ (v : V). Walks visits ys v c more) through.0 rest
Walks-append visits (x ∷ xs) ys a b c more (inl stop) rest = absurd (cc (stop.1))
Walks-append visits (x ∷ xs) ys a b c more (inr on) rest = inr (on.0, on.1, Walks-append visits xs ys on.0 b c more on.2 rest)

-- a walk that ends in the first list sees nothing of the second
pub Walks-ended : {P V : Type 0} (visits : V → P → ℕ → V → Bool → Type 0) (xs ys : List (P × ℕ)) (a b : V) → Walks visits xs a b false → Walks visits (xs ++ ys) a b false
Walks-ended visits [] ys a b through = absurd (cc (through.1))
Walks-ended visits (x ∷ xs) ys a b (inl stop) = inl stop
Walks-ended visits (x ∷ xs) ys a b (inr on) = inr (on.0, on.1, Walks-ended visits xs ys on.0 b on.2)

-- from a byte of the first of two lists
pub units_from-left : {P : Type 0} (content : P → List Marked) (xs ys : List P) (at : ℕ) → at < length (joined_content content xs) → units_from content (xs ++ ys) at ≡ units_from content xs at ++ whole_units ys
units_from-left content [] ys at less = absurd (omega arith)
units_from-left {P} content (x ∷ xs) ys at less =
    elim (cases_lt at (length (content x))) [
      | inl within ↦ rw (lt-ltb at (length (content x)) within) (ap (λ (zs : List (P × ℕ)). (x, at) ∷ zs) (whole_units-append xs ys))
      | inr beyond ↦
          rw (le-ltb at (length (content x)) beyond)
          (units_from-left content xs ys (at - length (content x)) (omega (arith, length-append (content x) (joined_content content xs))))
    ]

-- from a byte of the second of two lists
pub units_from-right : {P : Type 0} (content : P → List Marked) (xs ys : List P) (at : ℕ) → length (joined_content content xs) ≤ at → units_from content (xs ++ ys) at ≡ units_from content ys (at - length (joined_content content xs))
units_from-right content [] ys at least = ap (λ n. units_from content ys n) (omega arith)
units_from-right content (x ∷ xs) ys at least =
    let size : length (content x ++ joined_content content xs) ≡ length (content x) + length (joined_content content xs) = length-append (content x) (joined_content content xs) in
    let beyond : length (content x) ≤ at = omega arith in
    rw (le-ltb at (length (content x)) beyond)
    (units_from-right content xs ys (at - length (content x)) (omega arith)
    ∙ ap (λ n. units_from content ys n) (omega arith))

-- from a byte of the first unit
pub units_from-first : {P : Type 0} (content : P → List Marked) (unit : P) (units : List P) (at : ℕ) → at < length (content unit) → units_from content (unit ∷ units) at ≡ (unit, at) ∷ whole_units units
units_from-first content unit units at within = rw (lt-ltb at (length (content unit)) within)

-- from a byte of a unit between two lists
pub units_from-between : {P : Type 0} (content : P → List Marked) (xs : List P) (unit : P) (ys : List P) (at : ℕ) → length (joined_content content xs) ≤ at → at - length (joined_content content xs) < length (content unit) → units_from content (xs ++ unit ∷ ys) at ≡ (unit, at - length (joined_content content xs)) ∷ whole_units ys
units_from-between content xs unit ys at least within =
    units_from-right content xs (unit ∷ ys) at least ∙ units_from-first content unit ys (at - length (joined_content content xs)) within

-- from a byte beyond a unit after the first of two lists
pub units_from-beyond : {P : Type 0} (content : P → List Marked) (xs : List P) (unit : P) (ys : List P) (at : ℕ) → length (joined_content content xs) ≤ at → length (content unit) ≤ at - length (joined_content content xs) → units_from content (xs ++ unit ∷ ys) at ≡ units_from content ys (at - length (joined_content content xs) - length (content unit))
units_from-beyond content xs unit ys at least beyond =
    units_from-right content xs (unit ∷ ys) at least ∙ rw (le-ltb (at - length (joined_content content xs)) (length (content unit)) beyond)

-- the bytes of whole units
shown-whole : {P : Type 0} (content : P → List Marked) (units : List P) → shown_content content (whole_units units) ≡ joined_content content units
shown-whole content [] = refl
shown-whole content (unit ∷ units) = ap (λ (bytes : List Marked). content unit ++ bytes) (shown-whole content units)

-- the bytes that a walk from a byte on shows
pub shown-from : {P : Type 0} (content : P → List Marked) (units : List P) (at : ℕ) → shown_content content (units_from content units at) ≡ drop at (joined_content content units)
shown-from content [] at = sym (drop_all at [] (omega arith))
shown-from content (unit ∷ units) at =
    elim (cases_lt at (length (content unit))) [
      | inl within ↦
          rw (lt-ltb at (length (content unit)) within)
          (ap (λ (bytes : List Marked). drop at (content unit) ++ bytes) (shown-whole content units)
          ∙ sym (drop-append-le at (content unit) (joined_content content units) (omega arith)))
      | inr beyond ↦
          let at_is : length (content unit) + (at - length (content unit)) ≡ at = omega arith in
          rw (le-ltb at (length (content unit)) beyond)
          (shown-from content units (at - length (content unit))
          ∙ sym (drop-append-add (content unit) (joined_content content units) (at - length (content unit)))
          ∙ ap (λ n. drop n (content unit ++ joined_content content units)) at_is)
    ]
