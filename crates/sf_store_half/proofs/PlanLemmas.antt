-- Plans of commits: the notes of what is displaced, and how many versions are due.
use Rattle.std.proofs.Common.{◌≡◌, ℕ, zero, suc, ◌+◌, ◌≤◌, Bool, true, false, cond, List, [], ◌∷◌, ◌++◌, length, Option, Some, None, refl, sym, ap, subst, ◌∙◌, arith}
use Rattle.std.specs.Prelude.{All, drop, filter, nat_le, slice_get}
use Rattle.std.specs.List.{AllByRecursion as Each, cons_option}
use Rattle.std.specs.Option.{option_map}
use Rattle.std.proofs.lemmas.List.{length-map}
use Rattle.std.proofs.lemmas.List.Elements.{All-from_recursion}
use Rattle.sf_types.specs.Values.Marks.{Value}
use Rattle.sf_types.specs.Table.Parts.{Rows}
use Rattle.sf_retention.specs.declared.retention.Note.{Note}
use Rattle.sf_retention.specs.Notes.{due_pairs, note_of, pair_of}
use Rattle.sf_versions.specs.RowChanges.{last_number}
use Rattle.sf_versions.specs.VersionTables.{VersionTable, versions_of}
use Rattle.sf_store_half.specs.Inside.Commits.{displaced_notes}

-- what a commit displaces is displaced by it
pub each_until : (t : VersionTable) (rows : Rows) → Each (λ note. note.until ≡ t.now + 1) (displaced_notes t rows)
each_until t [] = tt
each_until t (e ∷ rows) = by_last (last_number (versions_of t.rows e.0)) (each_until t rows)
  where
    by_last : (o : Option ℕ) → Each (λ note. note.until ≡ t.now + 1) (displaced_notes t rows)
        → Each (λ note. note.until ≡ t.now + 1) (cons_option (option_map (λ from. note_of e.0 from (t.now + 1)) o) (displaced_notes t rows))
    by_last None rest = rest
    by_last (Some from) rest = (refl, rest)

pub all_until : (t : VersionTable) (rows : Rows) (displaced : List Note) (number : ℕ) → displaced ≡ displaced_notes t rows → number ≡ t.now + 1 → All (λ note. note.until ≡ number) displaced
all_until t rows displaced number is at =
    subst (λ n. All (λ (note : Note). note.until ≡ n) displaced) (sym at)
    (subst (All (λ (note : Note). note.until ≡ t.now + 1)) (sym is) (All-from_recursion (λ (note : Note). note.until ≡ t.now + 1) (displaced_notes t rows) (each_until t rows)))

-- no more versions are due than there are notes
fewer : (p : Note → Bool) (notes : List Note) → length (filter p notes) ≤ length notes
fewer p [] = omega arith
fewer p (note ∷ notes) =
    let rest = fewer p notes in
    elim (p note) as (λ t. length (cond {A = List Note} t (note ∷ filter p notes) (filter p notes)) ≤ length (note ∷ notes)) [
      | true ↦ omega (arith, rest)
      | false ↦ omega (arith, rest)
    ]

pub few_due : (notes : List Note) (floor : ℕ) → length (due_pairs notes floor) ≤ length notes
few_due notes floor = omega (arith, length-map (filter (λ note. nat_le note.until floor) notes) pair_of, fewer (λ note. nat_le note.until floor) notes)

-- ---- the change at a position, and those behind it
pub next_change : (rows : Rows) (at : ℕ) (e : List ℕ × Option Value) → slice_get rows at ≡ Some e → drop at rows ≡ e ∷ drop (at + 1) rows
next_change [] at e is = absurd cc
next_change (x ∷ rows) zero e is = let same : x ≡ e = cc in ap (λ (y : List ℕ × Option Value). y ∷ rows) same
next_change (x ∷ rows) (suc at) e is =
    let up : suc (at + 1) ≡ suc at + 1 = omega arith in
    next_change rows at e is ∙ ap (λ n. e ∷ drop n (x ∷ rows)) up

pub no_change : (rows : Rows) (at : ℕ) → slice_get rows at ≡ None → drop at rows ≡ []
no_change [] zero is = refl
no_change [] (suc at) is = refl
no_change (x ∷ rows) zero is = absurd cc
no_change (x ∷ rows) (suc at) is = no_change rows at is

-- what a commit displaces, its first row first
pub displaced_first : (t : VersionTable) (e : List ℕ × Option Value) (rows : Rows) → displaced_notes t (e ∷ rows) ≡ displaced_notes t (e ∷ []) ++ displaced_notes t rows
displaced_first t e rows = by_last (last_number (versions_of t.rows e.0))
  where
    by_last : (o : Option ℕ) → cons_option (option_map (λ from. note_of e.0 from (t.now + 1)) o) (displaced_notes t rows) ≡ cons_option (option_map (λ from. note_of e.0 from (t.now + 1)) o) [] ++ displaced_notes t rows
    by_last None = refl
    by_last (Some from) = refl
