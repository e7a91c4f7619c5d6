-- The notes of the versions that a higher floor gives up.
use Rattle.std.proofs.Common.{◌≡◌, ℕ, zero, suc, ◌+◌, ◌-◌, ◌≤◌, ◌<◌, Bool, true, false, cond, List, [], ◌∷◌, ◌++◌, length, take, Option, Some, None, refl, sym, ap, ◌∙◌, append_assoc, arith}
use Rattle.std.specs.Prelude.{filter, filter_map, flat_map, map, nat_le, nat_lt, slice_index_or}
use Rattle.std.specs.List.{AllByRecursion as Each, cons_option, range_with_len}
use Rattle.std.specs.Option.{option_map}
use Rattle.std.proofs.lemmas.Bool.Decides.{nat_tests}
use Rattle.std.proofs.lemmas.List.{append-nil}
use Rattle.std.proofs.lemmas.List.Elements.{filter-append}
use Rattle.sf_types.proofs.NumberLemmas.{at_most}
use Rattle.sf_types.specs.Table.Parts.{Rows}
use Rattle.sf_types.specs.Values.Marks.{Value}
use Rattle.sf_retention.specs.declared.retention.Note.{Note}
use Rattle.sf_retention.specs.Notes.{due_pairs, note_of, pair_of}
use Rattle.sf_versions.specs.RowChanges.{changes_of, last_number}
use Rattle.sf_store_half.specs.Fields.{displaced_by}

-- whether a note is still kept at a floor
abbrev pub is_noted : ℕ → Note → Bool
is_noted floor note = nat_lt floor note.until

-- the notes of so many commits, from one on
abbrev pub notes_between : List Rows → ℕ → ℕ → List Note
notes_between commits first count = flat_map (displaced_by commits) (range_with_len first count)

-- the note of a row's version that a commit displaced, where there was one
abbrev note_until : List Rows → ℕ → List ℕ × Option Value → Option Note
note_until commits until e = option_map (λ from. note_of e.0 from until) (last_number (changes_of 0 (take (until - 1) commits) e.0))

pub each_made : (commits : List Rows) (until : ℕ) (es : Rows) → Each (λ note. note.until ≡ until) (filter_map (note_until commits until) es)
each_made commits until [] = tt
each_made commits until (e ∷ es) = made (last_number (changes_of 0 (take (until - 1) commits) e.0)) (each_made commits until es)
  where
    made : (o : Option ℕ) → Each (λ note. note.until ≡ until) (filter_map (note_until commits until) es)
        → Each (λ note. note.until ≡ until) (cons_option (option_map (λ from. note_of e.0 from until) o) (filter_map (note_until commits until) es))
    made None rest = rest
    made (Some from) rest = (refl, rest)

-- the notes of one commit are all kept, or none is
none_taken : (p : Note → Bool) (notes : List Note) → Each (λ note. p note ≡ false) notes → filter p notes ≡ []
none_taken p [] all = refl
none_taken p (note ∷ notes) all = ap (λ t. cond {A = List Note} t (note ∷ filter p notes) (filter p notes)) all.0 ∙ none_taken p notes all.1

all_taken : (p : Note → Bool) (notes : List Note) → Each (λ note. p note ≡ true) notes → filter p notes ≡ notes
all_taken p [] all = refl
all_taken p (note ∷ notes) all = ap (λ t. cond {A = List Note} t (note ∷ filter p notes) (filter p notes)) all.0 ∙ ap (λ (ns : List Note). note ∷ ns) (all_taken p notes all.1)

pub each_note : (P Q : Note → Type 0) (notes : List Note) → ((note : Note) → P note → Q note) → Each P notes → Each Q notes
each_note P Q [] to all = tt
each_note P Q (note ∷ notes) to all = (to note all.0, each_note P Q notes to all.1)

pub past_noted : (commits : List Rows) (k until : ℕ) → k < until → filter (is_noted k) (displaced_by commits until) ≡ displaced_by commits until
past_noted commits k until past =
    all_taken (is_noted k) (displaced_by commits until)
    (each_note (λ note. note.until ≡ until) (λ note. is_noted k note ≡ true) (displaced_by commits until) (λ note is. let after : k < note.until = omega (arith, is, past) in grind (arith, nat_tests)) (each_made commits until (slice_index_or commits (until - 1) [])))

early_dropped : (commits : List Rows) (k until : ℕ) → until ≤ k → filter (is_noted k) (displaced_by commits until) ≡ []
early_dropped commits k until early =
    none_taken (is_noted k) (displaced_by commits until)
    (each_note (λ note. note.until ≡ until) (λ note. is_noted k note ≡ false) (displaced_by commits until) (λ note is. let before : note.until ≤ k = omega (arith, is, early) in grind (arith, nat_tests)) (each_made commits until (slice_index_or commits (until - 1) [])))

all_noted : (commits : List Rows) (k first count : ℕ) → k < first → filter (is_noted k) (notes_between commits first count) ≡ notes_between commits first count
all_noted commits k first zero past = refl
all_noted commits k first (suc count) past =
    filter-append (is_noted k) (displaced_by commits first) (notes_between commits (first + 1) count)
    ∙ ap (λ (ns : List Note). ns ++ filter (is_noted k) (notes_between commits (first + 1) count)) (past_noted commits k first past)
    ∙ ap (λ (ns : List Note). displaced_by commits first ++ ns) (all_noted commits k (first + 1) count (omega (arith, past)))

noted_next : (commits : List Rows) (k first count : ℕ) → first ≤ k + 1 → k + 1 < first + count
    → filter (is_noted k) (notes_between commits first count) ≡ displaced_by commits (k + 1) ++ filter (is_noted (k + 1)) (notes_between commits first count)
noted_next commits k first zero low high = absurd (omega (arith, low, high))
noted_next commits k first (suc count) low high =
    let rest = notes_between commits (first + 1) count in
    let here = filter-append (is_noted k) (displaced_by commits first) rest in
    let there = filter-append (is_noted (k + 1)) (displaced_by commits first) rest in
    elim (nat_le first k) as (λ t. nat_le first k ≡ t → filter (is_noted k) (notes_between commits first (suc count)) ≡ displaced_by commits (k + 1) ++ filter (is_noted (k + 1)) (notes_between commits first (suc count))) [
      | true ↦ λ t.
          let early : first ≤ k = at_most first k t in
          here
          ∙ ap (λ (ns : List Note). ns ++ filter (is_noted k) rest) (early_dropped commits k first early)
          ∙ noted_next commits k (first + 1) count (omega (arith, early)) (omega (arith, high))
          ∙ ap (λ (ns : List Note). displaced_by commits (k + 1) ++ (ns ++ filter (is_noted (k + 1)) rest)) (sym (early_dropped commits (k + 1) first (omega (arith, early))))
          ∙ ap (λ (ns : List Note). displaced_by commits (k + 1) ++ ns) (sym there)
      | false ↦ λ t.
          let same : first ≡ k + 1 = let past : k < first = grind (arith, nat_tests) in omega (arith, past, low) in
          here
          ∙ ap (λ (ns : List Note). ns ++ filter (is_noted k) rest) (past_noted commits k first (omega (arith, same)))
          ∙ ap (λ (ns : List Note). displaced_by commits first ++ ns) (all_noted commits k (first + 1) count (omega (arith, same)) ∙ sym (all_noted commits (k + 1) (first + 1) count (omega (arith, same))))
          ∙ ap (λ n. displaced_by commits n ++ filter (is_noted (k + 1)) rest) same
          ∙ ap (λ (ns : List Note). displaced_by commits (k + 1) ++ (ns ++ filter (is_noted (k + 1)) rest)) (sym (early_dropped commits (k + 1) first (omega (arith, same))))
          ∙ ap (λ (ns : List Note). displaced_by commits (k + 1) ++ ns) (sym there)
    ] refl

-- the notes at a floor are those of the next commits, and then those at the floor past them
pub notes_from_floor : (commits : List Rows) (k m : ℕ) → k + m ≤ length commits
    → filter (is_noted k) (notes_between commits 1 (length commits)) ≡ notes_between commits (k + 1) m ++ filter (is_noted (k + m)) (notes_between commits 1 (length commits))
notes_from_floor commits k zero within = ap (λ n. filter (is_noted n) (notes_between commits 1 (length commits))) (omega arith)
notes_from_floor commits k (suc m) within =
    let up : k + 1 + m ≡ k + suc m = omega arith in
    noted_next commits k 1 (length commits) (omega arith) (omega (arith, within))
    ∙ ap (λ (ns : List Note). displaced_by commits (k + 1) ++ ns) (notes_from_floor commits (k + 1) m (omega (arith, within)))
    ∙ sym (append_assoc (displaced_by commits (k + 1)) (notes_between commits (k + 1 + 1) m) (filter (is_noted (k + 1 + m)) (notes_between commits 1 (length commits))))
    ∙ ap (λ n. notes_between commits (k + 1) (suc m) ++ filter (is_noted n) (notes_between commits 1 (length commits))) up

-- ---- those that are due
due_between : (commits : List Rows) (floor first count : ℕ) → first + count ≤ floor + 1 → filter (λ note. nat_le note.until floor) (notes_between commits first count) ≡ notes_between commits first count
due_between commits floor first zero within = refl
due_between commits floor first (suc count) within =
    filter-append (λ note. nat_le note.until floor) (displaced_by commits first) (notes_between commits (first + 1) count)
    ∙ ap (λ (ns : List Note). ns ++ filter (λ note. nat_le note.until floor) (notes_between commits (first + 1) count))
    (all_taken (λ note. nat_le note.until floor) (displaced_by commits first)
    (each_note (λ note. note.until ≡ first) (λ note. nat_le note.until floor ≡ true) (displaced_by commits first) (λ note is. let low : note.until ≤ floor = omega (arith, is, within) in grind (arith, nat_tests)) (each_made commits first (slice_index_or commits (first - 1) []))))
    ∙ ap (λ (ns : List Note). displaced_by commits first ++ ns) (due_between commits floor (first + 1) count (omega (arith, within)))

none_due : (floor : ℕ) (notes : List Note) → filter (λ note. nat_le note.until floor) (filter (is_noted floor) notes) ≡ []
none_due floor [] = refl
none_due floor (note ∷ notes) =
    elim (is_noted floor note) as (λ t. is_noted floor note ≡ t → filter (λ n. nat_le n.until floor) (cond t (note ∷ filter (is_noted floor) notes) (filter (is_noted floor) notes)) ≡ []) [
      | true ↦ λ t.
          let late : nat_le note.until floor ≡ false = grind (arith, nat_tests) in
          ap (λ u. cond {A = List Note} u (note ∷ filter (λ n. nat_le n.until floor) (filter (is_noted floor) notes)) (filter (λ n. nat_le n.until floor) (filter (is_noted floor) notes))) late ∙ none_due floor notes
      | false ↦ λ t. none_due floor notes
    ] refl

-- the versions that are due at a higher floor are those that the commits up to it displaced
pub due_are : (commits : List Rows) (k m : ℕ) → k + m ≤ length commits
    → due_pairs (filter (is_noted k) (notes_between commits 1 (length commits))) (k + m) ≡ map pair_of (notes_between commits (k + 1) m)
due_are commits k m within =
    let left = filter (is_noted (k + m)) (notes_between commits 1 (length commits)) in
    ap (λ (ns : List Note). due_pairs ns (k + m)) (notes_from_floor commits k m within)
    ∙ ap (map pair_of) (
    filter-append (λ note. nat_le note.until (k + m)) (notes_between commits (k + 1) m) left
    ∙ ap (λ (ns : List Note). ns ++ filter (λ note. nat_le note.until (k + m)) left) (due_between commits (k + m) (k + 1) m (omega arith))
    ∙ ap (λ (ns : List Note). notes_between commits (k + 1) m ++ ns) (none_due (k + m) (notes_between commits 1 (length commits)))
    ∙ append-nil (notes_between commits (k + 1) m)
    )
