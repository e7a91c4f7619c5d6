-- Notes that are due.
use Rattle.std.proofs.Common.{◌≡◌, ℕ, zero, suc, ◌≤◌, ◌<◌, true, false, cond, List, [], ◌∷◌, ◌++◌, length, get_or, map, refl, sym, ap, subst, ◌∙◌, arith, append_assoc}
use Rattle.std.specs.Prelude.{nat_le, filter, All}
use Rattle.std.specs.List.Sorted.{IsNonDecreasingBy}
use Rattle.std.proofs.lemmas.Bool.Decides.{nat_tests}
use Rattle.std.proofs.lemmas.List.{append-nil}
use Rattle.std.proofs.lemmas.List.Sorted.{IsNonDecreasingBy-drop, IsNonDecreasingBy-push}
use Rattle.sf_retention.specs.declared.retention.Note.{Note}
use Rattle.sf_retention.specs.declared.retention.Pair.{Pair}
use Rattle.sf_retention.specs.Notes.{pair_of, due_pairs}

-- `until` never falls along notes.
abbrev pub IsInOrder : List Note → Type 0
IsInOrder notes = IsNonDecreasingBy (λ note. note.until) notes

first_due : (note : Note) (notes : List Note) (floor : ℕ) → note.until ≤ floor → due_pairs (note ∷ notes) floor ≡ pair_of note ∷ due_pairs notes floor
first_due note notes floor le =
    let is : nat_le note.until floor ≡ true = grind (arith, nat_tests, le) in
    ap (λ b. map {B = Pair} pair_of (cond b (note ∷ filter (λ n. nat_le n.until floor) notes) (filter (λ n. nat_le n.until floor) notes))) is

none_due : (notes : List Note) (floor : ℕ) → ((k : ℕ) (d : Note) → k < length notes → floor < (get_or notes k d).until) → due_pairs notes floor ≡ []
none_due [] floor later = refl
none_due (note ∷ notes) floor later =
    let after : floor < note.until = later zero note (omega arith) in
    let is : nat_le note.until floor ≡ false = grind (arith, nat_tests, after) in
    ap (λ b. map {B = Pair} pair_of (cond b (note ∷ filter (λ n. nat_le n.until floor) notes) (filter (λ n. nat_le n.until floor) notes))) is
    ∙ none_due notes floor (λ k d less. later (suc k) d (omega (arith, less)))

-- a note after the floor is followed by none that is due
pub later_due : (all notes : List Note) (note : Note) (floor : ℕ) → all ≡ note ∷ notes → IsInOrder all → floor < note.until → due_pairs all floor ≡ []
later_due all notes note floor is rising after =
    ap (λ ns. due_pairs ns floor) is
    ∙ none_due (note ∷ notes) floor (λ k d less. let up = subst IsInOrder is rising zero k d (omega arith) less in omega (arith, up, after))

-- one due note more was listed
pub next_due : (all notes : List Note) (note : Note) (floor : ℕ) (pairs whole : List Pair) → all ≡ note ∷ notes → note.until ≤ floor → pairs ++ due_pairs all floor ≡ whole → (pairs ++ pair_of note ∷ []) ++ due_pairs notes floor ≡ whole
next_due all notes note floor pairs whole is le so_far =
    append_assoc pairs (pair_of note ∷ []) (due_pairs notes floor)
    ∙ ap (λ (ps : List Pair). pairs ++ ps) (sym (ap (λ ns. due_pairs ns floor) is ∙ first_due note notes floor le))
    ∙ so_far

pub rising_rest : (all notes : List Note) (note : Note) → all ≡ note ∷ notes → IsInOrder all → IsInOrder notes
rising_rest all notes note is rising = IsNonDecreasingBy-drop (λ note. note.until) 1 (note ∷ notes) (subst IsInOrder is rising)

-- no note is left, or none that is due
pub all_listed : (left : List Pair) (pairs whole : List Pair) → left ≡ [] → pairs ++ left ≡ whole → pairs ≡ whole
all_listed left pairs whole none is = sym (append-nil pairs) ∙ ap (λ (ps : List Pair). pairs ++ ps) (sym none) ∙ is

pub no_notes : (notes : List Note) → length notes ≡ 0 → notes ≡ []
no_notes [] none = refl
no_notes (note ∷ notes) none = absurd (omega (arith, none))

-- a note that comes no earlier than all before it
pub rising_push : (notes more : List Note) (note : Note) → more ≡ notes ++ note ∷ [] → IsInOrder notes → All (λ n. n.until ≤ note.until) notes → IsInOrder more
rising_push notes more note is rising before =
    subst IsInOrder (sym is) (IsNonDecreasingBy-push (λ n. n.until) notes note rising (λ d some. before _ d (omega (arith, some))))
