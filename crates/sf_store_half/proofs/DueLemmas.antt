-- The versions that are due at floors, where `until` never falls along their notes.
use Rattle.std.proofs.Common.{◌≡◌, ℕ, zero, suc, ◌+◌, ◌≤◌, ◌<◌, Bool, true, false, cond, List, [], ◌∷◌, ◌++◌, length, drop, get_or, map, Option, Some, None, refl, sym, ap, subst, ◌∙◌, arith}
use Rattle.std.specs.Prelude.{◌≢◌, filter, nat_le, slice_get}
use Rattle.std.specs.List.{AllByRecursion as Each}
use Rattle.std.proofs.lemmas.Bool.Decides.{nat_tests}
use Rattle.sf_types.proofs.NumberLemmas.{at_most}
use Rattle.sf_types.specs.declared.holder.Holder.{Holder}
use Rattle.sf_retention.specs.declared.retention.Note.{Note}
use Rattle.sf_retention.specs.declared.retention.Pair.{Pair}
use Rattle.sf_retention.specs.Notes.{due_pairs, pair_of}
use Rattle.sf_retention.proofs.NoteLemmas.{IsInOrder, rising_rest}
use Rattle.sf_store_half.specs.Inside.Trials.{AreHoldersOnce}

-- `until` never falls along notes, one by one
abbrev pub AreInOrder : List Note → Type 0
AreInOrder [] = Unit {0}
AreInOrder (note ∷ notes) = Each (λ later. note.until ≤ later.until) notes × AreInOrder notes

each_from_places : (P : Note → Type 0) (notes : List Note) → ((k : ℕ) (d : Note) → k < length notes → P (get_or notes k d)) → Each P notes
each_from_places P [] at = tt
each_from_places P (note ∷ notes) at = (at zero note (omega arith), each_from_places P notes (λ k d less. at (suc k) d (omega (arith, less))))

pub in_order : (notes : List Note) → IsInOrder notes → AreInOrder notes
in_order [] rising = tt
in_order (note ∷ notes) rising =
    (each_from_places (λ later. note.until ≤ later.until) notes (λ k d less. rising zero (suc k) d (omega arith) (omega (arith, less))), in_order notes (rising_rest (note ∷ notes) notes note refl rising))

none_due : (notes : List Note) (floor bound : ℕ) → floor < bound → Each (λ later. bound ≤ later.until) notes → due_pairs notes floor ≡ []
none_due [] floor bound past all = refl
none_due (note ∷ notes) floor bound past all =
    let first = all.0 in
    let late : nat_le note.until floor ≡ false = grind (arith, nat_tests, first, past) in
    ap (λ b. map {B = Pair} pair_of (cond b (note ∷ filter (λ n. nat_le n.until floor) notes) (filter (λ n. nat_le n.until floor) notes))) late
    ∙ none_due notes floor bound past all.1

not_due : (note : Note) (floor : ℕ) → nat_le note.until floor ≡ false → floor < note.until
not_due note floor is = grind (arith, nat_tests)

due_first : (note : Note) (notes : List Note) (floor : ℕ) → nat_le note.until floor ≡ true → due_pairs (note ∷ notes) floor ≡ pair_of note ∷ due_pairs notes floor
due_first note notes floor is = ap (λ b. map {B = Pair} pair_of (cond b (note ∷ filter (λ n. nat_le n.until floor) notes) (filter (λ n. nat_le n.until floor) notes))) is

due_nothing : (note : Note) (notes : List Note) (floor : ℕ) → AreInOrder (note ∷ notes) → nat_le note.until floor ≡ false → due_pairs (note ∷ notes) floor ≡ []
due_nothing note notes floor rising is =
    ap (λ b. map {B = Pair} pair_of (cond b (note ∷ filter (λ n. nat_le n.until floor) notes) (filter (λ n. nat_le n.until floor) notes))) is
    ∙ none_due notes floor note.until (not_due note floor is) rising.0

later_floor : (note : Note) (floor g : ℕ) → floor ≤ g → nat_le note.until floor ≡ true → nat_le note.until g ≡ true
later_floor note floor g up is = let low = at_most note.until floor is in grind (arith, nat_tests, low, up)

-- the version of a note, where it is due
abbrev pub pair_if_due : ℕ → Option Note → Option Pair
pair_if_due floor None = None
pair_if_due floor (Some note) = cond (nat_le note.until floor) (Some (pair_of note)) None

pub due_at : (notes : List Note) (floor at : ℕ) → AreInOrder notes → slice_get (due_pairs notes floor) at ≡ pair_if_due floor (slice_get notes at)
due_at [] floor at rising = refl
due_at (note ∷ notes) floor zero rising =
    elim (nat_le note.until floor) as (λ t. nat_le note.until floor ≡ t → slice_get (due_pairs (note ∷ notes) floor) 0 ≡ cond {A = Option Pair} t (Some (pair_of note)) None) [
      | true ↦ λ is. ap (λ ps. slice_get ps 0) (due_first note notes floor is)
      | false ↦ λ is. ap (λ ps. slice_get ps 0) (due_nothing note notes floor rising is)
    ] refl
due_at (note ∷ notes) floor (suc at) rising =
    elim (nat_le note.until floor) as (λ t. nat_le note.until floor ≡ t → slice_get (due_pairs (note ∷ notes) floor) (suc at) ≡ pair_if_due floor (slice_get notes at)) [
      | true ↦ λ is. ap (λ ps. slice_get ps (suc at)) (due_first note notes floor is) ∙ due_at notes floor at rising.1
      | false ↦ λ is.
          ap (λ ps. slice_get ps (suc at)) (due_nothing note notes floor rising is)
          ∙ sym (ap (λ ps. slice_get ps at) (none_due notes floor note.until (not_due note floor is) rising.0))
          ∙ due_at notes floor at rising.1
    ] refl

-- at a higher floor the versions that were due stand first
pub due_before : (notes : List Note) (floor g : ℕ) → AreInOrder notes → floor ≤ g → due_pairs notes floor ++ drop (length (due_pairs notes floor)) (due_pairs notes g) ≡ due_pairs notes g
due_before [] floor g rising up = refl
due_before (note ∷ notes) floor g rising up =
    elim (nat_le note.until floor) as (λ t. nat_le note.until floor ≡ t → due_pairs (note ∷ notes) floor ++ drop (length (due_pairs (note ∷ notes) floor)) (due_pairs (note ∷ notes) g) ≡ due_pairs (note ∷ notes) g) [
      | true ↦ λ is.
          let here = due_first note notes floor is in
          let there = due_first note notes g (later_floor note floor g up is) in
          ap (λ (ps : List Pair). ps ++ drop (length ps) (due_pairs (note ∷ notes) g)) here
          ∙ ap (λ (ps : List Pair). (pair_of note ∷ due_pairs notes floor) ++ drop (length (pair_of note ∷ due_pairs notes floor)) ps) there
          ∙ ap (λ (ps : List Pair). pair_of note ∷ ps) (due_before notes floor g rising.1 up)
          ∙ sym there
      | false ↦ λ is. ap (λ (ps : List Pair). ps ++ drop (length ps) (due_pairs (note ∷ notes) g)) (due_nothing note notes floor rising is)
    ] refl

-- a floor is below the next note's `until`, where there is one
abbrev pub IsBefore : ℕ → Option Note → Type 0
IsBefore g None = Unit {0}
IsBefore g (Some note) = g < note.until

-- no more versions are due up to the note behind those that are
pub due_same : (notes : List Note) (floor g : ℕ) → AreInOrder notes → floor ≤ g → IsBefore g (slice_get notes (length (due_pairs notes floor))) → due_pairs notes g ≡ due_pairs notes floor
due_same [] floor g rising up before = refl
due_same (note ∷ notes) floor g rising up before =
    elim (nat_le note.until floor) as (λ t. nat_le note.until floor ≡ t → due_pairs (note ∷ notes) g ≡ due_pairs (note ∷ notes) floor) [
      | true ↦ λ is.
          let here = due_first note notes floor is in
          let next : IsBefore g (slice_get notes (length (due_pairs notes floor))) = subst (λ (ps : List Pair). IsBefore g (slice_get (note ∷ notes) (length ps))) here before in
          due_first note notes g (later_floor note floor g up is)
          ∙ ap (λ (ps : List Pair). pair_of note ∷ ps) (due_same notes floor g rising.1 up next)
          ∙ sym here
      | false ↦ λ is.
          let here = due_nothing note notes floor rising is in
          let next : g < note.until = subst (λ (ps : List Pair). IsBefore g (slice_get (note ∷ notes) (length ps))) here before in
          none_due (note ∷ notes) g note.until next (omega arith, rising.0) ∙ sym here
    ] refl

none_behind : {X : Type 0} (xs : List X) → slice_get xs (length xs) ≡ None
none_behind [] = refl
none_behind (x ∷ xs) = none_behind xs

-- the note behind those that are due is of a later floor
pub later_note : (notes : List Note) (floor : ℕ) (note : Note) → AreInOrder notes → slice_get notes (length (due_pairs notes floor)) ≡ Some note → floor < note.until
later_note notes floor note rising is =
    not_due note floor
    (fails (nat_le note.until floor) (sym (due_at notes floor (length (due_pairs notes floor)) rising ∙ ap (pair_if_due floor) is) ∙ none_behind (due_pairs notes floor)))
  where
    fails : (t : Bool) → cond {A = Option Pair} t (Some (pair_of note)) None ≡ None → t ≡ false
    fails true bad = absurd cc
    fails false _ = refl

-- what holds of each item holds of one of them
pub each_place : {X : Type 0} (P : X → Type 0) (xs : List X) (k : ℕ) (x : X) → slice_get xs k ≡ Some x → Each P xs → P x
each_place P [] k x is all = absurd cc
each_place P (y ∷ xs) zero x is all = let same : y ≡ x = cc is in subst P same all.0
each_place P (y ∷ xs) (suc k) x is all = each_place P xs k x is all.1

-- the item at a place, and those behind it
pub from_place : {X : Type 0} (xs : List X) (k : ℕ) (x : X) → slice_get xs k ≡ Some x → drop k xs ≡ x ∷ drop (k + 1) xs
from_place [] k x is = absurd cc
from_place (y ∷ xs) zero x is = let same : y ≡ x = cc is in ap (λ z. z ∷ xs) same
from_place (y ∷ xs) (suc k) x is = let next : suc k + 1 ≡ suc (k + 1) = omega arith in from_place xs k x is ∙ ap (λ n. x ∷ drop n (y ∷ xs)) (sym next)

pub place_below : {X : Type 0} (xs : List X) (k : ℕ) (x : X) → slice_get xs k ≡ Some x → k < length xs
place_below [] k x is = absurd cc
place_below (y ∷ xs) zero x is = omega arith
place_below (y ∷ xs) (suc k) x is = omega (arith, place_below xs k x is)

pub no_place : {X : Type 0} (xs : List X) (k : ℕ) → slice_get xs k ≡ None → length xs ≤ k
no_place [] k is = omega arith
no_place (x ∷ xs) zero is = absurd cc
no_place (x ∷ xs) (suc k) is = omega (arith, no_place xs k is)

pub none_past : {X : Type 0} (xs : List X) (k : ℕ) → slice_get xs k ≡ None → drop k xs ≡ []
none_past [] zero is = refl
none_past [] (suc k) is = refl
none_past (x ∷ xs) zero is = absurd cc
none_past (x ∷ xs) (suc k) is = none_past xs k is

-- no more versions are due than there are notes
pub few_due : (notes : List Note) (floor : ℕ) → length (due_pairs notes floor) ≤ length notes
few_due [] floor = omega arith
few_due (note ∷ notes) floor =
    let rest = few_due notes floor in
    elim (nat_le note.until floor) as (λ t. length (map {B = Pair} pair_of (cond t (note ∷ filter (λ n. nat_le n.until floor) notes) (filter (λ n. nat_le n.until floor) notes))) ≤ suc (length notes)) [
      | true ↦ omega (arith, rest)
      | false ↦ omega (arith, rest)
    ]

-- the holder behind some is none of them
pub new_behind : (hs : List Holder) (x : Holder) (xs : List Holder) → AreHoldersOnce (hs ++ x ∷ xs) → Each (λ y. y ≢ x) hs
new_behind [] x xs once = tt
new_behind (y ∷ hs) x xs once = (first hs once.0, new_behind hs x xs once.1)
  where
    first : (zs : List Holder) → Each (λ z. y ≢ z) (zs ++ x ∷ xs) → y ≢ x
    first [] all = all.0
    first (z ∷ zs) all = first zs all.1
