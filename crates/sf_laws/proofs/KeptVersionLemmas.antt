-- Which commit gave a row its value.
use Rattle.std.proofs.Common.{◌≡◌, ℕ, suc, ◌+◌, ◌-◌, ◌≤◌, ◌<◌, true, false, List, [], ◌∷◌, ◌++◌, length, take, drop, take-add, get_or, Option, Some, None, refl, sym, ap, ◌∙◌, ◌⊎◌, inl, inr, arith}
use Rattle.std.specs.Prelude.{nat_lt, is_none}
use Rattle.std.proofs.lemmas.Bool.{cases_lt}
use Rattle.std.proofs.lemmas.Bool.Decides.{nat_tests}
use Rattle.std.proofs.lemmas.List.{drop-append-le, take-take, length-take-le, take-append-drop, drop_more, drop_all, get_or-take}
use Rattle.sf_types.specs.Inside.NameMaps.{get}
use Rattle.sf_types.specs.Values.Marks.{Value}
use Rattle.sf_types.specs.Table.Parts.{Rows, Table}
use Rattle.sf_types.specs.Table.Versions.{value_or_absent, later_change, last_change, commit_count}
use Rattle.sf_types.specs.Space.Reach.{is_kept}
use Rattle.sf_types.proofs.BoolLemmas.{or-true}
use Rattle.sf_types.proofs.VersionLemmas.{last_change-append}
use Rattle.sf_laws.specs.KeptVersions.{IsKeptVersion, IsValueSinceFloor}
use Rattle.sf_laws.proofs.HeldLemmas.{later_none}
use Rattle.sf_laws.proofs.OptionLemmas.{none_from}

-- a front of commits says nothing where all of them don't
front-none : (xs ys : List Rows) (row : List ℕ) → last_change (xs ++ ys) row ≡ None → last_change xs row ≡ None
front-none xs ys row none = (later_none (last_change xs row) (last_change ys row) (sym (last_change-append xs ys row) ∙ none)).0

-- the last commit that names a row
record IsLast (cs : List Rows) (row : List ℕ) (x : Option Value) (k : ℕ) : Type 0 where
  below : k < length cs
  given : get (get_or cs k []) row ≡ Some x
  silent : last_change (drop (suc k) cs) row ≡ None

last_of : (cs : List Rows) (row : List ℕ) (x : Option Value) → last_change cs row ≡ Some x → (k : ℕ) × IsLast cs row x k
last_of [] row x is = absurd cc
last_of (c ∷ cs) row x is = choose (last_change cs row) refl is (last_of cs row)
  where
    choose : (o : Option (Option Value)) → last_change cs row ≡ o → later_change (get c row) o ≡ Some x → ((y : Option Value) → last_change cs row ≡ Some y → (k : ℕ) × IsLast cs row y k) → (k : ℕ) × IsLast (c ∷ cs) row x k
    choose None none first rest = (0, record { below = omega arith; given = first; silent = none })
    choose (Some y) some same rest =
        let found = rest x (some ∙ same) in
        let last = found.1 in
        (suc found.0, record { below = omega (arith, last.below); given = last.given; silent = last.silent })

some-said : (o : Option (Option Value)) (v : Value) → value_or_absent o ≡ Some v → o ≡ Some (Some v)
some-said None v is = absurd cc
some-said (Some x) v is = ap (λ (y : Option Value). Some y) is

-- the commits up to the floor are a front of those up to a later number
floor-front : (commits : List Rows) (floor n k : ℕ) → floor ≤ n → k ≤ floor → floor ≤ length commits → drop k (take n commits) ≡ drop k (take floor commits) ++ take (n - floor) (drop floor commits)
floor-front commits floor n k le low high =
    let sum : n ≡ floor + (n - floor) = omega (arith, le) in
    ap (λ m. drop k (take m commits)) sum
    ∙ ap (drop k) (take-add floor (n - floor) commits)
    ∙ drop-append-le k (take floor commits) (take (n - floor) (drop floor commits)) (omega (arith, low, length-take-le floor commits high))

kept-is : (t : Table) (row : List ℕ) (n k : ℕ) → t.floor ≤ n → n ≤ commit_count t → (t.floor < k) ⊎ (k ≤ t.floor) → last_change (drop k (take n t.commits)) row ≡ None → is_kept t row k ≡ true
kept-is t row n k le high (inl past) silent = let is : nat_lt t.floor k ≡ true = grind (arith, nat_tests) in rw is refl
kept-is t row n k le high (inr low) silent =
    let parts = floor-front t.commits t.floor n k le low (omega (arith, le, high)) in
    let front = front-none (drop k (take t.floor t.commits)) (take (n - t.floor) (drop t.floor t.commits)) row (ap (λ (cs : List Rows). last_change cs row) (sym parts) ∙ silent) in
    or-true (nat_lt t.floor k) (is_none (last_change (drop k (take t.floor t.commits)) row)) (ap (λ (o : Option (Option Value)). is_none o) front)

pub kept_version_of : (t : Table) (row : List ℕ) (n : ℕ) (v : Value) → IsValueSinceFloor t row n v → (k : ℕ) × IsKeptVersion t row k v
kept_version_of t row n v since =
    let found = last_of (take n t.commits) row (Some v) (some-said (last_change (take n t.commits) row) v since.is) in
    let k = found.0 in
    let last = found.1 in
    let count = length-take-le n t.commits since.high in
    let place : suc k - 1 ≡ k = omega arith in (
      suc k,
      record {
        low = omega arith;
        high = omega (arith, last.below, count, since.high);
        given = ap (λ m. get (get_or t.commits m []) row) place ∙ ap (λ (c : Rows). get c row) (sym (get_or-take n t.commits k [] (omega (arith, last.below, count)))) ∙ last.given;
        kept = kept-is t row n (suc k) since.low since.high (cases_lt t.floor (suc k)) last.silent;
      },
    )

-- the commits up to n are those before the k-th, the k-th, and the rest
at-commit : (commits : List Rows) (k n : ℕ) → 1 ≤ k → k ≤ n → n ≤ length commits → take n commits ≡ take (k - 1) commits ++ (get_or commits (k - 1) [] ∷ drop k (take n commits))
at-commit commits k n some le high =
    let count = length-take-le n commits high in
    let next : k - 1 + 1 ≡ k = omega (arith, some) in
    let first : take (k - 1) (take n commits) ≡ take (k - 1) commits = take-take (k - 1) n commits (omega (arith, some, le)) in
    let own : get_or (take n commits) (k - 1) [] ≡ get_or commits (k - 1) [] = get_or-take n commits (k - 1) [] (omega (arith, some, le)) in
    sym (take-append-drop (k - 1) (take n commits))
    ∙ ap (λ (cs : List Rows). cs ++ drop (k - 1) (take n commits)) first
    ∙ ap (λ (cs : List Rows). take (k - 1) commits ++ cs)
    (drop_more (take n commits) (k - 1) [] (omega (arith, some, le, count))
    ∙ ap (λ (c : Rows). c ∷ drop (k - 1 + 1) (take n commits)) own
    ∙ ap (λ m. get_or commits (k - 1) [] ∷ drop m (take n commits)) next)

given-at : (commits : List Rows) (row : List ℕ) (k n : ℕ) (v : Value) → 1 ≤ k → k ≤ n → n ≤ length commits → get (get_or commits (k - 1) []) row ≡ Some (Some v) → last_change (drop k (take n commits)) row ≡ None → value_or_absent (last_change (take n commits) row) ≡ Some v
given-at commits row k n v some le high given silent =
    let parts = at-commit commits k n some le high in
    let before = take (k - 1) commits in
    let behind = get_or commits (k - 1) [] ∷ drop k (take n commits) in
    ap (λ (cs : List Rows). value_or_absent (last_change cs row)) parts
    ∙ ap value_or_absent (last_change-append before behind row)
    ∙ ap (λ o. value_or_absent (later_change (last_change before row) (later_change (get (get_or commits (k - 1) []) row) o))) silent
    ∙ ap (λ o. value_or_absent (later_change (last_change before row) o)) given

pub since_of : (t : Table) (row : List ℕ) (k : ℕ) (v : Value) → t.floor ≤ commit_count t → IsKeptVersion t row k v → (n : ℕ) × IsValueSinceFloor t row n v
since_of t row k v le version = choose (cases_lt t.floor k)
  where
    choose : (t.floor < k) ⊎ (k ≤ t.floor) → (n : ℕ) × IsValueSinceFloor t row n v
    choose (inl past) =
        let nothing : drop k (take k t.commits) ≡ [] = drop_all k (take k t.commits) (omega (arith, length-take-le k t.commits version.high)) in (
          k,
          record {
            low = omega (arith, past);
            high = version.high;
            is = given-at t.commits row k k v version.low (omega arith) version.high version.given (ap (λ (cs : List Rows). last_change cs row) nothing);
          },
        )
    choose (inr low) =
        let first : nat_lt t.floor k ≡ false = grind (arith, nat_tests) in
        let silent = none_from (last_change (drop k (take t.floor t.commits)) row) (rw first at version.kept) in (
          t.floor,
          record {
            low = omega arith;
            high = le;
            is = given-at t.commits row k t.floor v version.low low le version.given silent;
          },
        )
