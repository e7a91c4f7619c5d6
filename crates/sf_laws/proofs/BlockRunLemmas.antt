-- The maximal runs of some blocks, and what a grant takes of them.
use Rattle.std.proofs.Common.{◌≡◌, ℕ, zero, suc, ◌+◌, ◌-◌, ◌≤◌, ◌<◌, Bool, true, false, cond, not, List, [], ◌∷◌, ◌++◌, length, Some, None, refl, sym, ap, subst, ◌∙◌, ◌⊎◌, inl, inr, ⊎_elim, arith, length-append, add-one}
use Rattle.std.specs.Prelude.{nat_le, nat_lt, sum_by, ◌==◌, find, filter}
use Rattle.std.specs.List.{AllByRecursion as Each, range_with_len}
use Rattle.std.specs.Option.{option_map_or}
use Rattle.std.proofs.lemmas.List.{append-nil}
use Rattle.std.proofs.lemmas.List.Sums.{sum_by-cons, sum_by-append}
use Rattle.std.proofs.lemmas.List.FromFn.{length-range_with_len}
use Rattle.sf_types.specs.declared.run.Run.{Run}
use Rattle.sf_types.specs.Space.BlockRuns.{blocks_in_run, blocks_in, AreRuns, front_of, rest_of}
use Rattle.sf_types.specs.Space.Grants.{with_block_before, maximal_runs, longest_run, without_run, granted_runs_of, granted_blocks}
use Rattle.sf_types.proofs.NumberLemmas.{same_number, not_same, own_number, other_number, at_most}
use Rattle.sf_types.proofs.RunLemmas.{run-split}
use Rattle.sf_laws.proofs.EachLemmas.{each_weaker, each-filter, each_found, none_found}
use Rattle.sf_laws.proofs.BlockSumLemmas.{is_one, count_of, IsOnce, one_itself, count_length}

-- the maximal runs of blocks have just these, in their order
block-before : (block : ℕ) (runs : List Run) → blocks_in (with_block_before block runs) ≡ block ∷ blocks_in runs
block-before block [] = refl
block-before block (run ∷ runs) =
    elim (run.first == block + 1) as (λ b. (run.first == block + 1) ≡ b
    → blocks_in (cond b (record { first = block; blocks = run.blocks + 1 } ∷ runs) (record { first = block; blocks = 1 } ∷ run ∷ runs)) ≡ block ∷ (range_with_len run.first run.blocks ++ blocks_in runs)) [
      | true ↦ λ is.
          let next : block + 1 ≡ run.first = sym (same_number run.first (block + 1) is) in
          ap (λ n. range_with_len block n ++ blocks_in runs) (add-one run.blocks) ∙ ap (λ n. block ∷ (range_with_len n run.blocks ++ blocks_in runs)) next
      | false ↦ λ is. refl
    ] refl

pub blocks-maximal : (blocks : List ℕ) → blocks_in (maximal_runs blocks) ≡ blocks
blocks-maximal [] = refl
blocks-maximal (block ∷ blocks) = block-before block (maximal_runs blocks) ∙ ap (λ (xs : List ℕ). block ∷ xs) (blocks-maximal blocks)

joined_runs : (block : ℕ) (run : Run) (runs : List Run) → run.first ≡ block + 1 → AreRuns (run ∷ runs) → AreRuns (record { first = block; blocks = run.blocks + 1 } ∷ runs)
joined_runs block run [] is are = omega arith
joined_runs block run (next ∷ runs) is are = (omega arith, λ (same : next.first ≡ block + (run.blocks + 1)). are.1 (omega (arith, same, is)), are.2)

runs-before : (block : ℕ) (runs : List Run) → AreRuns runs → AreRuns (with_block_before block runs)
runs-before block [] are = omega arith
runs-before block (run ∷ runs) are =
    elim (run.first == block + 1) as (λ b. (run.first == block + 1) ≡ b
    → AreRuns (cond b (record { first = block; blocks = run.blocks + 1 } ∷ runs) (record { first = block; blocks = 1 } ∷ run ∷ runs))) [
      | true ↦ λ is. joined_runs block run runs (same_number run.first (block + 1) is) are
      | false ↦ λ is. (omega arith, not_same run.first (block + 1) is, are)
    ] refl

pub runs-maximal : (blocks : List ℕ) → AreRuns (maximal_runs blocks)
runs-maximal [] = tt
runs-maximal (block ∷ blocks) = runs-before block (maximal_runs blocks) (runs-maximal blocks)

-- A run has a block.
abbrev HasBlock : Run → Type 0
HasBlock run = 1 ≤ run.blocks

have_blocks : (runs : List Run) → AreRuns runs → Each HasBlock runs
have_blocks [] are = tt
have_blocks (run ∷ []) are = (are, tt)
have_blocks (run ∷ next ∷ runs) are = (are.0, have_blocks (next ∷ runs) are.2)

-- A run is one of some.
abbrev Among : Run → List Run → Type 0
Among run [] = ⊥
Among run (other ∷ others) = (run ≡ other) ⊎ Among run others

each_among : (runs : List Run) → Each (λ run. Among run runs) runs
each_among [] = tt
each_among (run ∷ runs) = (inl refl, each_weaker (λ x. Among x runs) (λ x. Among x (run ∷ runs)) runs (λ x is. inr is) (each_among runs))

of_among : (P : Run → Type 0) (run : Run) (runs : List Run) → Each P runs → Among run runs → P run
of_among P run [] all is = absurd is
of_among P run (other ∷ others) all is = ⊎_elim (λ (same : run ≡ other). subst P (sym same) all.0) (λ (rest : Among run others). of_among P run others all.1 rest) is

longest_among : (run : Run) (runs : List Run) → Among (longest_run run runs) (run ∷ runs)
longest_among run [] = inl refl
longest_among run (other ∷ others) =
    elim (nat_lt run.blocks other.blocks) as (λ b. Among (cond b (longest_run other others) (longest_run run others)) (run ∷ other ∷ others)) [
      | true ↦ inr (longest_among other others)
      | false ↦ ⊎_elim (λ (same : longest_run run others ≡ run). let at : Among (longest_run run others) (run ∷ other ∷ others) = inl same in at)
          (λ (rest : Among (longest_run run others) others). let at : Among (longest_run run others) (run ∷ other ∷ others) = inr (inr rest) in at) (longest_among run others)
    ]

first_counted : (run : Run) → HasBlock run → 1 ≤ count_of run.first (blocks_in_run run)
first_counted run some =
    let n = run.blocks - 1 in
    let size : run.blocks ≡ suc n = omega (arith, some) in
    let blocks : range_with_len run.first run.blocks ≡ run.first ∷ range_with_len (run.first + 1) n = ap (range_with_len run.first) size in
    let cons = sum_by-cons (is_one run.first) run.first (range_with_len (run.first + 1) n) in
    let own = one_itself run.first in
    subst (λ xs. 1 ≤ count_of run.first xs) (sym blocks) (omega (arith, cons, own))

firsts_counted : (run : Run) (runs : List Run) → HasBlock run → Among run runs → 1 ≤ count_of run.first (blocks_in runs)
firsts_counted run [] some is = absurd is
firsts_counted run (other ∷ others) some is =
    let both = sum_by-append (is_one run.first) (blocks_in_run other) (blocks_in others) in
    ⊎_elim (λ (same : run ≡ other). let own : 1 ≤ count_of run.first (blocks_in_run other) = subst (λ (x : Run). 1 ≤ count_of run.first (blocks_in_run x)) same (first_counted run some) in omega (arith, own, both))
    (λ (rest : Among run others). let own = firsts_counted run others some rest in omega (arith, own, both)) is

-- other runs begin elsewhere
elsewhere : (run other : Run) (others : List Run) → HasBlock run → HasBlock other → IsOnce (blocks_in_run run ++ blocks_in others) → Among other others → (other.first == run.first) ≡ false
elsewhere run other others some others_some once is =
    other_number other.first run.first (λ (same : other.first ≡ run.first).
    let own = first_counted run some in
    let its : 1 ≤ count_of run.first (blocks_in others) = subst (λ n. 1 ≤ count_of n (blocks_in others)) same (firsts_counted other others others_some is) in
    let both = sum_by-append (is_one run.first) (blocks_in_run run) (blocks_in others) in
    let most = once.most run.first in
    omega (arith, own, its, both, most))

once_later : (run : Run) (runs : List Run) → IsOnce (blocks_in_run run ++ blocks_in runs) → IsOnce (blocks_in runs)
once_later run runs once = record { most = λ b. let both = sum_by-append (is_one b) (blocks_in_run run) (blocks_in runs) in let most = once.most b in omega (arith, both, most) }

filter_all : (test : Run → Bool) (runs : List Run) → Each (λ x. test x ≡ true) runs → filter test runs ≡ runs
filter_all test [] all = refl
filter_all test (run ∷ runs) all = ap (λ b. cond b (run ∷ filter test runs) (filter test runs)) all.0 ∙ ap (λ (xs : List Run). run ∷ xs) (filter_all test runs all.1)

-- The test by which a run is taken away.
abbrev is_other : Run → Run → Bool
is_other run other = not (other.first == run.first)

others_stay : (run : Run) (runs : List Run) → HasBlock run → Each HasBlock runs → IsOnce (blocks_in_run run ++ blocks_in runs) → filter (is_other run) runs ≡ runs
others_stay run runs some all once =
    filter_all (is_other run) runs (each_weaker (λ x. Among x runs) (λ x. is_other run x ≡ true) runs
    (λ x is. ap not (elsewhere run x runs some (of_among HasBlock x runs all is) once is)) (each_among runs))

-- runs without one of them
record IsWithout (run : Run) (runs : List Run) : Type 0 where
  sums : (f : ℕ → ℕ) → sum_by f (blocks_in (without_run run runs)) + sum_by f (blocks_in_run run) ≡ sum_by f (blocks_in runs)
  fewer : length (without_run run runs) + 1 ≡ length runs

without_here : (run : Run) (others : List Run) → HasBlock run → Each HasBlock others → IsOnce (blocks_in_run run ++ blocks_in others) → IsWithout run (run ∷ others)
without_here run others some all once =
    let gone : not (run.first == run.first) ≡ false = ap not (own_number run.first) in
    let stay = others_stay run others some all once in
    let is : without_run run (run ∷ others) ≡ others = ap (λ b. cond b (run ∷ filter (is_other run) others) (filter (is_other run) others)) gone ∙ stay in
    record {
      sums = λ f.
          let both = sum_by-append f (blocks_in_run run) (blocks_in others) in
          let its : sum_by f (blocks_in (without_run run (run ∷ others))) ≡ sum_by f (blocks_in others) = ap (λ xs. sum_by f (blocks_in xs)) is in
          omega (arith, both, its);
      fewer = let its : length (without_run run (run ∷ others)) ≡ length others = ap (λ (xs : List Run). length xs) is in omega (arith, its);
    }

without_later : (run other : Run) (others : List Run) → HasBlock run → HasBlock other → IsOnce (blocks_in_run other ++ blocks_in others) → Among run others → IsWithout run others → IsWithout run (other ∷ others)
without_later run other others some others_some once rest less =
    let apart : (other.first == run.first) ≡ false = other_number other.first run.first (λ (same : other.first ≡ run.first).
    let own : 1 ≤ count_of run.first (blocks_in_run other) = subst (λ n. 1 ≤ count_of n (blocks_in_run other)) same (first_counted other others_some) in
    let its = firsts_counted run others some rest in
    let both = sum_by-append (is_one run.first) (blocks_in_run other) (blocks_in others) in
    let most = once.most run.first in
    omega (arith, own, its, both, most)) in
    let is : without_run run (other ∷ others) ≡ other ∷ without_run run others = ap (λ b. cond (not b) (other ∷ without_run run others) (without_run run others)) apart in
    record {
      sums = λ f.
          let both = sum_by-append f (blocks_in_run other) (blocks_in others) in
          let its : sum_by f (blocks_in (without_run run (other ∷ others))) ≡ sum_by f (blocks_in_run other ++ blocks_in (without_run run others)) = ap (λ xs. sum_by f (blocks_in xs)) is in
          let split = sum_by-append f (blocks_in_run other) (blocks_in (without_run run others)) in
          let old = less.sums f in
          omega (arith, both, its, split, old);
      fewer = let its : length (without_run run (other ∷ others)) ≡ length (other ∷ without_run run others) = ap (λ (xs : List Run). length xs) is in let old = less.fewer in omega (arith, its, old);
    }

without : (run : Run) (runs : List Run) → Each HasBlock runs → IsOnce (blocks_in runs) → Among run runs → IsWithout run runs
without run [] all once is = absurd is
without run (other ∷ others) all once is =
    ⊎_elim (λ (same : run ≡ other). subst (λ (x : Run). IsWithout x (other ∷ others)) (sym same) (without_here other others all.0 all.1 once))
    (λ (rest : Among run others). without_later run other others (of_among HasBlock run others all.1 rest) all.0 once rest (without run others all.1 (once_later other others once) rest)) is

-- What a grant takes of some blocks: so many, and the rest is left.
pub record IsGrant (blocks : List ℕ) (n : ℕ) (got : List ℕ) : Type 0 where
  pub rest : List ℕ
  pub parts : (f : ℕ → ℕ) → sum_by f blocks ≡ sum_by f got + sum_by f rest
  pub size : length got ≡ n

nothing : (blocks : List ℕ) (n : ℕ) → n ≡ 0 → IsGrant blocks n []
nothing blocks n none = record { rest = blocks; parts = λ f. let zero : sum_by f [] ≡ 0 = refl in omega (arith, zero); size = sym none }

-- a run of enough blocks gives its first ones
from_run : (run : Run) (runs : List Run) (n : ℕ) → n ≤ run.blocks → IsWithout run runs → IsGrant (blocks_in runs) n (blocks_in (front_of run n ∷ []))
from_run run runs n le less =
    let front = range_with_len run.first n in
    let got : blocks_in (front_of run n ∷ []) ≡ front = append-nil front in
    let split = run-split run n le in
    record {
      rest = blocks_in (without_run run runs) ++ blocks_in_run (rest_of run n);
      parts = λ f.
          let old = less.sums f in
          let own : sum_by f (blocks_in_run (front_of run n) ++ blocks_in_run (rest_of run n)) ≡ sum_by f (blocks_in_run run) = ap (sum_by f) split in
          let both = sum_by-append f (blocks_in_run (front_of run n)) (blocks_in_run (rest_of run n)) in
          let left = sum_by-append f (blocks_in (without_run run runs)) (blocks_in_run (rest_of run n)) in
          let its : sum_by f (blocks_in (front_of run n ∷ [])) ≡ sum_by f (blocks_in_run (front_of run n)) = ap (sum_by f) got in
          omega (arith, old, own, both, left, its);
      size = ap (λ (xs : List ℕ). length xs) got ∙ length-range_with_len run.first n;
    }

-- a whole run, and the rest from the others
with_run : (run : Run) (runs : List Run) (n : ℕ) (more : List Run) → run.blocks ≤ n → IsWithout run runs → IsGrant (blocks_in (without_run run runs)) (n - run.blocks) (blocks_in more) → IsGrant (blocks_in runs) n (blocks_in (run ∷ more))
with_run run runs n more le less grant = record {
  rest = grant.rest;
  parts = λ f.
      let old = less.sums f in
      let its = grant.parts f in
      let both = sum_by-append f (blocks_in_run run) (blocks_in more) in
      omega (arith, old, its, both);
  size =
      let both = length-append (blocks_in_run run) (blocks_in more) in
      let own = length-range_with_len run.first run.blocks in
      let size = grant.size in
      omega (arith, both, own, size, le);
}

less_than : (m n : ℕ) → nat_le m n ≡ false → n < m
less_than m n is = grind (arith, is)

granted : (most : ℕ) (runs : List Run) (n : ℕ) → length runs ≤ most → Each HasBlock runs → IsOnce (blocks_in runs) → n ≤ length (blocks_in runs) → IsGrant (blocks_in runs) n (blocks_in (granted_runs_of most runs n))
granted zero [] n few all once le = nothing [] n (omega (arith, le))
granted zero (run ∷ runs) n few all once le = absurd (omega (arith, few))
granted (suc most) [] n few all once le = nothing [] n (omega (arith, le))
granted (suc most) (run ∷ runs) n few all once le =
    let longest = longest_run run runs in
    let among = longest_among run runs in
    let more = granted_runs_of most (without_run longest (run ∷ runs)) (n - longest.blocks) in
    let less = without longest (run ∷ runs) all once among in
    elim (n == 0) as (λ b. (n == 0) ≡ b → IsGrant (blocks_in (run ∷ runs)) n (blocks_in (cond b []
    (option_map_or (λ lowest. front_of lowest n ∷ []) (find (λ other. nat_le n other.blocks) (run ∷ runs)) (longest ∷ more))))) [
      | true ↦ λ is. nothing (blocks_in (run ∷ runs)) n (same_number n 0 is)
      | false ↦ λ is. elim (find (λ other. nat_le n other.blocks) (run ∷ runs)) as (λ o. find (λ other. nat_le n other.blocks) (run ∷ runs) ≡ o → IsGrant (blocks_in (run ∷ runs)) n (blocks_in
          (option_map_or (λ lowest. front_of lowest n ∷ []) o (longest ∷ more)))) [
            | None ↦ λ none.
                let short : nat_le n longest.blocks ≡ false = of_among (λ x. nat_le n x.blocks ≡ false) longest (run ∷ runs) (none_found (λ other. nat_le n other.blocks) (run ∷ runs) none) among in
                let least = less_than n longest.blocks short in
                let fewer = less.fewer in
                let count = less.sums (λ x. 1) in
                let left = count_length (blocks_in (without_run longest (run ∷ runs))) in
                let own = count_length (blocks_in_run longest) in
                let size = length-range_with_len longest.first longest.blocks in
                let whole = count_length (blocks_in (run ∷ runs)) in
                with_run longest (run ∷ runs) n more (omega (arith, least)) less
                (granted most (without_run longest (run ∷ runs)) (n - longest.blocks) (omega (arith, few, fewer))
                (each-filter HasBlock (is_other longest) (run ∷ runs) all)
                (record { most = λ b. let sums = less.sums (is_one b) in let top = once.most b in omega (arith, sums, top) })
                (omega (arith, le, count, left, own, size, whole)))
            | Some lowest ↦ λ some.
                let both = each_found (λ x. Among x (run ∷ runs)) (λ other. nat_le n other.blocks) (run ∷ runs) lowest some (each_among (run ∷ runs)) in
                from_run lowest (run ∷ runs) n (at_most n lowest.blocks both.1) (without lowest (run ∷ runs) all once both.0)
          ] refl
    ] refl

-- a grant of no more than there are takes so many of them, each once
pub grant : (free : List ℕ) (n : ℕ) → IsOnce free → n ≤ length free → IsGrant free n (granted_blocks free n)
grant free n once le =
    let runs = maximal_runs free in
    let same = blocks-maximal free in
    subst (λ (xs : List ℕ). IsGrant xs n (granted_blocks free n)) same
    (granted (length runs) runs n (omega arith) (have_blocks runs (runs-maximal free)) (subst IsOnce (sym same) once) (subst (λ (xs : List ℕ). n ≤ length xs) (sym same) le))
