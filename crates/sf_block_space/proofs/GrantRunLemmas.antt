-- A grant run by run is the rule's grant, and free runs are the maximal runs of their blocks.
use Rattle.std.proofs.Common.{◌≡◌, ℕ, zero, suc, ◌+◌, ◌-◌, ◌≤◌, ◌<◌, inl, inr, Bool, true, false, cond, List, [], ◌∷◌, ◌++◌, Some, None, length, take, refl, sym, ap, ◌∙◌, add-one, subst, arith}
use Rattle.std.specs.Prelude.{Option, find, not, nat_le, nat_lt, ◌==◌, slice_get}
use Rattle.std.specs.List.{remove, range_with_len, AllByRecursion}
use Rattle.std.specs.Option.{option_map_or}
use Rattle.std.proofs.lemmas.Bool.Decides.{nat_tests}
use Rattle.std.proofs.lemmas.List.Edits.{length-remove}
use Rattle.std.proofs.lemmas.List.Elements.{recursion_from_All}
use Rattle.std.proofs.lemmas.Option.{slice_get_within}
use Rattle.sf_types.specs.declared.run.Run.{Run}
use Rattle.sf_types.specs.Space.BlockRuns.{blocks_in, front_of}
use Rattle.sf_types.specs.Space.Grants.{with_block_before, maximal_runs, longest_run, without_run, granted_runs_of, granted_runs}
use Rattle.sf_block_space.specs.Free.{AreFreeRuns, AreFreeRunsFrom}
use Rattle.sf_block_space.specs.Inside.{IsGrant}

-- the first run that has enough blocks is found
find-fit : (n : ℕ) (runs : List Run) (at : ℕ) (fit : Run) → slice_get runs at ≡ Some fit → n ≤ fit.blocks
    → AllByRecursion (λ run. run.blocks < n) (take at runs) → find (λ run. nat_le n run.blocks) runs ≡ Some fit
find-fit n [] at fit stands enough fewer = absurd cc
find-fit n (run ∷ runs) zero fit stands enough fewer =
    let same : run ≡ fit = cc in
    let yes : nat_le n run.blocks ≡ true = rw same (grind (arith, nat_tests, enough)) in
    ap (λ b. cond b (Some run) (find (λ other. nat_le n other.blocks) runs)) yes ∙ stands
find-fit n (run ∷ runs) (suc at) fit stands enough fewer =
    let no : nat_le n run.blocks ≡ false = let less = fewer.0 in grind (arith, nat_tests, less) in
    ap (λ b. cond b (Some run) (find (λ other. nat_le n other.blocks) runs)) no ∙ find-fit n runs at fit stands enough fewer.1

-- no run has enough
find-none : (n : ℕ) (runs : List Run) → AllByRecursion (λ run. run.blocks < n) runs → find (λ run. nat_le n run.blocks) runs ≡ None
find-none n [] fewer = refl
find-none n (run ∷ runs) fewer =
    let no : nat_le n run.blocks ≡ false = let less = fewer.0 in grind (arith, nat_tests, less) in
    ap (λ b. cond b (Some run) (find (λ other. nat_le n other.blocks) runs)) no ∙ find-none n runs fewer.1

-- the lowest of the longest runs
find-longest : (others : List Run) (run : Run) (at : ℕ) (longest : Run) → slice_get (run ∷ others) at ≡ Some longest
    → AllByRecursion (λ other. other.blocks ≤ longest.blocks) (run ∷ others)
    → AllByRecursion (λ before. before.blocks < longest.blocks) (take at (run ∷ others)) → longest_run run others ≡ longest
find-longest [] run zero longest stands most lowest = cc
find-longest [] run (suc at) longest stands most lowest = absurd cc
find-longest (other ∷ others) run zero longest stands most lowest =
    let same : run ≡ longest = cc in
    let no : nat_lt run.blocks other.blocks ≡ false = let less = most.1.0 in rw same (grind (arith, nat_tests, less)) in
    ap (λ b. cond b (longest_run other others) (longest_run run others)) no
    ∙ find-longest others run zero longest stands (most.0, most.1.1) tt
find-longest (other ∷ others) run (suc zero) longest stands most lowest =
    let same : other ≡ longest = cc in
    let yes : nat_lt run.blocks other.blocks ≡ true = let less = lowest.0 in rw same (grind (arith, nat_tests, less)) in
    ap (λ b. cond b (longest_run other others) (longest_run run others)) yes
    ∙ find-longest others other zero longest stands most.1 tt
find-longest (other ∷ others) run (suc (suc at)) longest stands most lowest =
    choose (nat_lt run.blocks other.blocks) refl
    (find-longest others other (suc at) longest stands most.1 lowest.1)
    (find-longest others run (suc at) longest stands (most.0, most.1.1) (lowest.0, lowest.1.1))
  where
    choose : (b : Bool) → nat_lt run.blocks other.blocks ≡ b → longest_run other others ≡ longest → longest_run run others ≡ longest
        → longest_run run (other ∷ others) ≡ longest
    choose true is longer same = ap (λ c. cond c (longest_run other others) (longest_run run others)) is ∙ longer
    choose false is longer same = ap (λ c. cond c (longest_run other others) (longest_run run others)) is ∙ same

-- runs that begin behind another are not that one
without-lower : (run : Run) (from capacity : ℕ) (runs : List Run) → run.first < from → AreFreeRunsFrom from capacity runs → without_run run runs ≡ runs
without-lower run from capacity [] before free = refl
without-lower run from capacity (other ∷ others) before free =
    let no : (other.first == run.first) ≡ false = let low = free.0 in grind (arith, nat_tests, before, low) in
    ap (λ b. cond (not b) (other ∷ without_run run others) (without_run run others)) no
    ∙ ap (λ (xs : List Run). other ∷ xs)
    (without-lower run (other.first + other.blocks + 1) capacity others (let low = free.0 in omega (arith, before, low)) free.3)

-- the runs without the one at an offset
without-at : (from capacity : ℕ) (runs : List Run) (at : ℕ) (run : Run) → AreFreeRunsFrom from capacity runs → slice_get runs at ≡ Some run
    → without_run run runs ≡ remove runs at
without-at from capacity [] at run free stands = absurd cc
without-at from capacity (other ∷ others) zero run free stands =
    let same : other ≡ run = cc in
    let yes : (other.first == run.first) ≡ true = rw same (grind (arith, nat_tests)) in
    ap (λ b. cond (not b) (other ∷ without_run run others) (without_run run others)) yes
    ∙ without-lower run (other.first + other.blocks + 1) capacity others (let begins = ap (λ (x : Run). x.first) same in omega (arith, begins)) free.3
without-at from capacity (other ∷ others) (suc at) run free stands =
    let behind = begins-behind (other.first + other.blocks + 1) capacity others at run free.3 stands in
    let no : (other.first == run.first) ≡ false = grind (arith, nat_tests, behind) in
    ap (λ b. cond (not b) (other ∷ without_run run others) (without_run run others)) no
    ∙ ap (λ (xs : List Run). other ∷ xs) (without-at (other.first + other.blocks + 1) capacity others at run free.3 stands)
  where
    begins-behind : (from capacity : ℕ) (runs : List Run) (at : ℕ) (run : Run) → AreFreeRunsFrom from capacity runs → slice_get runs at ≡ Some run → from ≤ run.first
    begins-behind from capacity [] at run free stands = absurd cc
    begins-behind from capacity (other ∷ others) zero run free stands =
        let same : other ≡ run = cc in
        let begins = ap (λ (x : Run). x.first) same in
        let low = free.0 in
        omega (arith, begins, low)
    begins-behind from capacity (other ∷ others) (suc at) run free stands =
        let low = free.0 in
        let next = begins-behind (other.first + other.blocks + 1) capacity others at run free.3 stands in
        omega (arith, low, next)

-- free runs from a later block are free runs from an earlier one
free-from : (low from capacity : ℕ) (runs : List Run) → low ≤ from → AreFreeRunsFrom from capacity runs → AreFreeRunsFrom low capacity runs
free-from low from capacity [] less free = tt
free-from low from capacity (run ∷ runs) less free = ((let begins = free.0 in omega (arith, begins, less)), free.1, free.2, free.3)

-- they are free runs without one of them
removed-free : (from capacity : ℕ) (runs : List Run) (at : ℕ) → AreFreeRunsFrom from capacity runs → AreFreeRunsFrom from capacity (remove runs at)
removed-free from capacity [] at free = none at
  where
    none : (at : ℕ) → AreFreeRunsFrom from capacity (remove [] at)
    none zero = tt
    none (suc at) = tt
removed-free from capacity (run ∷ runs) zero free =
    free-from from (run.first + run.blocks + 1) capacity runs (let begins = free.0 in omega (arith, begins)) free.3
removed-free from capacity (run ∷ runs) (suc at) free =
    (free.0, free.1, free.2, removed-free (run.first + run.blocks + 1) capacity runs at free.3)

-- where there are no runs, none is granted
none-left : (n : ℕ) (run : Run) (granted : List Run) → IsGrant [] n (run ∷ granted) → ⊥
none-left n run granted (inl (amount, last, (at, fit, first, is))) = let stands = first.stands in absurd cc
none-left n run granted (inr (fewer, (at, longest, rest))) = let stands = longest.stands in absurd cc

-- a grant from some runs, by whether nothing is wanted, the run that fits, and the longest run
abbrev grant-of : ℕ → List Run → ℕ → Bool → Option Run → Run → List Run
grant-of most runs n is_done fit longest =
    cond is_done [] (option_map_or (λ lowest. front_of lowest n ∷ []) fit (longest ∷ granted_runs_of most (without_run longest runs) (n - longest.blocks)))

grant-runs-from : (most from capacity : ℕ) (runs : List Run) (n : ℕ) (granted : List Run) → length runs ≤ most → AreFreeRunsFrom from capacity runs → IsGrant runs n granted → granted ≡ granted_runs_of most runs n
grant-runs-from zero from capacity [] n [] few free grant = refl
grant-runs-from zero from capacity [] n (taken ∷ granted) few free grant = absurd (none-left n taken granted grant)
grant-runs-from zero from capacity (run ∷ runs) n granted few free grant = absurd (omega (arith, few))
grant-runs-from (suc most) from capacity [] n [] few free grant = refl
grant-runs-from (suc most) from capacity [] n (taken ∷ granted) few free grant = absurd (none-left n taken granted grant)
grant-runs-from (suc most) from capacity (run ∷ runs) n [] few free grant =
    let done : (n == 0) ≡ true = grind (arith, nat_tests, grant) in
    sym (ap (λ b. grant-of most (run ∷ runs) n b (find (λ other. nat_le n other.blocks) (run ∷ runs)) (longest_run run runs)) done)
grant-runs-from (suc most) from capacity (run ∷ runs) n (taken ∷ granted) few free (inl (amount, last, (at, fit, first, is))) =
    let more : (n == 0) ≡ false = grind (arith, nat_tests, amount) in
    let found = find-fit n (run ∷ runs) at fit first.stands first.enough (recursion_from_All (λ before. before.blocks < n) (take at (run ∷ runs)) first.lowest) in
    ap (λ (xs : List Run). taken ∷ xs) last
    ∙ ap (λ (x : Run). x ∷ []) is
    ∙ sym (ap (λ b. grant-of most (run ∷ runs) n b (find (λ other. nat_le n other.blocks) (run ∷ runs)) (longest_run run runs)) more
    ∙ ap (λ o. grant-of most (run ∷ runs) n false o (longest_run run runs)) found)
grant-runs-from (suc most) from capacity (run ∷ runs) n (taken ∷ granted) few free (inr (fewer, (at, longest, rest))) =
    let wanting = recursion_from_All (λ other. other.blocks < n) (run ∷ runs) fewer in
    let short = wanting.0 in
    let more : (n == 0) ≡ false = grind (arith, nat_tests, short) in
    let none = find-none n (run ∷ runs) wanting in
    let is = find-longest runs run at taken longest.stands
    (recursion_from_All (λ other. other.blocks ≤ taken.blocks) (run ∷ runs) longest.longest)
    (recursion_from_All (λ before. before.blocks < taken.blocks) (take at (run ∷ runs)) longest.lowest) in
    let without = without-at from capacity (run ∷ runs) at taken free longest.stands in
    let size = length-remove (run ∷ runs) at (slice_get_within (run ∷ runs) at taken longest.stands) in
    let next = grant-runs-from most from capacity (remove (run ∷ runs) at) (n - taken.blocks) granted (omega (arith, few, size)) (removed-free from capacity (run ∷ runs) at free) rest in
    ap (λ (xs : List Run). taken ∷ xs) (next ∙ ap (λ (xs : List Run). granted_runs_of most xs (n - taken.blocks)) (sym without))
    ∙ sym (ap (λ b. grant-of most (run ∷ runs) n b (find (λ other. nat_le n other.blocks) (run ∷ runs)) (longest_run run runs)) more
    ∙ ap (λ o. grant-of most (run ∷ runs) n false o (longest_run run runs)) none
    ∙ ap (λ (x : Run). grant-of most (run ∷ runs) n false None x) is)

-- a grant run by run is the rule's
pub grant-runs : (capacity : ℕ) (runs : List Run) (n : ℕ) (granted : List Run) → AreFreeRuns capacity runs → IsGrant runs n granted → granted ≡ granted_runs runs n
grant-runs capacity runs n granted free grant = grant-runs-from (length runs) 0 capacity runs n granted (omega arith) free grant

-- the first run, where there is one, begins behind this block
abbrev AreApartFrom : ℕ → List Run → Type 0
AreApartFrom block [] = Unit {0}
AreApartFrom block (run ∷ runs) = block < run.first

apart-like : (block other : ℕ) (runs : List Run) → block ≡ other → AreApartFrom block runs → AreApartFrom other runs
apart-like block other runs is apart = subst (λ k. AreApartFrom k runs) is apart

apart-behind : (first count capacity : ℕ) (runs : List Run) → AreFreeRunsFrom (first + (count + 1) + 1) capacity runs → AreApartFrom (first + (count + 1)) runs
apart-behind first count capacity [] free = tt
apart-behind first count capacity (run ∷ runs) free = let low = free.0 in omega (arith, low)

-- the blocks of a run before those of runs that begin behind it
run-joined : (first : ℕ) (count : ℕ) (blocks : List ℕ) (others : List Run) → maximal_runs blocks ≡ others → AreApartFrom (first + (count + 1)) others
    → maximal_runs (range_with_len first (suc count) ++ blocks) ≡ record { first = first; blocks = count + 1 } ∷ others
run-joined first zero blocks others is apart = ap (with_block_before first) is ∙ alone others apart
  where
    alone : (others : List Run) → AreApartFrom (first + (zero + 1)) others → with_block_before first others ≡ record { first = first; blocks = zero + 1 } ∷ others
    alone [] apart = refl
    alone (other ∷ others) apart =
        let no : (other.first == first + 1) ≡ false = grind (arith, nat_tests, apart) in
        ap (λ b. cond b (record { first = first; blocks = other.blocks + 1 } ∷ others) (record { first = first; blocks = 1 } ∷ other ∷ others)) no
run-joined first (suc count) blocks others is apart =
    let yes : (first + 1 == first + 1) ≡ true = grind (arith, nat_tests) in
    let next = run-joined (first + 1) count blocks others is (apart-like (first + (suc count + 1)) (first + 1 + (count + 1)) others (omega arith) apart) in
    ap (with_block_before first) next
    ∙ ap (λ b. cond b (record { first = first; blocks = count + 1 + 1 } ∷ others) (record { first = first; blocks = 1 } ∷ record { first = first + 1; blocks = count + 1 } ∷ others)) yes
    ∙ ap (λ k. record { first = first; blocks = k } ∷ others) (omega arith)

-- free runs are the maximal runs of their blocks
free-maximal-from : (from capacity : ℕ) (runs : List Run) → AreFreeRunsFrom from capacity runs → maximal_runs (blocks_in runs) ≡ runs
free-maximal-from from capacity [] free = refl
free-maximal-from from capacity (run ∷ runs) free =
    let next = free-maximal-from (run.first + run.blocks + 1) capacity runs free.3 in
    let some = free.1 in
    let size : run.blocks ≡ run.blocks - 1 + 1 = omega (arith, some) in
    let apart = apart-behind run.first (run.blocks - 1) capacity runs (subst (λ k. AreFreeRunsFrom (run.first + k + 1) capacity runs) size free.3) in
    ap (λ k. maximal_runs (range_with_len run.first k ++ blocks_in runs)) (size ∙ add-one (run.blocks - 1))
    ∙ run-joined run.first (run.blocks - 1) (blocks_in runs) runs next apart
    ∙ ap (λ k. record { first = run.first; blocks = k } ∷ runs) (sym size)

pub free-maximal : (capacity : ℕ) (runs : List Run) → AreFreeRuns capacity runs → maximal_runs (blocks_in runs) ≡ runs
free-maximal capacity runs free = free-maximal-from 0 capacity runs free
