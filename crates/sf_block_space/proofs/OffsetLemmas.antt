-- The offset at which blocks come back.
use Rattle.std.proofs.Common.{◌≡◌, ◌≢◌, ℕ, zero, suc, ◌+◌, ◌-◌, ◌≤◌, ◌<◌, ◌⊎◌, inl, inr, List, [], ◌∷◌, Some, length, take, drop, get_or, true, false, ◌||◌, ap, ◌∙◌, subst, arith}
use Rattle.std.specs.Prelude.{slice_get}
use Rattle.std.proofs.Math.Seq.{drop-cons, take-suc}
use Rattle.std.proofs.lemmas.Bool.{cases_lt}
use Rattle.std.proofs.lemmas.List.{drop_all}
use Rattle.std.proofs.lemmas.List.FromFn.{length-range_with_len, get_or-range_with_len}
use Rattle.std.proofs.lemmas.Option.{slice_get-get_or}
use Rattle.sf_types.specs.declared.run.Run.{Run}
use Rattle.sf_types.specs.Space.BlockRuns.{blocks_in_run}
use Rattle.sf_types.proofs.BoolLemmas.{or-true}
use Rattle.sf_types.proofs.RunLemmas.{no_run}
use Rattle.sf_block_space.specs.Free.{AreFreeRuns, AreOut, FreeSpace, has_block}
use Rattle.sf_block_space.specs.Inside.{BeginsFrom, IsOffsetOf}
use Rattle.sf_block_space.proofs.MemberLemmas.{is_block_in, in-range, has-cons}
use Rattle.sf_block_space.proofs.OrderLemmas.{past, past-last, run-within}

-- the blocks of the run at an offset
has-at : (runs : List Run) (at block : ℕ) (d : Run) → at < length runs → (get_or runs at d).first ≤ block → block < (get_or runs at d).first + (get_or runs at d).blocks → has_block runs block ≡ true
has-at [] at block d within from to = absurd (omega (arith, within))
has-at (run ∷ runs) zero block d within from to =
    has-cons run runs block ∙ ap (λ x. x || has_block runs block) (in-range run.first run.blocks block from to)
has-at (run ∷ runs) (suc at) block d within from to =
    has-cons run runs block ∙ or-true (is_block_in (blocks_in_run run) block) (has_block runs block) (has-at runs at block d (omega (arith, within)) from to)

-- no block of a run that is out is free
out-apart : (space : FreeSpace) (run : Run) (block : ℕ) → AreOut space (blocks_in_run run) → run.first ≤ block → block < run.first + run.blocks → has_block space.runs block ≡ false
out-apart space run block out from to =
    let i = block - run.first in
    let inside : i < run.blocks = omega (arith, from, to) in
    let same : run.first + i ≡ block = omega (arith, from) in
    let is = get_or-range_with_len run.first run.blocks i 0 inside ∙ same in
    subst (λ k. has_block space.runs k ≡ false) is (out.apart i 0 (omega (arith, inside, length-range_with_len run.first run.blocks)))

-- a run that is out, and doesn't follow the one before its offset, lies past the runs before the offset
pub past-before : (space : FreeSpace) (at : ℕ) (run : Run) → 1 ≤ run.blocks → IsOffsetOf space.runs run.first at → AreOut space (blocks_in_run run)
    → (1 ≤ at → (other : Run) → slice_get space.runs (at - 1) ≡ Some other → other.first + other.blocks ≢ run.first)
    → past 0 (take at space.runs) ≤ run.first
past-before space zero run some offset out touching = omega arith
past-before space (suc at) run some offset out touching = choose (cases_lt run.first (last.first + last.blocks))
  where
    inside : at < length space.runs
    inside = omega (arith, offset.within)

    last : Run
    last = get_or space.runs at no_run

    stands : slice_get space.runs at ≡ Some last
    stands = slice_get-get_or space.runs at no_run inside

    begins : last.first < run.first
    begins = offset.before at last (omega arith) stands

    ends : last.first + last.blocks ≢ run.first
    ends = touching (omega arith) last (subst (λ k. slice_get space.runs k ≡ Some last) (omega arith) stands)

    is : past 0 (take (suc at) space.runs) ≡ last.first + last.blocks + 1
    is = ap (past 0) (take-suc space.runs at no_run inside) ∙ past-last 0 (take at space.runs) last

    choose : (run.first < last.first + last.blocks) ⊎ (last.first + last.blocks ≤ run.first) → past 0 (take (suc at) space.runs) ≤ run.first
    choose (inl less) =
        let there = has-at space.runs at run.first no_run inside (omega (arith, begins)) less in
        let not-there = out-apart space run run.first out (omega arith) (omega (arith, some)) in
        absurd (cc)
    choose (inr more) = omega (arith, is, more, ends)

-- the runs from its offset on begin behind it
pub begins-behind : (space : FreeSpace) (at : ℕ) (run : Run) → AreFreeRuns space.capacity space.runs → IsOffsetOf space.runs run.first at → AreOut space (blocks_in_run run) → BeginsFrom (run.first + run.blocks) (drop at space.runs)
begins-behind space at run free offset out = choose (cases_lt at (length space.runs))
  where
    next : Run
    next = get_or space.runs at no_run

    here : at < length space.runs → (next.first < run.first + run.blocks) ⊎ (run.first + run.blocks ≤ next.first) → run.first + run.blocks ≤ next.first
    here inside (inl less) =
        let some = (run-within 0 space.capacity space.runs at no_run free inside).0 in
        let there = has-at space.runs at next.first no_run inside (omega arith) (omega (arith, some)) in
        let not-there = out-apart space run next.first out (offset.behind next (slice_get-get_or space.runs at no_run inside)) less in
        absurd (cc)
    here inside (inr more) = more

    choose : (at < length space.runs) ⊎ (length space.runs ≤ at) → BeginsFrom (run.first + run.blocks) (drop at space.runs)
    choose (inl inside) = rw (drop-cons space.runs at no_run inside) (here inside (cases_lt next.first (run.first + run.blocks)))
    choose (inr past) = rw (drop_all at space.runs past) tt
