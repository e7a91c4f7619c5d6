-- A run that comes back, from what is told of its offset.
use Rattle.std.proofs.Common.{◌≡◌, ◌≢◌, ℕ, suc, ◌+◌, ◌-◌, ◌≤◌, ◌<◌, List, Some, length, drop, set, get_or, sym, ap, ◌∙◌, subst, arith}
use Rattle.std.specs.Prelude.{slice_get}
use Rattle.std.specs.List.{remove, insert}
use Rattle.sf_types.specs.declared.run.Run.{Run}
use Rattle.sf_types.specs.Space.BlockRuns.{blocks_in_run}
use Rattle.sf_types.proofs.RunLemmas.{end-within}
use Rattle.sf_block_space.specs.Free.{AreFreeRuns, AreOut, FreeSpace}
use Rattle.sf_block_space.specs.Inside.{BeginsFrom, IsOffsetOf}
use Rattle.sf_block_space.proofs.GapLemmas.{Put, joined}
use Rattle.sf_block_space.proofs.OffsetLemmas.{past-before, begins-behind}
use Rattle.sf_block_space.proofs.OrderLemmas.{run-within}
use Rattle.sf_block_space.proofs.PutLemmas.{stands-at, insert-put, before-put, behind-put, between-put}

-- The run before an offset ends just before a run, and the run at the offset begins just behind it.
abbrev pub Follows : List Run → Run → ℕ → Type 0
Follows runs run at = (1 ≤ at) × ((other : Run) → slice_get runs (at - 1) ≡ Some other → other.first + other.blocks ≡ run.first)

abbrev pub Precedes : List Run → Run → ℕ → Type 0
Precedes runs run at = (at < length runs) × ((other : Run) → slice_get runs at ≡ Some other → other.first ≡ run.first + run.blocks)

-- Neither does.
abbrev pub NotFollows : List Run → Run → ℕ → Type 0
NotFollows runs run at = 1 ≤ at → (other : Run) → slice_get runs (at - 1) ≡ Some other → other.first + other.blocks ≢ run.first

abbrev pub NotPrecedes : List Run → Run → ℕ → Type 0
NotPrecedes runs run at = BeginsFrom (run.first + run.blocks) (drop at runs) → BeginsFrom (run.first + run.blocks + 1) (drop at runs)

-- A run that is out, and its offset among the free runs.
pub record Spot (space : FreeSpace) (run : Run) (at : ℕ) : Type 0 where
  pub order : AreFreeRuns space.capacity space.runs
  pub some : 1 ≤ run.blocks
  pub out : AreOut space (blocks_in_run run)
  pub offset : IsOffsetOf space.runs run.first at

-- what is told of a space holds of an equal one
pub spot : (space value : FreeSpace) (run : Run) (at : ℕ) → space ≡ value → AreFreeRuns space.capacity space.runs → 1 ≤ run.blocks → AreOut value (blocks_in_run run) → IsOffsetOf value.runs run.first at → Spot space run at
spot space value run at same order some out offset = record {
  order = order;
  some = some;
  out = subst (λ (v : FreeSpace). AreOut v (blocks_in_run run)) (sym same) out;
  offset = subst (λ (v : FreeSpace). IsOffsetOf v.runs run.first at) (sym same) offset;
}

ends : (space : FreeSpace) (run : Run) (at : ℕ) → Spot space run at → run.first + run.blocks ≤ space.capacity
ends space run at here = end-within run space.capacity here.some here.out.below

-- the run before the offset, which it follows
pub last-run : (space : FreeSpace) (run last : Run) (at : ℕ) → Spot space run at → Follows space.runs run at → last ≡ get_or space.runs (at - 1) last → (at - 1 < length space.runs) × (last.first + last.blocks ≡ run.first)
last-run space run last at here follows is =
    let within : at - 1 < length space.runs = omega (arith, follows.0, here.offset.within) in
    (within, follows.1 last (stands-at space.runs (at - 1) last within is))

-- the run at the offset, which follows it
pub next-run : (space : FreeSpace) (run next : Run) (at : ℕ) → Spot space run at → Precedes space.runs run at → next ≡ get_or space.runs at next → (next.first ≡ run.first + run.blocks) × (next.first + next.blocks ≤ space.capacity)
next-run space run next at here precedes is = (
  precedes.1 next (stands-at space.runs at next precedes.0 is),
  subst (λ (r : Run). r.first + r.blocks ≤ space.capacity) (sym is) (run-within 0 space.capacity space.runs at next here.order precedes.0).1,
)

-- joined with the run before it, it has no more blocks than the capacity
pub last-fits : (space : FreeSpace) (run last : Run) (at : ℕ) → Spot space run at → Follows space.runs run at → last ≡ get_or space.runs (at - 1) last → last.blocks + run.blocks ≤ space.capacity
last-fits space run last at here follows is =
    omega (arith, (last-run space run last at here follows is).1, ends space run at here)

pub next-fits : (space : FreeSpace) (run next : Run) (at : ℕ) → Spot space run at → Precedes space.runs run at → next ≡ get_or space.runs at next → run.blocks + next.blocks ≤ space.capacity
next-fits space run next at here precedes is =
    let found = next-run space run next at here precedes is in
    omega (arith, found.0, found.1)

pub both-fit : (space : FreeSpace) (run last next : Run) (at : ℕ) → Spot space run at → Follows space.runs run at → Precedes space.runs run at → last ≡ get_or space.runs (at - 1) last → next ≡ get_or space.runs at next → last.blocks + run.blocks + next.blocks ≤ space.capacity
both-fit space run last next at here follows precedes last-is next-is =
    let found = next-run space run next at here precedes next-is in
    omega (arith, (last-run space run last at here follows last-is).1, found.0, found.1)

-- the four ways to come back
pub insert-spot : (space : FreeSpace) (run : Run) (at : ℕ) (new : List Run) → Spot space run at → NotFollows space.runs run at → NotPrecedes space.runs run at → new ≡ insert space.runs at run → Put space.capacity space.runs new run
insert-spot space run at new here apart behind new-is =
    insert-put space.capacity space.runs new at run here.order here.some (ends space run at here)
    (past-before space at run here.some here.offset here.out apart)
    (behind (begins-behind space at run here.order here.offset here.out))
    new-is

pub before-spot : (space : FreeSpace) (run next : Run) (at : ℕ) → Spot space run at → NotFollows space.runs run at → Precedes space.runs run at → next ≡ get_or space.runs at next → Put space.capacity space.runs (set space.runs at (joined run next)) run
before-spot space run next at here apart precedes is =
    before-put space.capacity space.runs at run next here.order here.some
    (past-before space at run here.some here.offset here.out apart)
    precedes.0 is (next-run space run next at here precedes is).0

pub behind-spot : (space : FreeSpace) (run last : Run) (at : ℕ) → Spot space run at → Follows space.runs run at → NotPrecedes space.runs run at → last ≡ get_or space.runs (at - 1) last → Put space.capacity space.runs (set space.runs (at - 1) (joined last run)) run
behind-spot space run last at here follows behind is =
    let found = last-run space run last at here follows is in
    let same : at ≡ suc (at - 1) = omega (arith, follows.0) in
    behind-put space.capacity space.runs (at - 1) last run here.order here.some (ends space run at here) found.0 is found.1
    (subst (λ k. BeginsFrom (run.first + run.blocks + 1) (drop k space.runs)) same (behind (begins-behind space at run here.order here.offset here.out)))

pub between-spot : (space : FreeSpace) (run last next : Run) (at : ℕ) (removed : List Run) → Spot space run at → Follows space.runs run at → Precedes space.runs run at → last ≡ get_or space.runs (at - 1) last → next ≡ get_or space.runs at next → removed ≡ remove space.runs at
    → Put space.capacity space.runs (set removed (at - 1) (joined (joined last run) next)) run
between-spot space run last next at removed here follows precedes last-is next-is removed-is =
    let same : at ≡ suc (at - 1) = omega (arith, follows.0) in
    between-put space.capacity space.runs removed (at - 1) last run next here.order here.some
    (subst (λ k. k < length space.runs) same precedes.0)
    last-is
    (subst (λ k. next ≡ get_or space.runs k next) same next-is)
    (last-run space run last at here follows last-is).1
    (next-run space run next at here precedes next-is).0
    (removed-is ∙ ap (remove space.runs) same)
