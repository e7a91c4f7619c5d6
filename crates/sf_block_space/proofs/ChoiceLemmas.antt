-- The run that a grant takes next.
use Rattle.std.proofs.Common.{◌≡◌, ℕ, ◌≤◌, ◌<◌, inl, inr, List, Some, length, take, set, get_or, sym, ap, ◌∙◌, subst, arith}
use Rattle.std.specs.Prelude.{All, slice_get}
use Rattle.std.proofs.lemmas.List.{length-take, get_or-take, get_or_default}
use Rattle.std.specs.List.{remove}
use Rattle.std.proofs.lemmas.Option.{get_or_from_slice_get, slice_get_within, slice_get-get_or}
use Rattle.sf_types.specs.declared.run.Run.{Run}
use Rattle.sf_types.specs.Space.BlockRuns.{front_of, rest_of}
use Rattle.sf_types.proofs.RunLemmas.{no_run}
use Rattle.sf_block_space.specs.Inside.{IsNext, IsTaken}

-- what holds below an offset holds of the runs before it
fewer-before : (runs : List Run) (n at : ℕ) → at ≤ length runs → ((k : ℕ) → k < at → (get_or runs k no_run).blocks < n) → All (λ before. before.blocks < n) (take at runs)
fewer-before runs n at within fewer k d less =
    let size = length-take at runs in
    let below : k < at = omega (arith, less, size) in
    let inside : k < length runs = omega (arith, below, within) in
    let is : get_or (take at runs) k d ≡ get_or runs k no_run = get_or-take at runs k d below ∙ get_or_default runs k d no_run inside in
    rw is (fewer k below)

pub first-fit : (runs : List Run) (n at : ℕ) (run : Run) → slice_get runs at ≡ Some run → n ≤ (get_or runs at no_run).blocks → ((k : ℕ) → k < at → (get_or runs k no_run).blocks < n) → IsNext runs n at run
first-fit runs n at run stands enough fewer =
    let within : at < length runs = slice_get_within runs at run stands in
    let is : get_or runs at no_run ≡ run = get_or_from_slice_get runs at run no_run stands in
    inl (record {
      stands = stands;
      enough = subst (λ (r : Run). n ≤ r.blocks) is enough;
      lowest = fewer-before runs n at (omega (arith, within)) fewer;
    })

pub longest : (runs : List Run) (n at : ℕ) (run : Run) → slice_get runs at ≡ Some run → ((k : ℕ) → k < length runs → (get_or runs k no_run).blocks < n)
    → ((k : ℕ) → k < length runs → (get_or runs k no_run).blocks ≤ (get_or runs at no_run).blocks)
    → ((k : ℕ) → k < at → (get_or runs k no_run).blocks < (get_or runs at no_run).blocks) → IsNext runs n at run
longest runs n at run stands fewer most lowest =
    let within : at < length runs = slice_get_within runs at run stands in
    let is : get_or runs at no_run ≡ run = get_or_from_slice_get runs at run no_run stands in
    inr (
      (λ k d less. rw (get_or_default runs k d no_run less) (fewer k less)),
      record {
        stands = stands;
        longest = λ k d less. rw (get_or_default runs k d no_run less) (subst (λ (r : Run). (get_or runs k no_run).blocks ≤ r.blocks) is (most k less));
        lowest = fewer-before runs run.blocks at (omega (arith, within)) (λ k less. subst (λ (r : Run). (get_or runs k no_run).blocks < r.blocks) is (lowest k less));
      },
    )

-- it is taken whole
pub taken-whole : (runs left : List Run) (n at : ℕ) (run taken : Run) → ((next : Run) → slice_get runs at ≡ Some next → IsNext runs n at next) → at < length runs → run ≡ get_or runs at run
    → run.blocks ≤ n → taken ≡ get_or runs at taken → left ≡ remove runs at → IsTaken runs n taken left
taken-whole runs left n at run taken next within is few taken-is left-is =
    let stands : slice_get runs at ≡ Some run = slice_get-get_or runs at run within ∙ ap (λ (r : Run). Some r) (sym is) in
    (at, run, next run stands, inl (few, taken-is ∙ get_or_default runs at taken run within ∙ sym is, left-is))

-- its first blocks are taken
pub taken-front : (runs left : List Run) (n at : ℕ) (run taken : Run) → ((next : Run) → slice_get runs at ≡ Some next → IsNext runs n at next) → at < length runs → run ≡ get_or runs at run
    → n < run.blocks → taken ≡ front_of run n → left ≡ set runs at (rest_of run n) → IsTaken runs n taken left
taken-front runs left n at run taken next within is more taken-is left-is =
    let stands : slice_get runs at ≡ Some run = slice_get-get_or runs at run within ∙ ap (λ (r : Run). Some r) (sym is) in
    (at, run, next run stands, inr (more, taken-is, left-is))
