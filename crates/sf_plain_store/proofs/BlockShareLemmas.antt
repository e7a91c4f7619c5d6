-- The free, parked and collected blocks of a store stand apart.
use Rattle.std.proofs.Common.{◌≡◌, ℕ, zero, suc, ◌+◌, ◌-◌, ◌≤◌, ◌<◌, Bool, true, false, IsTrue, List, [], ◌∷◌, ◌++◌, length, take, drop, Option, Some, refl, sym, ap, ◌∙◌, arith}
use Rattle.std.specs.Prelude.{◌≢◌, nat_eq, sum_by, slice_index_or, All, AllPairs, Contains}
use Rattle.std.specs.List.{AllByRecursion as Each, list_any, range_with_len}
use Rattle.std.proofs.lemmas.List.Elements.{All-from_recursion, recursion_from_All}
use Rattle.std.proofs.lemmas.List.Sums.{sum_by-append, sum_by-cons, sum_by-set, sum_by-take-drop}
use Rattle.std.proofs.lemmas.List.FromFn.{length-range_with_len}
use Rattle.sf_types.specs.declared.run.Run.{Run}
use Rattle.sf_types.specs.Table.Parts.{Promise, Table}
use Rattle.sf_types.specs.Table.Sessions.{has_session, session_of}
use Rattle.sf_types.specs.Space.BlockRuns.{blocks_in}
use Rattle.sf_types.specs.Space.Grants.{granted_blocks}
use Rattle.sf_types.specs.Space.Placings.{all_blocks}
use Rattle.sf_types.specs.Play.Blocks.{Space, after_collection, after_reclaim, collected_by, is_among}
use Rattle.sf_types.proofs.NumberLemmas.{one_less}
use Rattle.sf_laws.proofs.BlockSumLemmas.{count_length, count_of, counted_some, each_counted, from_counted, is_one, once_apart, once_rising}
use Rattle.sf_laws.proofs.EachLemmas.{each_itself, each_weaker}
use Rattle.sf_laws.proofs.PlacingLemmas.{among_counted, range_rises, range_within}
use Rattle.sf_laws.proofs.SpaceLemmas.{HasBlocks, IsCollected, own_list, reclaim_keeps}
use Rattle.sf_block_space.specs.Free.{AreOut, has_block}

once_range : (n b : ℕ) → count_of b (range_with_len 0 n) ≤ 1
once_range n b = (once_rising (range_with_len 0 n) (range_rises 0 n)).most b

-- Blocks stand below a capacity, each once, and in none of some others.
abbrev pub FitBeside : ℕ → List ℕ → List ℕ → Type 0
FitBeside capacity blocks others = (b : ℕ) → count_of b blocks + count_of b others ≤ count_of b (range_with_len 0 capacity)

module _ (capacity : ℕ) (blocks others : List ℕ) (fit : FitBeside capacity blocks others) where
  pub fit_below : All (λ block. block < capacity) blocks
  fit_below = All-from_recursion (λ block. block < capacity) blocks (each_counted (λ block. block < capacity) blocks (λ b le.
      let within = from_counted (λ x. (0 ≤ x) × (x < 0 + capacity)) (range_with_len 0 capacity) b (range_within 0 capacity) (omega (arith, fit b, le)) in
      let high = within.1 in
      omega (arith, high)))

  pub fit_once : AllPairs (λ block other. block ≢ other) blocks
  fit_once = once_apart blocks (record { most = λ b. omega (arith, fit b, once_range capacity b) })

  none_of_others : (b : ℕ) → 1 ≤ count_of b blocks → count_of b others ≡ 0
  none_of_others b some = omega (arith, some, fit b, once_range capacity b)

  pub fit_apart : All (λ block. ¬ (Contains others block)) blocks
  fit_apart = All-from_recursion (λ block. ¬ (Contains others block)) blocks (each_counted (λ block. ¬ (Contains others block)) blocks (λ b le has.
      let some = counted_some others b has in
      absurd (omega (arith, some, none_of_others b le))))

  pub fit_unnamed : All (λ block. is_among others block ≡ false) blocks
  fit_unnamed = All-from_recursion (λ block. is_among others block ≡ false) blocks (each_counted (λ block. is_among others block ≡ false) blocks (λ b le.
      elim (is_among others b) as (λ t. is_among others b ≡ t → t ≡ false) [
        | true ↦ λ is. let some = among_counted b others is in absurd (omega (arith, some, none_of_others b le))
        | false ↦ λ is. refl
      ] refl))

pub fit_out : (capacity : ℕ) (runs : List Run) (blocks : List ℕ) → FitBeside capacity blocks (blocks_in runs) → AreOut (record { capacity = capacity; runs = runs }) blocks
fit_out capacity runs blocks fit = record {
  below = fit_below capacity blocks (blocks_in runs) fit;
  apart = fit_unnamed capacity blocks (blocks_in runs) fit;
  once = fit_once capacity blocks (blocks_in runs) fit;
}

-- ---- the blocks of a space
one_of_all : (f : ℕ → ℕ) (lists : List (List ℕ)) (i : ℕ) → sum_by f (slice_index_or lists i []) ≤ sum_by (λ blocks. sum_by f blocks) lists
one_of_all f [] i = omega arith
one_of_all f (xs ∷ lists) zero = omega (arith, sum_by-cons (λ (blocks : List ℕ). sum_by f blocks) xs lists)
one_of_all f (xs ∷ lists) (suc i) = omega (arith, sum_by-cons (λ (blocks : List ℕ). sum_by f blocks) xs lists, one_of_all f lists i)

module _ (t : Table) (space : Space) (has : HasBlocks t space) where
  pub parked_beside_free : (n : ℕ) → FitBeside t.options.capacity (take n space.parked) space.free
  parked_beside_free n b = omega (arith, has.sums (is_one b), sum_by-take-drop (is_one b) space.parked n)

  pub collected_beside_free : (s k : ℕ) → FitBeside t.options.capacity (drop k (collected_by space s)) space.free
  collected_beside_free s k b = omega (arith, has.sums (is_one b), sum_by-take-drop (is_one b) (collected_by space s) k, one_of_all (is_one b) space.collected (s - 1))

  pub collected_beside_places : (s : ℕ) → FitBeside t.options.capacity (collected_by space s) (all_blocks space.places ++ space.parked)
  collected_beside_places s b = omega (arith, has.sums (is_one b), sum_by-append (is_one b) (all_blocks space.places) space.parked, one_of_all (is_one b) space.collected (s - 1))

  pub few_collected : (s : ℕ) → length (collected_by space s) ≤ t.options.capacity
  few_collected s =
      let one : ℕ → ℕ = λ x. 1 in
      let all = range_with_len 0 t.options.capacity in
      omega (arith, has.sums one, one_of_all one space.collected (s - 1), count_length (collected_by space s), count_length all, length-range_with_len 0 t.options.capacity)

  pub few_placed : length (all_blocks space.places) ≤ t.options.capacity
  few_placed =
      let one : ℕ → ℕ = λ x. 1 in
      let all = range_with_len 0 t.options.capacity in
      omega (arith, has.sums one, count_length (all_blocks space.places), count_length all, length-range_with_len 0 t.options.capacity)

-- a collection takes no more blocks than are free once parked ones are
pub enough_ready : (t : Table) (s n : ℕ) (space : Space) → IsTrue (has_session t s) → collected_by space s ≡ [] → HasBlocks t space → IsCollected t s n space → n ≤ length (after_reclaim (n - length space.free) space).free
enough_ready t s n space has_s none has collected =
    let ready = after_reclaim (n - length space.free) space in
    let got = granted_blocks ready.free n in
    let one : ℕ → ℕ = λ x. 1 in
    let before = (reclaim_keeps t (n - length space.free) space has).sums one in
    let after = collected.has.sums one in
    let inside : s - 1 < length ready.collected = omega (arith, has.lists, one_less s (length t.sessions) has_s) in
    let set = sum_by-set (λ (xs : List ℕ). sum_by one xs) ready.collected (s - 1) got [] inside in
    let size : sum_by one got ≡ n = count_length got ∙ ap (λ (xs : List ℕ). length xs) (sym (own_list ready.collected (s - 1) got [] inside)) ∙ collected.size in
    omega (arith, before, after, set, size, ap (sum_by one) none, count_length ready.free)
