use Rattle.std.proofs.Common.{◌≡◌, ◌∙◌, ℕ, ◌+◌, ◌≤◌, ◌<◌, ◌^◌, ◌++◌, ◌∷◌, [], List, length, take, get_or, not, refl, ap, sym, subst, arith, append_assoc}
use Rattle.std.specs.Prelude.{All, nat_lt}
use Rattle.std.proofs.lemmas.Grind.{flat_map-append}
use Rattle.std.proofs.lemmas.List.{append-nil, length-append, take_more}
use Rattle.std.proofs.lemmas.List.Elements.{All-get_or, All-weaker}
use Rattle.std.proofs.lemmas.List.Filters.{length-filter_both}
use Rattle.std.proofs.lemmas.List.Folds.{length-flat_map-take}
use Rattle.std.proofs.lemmas.List.Sums.{sum_by_more, sum_by_more_le}
use Rattle.sf_types.specs.declared.birth_runs.BirthRuns.{BirthRuns}
use Rattle.sf_types.specs.declared.run.Run.{Run}
use Rattle.sf_types.specs.Space.BlockRuns.{blocks_in}
use Rattle.sf_free_commit.specs.Batches.{runs_with_blocks}
use Rattle.sf_shrink.specs.Plans.{blocks_of_places}
use Rattle.sf_stock.proofs.parts.park_all.Goals as goal

fewer_runs : (runs : List Run) → length (runs_with_blocks runs) ≤ length runs
fewer_runs runs = omega (arith, length-filter_both (λ (run : Run). nat_lt 0 run.blocks) (λ run. not (nat_lt 0 run.blocks)) (λ _. refl) runs)

pub park_within-requires-clause-numbers : goal.park_within-requires-clause-numbers
park_within-requires-clause-numbers c =
    let xs = c.args.places.now in
    let x = c.place-item.result in
    let own : All (λ block. block < 2 ^ 32) (blocks_in (get_or xs c.loop-place.place-index x).runs) =
    All-get_or (λ (place : BirthRuns). All (λ block. block < 2 ^ 32) (blocks_in place.runs)) xs c.loop-place.place-index x c.loop-place-test.true c.requires.below in
    let its : All (λ block. block < 2 ^ 32) (blocks_in x.runs) = subst (λ place. All (λ block. block < 2 ^ 32) (blocks_in place.runs)) (sym c.place-item.is) own in
    All-weaker (λ block. block < 2 ^ 32) (λ block. block ≤ 4294967295) (λ block less. omega (arith, less)) (blocks_in c.as_slice.result.now)
    (subst (λ rs. All (λ block. block < 2 ^ 32) (blocks_in rs)) (sym c.as_slice.ensures) its)

pub park_within-requires-clause-few : goal.park_within-requires-clause-few
park_within-requires-clause-few c =
    let xs = c.args.places.now in
    let k = c.loop-place.place-index in
    let x = c.place-item.result in
    omega (
      arith,
      c.requires.few,
      ap length c.loop-place.invariant.blocks,
      length-append (blocks_in c.args.parked.now.held) (blocks_of_places (take k xs)),
      length-flat_map-take (λ (place : BirthRuns). blocks_in place.runs) xs k x c.loop-place-test.true,
      ap (λ place. length (blocks_in place.runs)) c.place-item.is,
      ap (λ rs. length (blocks_in rs)) c.as_slice.ensures,
    )

pub park_within-requires-clause-room : goal.park_within-requires-clause-room
park_within-requires-clause-room c =
    let xs = c.args.places.now in
    let k = c.loop-place.place-index in
    let x = c.place-item.result in
    omega (
      arith,
      fewer_runs c.as_slice.result.now,
      c.requires.room,
      c.loop-place.invariant.spare,
      c.loop-place.invariant.runs,
      sum_by_more_le (λ (place : BirthRuns). length place.runs) xs k x c.loop-place-test.true,
      ap (λ place. length place.runs) c.place-item.is,
      ap length c.as_slice.ensures,
    )

pub overflow_add-runs : goal.overflow_add-runs
overflow_add-runs c =
    let xs = c.args.places.now in
    let k = c.loop-place.place-index in
    let x = c.place-item.result in
    omega (
      arith,
      c.requires.number,
      c.loop-place.invariant.runs,
      sum_by_more_le (λ (place : BirthRuns). length place.runs) xs k x c.loop-place-test.true,
      ap (λ place. length place.runs) c.place-item.is,
      c.len.ensures,
    )

pub loop-place-preserved : goal.loop-place-preserved
loop-place-preserved c =
    let xs = c.args.places.now in
    let k = c.loop-place.place-index in
    let x = c.place-item.result in
    let old = c.args.parked.now.held in
    let own = ap (λ place. blocks_in place.runs) c.place-item.is in
    let more : blocks_of_places (take (k + 1) xs) ≡ blocks_of_places (take k xs) ++ blocks_in (get_or xs k x).runs =
    ap blocks_of_places (take_more xs k x c.loop-place-test.true) ∙ flat_map-append (λ (place : BirthRuns). blocks_in place.runs) (take k xs) (get_or xs k x ∷ [])
    ∙ ap (λ (bs : List ℕ). blocks_of_places (take k xs) ++ bs) (append-nil (blocks_in (get_or xs k x).runs)) in
    record {
      blocks =
          c.park_within.ensures.blocks
          ∙ ap (λ bs. bs ++ blocks_in c.as_slice.result.now) c.loop-place.invariant.blocks
          ∙ append_assoc (blocks_in old) (blocks_of_places (take k xs)) (blocks_in c.as_slice.result.now)
          ∙ ap (λ rs. blocks_in old ++ (blocks_of_places (take k xs) ++ blocks_in rs)) c.as_slice.ensures
          ∙ ap (λ bs. blocks_in old ++ (blocks_of_places (take k xs) ++ bs)) own
          ∙ ap (λ bs. blocks_in old ++ bs) (sym more);
      runs = omega (arith, c.loop-place.invariant.runs, sum_by_more (λ (place : BirthRuns). length place.runs) xs k x c.loop-place-test.true, ap (λ place. length place.runs) c.place-item.is, c.len.ensures);
      spare = omega (arith, c.loop-place.invariant.spare, c.park_within.ensures.spare, fewer_runs c.as_slice.result.now, ap length c.as_slice.ensures, c.len.ensures);
    }
