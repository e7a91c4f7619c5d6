use Rattle.std.proofs.Common.{◌≡◌, ◌≤◌, ℕ, List, map, drop, ◌++◌, ◌∙◌, length, sym, ap, subst, arith}
use Rattle.sf_types.specs.declared.birth_runs.BirthRuns.{BirthRuns}
use Rattle.sf_shrink.specs.declared.shifts.Shift.{Shift}
use Rattle.std.proofs.lemmas.List.{append-nil, drop_all}
use Rattle.sf_shrink.specs.declared.shifts.TheConstants.{MOST_BLOCKS}
use Rattle.sf_shrink.specs.Plans.{planned, planned_shifts, shifted_to, IsSafeWithoutGap}
use Rattle.sf_shrink.proofs.PlanLemmas.{place-within, planned-rule, planned-safe}
use Rattle.sf_shrink.proofs.shifts.plan.Goals as goal

pub block_count-blocks-requires : goal.block_count-blocks-requires
block_count-blocks-requires c =
    omega (arith, place-within c.args.places.now c.as_slice-place-items.result.now c.loop-place.place-index c.place-item.result MOST_BLOCKS c.requires c.as_slice-place-items.ensures c.loop-place-test.true c.place-item.is)

pub overflow_cast-blocks : goal.overflow_cast-blocks
overflow_cast-blocks c =
    omega (arith, c.block_count-blocks.ensures, place-within c.args.places.now c.as_slice-place-items.result.now c.loop-place.place-index c.place-item.result MOST_BLOCKS c.requires c.as_slice-place-items.ensures c.loop-place-test.true c.place-item.is)

pub overflow_add-start : goal.overflow_add-start
overflow_add-start c =
    omega (arith, c.block_count-blocks.ensures, c.loop-place.invariant.start, place-within c.args.places.now c.as_slice-place-items.result.now c.loop-place.place-index c.place-item.result MOST_BLOCKS c.requires c.as_slice-place-items.ensures c.loop-place-test.true c.place-item.is)

planned-all : (shifts : List Shift) (start : ℕ) (index : ℕ) (items places : List BirthRuns) → length items ≤ index → shifts ++ planned_shifts start (drop index items) ≡ planned items → items ≡ places → shifts ≡ planned places
planned-all shifts start index items places past all same =
    sym (append-nil shifts)
    ∙ ap (λ (left : List BirthRuns). shifts ++ planned_shifts start left) (sym (drop_all index items past))
    ∙ all
    ∙ ap planned same

pub returns-clause-rule : goal.returns-clause-rule
returns-clause-rule c =
    let is = planned-all c.loop-place.shifts c.loop-place.start c.loop-place.place-index c.as_slice-place-items.result.now c.args.places.now c.loop-place-test.false c.loop-place.invariant.shifts c.as_slice-place-items.ensures in
    ap (map shifted_to) is ∙ planned-rule c.args.places.now

pub returns-clause-safe : goal.returns-clause-safe
returns-clause-safe c capacity placed =
    let is = planned-all c.loop-place.shifts c.loop-place.start c.loop-place.place-index c.as_slice-place-items.result.now c.args.places.now c.loop-place-test.false c.loop-place.invariant.shifts c.as_slice-place-items.ensures in
    subst (λ (shifts : List Shift). IsSafeWithoutGap c.args.places.now shifts capacity) (sym is) (planned-safe c.args.places.now capacity placed)
