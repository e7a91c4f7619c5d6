use Rattle.std.proofs.Common.{ℕ, List, get_or, sym, subst, ap, ◌∙◌}
use Rattle.sf_types.specs.Space.BlockRuns.{blocks_in, blocks_in_run}
use Rattle.sf_types.proofs.RunLemmas.{no_run}
use Rattle.sf_space_words.specs.Blocks.{without_blocks, Covers}
use Rattle.sf_space_words.specs.Seats.{BlockSeat}
use Rattle.sf_reclaimer.proofs.LeftLemmas.{without-none}
use Rattle.sf_reclaimer.proofs.StepLemmas.{run_covers, run_left}
use Rattle.sf_reclaimer.proofs.runs.release.Goals as goal

pub loop-run-init : goal.loop-run-init
loop-run-init c = ap (λ (l : List ℕ). record c.args.seat.now { blocks = l }) (sym (without-none c.args.seat.now.blocks))

pub release_run-requires-clause-blocks : goal.release_run-requires-clause-blocks
release_run-requires-clause-blocks c =
    let runs = c.as_slice-run-items.result.now in
    let k = c.loop-run.run-index in
    let covers : Covers c.args.seat.now.blocks (blocks_in runs) = subst (λ rs. Covers c.args.seat.now.blocks (blocks_in rs)) (sym c.as_slice-run-items.ensures) c.requires.blocks in
    subst (λ s. Covers s.blocks (blocks_in_run (get_or runs k no_run))) (sym c.loop-run.invariant) (run_covers c.args.seat.now.blocks runs k c.loop-run-test.true c.is_sound.ensures.once covers)

pub loop-run-preserved : goal.loop-run-preserved
loop-run-preserved c =
    let runs = c.as_slice-run-items.result.now in
    let k = c.loop-run.run-index in
    let without_run : BlockSeat → BlockSeat = λ s. record s { blocks = without_blocks (blocks_in_run (get_or runs k no_run)) s.blocks } in
    c.release_run.ensures
    ∙ (ap without_run c.loop-run.invariant
    ∙ ap (λ (l : List ℕ). record c.args.seat.now { blocks = l }) (run_left c.args.seat.now.blocks runs k c.loop-run-test.true))
