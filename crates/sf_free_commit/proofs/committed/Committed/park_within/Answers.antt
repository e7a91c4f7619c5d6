use Rattle.std.proofs.Common.{◌≡◌, ℕ, ◌+◌, ◌-◌, ◌≤◌, List, [], ◌∷◌, ◌++◌, length, take, get_or, sym, ap, ◌∙◌, append_assoc, arith}
use Rattle.std.proofs.lemmas.Grind.{flat_map-append}
use Rattle.std.proofs.lemmas.List.{length-append, take_all}
use Rattle.std.proofs.lemmas.List.FromFn.{length-range_with_len}
use Rattle.sf_types.specs.declared.run.Run.{Run}
use Rattle.sf_types.specs.Space.BlockRuns.{blocks_in, blocks_in_run}
use Rattle.sf_types.proofs.RunLemmas.{no_run, of-block, push-blocks, next-blocks, next-count}
use Rattle.sf_free_commit.specs.Batches.{runs_with_blocks}
use Rattle.sf_free_commit.proofs.ParkLemmas.{next-with-blocks, next-without, first-few, blocks-with-blocks}
use Rattle.sf_free_commit.proofs.committed.Committed.park_within.Goals.{then-run-gt0, else-run-gt0}
use Rattle.sf_free_commit.proofs.committed.Committed.park_within.Goals as goal

pub push_within-requires-clause-room : goal.push_within-requires-clause-room
push_within-requires-clause-room c =
    let runs = c.args.runs.now in
    let k = c.loop-run.run-index in
    let next = next-with-blocks runs k c.loop-run-test.true c.if-run-gt0.true in
    omega (arith, c.loop-run.invariant.room, c.requires.room, ap (λ v. v.spare) c.self.view_is, ap length next, length-append (runs_with_blocks (take k runs)) (get_or runs k no_run ∷ []), first-few runs (k + 1))

pub push_within-requires-clause-run : goal.push_within-requires-clause-run
push_within-requires-clause-run c =
    let runs = c.args.runs.now in
    let k = c.loop-run.run-index in
    let run = get_or runs k no_run in
    let last = of-block (λ block. block ≤ 4294967295) runs k (run.first + (run.blocks - 1)) c.loop-run-test.true (omega arith) (omega (arith, c.if-run-gt0.true)) c.requires.numbers in
    (omega (arith, c.if-run-gt0.true), omega (arith, last, c.if-run-gt0.true))

pub overflow_add-self : goal.overflow_add-self
overflow_add-self c =
    let runs = c.args.runs.now in
    let old = c.loop-run.invariant in
    omega (arith, old.count, old.blocks, c.from.ensures, next-count runs c.loop-run.run-index c.loop-run-test.true, ap (λ v. length (blocks_in v.held)) c.self.view_is, c.requires.few)

pub loop-run-preserved : goal.loop-run-preserved
loop-run-preserved c =
    let runs = c.args.runs.now in
    let k = c.loop-run.run-index in
    let run = get_or runs k no_run in
    let old = c.loop-run.invariant in
    let first = c.self.inside.queue.held in
    let parked = runs_with_blocks (take k runs) in
    let held = c.loop-run.self-inside.queue.held in
    let blocks = next-blocks runs k c.loop-run-test.true in
    let size = length-range_with_len run.first run.blocks in
    let both = length-append (blocks_in (take k runs)) (blocks_in_run run) in
    elim c.if-run-gt0.branch [
      | then-run-gt0 w ↦
          let next = next-with-blocks runs k c.loop-run-test.true w.if-run-gt0.true in
          let pushed = push-blocks held w.push_within.new.self.held run w.push_within.ensures.runs in
          let sum = length-append (blocks_in held) (blocks_in_run run) in
          rw w.self-inside-is
          (record {
            runs = w.push_within.ensures.runs ∙ ap (λ (xs : List Run). xs ++ run ∷ []) old.runs ∙ append_assoc first parked (run ∷ []) ∙ ap (λ (xs : List Run). first ++ xs) (sym next);
            blocks = omega (arith, ap length pushed, sum, old.blocks, ap length blocks, both, size);
            count = omega (arith, ap length pushed, sum, old.count, w.from.ensures, size);
            room = omega (arith, old.room, w.push_within.ensures.spare, ap length next, length-append parked (run ∷ []));
          })
      | else-run-gt0 w ↦
          let next = next-without runs k c.loop-run-test.true w.if-run-gt0.false in
          rw w.self-inside-is
          (record {
            runs = old.runs ∙ ap (λ (xs : List Run). first ++ xs) (sym next);
            blocks = omega (arith, old.blocks, ap length blocks, both, size, w.if-run-gt0.false);
            count = old.count;
            room = omega (arith, old.room, ap length next);
          })
    ]

pub returns-clause-blocks : goal.returns-clause-blocks
returns-clause-blocks c =
    let old = c.args.self.now.held in
    let runs = c.args.runs.now in
    let is : c.loop-run.self-inside.queue.held ≡ old ++ runs_with_blocks runs =
    c.loop-run.invariant.runs
    ∙ ap (λ (xs : List Run). c.self.inside.queue.held ++ runs_with_blocks xs) (take_all c.loop-run.run-index runs c.loop-run-test.false)
    ∙ ap (λ v. v.held ++ runs_with_blocks runs) c.self.view_is in
    ap blocks_in is
    ∙ flat_map-append blocks_in_run old (runs_with_blocks runs)
    ∙ ap (λ (xs : List ℕ). blocks_in old ++ xs) (blocks-with-blocks runs)
