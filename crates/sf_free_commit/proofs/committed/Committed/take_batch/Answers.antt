use Rattle.std.proofs.Common.{◌≡◌, ℕ, ◌-◌, ◌≤◌, List, [], ◌∷◌, ◌++◌, length, min, sym, ap, ◌∙◌, subst, append_assoc, rules, arith}
use Rattle.std.specs.Prelude.{All}
use Rattle.std.proofs.lemmas.Grind.{flat_map-append}
use Rattle.std.proofs.lemmas.List.{length-append}
use Rattle.std.proofs.lemmas.List.Elements.{All-cons}
use Rattle.sf_types.specs.declared.run.Run.{Run}
use Rattle.sf_types.specs.Space.BlockRuns.{blocks_in, blocks_in_run}
use Rattle.sf_free_commit.specs.Batches.{first_runs, later_runs}
use Rattle.sf_free_commit.proofs.BatchLemmas.{goes, batch-blocks}
use Rattle.sf_free_commit.proofs.committed.Committed.take_batch.Goals as goal

pub overflow_sub-self : goal.overflow_sub-self
overflow_sub-self c =
    let took = c.take_first-run.ensures in
    let went = goes c.loop-rest.self-inside.queue.held c.loop-rest.rest c.take_first-run.result c.take_first-run.new.self.held (omega (arith, c.loop-rest-test.true)) took.size.0 took.taken in
    omega (arith, went.blocks, c.loop-rest.invariant.count, c.from.ensures)

pub loop-rest-preserved : goal.loop-rest-preserved
loop-rest-preserved c =
    let took = c.take_first-run.ensures in
    let run = c.take_first-run.result in
    let rest = c.loop-rest.rest in
    let left = c.take_first-run.new.self.held in
    let held = c.loop-rest.into.held in
    let old = c.loop-rest.invariant in
    let went = goes c.loop-rest.self-inside.queue.held rest run left (omega (arith, c.loop-rest-test.true)) took.size.0 took.taken in
    let pushed = c.push_within.ensures.items in
    let size = length-append held (run ∷ []) in
    let first : first_runs (rest - c.from-rest.result) left ≡ first_runs (rest - run.blocks) left = ap (λ k. first_runs (rest - k) left) c.from-rest.ensures in
    record {
      batch = ap (λ (xs : List Run). xs ++ first_runs (rest - c.from-rest.result) left) pushed
          ∙ append_assoc held (run ∷ []) (first_runs (rest - c.from-rest.result) left)
          ∙ ap (λ (xs : List Run). held ++ run ∷ xs) first
          ∙ ap (λ (xs : List Run). held ++ xs) (sym went.first)
          ∙ old.batch;
      left = ap (λ k. later_runs (rest - k) left) c.from-rest.ensures ∙ sym went.later ∙ old.left;
      rest = omega (arith, old.rest);
      blocks = omega (arith, old.blocks, went.blocks, c.from-rest.ensures, took.size);
      count = omega (arith, old.count, went.blocks, c.from.ensures);
      some = λ all. old.some
          (subst (All (λ run. 1 ≤ run.blocks)) (sym went.first)
          (All-cons (λ run. 1 ≤ run.blocks) run (first_runs (rest - run.blocks) left) took.size.0 (subst (All (λ run. 1 ≤ run.blocks)) first all)));
      few = omega (arith, old.few, went.room, c.from-rest.ensures, ap length pushed, size);
      room = omega (arith, old.room, went.room, c.from-rest.ensures, c.push_within.ensures.spare);
      into = omega (arith, old.into, ap length pushed, size, c.push_within.ensures.spare);
      spare = omega (arith, old.spare, took.spare);
    }

pub returns-clause-taken : goal.returns-clause-taken
returns-clause-taken c =
    let into = c.args.into.now.held in
    let old = c.args.self.now.held in
    let taken = c.args.max - c.loop-rest.rest in
    let batch : c.loop-rest.into.held ≡ into ++ first_runs c.args.max old = search rules in
    let count : taken ≡ min c.args.max (length (blocks_in old)) = search (rules, arith) in
    ap blocks_in batch
    ∙ flat_map-append blocks_in_run into (first_runs c.args.max old)
    ∙ ap (λ (xs : List ℕ). blocks_in into ++ xs) (batch-blocks c.args.max taken old count).0

pub returns-clause-left_blocks : goal.returns-clause-left_blocks
returns-clause-left_blocks c =
    let old = c.args.self.now.held in
    let taken = c.args.max - c.loop-rest.rest in
    let left : c.loop-rest-test.self.held ≡ later_runs c.args.max old = search rules in
    let count : taken ≡ min c.args.max (length (blocks_in old)) = search (rules, arith) in
    ap blocks_in left ∙ (batch-blocks c.args.max taken old count).1
