use Rattle.std.proofs.Common.{◌≡◌, ◌≤◌, ◌<◌, ◌++◌, List, ap, sym, ◌∙◌, subst, rules, arith}
use Rattle.std.specs.Prelude.{All, length}
use Rattle.std.proofs.lemmas.List.{length-append}
use Rattle.std.proofs.lemmas.List.Elements.{All-weaker}
use Rattle.std.proofs.lemmas.List.FromFn.{length-range_with_len}
use Rattle.sf_types.specs.declared.run.Run.{Run}
use Rattle.sf_types.specs.Space.BlockRuns.{blocks_in, blocks_in_run}
use Rattle.sf_types.proofs.RunLemmas.{blocks-within, push-blocks}
use Rattle.sf_tests.proofs.free_commit.park_run.Goals as goal

pub park-requires-clause-numbers : goal.park-requires-clause-numbers
park-requires-clause-numbers c =
    let run : Run = record { first = c.args.first; blocks = c.args.blocks } in
    let is = push-blocks c.new-runs.result.held c.push.new.self.held run c.in_ok-push.ensures.ok ∙ ap (λ (xs : List Run). blocks_in xs ++ blocks_in_run run) c.new-runs.ensures.items in
    subst (All (λ block. block ≤ 4294967295)) (sym is)
    (All-weaker (λ block. block < 4294967296) (λ block. block ≤ 4294967295) (λ block below. omega (arith, below)) (blocks_in_run run) (blocks-within run 4294967296 c.requires.numbers))

pub park-requires-clause-few : goal.park-requires-clause-few
park-requires-clause-few c =
    let run : Run = record { first = c.args.first; blocks = c.args.blocks } in
    let is = push-blocks c.new-runs.result.held c.push.new.self.held run c.in_ok-push.ensures.ok ∙ ap (λ (xs : List Run). blocks_in xs ++ blocks_in_run run) c.new-runs.ensures.items in
    omega (arith, ap length is, length-range_with_len c.args.first c.args.blocks, ap (λ (xs : List Run). length (blocks_in xs)) c.make_room.ensures.held, c.requires.few)

pub returns : goal.returns
returns c =
    let run : Run = record { first = c.args.first; blocks = c.args.blocks } in
    let is = push-blocks c.new-runs.result.held c.push.new.self.held run c.in_ok-push.ensures.ok ∙ ap (λ (xs : List Run). blocks_in xs ++ blocks_in_run run) c.new-runs.ensures.items in
    let parked : blocks_in c.park.new.self.held ≡ blocks_in c.make_room.new.self.held ++ blocks_in c.push.new.self.held = search rules in
    omega (
      arith,
      ap length parked,
      length-append (blocks_in c.make_room.new.self.held) (blocks_in c.push.new.self.held),
      ap length is,
      length-range_with_len c.args.first c.args.blocks,
      ap (λ (xs : List Run). length (blocks_in xs)) c.make_room.ensures.held,
    )
