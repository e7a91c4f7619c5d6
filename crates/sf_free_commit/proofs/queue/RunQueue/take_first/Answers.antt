use Rattle.std.proofs.Common.{◌+◌, ◌≤◌, rules, arith}
use Rattle.std.proofs.lemmas.List.Elements.{All-cons, All-drop}
use Rattle.sf_free_commit.specs.Batches.{IsParkable}
use Rattle.sf_free_commit.proofs.queue.RunQueue.take_first.Goals as goal

pub invariant_of-self : goal.invariant_of-self
invariant_of-self c = rw c.pop_front.ensures.rest (All-drop IsParkable 1 c.self.inside.runs.items c.self.invariant)

pub invariant_of-self-2 : goal.invariant_of-self-2
invariant_of-self-2 c =
    let run = c.unwrap-run.result in
    let ends : run.first + run.blocks ≤ 4294967296 = search rules in
    rw (c.push_front_reserved.ensures.items, c.pop_front.ensures.rest)
    (All-cons IsParkable _ _ (omega (arith, c.if-from-most.false), omega (arith, ends, c.if-from-most.false)) (All-drop IsParkable 1 c.self.inside.runs.items c.self.invariant))
