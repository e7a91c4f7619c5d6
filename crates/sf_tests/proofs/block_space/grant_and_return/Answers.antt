use Rattle.std.proofs.Common.{◌∙◌, ap, sym, subst, rules}
use Rattle.sf_block_space.specs.Free.{FreeSpace, Gains}
use Rattle.sf_tests.proofs.BlockSpaceLemmas.{returned-same}
use Rattle.sf_tests.proofs.block_space.grant_and_return.Goals as goal

pub returns : goal.returns
returns c =
    let old = c.args.space.now.held in
    let granted = c.in_ok-granted.granted.held in
    let between = c.make_room.new.self.held in
    let kept = c.make_room.ensures.held in
    let back : Gains between.runs c.give_back.new.self.held.runs granted = search rules in
    returned-same old between c.give_back.new.self.held granted c.requires.order c.give_back.ensures.order
    (ap (λ (s : FreeSpace). s.capacity) kept ∙ c.in_ok-granted.ensures.capacity)
    c.give_back.ensures.capacity
    (subst (λ (s : FreeSpace). Gains s.runs old.runs granted) (sym kept) c.in_ok-granted.ensures.left)
    back
