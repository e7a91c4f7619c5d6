use Rattle.std.proofs.Common.{◌≡◌, ℕ, ◌∙◌, length, List, sym, ap, subst, arith}
use Rattle.std.proofs.lemmas.List.FromFn.{length-range_with_len}
use Rattle.sf_types.specs.Space.BlockRuns.{blocks_in}
use Rattle.sf_block_space.specs.Free.{AreFreeRuns, AreOut}
use Rattle.sf_plain_store.proofs.GrantedFrontLemmas.{left_behind}
use Rattle.sf_plain_store.proofs.shrinks.free_behind.Goals as goal

pub grant-requires : goal.grant-requires
grant-requires c = omega (arith, c.requires.used, ap (λ (bs : List ℕ). length bs) c.in_ok-free.ensures.blocks, length-range_with_len 0 c.args.capacity)

pub returns-clause-blocks : goal.returns-clause-blocks
returns-clause-blocks c =
    let left = c.grant.new.self.held in
    let capacity = c.in_ok-_used.ensures.capacity ∙ c.in_ok-free.ensures.capacity in
    left_behind c.args.capacity c.args.used left.runs c.in_ok-free.free.held.runs c.in_ok-_used._used.held c.requires.some c.requires.used
    (subst (λ n. AreFreeRuns n left.runs) capacity c.in_ok-_used.ensures.order) c.in_ok-free.ensures.order c.in_ok-free.ensures.blocks c.in_ok-_used.ensures.granted c.in_ok-_used.ensures.left
    (subst (λ n. AreOut (record { capacity = n; runs = left.runs }) (blocks_in c.in_ok-_used._used.held)) capacity c.in_ok-_used.ensures.out)
