use Rattle.std.proofs.Common.{◌≡◌, [], ◌∷◌, ◌++◌, length, ap, arith}
use Rattle.std.proofs.lemmas.List.{length-append}
use Rattle.std.proofs.lemmas.List.FromFn.{length-range_with_len}
use Rattle.sf_types.specs.Space.BlockRuns.{blocks_in, blocks_in_run}
use Rattle.sf_stock.proofs.JoinLemmas.{blocks_pushed}
use Rattle.sf_stock.proofs.joining.push_joined.Goals as goal

pub push_behind-requires-clause-few : goal.push_behind-requires-clause-few
push_behind-requires-clause-few c =
    let rest = c.pop.new.self.items in
    let last = c.in-Some.last in
    let is : c.args.runs.now.items ≡ rest ++ last ∷ [] = c.in-Some.ensures.items in
    omega (arith, c.requires.few, ap (λ rs. length (blocks_in rs)) is, ap length (blocks_pushed rest last), length-append (blocks_in rest) (blocks_in_run last), length-range_with_len last.first last.blocks)
