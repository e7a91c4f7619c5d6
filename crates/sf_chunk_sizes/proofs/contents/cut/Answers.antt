use Rattle.std.proofs.Common.{◌∙◌, rules}
use Rattle.sf_chunk_sizes.proofs.ContentLemmas.{cut-goes-on}
use Rattle.sf_chunk_sizes.proofs.contents.cut.Goals as goal

pub loop-rest-preserved : goal.loop-rest-preserved
loop-rest-preserved c =
    cut-goes-on c.loop-rest.contents c.push.new.self c.loop-rest.rest.now c.in_ok-new.field-0 c.split_at.result.1.now c.min.result
    (search rules) (search rules) (search rules) (search rules) (search rules)
    ∙ c.loop-rest.invariant
