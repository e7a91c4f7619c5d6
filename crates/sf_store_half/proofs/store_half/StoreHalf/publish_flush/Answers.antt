use Rattle.std.proofs.Common.{List, ap, subst, ◌∙◌}
use Rattle.sf_types.specs.declared.memory.OutOfMemory.{OutOfMemory}
use Rattle.sf_types.specs.Space.BlockRuns.{blocks_in}
use Rattle.sf_types.specs.Space.Cuts.{Cut}
use Rattle.sf_types.specs.Halves.Flushes.{half_publish}
use Rattle.sf_versions.specs.Asks.{request_of_part}
use Rattle.sf_store_half.specs.Fields.{Fields}
use Rattle.sf_store_half.specs.HalfMoves.{cuts_in}
use Rattle.sf_store_half.specs.Inside.Answered.{IsPublished}
use Rattle.sf_store_half.proofs.store_half.StoreHalf.publish_flush.Goals as goal

pub returns : goal.returns
returns c =
    let flush = c.args.flush in
    subst (λ (of : List Cut). IsPublished {E = OutOfMemory} c.args.self.now c.publish_part.new.self (λ h. half_publish h c.args.session (request_of_part flush.ask.part) of flush.ask.kept) (blocks_in c.args.runs.held) c.publish_part.result)
    (c.in_ok-cuts.ensures ∙ ap (λ (x : Fields). cuts_in x.options flush) c.self.view_is) c.publish_part.ensures
