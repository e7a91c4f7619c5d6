use Rattle.std.proofs.Common.{◌∙◌}
use Rattle.sf_store_half.proofs.publications.plan_changes.Goals as goal

pub settle_changes-requires : goal.settle_changes-requires
settle_changes-requires c = c.in_ok-plan.ensures.bytes ∙ c.requires.bytes
