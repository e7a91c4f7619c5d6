use Rattle.std.proofs.Common.{sym, ◌∙◌}
use Rattle.sf_store_half.proofs.publications.plan_value.Goals as goal

pub settle_in-requires : goal.settle_in-requires
settle_in-requires c = sym (c.in_ok-plan.ensures.bytes ∙ c.requires.bytes)
