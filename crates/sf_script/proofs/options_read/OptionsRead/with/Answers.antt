use Rattle.sf_script.proofs.DraftLemmas.{with_option_in_range}
use Rattle.sf_script.proofs.options_read.OptionsRead.with.Goals as goal

pub invariant_of-result : goal.invariant_of-result
invariant_of-result c = rw c.with_option.ensures (with_option_in_range c.self.inside.options c.args.option c.self.invariant c.requires)
