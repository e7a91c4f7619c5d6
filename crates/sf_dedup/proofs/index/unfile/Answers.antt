use Rattle.std.proofs.Common.{not, rules}
use Rattle.std.specs.Prelude.{◌==◌}
use Rattle.std.proofs.lemmas.Fn.{filter_same}
use Rattle.sf_dedup.proofs.index.unfile.Goals as goal

pub returns-then-eq-clause-others : goal.returns-then-eq-clause-others
returns-then-eq-clause-others c = filter_same _ (λ other. not (other == c.args.birth)) _ (λ x b after called. search rules) _ _ c.retain.ensures.filtered

pub returns-else-eq-clause-others : goal.returns-else-eq-clause-others
returns-else-eq-clause-others c = filter_same _ (λ other. not (other == c.args.birth)) _ (λ x b after called. search rules) _ _ c.retain.ensures.filtered
