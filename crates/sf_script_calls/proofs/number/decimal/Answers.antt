use Rattle.std.proofs.Common.{sym, ◌∙◌, arith}
use Rattle.sf_script_calls.proofs.DecimalLemmas.{stops_at, ends_at}
use Rattle.sf_script_calls.proofs.number.decimal.Goals as goal

pub returns-in-None : goal.returns-in-None
returns-in-None c = sym (stops_at c.loop-rest.number c.loop-rest.rest.now (omega arith) c.in-None.ensures) ∙ c.loop-rest.invariant.0

pub returns : goal.returns
returns c = sym (ends_at c.loop-rest.number c.loop-rest.rest.now (omega arith) (omega arith)) ∙ c.loop-rest.invariant.0
