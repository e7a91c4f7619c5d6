use Rattle.std.proofs.Common.{sym, ◌∙◌}
use Rattle.sf_own_part.proofs.LockedLemmas.{up_to_place, up_to_all}
use Rattle.sf_own_part.proofs.kept_births.up_to.Goals as goal

pub returns-in-Some : goal.returns-in-Some
returns-in-Some c = up_to_place c.args.name.now c.args.savepoints.now c.in-Some.at (sym c.position_of.ensures ∙ c.in-Some.is)

pub returns-in-None : goal.returns-in-None
returns-in-None c = up_to_all c.args.name.now c.args.savepoints.now (sym c.position_of.ensures ∙ c.in-None.is)
