use Rattle.std.proofs.Common.{◌∙◌, ap, sym}
use Rattle.std.specs.Option.{option_copied}
use Rattle.sf_lifetimes.specs.Inside.Counts.{live_runs}
use Rattle.sf_lifetimes.proofs.place_map.PlaceMap.runs_of.Goals as goal

pub returns-in-Some : goal.returns-in-Some
returns-in-Some c = c.runs_if_held.ensures ∙ ap live_runs (sym (sym c.get.ensures ∙ ap option_copied c.in-Some.is))

pub returns-in-None : goal.returns-in-None
returns-in-None c = ap live_runs (sym (sym c.get.ensures ∙ ap option_copied c.in-None.is))
