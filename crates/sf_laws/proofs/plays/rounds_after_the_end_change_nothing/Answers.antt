use Rattle.sf_laws.proofs.PlayLemmas.{plays_sound}
use Rattle.sf_laws.proofs.RoundLemmas.{over_rounds, ended_over, stopped}
use Rattle.sf_laws.proofs.plays.rounds_after_the_end_change_nothing.Goals as goal

pub returns-clause-round_history : goal.returns-clause-round_history
returns-clause-round_history c options calls p n without sound all = (over_rounds options calls n p (ended_over options calls p (plays_sound options calls p without sound) all)).history

pub returns-clause-round_places : goal.returns-clause-round_places
returns-clause-round_places c options calls p n without sound all = (over_rounds options calls n p (ended_over options calls p (plays_sound options calls p without sound) all)).places

pub returns-clause-stop_history : goal.returns-clause-stop_history
returns-clause-stop_history c options calls schedule n without of all = (stopped options calls schedule n without of all).history

pub returns-clause-stop_places : goal.returns-clause-stop_places
returns-clause-stop_places c options calls schedule n without of all = (stopped options calls schedule n without of all).places
