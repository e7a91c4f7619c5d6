use Rattle.sf_types.specs.Play.Turns.{play_for, enough_rounds}
use Rattle.sf_laws.proofs.RoundLemmas.{end_over, whole_order, all_ended}
use Rattle.sf_laws.proofs.plays.the_order_of_a_play_is_whole.Goals as goal

pub returns-clause-ended : goal.returns-clause-ended
returns-clause-ended c options calls schedule without of = all_ended options calls (play_for options calls schedule (enough_rounds calls)) (end_over options calls schedule without of)

pub returns-clause-whole : goal.returns-clause-whole
returns-clause-whole c options calls schedule without of = whole_order options calls (play_for options calls schedule (enough_rounds calls)) (end_over options calls schedule without of)
