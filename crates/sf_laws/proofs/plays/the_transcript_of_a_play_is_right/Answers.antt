use Rattle.sf_types.specs.Play.Turns.{play_for, enough_rounds}
use Rattle.sf_laws.proofs.PlayTranscriptLemmas.{right, free_at_end}
use Rattle.sf_laws.proofs.RoundLemmas.{end_over}
use Rattle.sf_laws.proofs.plays.the_transcript_of_a_play_is_right.Goals as goal

pub returns-clause-right : goal.returns-clause-right
returns-clause-right c options calls schedule without of = right options calls (play_for options calls schedule (enough_rounds calls)) (end_over options calls schedule without of)

pub returns-clause-free : goal.returns-clause-free
returns-clause-free c options calls schedule without of = free_at_end options calls (play_for options calls schedule (enough_rounds calls)) (end_over options calls schedule without of)
