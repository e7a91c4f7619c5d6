use Rattle.sf_types.specs.Play.Turns.{start_of, after_turn, after_turns}
use Rattle.sf_laws.proofs.PlayLemmas.{sound_plays, plays_sound, start_plays, stepped, stepped_on}
use Rattle.sf_laws.proofs.plays.a_play_keeps_to_its_script.Goals as goal

pub returns-clause-opening : goal.returns-clause-opening
returns-clause-opening c options calls without = sound_plays options calls (start_of options calls) (start_plays options calls without)

pub returns-clause-turn : goal.returns-clause-turn
returns-clause-turn c options calls p turn without of sound =
    sound_plays options calls (after_turn turn p) (stepped options calls p turn (plays_sound options calls p without sound) of).plays

pub returns-clause-turns : goal.returns-clause-turns
returns-clause-turns c options calls turns without of =
    sound_plays options calls (after_turns turns (start_of options calls)) (stepped_on options calls (start_of options calls) turns (start_plays options calls without) of).plays
