use Rattle.sf_types.specs.Play.Turns.{empty_stage, action_at, stage_after, stage_after_reclaim, stage_after_shrink}
use Rattle.sf_laws.proofs.StageLemmas.{holds_sound, sound_holds, action_keeps, reclaimed_keeps, shrunk_keeps, empty_holds}
use Rattle.sf_laws.proofs.turns.a_stage_stays_sound.Goals as goal

pub returns-clause-opening : goal.returns-clause-opening
returns-clause-opening c options sessions = sound_holds options sessions (empty_stage options sessions) (empty_holds options sessions)

pub returns-clause-action : goal.returns-clause-action
returns-clause-action c options sessions x s locals call sound at =
    sound_holds options sessions (stage_after x s locals call (action_at x s locals call)) (action_keeps options sessions x s locals call (holds_sound options sessions x sound) at)

pub returns-clause-reclaim : goal.returns-clause-reclaim
returns-clause-reclaim c options sessions x max sound =
    sound_holds options sessions (stage_after_reclaim max x) (reclaimed_keeps options sessions x max (holds_sound options sessions x sound))

pub returns-clause-shrink : goal.returns-clause-shrink
returns-clause-shrink c options sessions x sound =
    sound_holds options sessions (stage_after_shrink x) (shrunk_keeps options sessions x (holds_sound options sessions x sound))
