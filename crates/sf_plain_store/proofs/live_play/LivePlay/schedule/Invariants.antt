use Rattle.std.proofs.Common.{◌≡◌, drop, map}
use Rattle.sf_types.specs.Play.Turns.{after_turns}
use Rattle.sf_plain_store.specs.Inside.Players.{IsUnderPlay, playing_of}
use Rattle.sf_plain_store.specs.Plays.{schedule_of, turn_of}
use Rattle.sf_plain_store.proofs.live_play.LivePlay.schedule.Given as goal

abbrev pub invariant-loop-turn : goal.invariant-loop-turn
invariant-loop-turn l = record {
  under : IsUnderPlay l.script l.self;
  turns : after_turns (map turn_of (drop l.turn-index l.turn-items)) (playing_of l.script.calls l.self) ≡ after_turns (schedule_of l.script) (playing_of l.script.calls l.initial.self);
}
