use Rattle.std.proofs.Common.{◌≡◌, ◌+◌, ◌-◌, map}
use Rattle.std.specs.List.{range_with_len}
use Rattle.sf_types.specs.Play.Turns.{OfSession, after_turns}
use Rattle.sf_plain_store.specs.Inside.Players.{IsUnderPlay, playing_of}
use Rattle.sf_plain_store.proofs.live_play.LivePlay.round.Given as goal

abbrev pub invariant-loop-at : goal.invariant-loop-at
invariant-loop-at l = record {
  under : IsUnderPlay l.script l.self;
  turns : after_turns (map (λ s. OfSession s) (range_with_len (l.at + 1) (l.script.sessions - l.at))) (playing_of l.script.calls l.self)
      ≡ after_turns (map (λ s. OfSession s) (range_with_len 1 l.script.sessions)) (playing_of l.script.calls l.initial.self);
}
