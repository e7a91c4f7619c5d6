use Rattle.std.proofs.Common.{◌≡◌, ℕ, length}
use Rattle.sf_types.specs.Play.Turns.{after_turns, rounds}
use Rattle.sf_plain_store.specs.Inside.Players.{IsUnderPlay, playing_of}
use Rattle.sf_plain_store.proofs.PlayRoundLemmas.{all_turns_left}
use Rattle.sf_plain_store.proofs.live_play.LivePlay.rounds.Given as goal

abbrev pub invariant-loop-self : goal.invariant-loop-self
invariant-loop-self l = record {
  under : IsUnderPlay l.script l.self;
  rounds : (n : ℕ) × (playing_of l.script.calls l.self ≡ after_turns (rounds (length l.script.calls) n) (playing_of l.script.calls l.initial.self));
}

abbrev pub decreases-loop-self : goal.decreases-loop-self
decreases-loop-self l = all_turns_left (length l.script.calls) (playing_of l.script.calls l.self)
