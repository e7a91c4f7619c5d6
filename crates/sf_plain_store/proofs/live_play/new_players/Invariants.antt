use Rattle.std.proofs.Common.{◌≡◌, map}
use Rattle.std.specs.List.{range_with_len}
use Rattle.sf_plain_store.specs.Inside.Players.{new_player}
use Rattle.sf_plain_store.proofs.live_play.new_players.Given as goal

abbrev pub invariant-loop-at : goal.invariant-loop-at
invariant-loop-at l = l.players.items ≡ map (new_player l.gather) (range_with_len 1 l.at)
