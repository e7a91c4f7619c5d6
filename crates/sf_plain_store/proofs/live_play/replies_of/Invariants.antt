use Rattle.std.proofs.Common.{◌≡◌, map}
use Rattle.sf_plain_store.proofs.live_play.replies_of.Given as goal

abbrev pub invariant-loop-player : goal.invariant-loop-player
invariant-loop-player l = l.replies ≡ map (λ player. player.replies) l.yielded
