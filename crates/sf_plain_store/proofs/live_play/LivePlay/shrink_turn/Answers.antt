use Rattle.std.proofs.Common.{refl}
use Rattle.sf_plain_store.specs.declared.live_play.LivePlay.{LivePlay}
use Rattle.sf_plain_store.proofs.PlayLiveLemmas.{shrink_moved, shrink_playing}
use Rattle.sf_plain_store.proofs.live_play.LivePlay.shrink_turn.Goals as goal

pub returns-clause-under : goal.returns-clause-under
returns-clause-under c = λ script under.
    let after : LivePlay = record { store = c.shrink.new.self; players = c.args.self.now.players } in
    shrink_moved script c.args.self.now after under c.in_ok-_is_shrunk.ensures.store c.in_ok-_is_shrunk.ensures.cores refl

pub returns-clause-turn : goal.returns-clause-turn
returns-clause-turn c = λ calls.
    let after : LivePlay = record { store = c.shrink.new.self; players = c.args.self.now.players } in
    shrink_playing calls c.args.self.now after c.in_ok-_is_shrunk.ensures.store refl
