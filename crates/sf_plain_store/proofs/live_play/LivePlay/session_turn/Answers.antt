use Rattle.std.proofs.Common.{◌∙◌, refl}
use Rattle.sf_types.specs.Play.Turns.{OfSession}
use Rattle.std.specs.Vec.{with_item}
use Rattle.std.proofs.Common.{◌+◌}
use Rattle.sf_plain_store.specs.declared.live_play.LivePlay.{LivePlay}
use Rattle.sf_plain_store.proofs.PlayLiveLemmas.{session_at, may_turn_at, session_moved_by, moved_under, moved_playing}
use Rattle.sf_plain_store.proofs.live_play.LivePlay.session_turn.Goals as goal

pub turn-requires-clause-player : goal.turn-requires-clause-player
turn-requires-clause-player c =
    let player = c.index_mut.result.now in
    let own = c.as_slice-2.result.now in
    let session = session_at c.args.script.now c.args.self.now c.args.at player c.requires.under c.requires.at c.index_mut.ensures.value (c.as_slice.ensures ∙ c.calls.ensures.value) c.index-as_slice-at.is c.as_slice-2.ensures in
    (may_turn_at c.args.script.now c.args.self.now c.args.at player own c.requires.under c.requires.at session).player_is

pub turn-requires-clause-ended : goal.turn-requires-clause-ended
turn-requires-clause-ended c =
    let player = c.index_mut.result.now in
    let own = c.as_slice-2.result.now in
    let session = session_at c.args.script.now c.args.self.now c.args.at player c.requires.under c.requires.at c.index_mut.ensures.value (c.as_slice.ensures ∙ c.calls.ensures.value) c.index-as_slice-at.is c.as_slice-2.ensures in
    (may_turn_at c.args.script.now c.args.self.now c.args.at player own c.requires.under c.requires.at session).ended

pub turn-requires-clause-no_end : goal.turn-requires-clause-no_end
turn-requires-clause-no_end c =
    let player = c.index_mut.result.now in
    let own = c.as_slice-2.result.now in
    let session = session_at c.args.script.now c.args.self.now c.args.at player c.requires.under c.requires.at c.index_mut.ensures.value (c.as_slice.ensures ∙ c.calls.ensures.value) c.index-as_slice-at.is c.as_slice-2.ensures in
    (may_turn_at c.args.script.now c.args.self.now c.args.at player own c.requires.under c.requires.at session).without

pub returns-clause-under : goal.returns-clause-under
returns-clause-under c =
    let player = c.index_mut.result.now in
    let own = c.as_slice-2.result.now in
    let session = session_at c.args.script.now c.args.self.now c.args.at player c.requires.under c.requires.at c.index_mut.ensures.value (c.as_slice.ensures ∙ c.calls.ensures.value) c.index-as_slice-at.is c.as_slice-2.ensures in
    let after : LivePlay = record { store = c.turn.new.store; players = with_item c.args.self.now.players c.args.at c.turn.new.self } in
    moved_under c.turn.result c.args.script.now (OfSession (c.args.at + 1)) c.args.self.now after (session_moved_by c.turn.result c.args.script.now c.args.self.now after c.args.at player c.turn.new.self own c.requires.under c.requires.at session c.turn.ensures refl)

pub returns-clause-turn : goal.returns-clause-turn
returns-clause-turn c =
    let player = c.index_mut.result.now in
    let own = c.as_slice-2.result.now in
    let session = session_at c.args.script.now c.args.self.now c.args.at player c.requires.under c.requires.at c.index_mut.ensures.value (c.as_slice.ensures ∙ c.calls.ensures.value) c.index-as_slice-at.is c.as_slice-2.ensures in
    let after : LivePlay = record { store = c.turn.new.store; players = with_item c.args.self.now.players c.args.at c.turn.new.self } in
    moved_playing c.turn.result c.args.script.now (OfSession (c.args.at + 1)) c.args.self.now after (session_moved_by c.turn.result c.args.script.now c.args.self.now after c.args.at player c.turn.new.self own c.requires.under c.requires.at session c.turn.ensures refl)
