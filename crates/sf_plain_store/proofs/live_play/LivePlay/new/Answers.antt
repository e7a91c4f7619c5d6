use Rattle.sf_plain_store.specs.declared.live_play.LivePlay.{LivePlay}
use Rattle.sf_plain_store.proofs.PlayEndLemmas.{started_of}
use Rattle.sf_plain_store.proofs.live_play.LivePlay.new.Goals as goal

pub returns-clause-under : goal.returns-clause-under
returns-clause-under c =
    let live : LivePlay = record { store = c.in_ok-new.field-0; players = c.in_ok-new_players.field-0 } in
    let made = c.in_ok-new.ensures in
    (started_of c.args.script.now live c.options-options.ensures.script c.options-options.ensures.value c.sessions-sessions.ensures.value made.options made.sessions made.stage made.home c.in_ok-new_players.ensures).under

pub returns-clause-start : goal.returns-clause-start
returns-clause-start c =
    let live : LivePlay = record { store = c.in_ok-new.field-0; players = c.in_ok-new_players.field-0 } in
    let made = c.in_ok-new.ensures in
    (started_of c.args.script.now live c.options-options.ensures.script c.options-options.ensures.value c.sessions-sessions.ensures.value made.options made.sessions made.stage made.home c.in_ok-new_players.ensures).playing
