use Rattle.std.proofs.Common.{◌<◌, ◌≤◌, rules}
use Rattle.sf_plain_store.specs.Inside.Players.{playing_of}
use Rattle.sf_plain_store.proofs.PlayEndLemmas.{sessions_more, round_done}
use Rattle.sf_plain_store.proofs.live_play.LivePlay.round.Goals as goal

pub loop-at-preserved : goal.loop-at-preserved
loop-at-preserved c =
    let calls = c.args.script.now.calls in
    let told = c.in_ok-session_turn.ensures in
    let lt : c.loop-at.at < c.args.script.now.sessions = search rules in
    record {
      under = told.under;
      turns = sessions_more c.args.script.now.sessions c.loop-at.at (playing_of calls c.loop-at.self) (playing_of calls c.session_turn.new.self) _ lt told.turn c.loop-at.invariant.turns;
    }

pub returns-clause-turns : goal.returns-clause-turns
returns-clause-turns c =
    let calls = c.args.script.now.calls in
    let le : c.args.script.now.sessions ≤ c.loop-at.at = search rules in
    round_done c.reclaim_turn.result calls c.args.self.now c.loop-at.self c.reclaim_turn.new.self c.args.script.now.sessions c.loop-at.at c.requires.is_script.one_list_each le c.loop-at.invariant.turns c.reclaim_turn.ensures.turn
