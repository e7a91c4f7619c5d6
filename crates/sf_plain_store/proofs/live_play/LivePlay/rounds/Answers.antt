use Rattle.std.proofs.Common.{suc, length, sym, ◌∙◌}
use Rattle.sf_plain_store.specs.Inside.Players.{playing_of}
use Rattle.sf_plain_store.proofs.PlayEndLemmas.{all_ended_is, fewer_turns, one_more_round}
use Rattle.sf_plain_store.proofs.live_play.LivePlay.rounds.Goals as goal

pub loop-self-smaller : goal.loop-self-smaller
loop-self-smaller c =
    let book = c.book.result.now in
    let same = all_ended_is c.args.script.now.calls c.loop-self.self book.options book.sessions book.history c.book.ensures.options c.book.ensures.sessions c.book.ensures.history in
    fewer_turns c.args.script.now c.loop-self.self c.round.new.self c.loop-self.invariant.under (same ∙ sym c.all_ended.ensures ∙ c.loop-self-test.true) c.in_ok-round.ensures.turns

pub loop-self-preserved : goal.loop-self-preserved
loop-self-preserved c =
    let calls = c.args.script.now.calls in
    let so_far = c.loop-self.invariant.rounds in
    record {
      under = c.in_ok-round.ensures.under;
      rounds = (suc so_far.0, one_more_round (length calls) so_far.0 (playing_of calls c.args.self.now) (playing_of calls c.loop-self.self) (playing_of calls c.round.new.self) so_far.1 c.in_ok-round.ensures.turns);
    }
