use Rattle.std.proofs.Common.{sym, rules}
use Rattle.sf_session.specs.declared.need.Need.TheVariants as need
use Rattle.sf_plain_store.specs.Turns.{NeedsTurn}
use Rattle.sf_plain_store.proofs.PlaySessionLemmas.{within_first, within_begun, within_ended, steps_begun, steps_ended}
use Rattle.sf_plain_store.proofs.PlayActLemmas.{standing_of, turned_ended, turned_by}
use Rattle.sf_plain_store.proofs.players.Player.turn.Goals as goal

pub loop-self-init : goal.loop-self-init
loop-self-init c = within_first c.args.calls.now c.args.store.now c.args.self.now c.requires.player c.requires.ended

pub returns-in-Ended : goal.returns-in-Ended
returns-in-Ended c =
    turned_ended c.args.calls.now c.args.store.now c.loop-self.store c.args.self.now c.loop-self.self c.requires.player c.loop-self.invariant (sym c.in-Ended.ensures)

pub loop-self-smaller-in-Continue-1 : goal.loop-self-smaller-in-Continue-1
loop-self-smaller-in-Continue-1 c =
    steps_begun c.args.calls.now c.args.store.now c.loop-self.store c.args.self.now c.loop-self.self c.begin.new.self c.loop-self.invariant (sym c.in-Idle.ensures) c.in_ok-begin-in-Idle.ensures.core c.in_ok-begin-in-Idle.ensures.replies

pub loop-self-preserved-in-Continue-1 : goal.loop-self-preserved-in-Continue-1
loop-self-preserved-in-Continue-1 c =
    within_begun c.args.calls.now c.args.store.now c.loop-self.store c.args.self.now c.loop-self.self c.begin.new.self c.loop-self.invariant (sym c.in-Idle.ensures) c.in_ok-begin-in-Idle.ensures.core c.in_ok-begin-in-Idle.ensures.replies

pub loop-self-smaller : goal.loop-self-smaller
loop-self-smaller c =
    let told = c.in_ok-end_local-in-Local.ensures in
    let stands = standing_of c.loop-self.self.core need.Local (sym c.in-Local.ensures) (λ e. cc) (λ e. cc) in
    steps_ended c.args.calls.now c.args.store.now c.loop-self.store c.args.self.now c.loop-self.self c.end_local.new.self stands.call c.loop-self.invariant stands.is (told.core stands.call stands.is) (told.replies stands.call stands.is)

pub loop-self-preserved : goal.loop-self-preserved
loop-self-preserved c =
    let told = c.in_ok-end_local-in-Local.ensures in
    let stands = standing_of c.loop-self.self.core need.Local (sym c.in-Local.ensures) (λ e. cc) (λ e. cc) in
    within_ended c.args.calls.now c.args.store.now c.loop-self.store c.args.self.now c.loop-self.self c.end_local.new.self stands.call c.requires.no_end c.loop-self.invariant stands.is (sym c.in-Local.ensures) (told.core stands.call stands.is) (told.replies stands.call stands.is)

pub returns-in-Event : goal.returns-in-Event
returns-in-Event c =
    let needs : NeedsTurn c.loop-self.self.core = search rules in
    let told = c.act.ensures in
    turned_by c.act.result c.args.calls.now c.args.store.now c.loop-self.store c.act.new.store c.args.self.now c.loop-self.self c.act.new.self c.requires.player c.loop-self.invariant needs told.store told.core told.replies told.home told.others
