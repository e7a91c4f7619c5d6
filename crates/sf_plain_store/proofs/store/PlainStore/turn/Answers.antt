use Rattle.sf_plain_store.proofs.ReclaimLemmas.{left_as_before, left_reclaimed}
use Rattle.sf_plain_store.proofs.store.PlainStore.turn.Goals as goal

pub returns-in-Event-clause-err : goal.returns-in-Event-clause-err
returns-in-Event-clause-err c = left_as_before c.args.self.now c.event.new.self c.event.result c.event.ensures.err

pub returns-in-Reserve-clause-err : goal.returns-in-Reserve-clause-err
returns-in-Reserve-clause-err c = left_as_before c.args.self.now c.promise.new.self c.promise.result c.promise.ensures.err

pub returns-in-Collect-clause-err : goal.returns-in-Collect-clause-err
returns-in-Collect-clause-err c = left_reclaimed c.args.self.now c.collect.new.self c.collect.result c.collect.ensures.err

pub returns-in-Publish-clause-err : goal.returns-in-Publish-clause-err
returns-in-Publish-clause-err c = left_as_before c.args.self.now c.publish.new.self c.publish.result c.publish.ensures.err
