use Rattle.std.proofs.lemmas.List.{take_rest}
use Rattle.sf_program.proofs.WriteLemmas.{written_further, written_part}
use Rattle.sf_program.proofs.output.write_output.Goals as goal

pub loop-rest-preserved : goal.loop-rest-preserved
loop-rest-preserved g c =
    rw take_rest
    (written_further (g.K.Sink.taken c.args.sink.now) (g.K.Sink.taken c.loop-rest.sink) (g.K.Sink.taken c.write.new.self) (g.K.Sink.faults c.args.sink.now) (g.K.Sink.faults c.loop-rest.sink) (g.K.Sink.faults c.write.new.self) c.args.text.now c.loop-rest.rest.now c.in-Ok.count c.loop-rest.invariant c.in-Ok.ensures.bytes c.in-Ok.ensures.cause.done)

pub returns-in-Err-clause-front : goal.returns-in-Err-clause-front
returns-in-Err-clause-front g c =
    rw c.in-Err.ensures.bytes
    (written_part (g.K.Sink.taken c.args.sink.now) (g.K.Sink.taken c.loop-rest.sink) (g.K.Sink.faults c.args.sink.now) (g.K.Sink.faults c.loop-rest.sink) c.args.text.now c.loop-rest.rest.now c.loop-rest.invariant)
