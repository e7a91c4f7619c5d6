use Rattle.sf_types.specs.Calls.LocatorCalls.{read_call}
use Rattle.sf_types.specs.Table.Sessions.{session_of}
use Rattle.sf_model.proofs.TableLemmas.{put_own}
use Rattle.sf_model.proofs.plain.Plain.read.Goals as goal

pub returns : goal.returns
returns c =
    let t = c.args.self.now in
    let s = c.args.session in
    put_own t s c.in_ok-reply.reply (read_call (session_of t s) c.args.at.now c.args.amount c.args.offset) c.requires (rw c.part.ensures at c.in_ok-reply.ensures)
