use Rattle.sf_types.specs.Calls.LocatorCalls.{length_call}
use Rattle.sf_types.specs.Table.Sessions.{session_of}
use Rattle.sf_model.proofs.TableLemmas.{put_own}
use Rattle.sf_model.proofs.plain.Plain.length.Goals as goal

pub returns : goal.returns
returns c =
    let t = c.args.self.now in
    let s = c.args.session in
    put_own t s c.length.result (length_call (session_of t s) c.args.at.now) c.requires (rw c.part.ensures at c.length.ensures)
