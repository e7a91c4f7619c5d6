use Rattle.memchr.specs.Find.{is_byte}
use Rattle.sf_script_calls.proofs.CutLemmas.{place_found, place_missing}
use Rattle.sf_script_calls.proofs.words.place_of.Goals as goal

pub returns-in-Some-clause-place : goal.returns-in-Some-clause-place
returns-in-Some-clause-place c = place_found (is_byte c.args.byte) c.args.text.now c.in-Some.place c.in-Some.ensures

pub returns-in-None-clause-place : goal.returns-in-None-clause-place
returns-in-None-clause-place c = place_missing (is_byte c.args.byte) c.args.text.now c.in-None.ensures
