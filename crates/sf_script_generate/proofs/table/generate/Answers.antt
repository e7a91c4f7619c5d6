use Rattle.sf_script_generate.proofs.TableLemmas.{generated_is_script}
use Rattle.sf_script_generate.proofs.table.generate.Goals as goal

pub new-requires-2 : goal.new-requires-2
new-requires-2 c =
    rw (c.from_vec.ensures, c.in_ok-lists.ensures, c.new.ensures, c.standard.ensures) (generated_is_script c.args.start c.args.sessions c.args.count c.requires.low c.requires.high)
