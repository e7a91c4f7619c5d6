use Rattle.std.proofs.Common.{subst, arith}
use Rattle.std.proofs.lemmas.List.{take_all}
use Rattle.sf_model.proofs.ChangeLemmas.{IsThere, same_then, there-more}
use Rattle.sf_model.proofs.rows.name_rows.Goals as goal

pub loop-name-preserved : goal.loop-name-preserved
loop-name-preserved c = record {
  same = same_then c.args.rows.now c.loop-name.rows c.name_row.new.rows c.loop-name.invariant.same c.in_ok-name_row.ensures.same;
  there = there-more c.loop-name.rows c.name_row.new.rows c.args.changes.now c.loop-name.name-index c.loop-name-item.result c.loop-name-test.true c.in_ok-name_row.ensures.keeps c.loop-name.invariant.there (subst (IsThere c.name_row.new.rows) c.loop-name-item.is c.in_ok-name_row.ensures.there);
}

pub returns-clause-there : goal.returns-clause-there
returns-clause-there c = rw (take_all c.loop-name.name-index c.args.changes.now (omega arith)) at c.loop-name.invariant.there
