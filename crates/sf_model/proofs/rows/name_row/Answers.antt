use Rattle.std.proofs.Common.{None, sym}
use Rattle.sf_model.proofs.ChangeLemmas.{same-put, keeps-put, there-put}
use Rattle.sf_model.proofs.rows.name_row.Goals as goal

pub returns-in_ok-insert-in-None-clause-same : goal.returns-in_ok-insert-in-None-clause-same
returns-in_ok-insert-in-None-clause-same c =
    rw (c.in_ok-insert-in-None.ensures.ok, c.in_ok-copy-in-None.ensures)
    (same-put c.args.rows.now c.args.row.now (sym c.in-None.ensures))

pub returns-in_ok-insert-in-None-clause-keeps : goal.returns-in_ok-insert-in-None-clause-keeps
returns-in_ok-insert-in-None-clause-keeps c =
    rw (c.in_ok-insert-in-None.ensures.ok, c.in_ok-copy-in-None.ensures)
    (keeps-put c.args.rows.now c.args.row.now None)

pub returns-in_ok-insert-in-None-clause-there : goal.returns-in_ok-insert-in-None-clause-there
returns-in_ok-insert-in-None-clause-there c =
    rw (c.in_ok-insert-in-None.ensures.ok, c.in_ok-copy-in-None.ensures)
    (there-put c.args.rows.now c.args.row.now None)
