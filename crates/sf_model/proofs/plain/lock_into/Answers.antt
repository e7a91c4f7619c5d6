use Rattle.sf_model.proofs.LockLemmas.{undone}
use Rattle.sf_model.proofs.plain.lock_into.Goals as goal

pub returns-in-Err-clause-err_locks : goal.returns-in-Err-clause-err_locks
returns-in-Err-clause-err_locks c =
    let is_new = rw c.in_ok-copy.ensures at c.in_ok-is_new.ensures.is_new in
    rw (c.give_back.ensures, c.in_ok-is_new.ensures.locks, c.in_ok-copy.ensures)
    (undone c.args.locks.now c.args.session c.args.row.now c.in_ok-is_new.is_new c.requires is_new)
