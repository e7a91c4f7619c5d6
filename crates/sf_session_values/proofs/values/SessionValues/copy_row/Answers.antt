use Rattle.std.proofs.Common.{sym}
use Rattle.std.specs.Option.{option_copied}
use Rattle.sf_session_values.proofs.RowWalkLemmas.{taken_next, all_before}
use Rattle.sf_session_values.proofs.values.SessionValues.copy_row.Goals as goal

pub push-requires : goal.push-requires
push-requires c =
    rw c.requires (rw c.in_ok-name.ensures (all_before c.args.self.now.held.working c.args.k (c.in-Some.row.now, option_copied c.in-Some.value) c.row_count-count.ensures.rising (sym c.in-Some.ensures)))

pub returns : goal.returns
returns c =
    rw c.in_ok-push.ensures.ok (rw c.requires (rw c.in_ok-name.ensures (rw c.in_ok-value.ensures
    (sym (taken_next c.args.self.now.held.working c.args.k (c.in-Some.row.now, option_copied c.in-Some.value) (sym c.in-Some.ensures))))))
