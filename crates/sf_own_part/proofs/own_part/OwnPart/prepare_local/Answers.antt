use Rattle.std.proofs.Common.{sym, ap, subst, ◌∙◌}
use Rattle.std.specs.Option.{option_copied}
use Rattle.sf_own_part.specs.declared.answers.Prepared.TheVariants as prepared
use Rattle.sf_own_part.specs.Ends.{IsPreparedWrite}
use Rattle.sf_own_part.specs.OwnWrites.{write_refusal, written}
use Rattle.sf_own_part.proofs.CallLemmas.{prepared_write}
use Rattle.sf_own_part.proofs.WriteLemmas.{answered_ok, answered_err}
use Rattle.sf_own_part.proofs.own_part.OwnPart.prepare_local.Goals as goal

pub returns-in-Ok : goal.returns-in-Ok
returns-in-Ok c =
    let o = c.args.self.now.held in
    let call = c.args.call.now in
    let at = c.in-Some.at.now in
    let done = answered_ok c.in-Ok.written (written o at call) (write_refusal o at call) (sym c.in-Ok.is ∙ c.in_ok-written.ensures) in
    prepared_write o call (prepared.Written c.in-Ok.written) c.requires
    (subst (λ name. IsPreparedWrite o call name (prepared.Written c.in-Ok.written)) (sym (ap option_copied c.in-Some.is) ∙ c.written_name.ensures) (done.0, done.1))

pub returns-in-Err : goal.returns-in-Err
returns-in-Err c =
    let o = c.args.self.now.held in
    let call = c.args.call.now in
    let at = c.in-Some.at.now in
    prepared_write o call (prepared.Refused c.in-Err.fault) c.requires
    (subst (λ name. IsPreparedWrite o call name (prepared.Refused c.in-Err.fault)) (sym (ap option_copied c.in-Some.is) ∙ c.written_name.ensures)
    (answered_err (written o at call) c.in-Err.fault (write_refusal o at call) (sym c.in-Err.is ∙ c.in_ok-written.ensures)))
