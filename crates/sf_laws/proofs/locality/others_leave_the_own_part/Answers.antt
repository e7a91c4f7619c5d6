use Rattle.std.proofs.Common.{ap, ◌∙◌}
use Rattle.sf_types.specs.Table.Parts.{opening_table}
use Rattle.sf_types.specs.Table.Sessions.{session_of}
use Rattle.sf_types.specs.Orders.Histories.{history_table}
use Rattle.sf_laws.proofs.OwnRunLemmas.{others_law, run-append, legal-append, may_still}
use Rattle.sf_laws.proofs.locality.others_leave_the_own_part.Goals as goal

pub returns-clause-own : goal.returns-clause-own
returns-clause-own c = others_law

pub returns-clause-part : goal.returns-clause-part
returns-clause-part c options sessions r history others legal has apart =
    let t = opening_table options sessions in
    ap (λ u. session_of u r) (run-append t history others) ∙ may_still (history_table options sessions history) others r (legal-append t history others legal).1 has apart
