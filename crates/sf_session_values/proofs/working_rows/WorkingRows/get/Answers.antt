use Rattle.std.proofs.Common.{sym, ap, ◌∙◌}
use Rattle.std.specs.Option.{option_copied, option_map}
use Rattle.sf_types.specs.Inside.NameMaps.{get}
use Rattle.sf_session_values.specs.declared.working_rows.WorkingRow.{WorkingRow}
use Rattle.sf_session_values.proofs.CountingLemmas.{get-values}
use Rattle.sf_session_values.proofs.working_rows.WorkingRows.get.Goals as goal

pub returns-in-Some : goal.returns-in-Some
returns-in-Some c =
    ap (option_map (λ (r : WorkingRow). r.working)) (sym (ap option_copied c.in-Some.is) ∙ c.get.ensures)
    ∙ sym (get-values (λ (r : WorkingRow). r.working) c.self.inside.rows.held c.args.row.now)
    ∙ ap (λ v. get v.held c.args.row.now) c.self.view_is

pub returns-in-None : goal.returns-in-None
returns-in-None c =
    ap (option_map (λ (r : WorkingRow). r.working)) (sym (ap option_copied c.in-None.is) ∙ c.get.ensures)
    ∙ sym (get-values (λ (r : WorkingRow). r.working) c.self.inside.rows.held c.args.row.now)
    ∙ ap (λ v. get v.held c.args.row.now) c.self.view_is
