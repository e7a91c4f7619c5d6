use Rattle.std.proofs.Common.{◌≡◌, ◌++◌, None, IfOk, ap, subst, ◌∙◌}
use Rattle.std.specs.Option.{option_copied}
use Rattle.sf_types.specs.Table.Parts.{Session}
use Rattle.sf_types.specs.Space.Reach.{session_births}
use Rattle.sf_own_part.specs.Inside.PartBirths.{part_beside, births_kept_by}
use Rattle.sf_own_part.proofs.PartBirthLemmas.{put_together}
use Rattle.sf_own_part.proofs.own_part.OwnPart.births_beside.Goals as goal

pub returns : goal.returns
returns c =
    let i = c.self.inside in
    let p : Session = record {
      opened = i.opened;
      is_open = i.is_open;
      working = i.values.held.working;
      locators = i.values.held.locators;
      promise = None;
      epoch = i.epoch;
      savepoints = i.savepoints.items;
      has_ended = i.ended;
    } in
    let row = option_copied c.args.row in
    let at = option_copied c.args.at in
    let savepoints = c.in_ok-add_savepoints.ensures ∙ ap (λ xs. c.add_births_beside.new.into ++ births_kept_by xs) c.deref.ensures.value in
    let births = put_together p row at _ _ _ c.new-births.ensures c.in_ok-add_births_beside.ensures savepoints in
    subst (λ v. IfOk c.into_births.result (λ births. births ≡ session_births (part_beside row at v.held.part))) c.self.view_is
    (subst (λ bs. IfOk c.into_births.result (λ births. births ≡ bs)) births c.into_births.ensures)
