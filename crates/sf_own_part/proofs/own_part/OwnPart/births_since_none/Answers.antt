use Rattle.std.proofs.Common.{◌≡◌, ◌++◌, [], None, IfOk, sym, ap, subst, ◌∙◌, append-nil}
use Rattle.sf_types.specs.Table.Parts.{Session}
use Rattle.sf_types.specs.Calls.Savepoints.{after_rollback_to, savepoints_up_to, no_savepoint}
use Rattle.sf_types.specs.Space.Reach.{session_births}
use Rattle.sf_own_part.specs.Inside.PartBirths.{births_kept_by}
use Rattle.sf_own_part.proofs.PartBirthLemmas.{rolled_together}
use Rattle.sf_own_part.proofs.own_part.OwnPart.births_since_none.Goals as goal

pub returns : goal.returns
returns c =
    let i = c.self.inside in
    let p : Session = record {
      opened = i.opened;
      is_open = i.is_open;
      working = i.values.held.working;
      locators = i.values.held.locators;
      promise = None;
      epoch = i.epoch;
      savepoints = i.savepoints.items;
      has_ended = i.ended;
    } in
    let savepoints = c.in_ok-add_savepoints.ensures ∙ ap (λ xs. c.add_kept_births.new.into ++ births_kept_by xs) (c.up_to.ensures ∙ ap (savepoints_up_to []) c.deref.ensures.value) in
    let births = rolled_together p no_savepoint _ _ _ _ c.new-births.ensures (sym (append-nil c.new-births.result)) c.in_ok-add_kept_births.ensures savepoints in
    subst (λ v. IfOk c.into_births.result (λ births. births ≡ session_births (after_rollback_to v.held.part no_savepoint))) c.self.view_is
    (subst (λ bs. IfOk c.into_births.result (λ births. births ≡ bs)) births c.into_births.ensures)
