use Rattle.std.proofs.Common.{◌≡◌, ◌++◌, None, IfOk, ap, subst, ◌∙◌}
use Rattle.std.specs.Map.{keys_of}
use Rattle.sf_types.specs.Table.Parts.{Savepoint, Session}
use Rattle.sf_types.specs.Calls.Savepoints.{after_rollback_to, savepoints_up_to}
use Rattle.sf_types.specs.Space.Reach.{session_births}
use Rattle.sf_own_part.specs.Inside.PartBirths.{births_kept_by}
use Rattle.sf_own_part.proofs.PartBirthLemmas.{rolled_together}
use Rattle.sf_own_part.proofs.own_part.OwnPart.births_since.Goals as goal

pub returns : goal.returns
returns c =
    let i = c.self.inside in
    let p : Session = record {
      opened = i.opened;
      is_open = i.is_open;
      working = i.values.held.working;
      locators = i.values.held.locators;
      promise = None;
      epoch = i.epoch;
      savepoints = i.savepoints.items;
      has_ended = i.ended;
    } in
    let s = c.savepoint.inside in
    let x : Savepoint = record { name = s.name; epoch = s.epoch; working = s.working; locked = keys_of s.locked.held } in
    let left = c.up_to-left.ensures ∙ ap (λ n. savepoints_up_to n c.deref.result.now) c.as_bytes.ensures.text ∙ ap (savepoints_up_to s.name) c.deref.ensures.value in
    let savepoints = c.in_ok-add_savepoints.ensures ∙ ap (λ xs. c.add_kept_births.new.into ++ births_kept_by xs) left in
    let births = rolled_together p x _ _ _ _ c.new-births.ensures c.in_ok-add_change_births.ensures c.in_ok-add_kept_births.ensures savepoints in
    subst (λ y. IfOk c.into_births.result (λ births. births ≡ session_births (after_rollback_to c.args.self.now.held.part y))) c.savepoint.view_is
    (subst (λ v. IfOk c.into_births.result (λ births. births ≡ session_births (after_rollback_to v.held.part x))) c.self.view_is
    (subst (λ bs. IfOk c.into_births.result (λ births. births ≡ bs)) births c.into_births.ensures))
