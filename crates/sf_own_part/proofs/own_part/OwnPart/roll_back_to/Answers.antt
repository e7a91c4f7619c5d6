use Rattle.std.proofs.Common.{◌≡◌, Bool, Some, None, sym, ap, ◌∙◌}
use Rattle.std.specs.Prelude.{find, filter}
use Rattle.std.specs.List.{list_any, position}
use Rattle.sf_types.specs.Inside.NameMaps.{is_same_name}
use Rattle.sf_types.specs.Table.Parts.{Savepoint, Session}
use Rattle.sf_types.specs.Halves.Own.{Own}
use Rattle.sf_types.specs.Calls.Savepoints.{after_rollback_to}
use Rattle.sf_own_part.proofs.LockedLemmas.{not_placed, placed, indexed, up_to_placed, rolled_back_to}
use Rattle.sf_own_part.proofs.own_part.OwnPart.roll_back_to.Goals as goal

pub returns-in_default : goal.returns-in_default
returns-in_default c x found is =
    let p : Savepoint → Bool = λ y. is_same_name c.args.name.now y.name in
    absurd (not_placed p c.self.inside.savepoints.items x
    (ap (position p) (sym c.deref.ensures.value) ∙ ap (λ n. position (λ (y : Savepoint). is_same_name n y.name) c.deref.result.now) (sym c.as_bytes.ensures.text) ∙ sym c.position_of.ensures ∙ c.in_default.is)
    (ap (λ v. find p v.held.part.savepoints) c.self.view_is ∙ found))

pub returns : goal.returns
returns c x found is =
    let p : Session = record {
      opened = c.self.inside.opened;
      is_open = c.self.inside.is_open;
      working = c.self.inside.values.held.working;
      locators = c.self.inside.values.held.locators;
      promise = None;
      epoch = c.self.inside.epoch;
      savepoints = c.self.inside.savepoints.items;
      has_ended = c.self.inside.ended;
    } in
    let named : Savepoint → Bool = λ y. is_same_name c.args.name.now y.name in
    let place : position named p.savepoints ≡ Some c.in-Some.at = ap (position named) (sym c.deref.ensures.value) ∙ ap (λ n. position (λ (y : Savepoint). is_same_name n y.name) c.deref.result.now) (sym c.as_bytes.ensures.text) ∙ sym c.position_of.ensures ∙ c.in-Some.is in
    let found_here : find named p.savepoints ≡ Some x = ap (λ v. find named v.held.part.savepoints) c.self.view_is ∙ found in
    let value_is = c.index-savepoint.ensures ∙ indexed p.savepoints c.in-Some.at x _ (placed named p.savepoints c.in-Some.at x place found_here) in
    let savepoint_is = c.savepoint.view_is ∙ value_is in
    rolled_back_to p c.self.inside.rows.held c.args.rows c.retain.new.self.held c.roll_back_to.new.self.held c.truncate.new.self.items x is
    (c.roll_back_to.ensures x (sym (ap (λ s. s.epoch) savepoint_is)))
    (c.truncate.ensures.items ∙ up_to_placed c.args.name.now p.savepoints c.in-Some.at x place found_here)
    (c.retain.ensures.held ∙ ap (λ s. filter (λ e. list_any (is_same_name e.0) s.locked) c.self.inside.rows.held) value_is)
    ∙ ap (λ v. rolled_own v.held x) c.self.view_is
  where
    rolled_own : Own → Savepoint → Own
    rolled_own o x = record { part = after_rollback_to o.part x; rows = filter (λ e. list_any (is_same_name e.0) x.locked) o.rows }
