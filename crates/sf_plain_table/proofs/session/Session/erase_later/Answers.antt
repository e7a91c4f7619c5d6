use Rattle.std.proofs.Common.{refl, sym, ap, ◌∙◌}
use Rattle.std.specs.List.{position}
use Rattle.sf_types.specs.Inside.NameMaps.{is_same_name}
use Rattle.sf_types.specs.Calls.Savepoints.{savepoints_up_to}
use Rattle.sf_types.specs.Table.Parts.{Session}
use Rattle.sf_plain_table.proofs.SavepointLemmas.{up_to_found, up_to_none}
use Rattle.sf_plain_table.proofs.session.Session.erase_later.Goals as goal

pub returns-in-Some : goal.returns-in-Some
returns-in-Some c =
    let name = c.args.name.now in
    let place = ap (position (λ x. is_same_name name x.name)) (sym c.deref.ensures.value) ∙ sym c.position_of.ensures ∙ c.in-Some.is in
    let kept = c.truncate.ensures.items ∙ up_to_found name c.self.inside.savepoints.items c.in-Some.at place in
    rw (kept, ← c.self.view_is) refl

pub returns-in_default : goal.returns-in_default
returns-in_default c =
    let name = c.args.name.now in
    let place = ap (position (λ x. is_same_name name x.name)) (sym c.deref.ensures.value) ∙ sym c.position_of.ensures ∙ c.in_default.is in
    let kept = up_to_none name c.self.inside.savepoints.items place in
    sym c.self.view_is
    ∙ ap (λ xs. record {
      opened = c.self.inside.opened;
      is_open = c.self.inside.is_open;
      working = c.self.inside.working;
      locators = c.self.inside.locators;
      promise = c.self.inside.promise;
      epoch = c.self.inside.epoch;
      savepoints = xs;
      has_ended = c.self.inside.has_ended;
    }) kept
    ∙ ap (λ (p : Session). record p { savepoints = savepoints_up_to name p.savepoints }) c.self.view_is
