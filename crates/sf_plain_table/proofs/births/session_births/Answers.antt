use Rattle.std.proofs.Common.{◌≡◌, ℕ, List, ◌++◌, map, ap, subst, ◌∙◌}
use Rattle.std.specs.Prelude.{flat_map, IfOk}
use Rattle.sf_types.specs.Inside.Births.{rising_births}
use Rattle.sf_types.specs.Values.Marks.{births_in}
use Rattle.sf_types.specs.Table.Parts.{Session, Savepoint}
use Rattle.sf_types.specs.Space.Reach.{values_in, session_values}
use Rattle.sf_plain_table.proofs.BirthLemmas.{births_of_parts}
use Rattle.sf_plain_table.proofs.births.session_births.Goals as goal

pub returns : goal.returns
returns c =
    let inside = c.session.inside in
    let rows = flat_map births_in (values_in inside.working) in
    let locators = flat_map births_in (map (λ e. e.1.value) inside.locators) in
    let saved = c.in_ok-births_of_savepoints.ensures ∙ ap (λ (xs : List Savepoint). flat_map births_in (flat_map (λ x. values_in x.working) xs)) c.deref.ensures.value in
    let first : c.append.new.self.items ≡ rows ++ locators =
    c.in_ok-append.ensures.items ∙ ap (λ (xs : List ℕ). xs ++ c.in_ok-births_of_locators.field-0.items) c.in_ok-births.ensures ∙ ap (λ (xs : List ℕ). rows ++ xs) c.in_ok-births_of_locators.ensures in
    let all =
    c.in_ok-append-2.ensures.items
    ∙ ap (λ (xs : List ℕ). xs ++ c.in_ok-births_of_savepoints.field-0.items) first
    ∙ ap (λ (xs : List ℕ). (rows ++ locators) ++ xs) saved
    ∙ births_of_parts inside.working inside.locators inside.savepoints.items
    ∙ ap (λ (p : Session). flat_map births_in (session_values p)) c.session.view_is in
    subst (λ (xs : List ℕ). IfOk c.rising_births.result (λ births. births.items ≡ rising_births xs)) all c.rising_births.ensures
