use Rattle.std.proofs.Common.{◌≡◌, Some, Ok, sym, ap, ◌∙◌}
use Rattle.std.specs.Option.{option_copied}
use Rattle.sf_types.specs.Inside.NameMaps.{get}
use Rattle.sf_types.specs.Calls.WritingCalls.{source_value}
use Rattle.sf_fragment_ops.specs.EditCalls.{answered, edit_refusal}
use Rattle.sf_own_part.specs.OwnWrites.{written}
use Rattle.sf_own_part.proofs.WriteLemmas.{refused_before, refused_by_arguments, written_is, same_written, answered_ok, answered_err}
use Rattle.sf_own_part.specs.Inside.Sources.{written_value}
use Rattle.sf_own_part.proofs.own_part.OwnPart.prepare_write.Goals as goal

pub returns-in-Some-write_fault : goal.returns-in-Some-write_fault
returns-in-Some-write_fault c =
    let o = c.args.self.now.held in
    let at = c.args.at.now in
    let there : get o.part.locators at ≡ Some c.in-Some.locator.now =
    ap (λ v. get v.held.part.locators at) (sym c.self.view_is) ∙ ap (λ m. get m at) (sym c.locators.ensures) ∙ sym c.get.ensures ∙ ap option_copied c.in-Some.is in
    let refused = refused_before o at c.locator.inside.row c.args.call.now c.in-Some.locator.now c.in-Some-write_fault.fault there (ap (λ v. v.row) (sym c.locator.view_is))
    (sym c.write_fault.ensures.fault ∙ c.in-Some-write_fault.is) in
    ap (λ r. answered r (written o at c.args.call.now)) (sym refused)

pub returns-in_ok-copy-in-Ok-2 : goal.returns-in_ok-copy-in-Ok-2
returns-in_ok-copy-in-Ok-2 c =
    let o = c.args.self.now.held in
    let at = c.args.at.now in
    let call = c.args.call.now in
    let row = c.locator.inside.row in
    let value = c.in-Some-row_value.value.now in
    let there : get o.part.locators at ≡ Some c.in-Some.locator.now =
    ap (λ v. get v.held.part.locators at) (sym c.self.view_is) ∙ ap (λ m. get m at) (sym c.locators.ensures) ∙ sym c.get.ensures ∙ ap option_copied c.in-Some.is in
    let found = sym c.row_value.ensures ∙ ap option_copied c.in-Some-row_value.is in
    let refusal = refused_by_arguments o at row call c.in-Some.locator.now value there (ap (λ v. v.row) (sym c.locator.view_is)) found (sym c.write_fault.ensures.fault ∙ c.in_default-write_fault.is) in
    let done = answered_ok c.in-Ok.field-0 (written_value o.part call value) (edit_refusal call value (source_value o.part call)) (sym c.in-Ok.is ∙ c.in_ok-map.ensures) in
    ap Ok (same_written _ at _ row c.in-Ok.field-0 (written_value o.part call value) c.in_ok-copy-in-Ok.ensures c.in_ok-copy-in-Ok-2.ensures done.1
    ∙ sym (written_is o at row call c.in-Some.locator.now value there (ap (λ v. v.row) (sym c.locator.view_is)) found))
    ∙ ap (λ r. answered r (written o at call)) (sym (refusal ∙ done.0))

pub returns-in-Err : goal.returns-in-Err
returns-in-Err c =
    let o = c.args.self.now.held in
    let at = c.args.at.now in
    let call = c.args.call.now in
    let row = c.locator.inside.row in
    let value = c.in-Some-row_value.value.now in
    let there : get o.part.locators at ≡ Some c.in-Some.locator.now =
    ap (λ v. get v.held.part.locators at) (sym c.self.view_is) ∙ ap (λ m. get m at) (sym c.locators.ensures) ∙ sym c.get.ensures ∙ ap option_copied c.in-Some.is in
    let found = sym c.row_value.ensures ∙ ap option_copied c.in-Some-row_value.is in
    let refusal = refused_by_arguments o at row call c.in-Some.locator.now value there (ap (λ v. v.row) (sym c.locator.view_is)) found (sym c.write_fault.ensures.fault ∙ c.in_default-write_fault.is) in
    let refused = answered_err (written_value o.part call value) c.in-Err.fault (edit_refusal call value (source_value o.part call)) (sym c.in-Err.is ∙ c.in_ok-map.ensures) in
    ap (λ r. answered r (written o at call)) (sym (refusal ∙ refused))
