use Rattle.std.proofs.Common.{◌++◌, length, ap, ◌∙◌}
use Rattle.std.specs.Prelude.{replicate}
use Rattle.sf_types.specs.Space.Cuts.{contents_of_value}
use Rattle.sf_versions.specs.Asks.{cuts_with}
use Rattle.sf_own_part.proofs.CutLemmas.{value_cuts}
use Rattle.sf_own_part.proofs.cuts.write_cuts.Goals as goal

pub returns : goal.returns
returns c options =
    let value = c.args.written.now.map in
    let contents = c.in_ok-add_value.ensures.contents ∙ ap (λ xs. xs ++ contents_of_value value) c.new-cuts.ensures.contents in
    let choices = c.in_ok-add_value.ensures.choices ∙ ap (λ cs. cs ++ replicate (length (contents_of_value value)) value.choice) c.new-cuts.ensures.choices in
    ap (λ xs. cuts_with options xs c.add_value.new.self.choices) contents
    ∙ ap (cuts_with options (contents_of_value value)) choices
    ∙ value_cuts options value
