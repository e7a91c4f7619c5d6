use Rattle.std.proofs.Common.{rules, tests, ◌∷◌, ◌++◌, [], List, Bool, not, ap, ◌∙◌}
use Rattle.std.specs.Prelude.{filter}
use Rattle.std.proofs.lemmas.Fn.{filter_same}
use Rattle.std.specs.Cmp.Lexicographic.{texts_ties}
use Rattle.sf_types.specs.Inside.NameMaps.{is_same_name}
use Rattle.sf_types.specs.Table.Parts.{Savepoint}
use Rattle.sf_plain_table.proofs.savepoints.put_last.Goals as goal

pub returns : goal.returns
returns c =
    let others : Savepoint → Bool = λ x. not (is_same_name c.args.savepoint.name x.name) in
    c.push_reserved.ensures.items
    ∙ ap (λ (xs : List Savepoint). xs ++ c.args.savepoint ∷ []) (filter_same _ others _ (λ x b after called. search (rules, tests, texts_ties c.args.savepoint.name x.name)) _ _ c.retain.ensures.filtered ∙ ap (filter others) c.in_ok-reserve.ensures.items)
