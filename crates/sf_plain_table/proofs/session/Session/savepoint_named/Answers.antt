use Rattle.std.proofs.Common.{rules, tests, ◌∙◌, ap}
use Rattle.std.specs.Prelude.{find}
use Rattle.std.proofs.lemmas.Iterator.{YieldsList-from_slice}
use Rattle.std.proofs.lemmas.Iterator.Search.{find_from_yields_List}
use Rattle.std.specs.Cmp.Lexicographic.{texts_ties}
use Rattle.sf_types.specs.Inside.NameMaps.{is_same_name}
use Rattle.sf_plain_table.proofs.session.Session.savepoint_named.Goals as goal

pub returns : goal.returns
returns c = find_from_yields_List (λ x. is_same_name c.args.name.now x.name) _ _ _ c.find.ensures.ran (YieldsList-from_slice _ c.iter.ensures.rest) (λ x b q k. search (rules, tests, texts_ties c.args.name.now x.now.name))
    ∙ ap (find (λ x. is_same_name c.args.name.now x.name)) c.deref.ensures.value
    ∙ ap (λ v. find (λ x. is_same_name c.args.name.now x.name) v.savepoints) c.self.view_is
