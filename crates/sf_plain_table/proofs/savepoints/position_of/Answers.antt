use Rattle.std.proofs.Common.{rules, tests}
use Rattle.std.proofs.lemmas.Iterator.{YieldsList-from_slice}
use Rattle.std.proofs.lemmas.Iterator.Search.{position_from_yields_List}
use Rattle.std.specs.Cmp.Lexicographic.{texts_ties}
use Rattle.sf_types.specs.Inside.NameMaps.{is_same_name}
use Rattle.sf_plain_table.proofs.savepoints.position_of.Goals as goal

pub returns : goal.returns
returns c = position_from_yields_List (λ x. is_same_name c.args.name.now x.name) _ _ c.position.result c.position.ensures.ran (YieldsList-from_slice _ c.iter.ensures.rest) (λ x b q k. search (rules, tests, texts_ties c.args.name.now x.now.name))
