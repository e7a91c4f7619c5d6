use Rattle.std.proofs.Common.{rules, tests}
use Rattle.std.proofs.lemmas.Iterator.{YieldsList-from_slice}
use Rattle.std.proofs.lemmas.Iterator.Search.{any_from_yields_List}
use Rattle.std.specs.Cmp.Lexicographic.{texts_ties}
use Rattle.sf_types.specs.Inside.NameMaps.{is_same_name}
use Rattle.sf_plain_table.proofs.locks.is_among.Goals as goal

pub returns : goal.returns
returns c = any_from_yields_List (is_same_name c.args.row.now) _ _ c.any.result c.any.ensures.ran (YieldsList-from_slice _ c.iter.ensures.rest) (λ x b q k. search (rules, tests, texts_ties c.args.row.now x.now))
