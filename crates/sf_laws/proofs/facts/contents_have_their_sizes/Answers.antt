use Rattle.std.proofs.lemmas.List.Elements.{All-from_recursion}
use Rattle.sf_types.specs.Table.Parts.{opening_table}
use Rattle.sf_types.specs.Orders.Histories.{history_table}
use Rattle.sf_laws.specs.Facts.{HasContentSize}
use Rattle.sf_laws.proofs.ContentSizeLemmas.{sizes_run}
use Rattle.sf_laws.proofs.facts.contents_have_their_sizes.Goals as goal

pub returns : goal.returns
returns c = record {
  law = λ options sessions history legal.
      All-from_recursion HasContentSize (history_table options sessions history).contents (sizes_run (opening_table options sessions) history legal tt);
}
