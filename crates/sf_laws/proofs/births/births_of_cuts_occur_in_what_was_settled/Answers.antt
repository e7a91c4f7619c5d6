use Rattle.std.specs.Prelude.{flat_map, Contains}
use Rattle.std.proofs.lemmas.List.Elements.{All-from_recursion}
use Rattle.sf_types.specs.Values.Marks.{births_in}
use Rattle.sf_types.specs.Space.Reach.{reach, values_in}
use Rattle.sf_types.specs.Space.Promises.{flush_cuts}
use Rattle.sf_types.specs.Space.Publications.{births_for, settled_flush}
use Rattle.sf_laws.proofs.PublishedReachLemmas.{settled_births}
use Rattle.sf_laws.proofs.births.births_of_cuts_occur_in_what_was_settled.Goals as goal

pub returns : goal.returns
returns c = record {
  law = λ t s call. All-from_recursion (Contains (flat_map births_in (values_in (settled_flush t s call)))) (births_for t.contents (reach t) (flush_cuts t s call)) (settled_births t s call);
}
