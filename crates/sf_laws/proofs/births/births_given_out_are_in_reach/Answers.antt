use Rattle.std.specs.Prelude.{Contains}
use Rattle.std.proofs.lemmas.List.Elements.{All-from_recursion}
use Rattle.sf_types.specs.Space.Reach.{reach}
use Rattle.sf_types.specs.Space.Publications.{publish}
use Rattle.sf_types.specs.Play.Blocks.{new_births}
use Rattle.sf_laws.proofs.PublishedReachLemmas.{new_births_reached}
use Rattle.sf_laws.proofs.births.births_given_out_are_in_reach.Goals as goal

pub returns : goal.returns
returns c = record {
  law = λ t s call has. All-from_recursion (Contains (reach (publish t s call).0)) (new_births t (publish t s call).0) (new_births_reached t s call has);
}
