use Rattle.sf_piece_tree.proofs.WalkLemmas.{shown-from}
use Rattle.sf_piece_tree.proofs.laws.a_walk_shows_the_content_from_its_byte.Goals as goal

pub returns : goal.returns
returns g c = λ units at. shown-from g.P.Unit.content units at
