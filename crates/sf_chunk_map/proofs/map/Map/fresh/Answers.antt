use Rattle.std.proofs.Common.{ap, ◌∙◌}
use Rattle.sf_types.specs.Values.Marks.{Value, fresh_count}
use Rattle.sf_chunk_map.proofs.PieceLemmas.{fresh_of_pieces}
use Rattle.sf_chunk_map.proofs.map.Map.fresh.Goals as goal

pub returns : goal.returns
returns c = c.weight.ensures.weight ∙ fresh_of_pieces c.self.inside.tree ∙ ap (λ (v : Value). fresh_count v) c.self.view_is
