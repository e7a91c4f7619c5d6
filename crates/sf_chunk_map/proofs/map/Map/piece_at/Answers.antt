use Rattle.std.proofs.Common.{ap}
use Rattle.sf_types.specs.Values.Marks.{Value}
use Rattle.sf_chunk_map.proofs.LendingLemmas.{holds_found}
use Rattle.sf_chunk_map.proofs.map.Map.piece_at.Goals as goal

pub returns : goal.returns
returns c =
    holds_found c.self.inside.tree c.args.self.now c.args.at (λ f. f.0.now) (λ f. f.1) c.find.result (ap (λ (v : Value). v.bytes) c.self.view_is) c.find.ensures
