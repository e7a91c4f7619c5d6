use Rattle.std.proofs.Common.{◌≡◌, List, ℕ, IfOk, ap, ◌∙◌, subst}
use Rattle.sf_types.specs.Values.Marks.{Value, births_in}
use Rattle.sf_chunk_map.specs.Pieces.{marked_in}
use Rattle.sf_chunk_map.proofs.AmongLemmas.{listed_births}
use Rattle.sf_chunk_map.proofs.map.Map.births.Goals as goal

pub returns : goal.returns
returns c =
    let v : Value = record { bytes = marked_in c.self.inside.tree; choice = c.self.inside.choice } in
    subst (λ (bs : List ℕ). IfOk c.births.result (λ births. births ≡ bs))
    (listed_births c.self.inside.counts v c.births.ensures.ordered c.self.invariant.counts ∙ ap (λ (x : Value). births_in x) c.self.view_is)
    c.births.ensures.births
