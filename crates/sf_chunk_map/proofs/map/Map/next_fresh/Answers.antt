use Rattle.std.proofs.Common.{◌≡◌, ℕ, List, Option, sym, ap, subst}
use Rattle.std.specs.Prelude.{MatchOption}
use Rattle.sf_types.specs.Values.Marks.{Marked}
use Rattle.sf_chunk_map.specs.Pieces.{marked_in}
use Rattle.sf_chunk_map.specs.Stretches.{IsNextFresh, NoneFreshFrom}
use Rattle.sf_chunk_map.proofs.FreshLemmas.{next-fresh}
use Rattle.sf_chunk_map.proofs.map.Map.next_fresh.Goals as goal

pub returns : goal.returns
returns c =
    let marked : marked_in c.self.inside.tree ≡ c.args.self.now.bytes = ap (λ v. v.bytes) c.self.view_is in
    subst (λ (ms : List Marked). MatchOption c.next_weighty.result (NoneFreshFrom ms c.args.at) (IsNextFresh ms c.args.at)) marked
    (subst (λ (found : Option ℕ). MatchOption found (NoneFreshFrom (marked_in c.self.inside.tree) c.args.at) (IsNextFresh (marked_in c.self.inside.tree) c.args.at)) (sym c.next_weighty.ensures)
    (next-fresh c.self.inside.tree c.args.at))
