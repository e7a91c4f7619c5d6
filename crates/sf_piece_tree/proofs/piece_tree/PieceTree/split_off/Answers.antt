use Rattle.sf_piece_tree.proofs.CutLemmas.{IsCut-first, IsCut-second}
use Rattle.sf_piece_tree.proofs.piece_tree.PieceTree.split_off.Goals as goal

pub returns-clause-first : goal.returns-clause-first
returns-clause-first g c =
    IsCut-first g.P.Unit.content c.args.self.now c.args.at c.split-first.result.0.units c.in_ok-second.field-0.units
    (rw (c.in_ok-second.was, c.take_tree.ensures.tree) at c.split-first.ensures.ok)

pub returns-clause-second : goal.returns-clause-second
returns-clause-second g c =
    IsCut-second g.P.Unit.content c.args.self.now c.args.at c.split-first.result.0.units c.in_ok-second.field-0.units
    (rw (c.in_ok-second.was, c.take_tree.ensures.tree) at c.split-first.ensures.ok)
