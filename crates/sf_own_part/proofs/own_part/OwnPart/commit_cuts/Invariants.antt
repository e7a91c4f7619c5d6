use Rattle.std.proofs.Common.{◌≡◌, ◌++◌, drop}
use Rattle.std.specs.Prelude.{flat_map}
use Rattle.sf_own_part.specs.Inside.RowCuts.{row_contents, row_choices}
use Rattle.sf_own_part.proofs.own_part.OwnPart.commit_cuts.Given as goal

abbrev pub invariant-loop-k : goal.invariant-loop-k
invariant-loop-k l =
    (l.cuts.contents ++ flat_map row_contents (drop l.k l.self.held.part.working) ≡ flat_map row_contents l.self.held.part.working)
    × (l.cuts.choices ++ flat_map row_choices (drop l.k l.self.held.part.working) ≡ flat_map row_choices l.self.held.part.working)
