use Rattle.std.proofs.Common.{◌≡◌, ◌++◌, take, drop}
use Rattle.std.specs.List.{concat}
use Rattle.sf_model.proofs.value.read_pieces.Given as goal

-- what was read, and what is still read from the pieces that are left
abbrev pub invariant-loop-piece : goal.invariant-loop-piece
invariant-loop-piece l =
    l.bytes.items ++ take l.left (drop l.skip (concat (drop l.piece-index l.pieces)))
    ≡ take l.amount (drop l.skipped (concat l.pieces))
