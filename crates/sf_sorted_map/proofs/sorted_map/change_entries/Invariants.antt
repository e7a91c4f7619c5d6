use Rattle.std.proofs.Common.{◌≡◌, ◌++◌, take, drop}
use Rattle.std.specs.Prelude.{map}
use Rattle.sf_sorted_map.proofs.sorted_map.change_entries.Given as goal

-- the values of the entries so far are changed
abbrev pub invariant-loop-at : goal.invariant-loop-at
invariant-loop-at g l =
    l.entries ≡ map (λ e. (e.0, g.C.Change.changed l.change e.1)) (take l.at l.fn.entries) ++ drop l.at l.fn.entries
