use Rattle.std.proofs.Common.{◌≡◌, map, take}
use Rattle.sf_dedup.specs.declared.print.Print.{Print}
use Rattle.sf_dedup.specs.Prints.{print_of}
use Rattle.sf_dedup.proofs.printer.prints_in_turn.Given as goal

-- the prints of the contents before this one
abbrev pub invariant-loop-content : goal.invariant-loop-content
invariant-loop-content l = l.prints ≡ map {B = Print} print_of (take l.content-index l.content-items)
