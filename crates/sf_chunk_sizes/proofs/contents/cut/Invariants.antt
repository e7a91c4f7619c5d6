use Rattle.std.proofs.Common.{◌≡◌, ◌++◌, length}
use Rattle.sf_types.specs.Space.Contents.{contents_of_stretch}
use Rattle.sf_chunk_sizes.proofs.contents.cut.Given as goal

-- the contents that were made, and those of the rest
abbrev pub invariant-loop-rest : goal.invariant-loop-rest
invariant-loop-rest l = l.contents ++ contents_of_stretch l.rest ≡ contents_of_stretch l.fn.bytes

abbrev pub decreases-loop-rest : goal.decreases-loop-rest
decreases-loop-rest l = length l.rest
