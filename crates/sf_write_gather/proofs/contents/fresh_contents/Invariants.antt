use Rattle.std.proofs.Common.{◌≡◌, take}
use Rattle.std.specs.Prelude.{flat_map}
use Rattle.sf_types.specs.Space.Cuts.{contents_of_value}
use Rattle.sf_write_gather.proofs.contents.fresh_contents.Given as goal

abbrev pub invariant-loop-value : goal.invariant-loop-value
invariant-loop-value l = l.contents ≡ flat_map contents_of_value (take l.value-index l.value-items)
