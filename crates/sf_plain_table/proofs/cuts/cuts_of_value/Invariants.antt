use Rattle.std.proofs.Common.{◌≡◌, map, take}
use Rattle.sf_types.specs.Space.Cuts.{Cut}
use Rattle.sf_plain_table.proofs.cuts.cuts_of_value.Given as goal

abbrev pub invariant-loop-content : goal.invariant-loop-content
invariant-loop-content l = l.made.items ≡ map {B = Cut} (λ bytes. record { bytes = bytes; is_sharing = l.is_sharing }) (take l.content-index l.content-items)
