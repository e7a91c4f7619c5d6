use Rattle.std.proofs.Common.{ap, ◌∙◌}
use Rattle.sf_types.specs.Space.Cuts.{segments_of}
use Rattle.sf_laws.proofs.StretchLemmas.{segments-joined, segments_maximal, contents-joined, contents-sizes, unstored_bytes}
use Rattle.sf_laws.proofs.cuts.cuts_are_the_fresh_bytes.Goals as goal

pub returns-clause-joined : goal.returns-clause-joined
returns-clause-joined c v =
    contents-joined (segments_of v.bytes) (segments_maximal v.bytes) ∙ ap unstored_bytes (segments-joined v.bytes)

pub returns-clause-sizes : goal.returns-clause-sizes
returns-clause-sizes c v = contents-sizes (segments_of v.bytes)
