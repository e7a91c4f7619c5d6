use Rattle.std.proofs.Common.{length, ap, ◌∙◌}
use Rattle.sf_types.specs.Values.Marks.{bytes_in}
use Rattle.sf_types.specs.Space.Cuts.{segments_of}
use Rattle.sf_laws.proofs.StretchLemmas.{segments-joined, segments_maximal, segments-bytes, segments-fresh}
use Rattle.sf_laws.proofs.cuts.settling_keeps_the_bytes.Goals as goal

pub returns-clause-bytes : goal.returns-clause-bytes
returns-clause-bytes c v births = segments-bytes (segments_of v.bytes) births ∙ ap bytes_in (segments-joined v.bytes)

pub returns-clause-fresh : goal.returns-clause-fresh
returns-clause-fresh c v births le = ap length (segments-fresh (segments_of v.bytes) births (segments_maximal v.bytes) le)
