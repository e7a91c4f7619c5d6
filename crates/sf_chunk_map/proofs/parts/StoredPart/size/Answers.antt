use Rattle.std.proofs.Common.{length, sym, ap, ◌∙◌}
use Rattle.sf_chunk_map.specs.Contents.{ContentPart, bytes_of_part}
use Rattle.sf_chunk_map.proofs.PieceLemmas.{length_part}
use Rattle.sf_chunk_map.proofs.parts.StoredPart.size.Goals as goal

pub returns-clause-size : goal.returns-clause-size
returns-clause-size c = c.from.ensures ∙ sym (length_part _ c.self.invariant) ∙ ap (λ (p : ContentPart). length (bytes_of_part p)) c.self.view_is
