use Rattle.std.proofs.Common.{◌+◌, ◌-◌, ◌≤◌, length, drop, ap, ◌∙◌, arith}
use Rattle.sf_types.specs.Space.Cuts.{stored_bytes}
use Rattle.sf_chunk_map.specs.Contents.{StoredContent, ContentPart, bytes_of_part, window}
use Rattle.sf_chunk_map.proofs.PieceLemmas.{length_part, window-back}
use Rattle.sf_chunk_map.proofs.parts.StoredPart.back.Goals as goal

pub returns : goal.returns
returns c =
    let p = c.self.inside in
    let within : c.args.n ≤ p.len = omega (arith, c.requires.within, length_part _ c.self.invariant, ap (λ (p : ContentPart). length (bytes_of_part p)) c.self.view_is) in
    ap (λ (x : StoredContent). window (p.from + c.args.n) (p.len - c.args.n) (stored_bytes x.birth x.bytes)) c.in_ok-copy.ensures
    ∙ window-back p.from p.len c.args.n (stored_bytes p.chunk.birth p.chunk.bytes) within
    ∙ ap (λ (p : ContentPart). drop c.args.n (bytes_of_part p)) c.self.view_is
