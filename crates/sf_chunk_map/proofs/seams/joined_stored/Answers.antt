use Rattle.std.proofs.Common.{◌+◌, ℕ, refl, ap, ◌∙◌, ◌≡◌}
use Rattle.sf_chunk_map.specs.Contents.{StoredContent, ContentPart, bytes_of_part}
use Rattle.sf_chunk_map.proofs.SeamLemmas.{joined-part}
use Rattle.sf_chunk_map.proofs.seams.joined_stored.Goals as goal

pub returns-in-Ok : goal.returns-in-Ok
returns-in-Ok c =
    let left = c.args.left.now in
    let right = c.args.right.now in
    let first = c.len-first.result in
    let second = c.len-second.result in
    let is : c.new.result ≡ record { content = left.content; from = left.from; len = left.len + right.len } =
    c.new.ensures
    ∙ ap (λ (x : StoredContent). record { content = x; from = c.from.result; len = first + second }) (c.in-Ok.ensures ∙ c.chunk.ensures)
    ∙ ap (λ (k : ℕ). record { content = left.content; from = k; len = first + second }) c.from.ensures
    ∙ ap (λ (k : ℕ). record { content = left.content; from = left.from; len = k + second }) c.len-first.ensures.len
    ∙ ap (λ (k : ℕ). record { content = left.content; from = left.from; len = left.len + k }) c.len-second.ensures.len in
    ap (λ (p : ContentPart). bytes_of_part p) is ∙ joined-part left right (c.if-not-goes_on.ensures.0 refl).0 (c.if-not-goes_on.ensures.0 refl).1
