use Rattle.std.proofs.Common.{◌≡◌, ℕ, List, map, take}
use Rattle.sf_chunk_map.specs.Contents.{StoredContent}
use Rattle.sf_edit_tests.proofs.gather.chunks.Given as goal

-- the chunks of the contents before this one
abbrev pub invariant-loop-content : goal.invariant-loop-content
invariant-loop-content l = map {B = List ℕ} (λ (chunk : StoredContent). chunk.bytes) l.chunks ≡ take l.content-index l.content-items
