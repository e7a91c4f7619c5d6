use Rattle.std.proofs.Common.{◌≡◌, ℕ, ◌+◌, List, ◌++◌, length, ap, subst, arith}
use Rattle.std.proofs.lemmas.List.{length-append}
use Rattle.sf_chunk_map.specs.Stretches.{AreFreshAt}
use Rattle.sf_write_gather.proofs.StretchLemmas.{more-within, more-fresh}
use Rattle.sf_write_gather.proofs.contents.stretch_at.Goals as goal

pub loop-more-preserved : goal.loop-more-preserved
loop-more-preserved c =
    let marked = c.args.value.now.bytes in
    let bytes = c.loop-more.bytes.items in
    let more = c.in-Some.more.now in
    let all = c.extend_from_slice.new.self.items in
    let len : c.len.result ≡ length bytes = omega (arith, c.len.ensures, c.loop-more.bytes.ok) in
    let are : AreFreshAt marked (c.args.at + length bytes) more = subst (λ (n : ℕ). AreFreshAt marked (c.args.at + n) more) len c.in-Some.ensures in
    let is : all ≡ bytes ++ more = c.in_ok-extend_from_slice.ensures.items in
    record {
      within = omega (arith, more-within marked (c.args.at + length bytes) more are, ap (λ (xs : List ℕ). length xs) is, length-append bytes more);
      bytes = more-fresh marked c.args.at bytes more all c.loop-more.invariant.bytes are is;
    }
