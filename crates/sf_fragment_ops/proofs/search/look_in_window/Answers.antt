use Rattle.std.proofs.Common.{◌≡◌, ℕ, ◌+◌, ◌≤◌, List, length, take, drop, ap, ◌∙◌, subst, arith}
use Rattle.std.proofs.lemmas.List.{take_at, length-map}
use Rattle.sf_types.specs.Values.Marks.{Marked, strip}
use Rattle.memchr.specs.Find.{FindsNeedle}
use Rattle.sf_chunk_map.specs.Contents.{window}
use Rattle.sf_chunk_map.proofs.PieceLemmas.{length-window}
use Rattle.sf_fragment_ops.proofs.search.look_in_window.Goals as goal

pub returns-clause-look : goal.returns-clause-look
returns-clause-look c =
    let bytes = strip c.args.value.now in
    let n = c.read_into-count.result in
    let len = length-map c.args.value.now.bytes (λ (m : Marked). m.byte) in
    let within : c.args.at + n ≤ length bytes = omega (arith, c.read_into-count.ensures.count, len, c.requires.within) in
    let size : length (window c.args.at n bytes) ≡ n = length-window c.args.at n bytes within in
    let read : take n c.read_into-count.new.into ≡ window c.args.at n bytes =
    ap (take n) c.read_into-count.ensures.bytes ∙ take_at (window c.args.at n bytes) (drop n c.args.window.now) n size in
    record {
      room = omega (arith, c.read_into-count.ensures.count, c.requires.room, c.requires.within);
      within = within;
      found = subst (λ (xs : List ℕ). FindsNeedle xs c.args.finder.now 0 c.find.result) read c.find.ensures;
    }
