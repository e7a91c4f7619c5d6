use Rattle.std.proofs.Common.{◌≡◌, ℕ, ◌+◌, List, ◌++◌, length, drop, sym, ap, ◌∙◌, append_assoc, arith}
use Rattle.std.proofs.lemmas.List.{append-nil}
use Rattle.sf_types.specs.Space.Contents.{contents_of_stretch}
use Rattle.sf_chunk_map.specs.Inside.Settling.{contents_in}
use Rattle.sf_write_gather.proofs.StretchLemmas.{contents-none, contents-next, none-found}
use Rattle.sf_write_gather.proofs.contents.push_contents.Goals as goal

pub loop-start-preserved : goal.loop-start-preserved
loop-start-preserved c =
    let marked = c.args.value.now.bytes in
    let bytes = c.in_ok-bytes.bytes.items in
    let stretch = c.in_ok-bytes.ensures in
    let len : c.len.result ≡ length bytes = omega (arith, c.len.ensures, c.in_ok-bytes.bytes.ok) in
    let more : c.push_all.new.contents ≡ c.loop-start.contents ++ contents_of_stretch bytes =
    c.in_ok-push_all.ensures
    ∙ ap (λ (xs : List (List ℕ)). c.loop-start.contents ++ xs) (c.in_ok-cut.ensures ∙ ap (λ (xs : List ℕ). contents_of_stretch xs) c.as_slice.ensures.value) in
    record {
      within = omega (arith, len, stretch.within);
      contents =
          ap (λ (n : ℕ). c.push_all.new.contents ++ contents_in (drop (c.in-Some.start + n) marked)) len
          ∙ ap (λ (xs : List (List ℕ)). xs ++ contents_in (drop (c.in-Some.start + length bytes) marked)) more
          ∙ append_assoc c.loop-start.contents (contents_of_stretch bytes) (contents_in (drop (c.in-Some.start + length bytes) marked))
          ∙ ap (λ (xs : List (List ℕ)). c.loop-start.contents ++ xs) (sym (contents-next marked c.loop-start.at c.in-Some.start bytes c.in-Some.ensures stretch))
          ∙ c.loop-start.invariant.contents;
    }

pub returns : goal.returns
returns c =
    let marked = c.args.value.now.bytes in
    sym (append-nil c.loop-start.contents)
    ∙ ap (λ (xs : List (List ℕ)). c.loop-start.contents ++ xs) (sym (contents-none marked c.loop-start.at (none-found c.next_fresh.result marked c.loop-start.at (λ n is. c.in_default.not-Some n is) c.next_fresh.ensures)))
    ∙ c.loop-start.invariant.contents
