use Rattle.std.proofs.Common.{◌≡◌, ℕ, true, length, ◌+◌, ◌-◌, ◌++◌, List, [], ◌∷◌, Some, drop, sym, ap, ◌∙◌, append_assoc, arith}
use Rattle.std.specs.Prelude.{nat_lt, slice_get}
use Rattle.std.proofs.lemmas.Bool.Decides.{nat_tests}
use Rattle.std.specs.Option.{option_copied}
use Rattle.std.proofs.lemmas.List.{append-nil}
use Rattle.std.proofs.lemmas.Option.{slice_get_within}
use Rattle.sf_chunk_map.specs.Contents.{StoredContent}
use Rattle.sf_store_half.specs.Inside.Settled.{front_chunks}
use Rattle.sf_store_half.proofs.SettledChangeLemmas.{front_done, front_next, item_at, none_at}
use Rattle.sf_store_half.proofs.settled_changes.take_chunks.Goals as goal
use Rattle.sf_store_half.proofs.settled_changes.take_chunks.Goals.{in_default, in_default-2}

pub overflow_add-at : goal.overflow_add-at
overflow_add-at c =
    let here = slice_get_within c.args.chunks.now c.loop-left.at c.in-true-Some.chunk.now (sym c.get.ensures ∙ ap option_copied c.in-true-Some.is-1) in
    let count = c.len-count.ensures in
    let fits = c.len-count.type_inv in
    omega (arith, here, count, fits)

pub loop-left-smaller : goal.loop-left-smaller
loop-left-smaller c =
    let here = slice_get_within c.args.chunks.now c.loop-left.at c.in-true-Some.chunk.now (sym c.get.ensures ∙ ap option_copied c.in-true-Some.is-1) in
    omega (arith, here)

pub loop-left-preserved : goal.loop-left-preserved
loop-left-preserved c =
    let chunks = c.args.chunks.now in
    let x : StoredContent = c.in-true-Some.chunk.now in
    let at = c.loop-left.at in
    let told : slice_get chunks at ≡ Some x = sym c.get.ensures ∙ ap option_copied c.in-true-Some.is-1 in
    let rest = drop (at + 1) chunks in
    let is = c.in-true-Some.is-0 in
    let more : nat_lt 0 c.loop-left.left ≡ true = grind (arith, nat_tests) in
    ap (λ (xs : List StoredContent). xs ++ front_chunks c.saturating_sub-left.result rest) c.in_ok-push.ensures.ok
    ∙ append_assoc c.loop-left.taken (c.in_ok-copy.field-0 ∷ []) (front_chunks c.saturating_sub-left.result rest)
    ∙ ap (λ (y : StoredContent). c.loop-left.taken ++ y ∷ front_chunks c.saturating_sub-left.result rest) c.in_ok-copy.ensures
    ∙ ap (λ n. c.loop-left.taken ++ x ∷ front_chunks n rest) (c.saturating_sub-left.ensures ∙ ap (λ n. c.loop-left.left - n) (c.len.ensures ∙ ap (λ (bs : List ℕ). length bs) c.content.ensures.content))
    ∙ ap (λ (ys : List StoredContent). c.loop-left.taken ++ ys) (sym (front_next c.loop-left.left x rest more) ∙ ap (front_chunks c.loop-left.left) (sym (item_at chunks at x told)))
    ∙ c.loop-left.invariant

pub returns : goal.returns
returns c =
    let chunks = c.args.chunks.now in
    let ended : front_chunks c.loop-left.left (drop c.loop-left.at chunks) ≡ [] = elim c.if-left-gt0.branch [
      | in_default w ↦ ap (front_chunks c.loop-left.left) (none_at chunks c.loop-left.at (sym c.get.ensures ∙ ap option_copied w.in_default.is-1))
      | in_default-2 w ↦ front_done c.loop-left.left (drop c.loop-left.at chunks) (let is = w.in_default.is-0 in grind (arith, nat_tests))
    ] in
    sym (append-nil c.loop-left.taken) ∙ ap (λ (ys : List StoredContent). c.loop-left.taken ++ ys) (sym ended) ∙ c.loop-left.invariant
