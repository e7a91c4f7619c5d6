use Rattle.std.proofs.Common.{◌≡◌, ℕ, ◌+◌, ◌-◌, List, [], ◌∷◌, ◌++◌, take, ap, ◌∙◌}
use Rattle.sf_types.specs.declared.limits.TheConstants.{CONTENT_BYTES}
use Rattle.sf_types.specs.Space.Contents.{slices_of}
use Rattle.sf_plain_table.proofs.CutLemmas.{next_slice}
use Rattle.sf_plain_table.proofs.cuts.push_contents.Goals as goal

pub loop-preserved : goal.loop-preserved
loop-preserved c =
    let count = c.div_ceil-count.result in
    let k = c.loop.counter in
    let done = c.loop.contents.items in
    let rest = c.loop.rest.now in
    let pushed : c.push.new.self.items ≡ done ++ take CONTENT_BYTES rest ∷ [] = c.in_ok-push.ensures.items ∙ ap (λ (x : List ℕ). done ++ x ∷ []) (c.in_ok-new.ensures ∙ c.front.ensures) in
    ap (λ (xs : List (List ℕ)). xs ++ slices_of CONTENT_BYTES (count - (k + 1)) c.behind-rest.result.now) pushed
    ∙ ap (λ (r : List ℕ). (done ++ take CONTENT_BYTES rest ∷ []) ++ slices_of CONTENT_BYTES (count - (k + 1)) r) c.behind-rest.ensures
    ∙ next_slice CONTENT_BYTES count k done rest c.loop-test.true
    ∙ c.loop.invariant
