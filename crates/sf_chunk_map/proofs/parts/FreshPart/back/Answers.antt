use Rattle.std.proofs.Common.{◌≡◌, ℕ, List, ◌+◌, ◌-◌, length, drop, sym, ap, ◌∙◌, arith}
use Rattle.sf_chunk_map.specs.Contents.{window}
use Rattle.sf_chunk_map.proofs.PieceLemmas.{length-window, window-back}
use Rattle.sf_chunk_map.proofs.parts.FreshPart.back.Goals as goal

pub returns : goal.returns
returns c =
    let p = c.self.inside in
    let whole : length c.args.self.now ≡ p.len = ap (λ (xs : List ℕ). length xs) (sym c.self.view_is) ∙ length-window p.from p.len p.bytes c.self.invariant.within in
    ap (λ (k : ℕ). window (p.from + c.args.n) (k - c.args.n) c.in_ok-copy.field-0) (c.len-len.ensures.len ∙ whole)
    ∙ ap (λ (xs : List ℕ). window (p.from + c.args.n) (p.len - c.args.n) xs) c.in_ok-copy.ensures
    ∙ window-back p.from p.len c.args.n p.bytes (omega (arith, c.requires.within, whole))
    ∙ ap (drop c.args.n) c.self.view_is
