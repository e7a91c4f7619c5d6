use Rattle.std.proofs.Common.{◌≡◌, ℕ, ◌-◌, List, length, take, drop, ap, ◌∙◌, subst}
use Rattle.sf_types.specs.Values.Marks.{Marked}
use Rattle.sf_chunk_map.specs.declared.parts.Piece.{Piece}
use Rattle.sf_chunk_map.specs.Pieces.{marked_of, marked_in, fresh_in}
use Rattle.sf_chunk_map.specs.Stretches.{AreFreshAt, IsNotFreshAt}
use Rattle.sf_chunk_map.proofs.FreshLemmas.{not-fresh, fresh-from}
use Rattle.sf_chunk_map.proofs.PieceLemmas.{none_fresh_in_part, none_fresh_in_zeros, rest_of}
use Rattle.sf_chunk_map.proofs.map.Map.fresh_at.Goals as goal

pub returns-in-Stored : goal.returns-in-Stored
returns-in-Stored c =
    let marked : marked_in c.self.inside.tree ≡ c.args.self.now.bytes = ap (λ v. v.bytes) c.self.view_is in
    subst (λ (ms : List Marked). IsNotFreshAt ms c.args.at) marked
    (not-fresh c.self.inside.tree c.args.at c.in_ok-piece.from c.in_ok-piece.piece.now c.in_ok-piece.ensures
    (ap (λ (p : Piece). fresh_in (marked_of p)) c.in-Stored.is ∙ none_fresh_in_part c.in-Stored.field-0))

pub returns-in-Zero : goal.returns-in-Zero
returns-in-Zero c =
    let marked : marked_in c.self.inside.tree ≡ c.args.self.now.bytes = ap (λ v. v.bytes) c.self.view_is in
    subst (λ (ms : List Marked). IsNotFreshAt ms c.args.at) marked
    (not-fresh c.self.inside.tree c.args.at c.in_ok-piece.from c.in_ok-piece.piece.now c.in_ok-piece.ensures
    (ap (λ (p : Piece). fresh_in (marked_of p)) c.in-Zero.is ∙ none_fresh_in_zeros c.in-Zero.field-0))

pub returns-in-Fresh : goal.returns-in-Fresh
returns-in-Fresh c =
    let xs = c.as_bytes.result.now in
    let marked : marked_in c.self.inside.tree ≡ c.args.self.now.bytes = ap (λ v. v.bytes) c.self.view_is in
    subst (λ (ms : List Marked). AreFreshAt ms c.args.at (take (length xs - c.in_ok-piece.from) (drop c.in_ok-piece.from xs))) marked
    (fresh-from c.self.inside.tree c.args.at c.in_ok-piece.from c.in_ok-piece.piece.now c.in-Fresh.part (take (length xs - c.in_ok-piece.from) (drop c.in_ok-piece.from xs)) c.in_ok-piece.ensures c.in-Fresh.is
    (rest_of c.in_ok-piece.from xs ∙ ap (λ (ys : List ℕ). drop c.in_ok-piece.from ys) c.as_bytes.ensures))
