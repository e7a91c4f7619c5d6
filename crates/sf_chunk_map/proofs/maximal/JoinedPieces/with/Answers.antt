use Rattle.std.proofs.Common.{◌≡◌, List, ◌∷◌, [], ◌++◌, length, sym, ap, subst, ◌∙◌, arith, length-append}
use Rattle.sf_types.specs.Values.Marks.{Marked}
use Rattle.sf_chunk_map.specs.declared.parts.Piece.{Piece}
use Rattle.sf_chunk_map.specs.Pieces.{marked_of}
use Rattle.sf_chunk_map.specs.MaximalPieces.{GoesOn, AreMaximal}
use Rattle.sf_chunk_map.specs.Inside.LastPieces.{piece_so_far}
use Rattle.sf_chunk_map.proofs.MaximalLemmas.{maximal-push, maximal-last}
use Rattle.sf_chunk_map.proofs.maximal.JoinedPieces.with.Goals as goal

pub invariant_of-result : goal.invariant_of-result
invariant_of-result c =
    let old = piece_so_far c.self.inside.last in
    let both = piece_so_far c.in_ok-last.last in
    record {
      some = omega (arith, c.self.invariant.some, ap (λ (ms : List Marked). length ms) c.in_ok-last.ensures.bytes, length-append (marked_of old) (marked_of c.args.piece));
      maximal = maximal-last c.self.inside.pieces old both c.self.invariant.maximal c.in_ok-last.ensures.begins;
    }

pub invariant_of-result-2 : goal.invariant_of-result-2
invariant_of-result-2 c =
    let old = piece_so_far c.self.inside.last in
    let next = piece_so_far c.in_ok-last-2.last in
    let pushed : c.push.new.self ≡ c.self.inside.pieces ++ old ∷ [] =
    c.in_ok-push.ensures.ok ∙ ap (λ (p : Piece). c.self.inside.pieces ++ p ∷ []) c.in_ok-into_piece.ensures in
    record {
      some = omega (arith, c.size-size.ensures.size, c.size-size.ensures.some, ap (λ (p : Piece). length (marked_of p)) c.in_ok-last-2.ensures);
      maximal = subst (λ (ps : List Piece). AreMaximal (ps ++ next ∷ [])) (sym pushed)
          (maximal-push c.self.inside.pieces old next c.self.invariant.maximal
          (λ on. let next_is = c.if-has_next.ensures.1 (subst (GoesOn old) c.in_ok-last-2.ensures on) in cc (next_is)));
    }
