use Rattle.std.proofs.Common.{◌≡◌, ℕ, ◌-◌, cond, Option, length, ap, ◌∙◌, subst, arith}
use Rattle.sf_chunk_map.specs.Pieces.{marked_of}
use Rattle.sf_chunk_map.specs.Inside.Counts.{bytes_of_birth, HasPlace, is_birth}
use Rattle.sf_chunk_map.proofs.BirthLemmas.{named_birth}
use Rattle.sf_chunk_map.proofs.counting.make_place.Goals as goal

pub returns-in_ok-make_place-in-Some-clause-place : goal.returns-in_ok-make_place-in-Some-clause-place
returns-in_ok-make_place-in-Some-clause-place c = λ b some.
    let birth = c.in-Some.birth in
    let marked = marked_of c.args.piece.now in
    subst (λ (k : ℕ). HasPlace c.make_place.new.self k) (named_birth c.stored_birth.result birth b (length marked - 0) (bytes_of_birth b marked) c.in-Some.is (c.stored_birth.ensures b 0 (omega arith)) some) c.in_ok-make_place-in-Some.ensures.place

pub returns-in-None-clause-place : goal.returns-in-None-clause-place
returns-in-None-clause-place c = λ b some.
    let marked = marked_of c.args.piece.now in
    let none : bytes_of_birth b marked ≡ 0 = c.stored_birth.ensures b 0 (omega arith) ∙ ap (λ (o : Option ℕ). cond (is_birth b o) (length marked - 0) 0) c.in-None.is in
    absurd (omega (arith, some, none))
