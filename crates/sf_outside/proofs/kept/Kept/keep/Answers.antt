-- The bytes that are kept are the first of all that were taken, and the mark says whether some were not.
use Rattle.std.proofs.Common.{arith, ◌≡◌, ℕ, ◌+◌, ◌-◌, ◌≤◌, min, length, ◌||◌, nat_lt, List, ◌++◌, take, sym, ◌∙◌, ap, length-append}
use Rattle.std.proofs.lemmas.Bool.Decides.{nat_tests}
use Rattle.std.proofs.lemmas.Grind.{common_steps}
use Rattle.std.proofs.lemmas.List.{take_min}
use Rattle.std.proofs.Math.Seq.{take-append-add}
use Rattle.sf_outside.specs.Kept.{Kept, kept_with}
use Rattle.sf_outside.proofs.kept.Kept.keep.Goals as goal

-- what fits into the room is the first of both lists together
take-append_room : (xs ys : List ℕ) (room amount : ℕ) → length xs ≤ room → amount ≡ min (length ys) (room - length xs) → xs ++ take amount ys ≡ take room (xs ++ ys)
take-append_room xs ys room amount h e =
    let fits : length xs + (room - length xs) ≡ room = omega arith in
    let swapped : amount ≡ min (room - length xs) (length ys) = omega arith in
    ap (λ k. xs ++ take k ys) swapped ∙ ap (λ l. xs ++ l) (take_min (room - length xs) ys) ∙ sym (take-append-add xs ys (room - length xs)) ∙ ap (λ k. take k (xs ++ ys)) fits

-- some of the new bytes don't fit exactly where both lists together are longer than the room
over-is : (m n room amount : ℕ) → m ≤ room → amount ≡ min n (room - m) → nat_lt amount n ≡ nat_lt room (m + n)
over-is m n room amount h e = grind (arith, nat_tests)

-- what `keep` leaves is what its contract says
kept-is : (k : Kept) (taken new : List ℕ) (amount : ℕ) → length k.bytes ≤ k.room → amount ≡ min (length taken) (k.room - length k.bytes) → new ≡ k.bytes ++ take amount taken → record k { bytes = new; is_over = k.is_over || nat_lt amount (length taken) } ≡ kept_with k taken
kept-is k taken new amount h e f =
    let bytes : new ≡ take k.room (k.bytes ++ taken) = f ∙ take-append_room k.bytes taken k.room amount h e in
    let over : nat_lt amount (length taken) ≡ nat_lt k.room (length (k.bytes ++ taken)) = over-is (length k.bytes) (length taken) k.room amount h e ∙ ap (nat_lt k.room) (sym (length-append k.bytes taken)) in
    rw (bytes, over)

pub returns : goal.returns
returns c =
    rw (← c.self.view_is) (kept-is _ c.args.taken.now c.extend_from_slice.new.self.items c.min-amount.result (omega arith) (omega arith) (grind (arith, common_steps)))
