-- A loop that reads an input.
use Rattle.std.proofs.Common.{◌≡◌, ◌≤◌, ℕ, List, [], ◌++◌, length, take, drop, Option, Some, None, IfSome, sym, ap, ◌∙◌}
use Rattle.std.proofs.lemmas.List.{append-nil, take_at, take_all, drop_at, drop_all}
use Rattle.sf_outside.specs.Source.{GivesFirst, Gave}
use Rattle.sf_program.specs.declared.input.TheConstants.{READ_LIMIT}
use Rattle.sf_program.specs.Inputs.{IsRead}

-- as many bytes as are read at most
pub read_full : (before after : Option (List ℕ)) (bytes : List ℕ) → Gave before after bytes → length bytes ≡ READ_LIMIT → IfSome before (λ input. IsRead input after bytes)
read_full None after bytes gave full = tt
read_full (Some input) after bytes gave full = record {
  first = sym (ap (take READ_LIMIT) gave.2 ∙ take_at bytes gave.0 READ_LIMIT full);
  others = gave.1 ∙ ap Some (sym (ap (drop READ_LIMIT) gave.2 ∙ drop_at bytes gave.0 READ_LIMIT full));
}

-- an input with no more bytes than are read at most
short : (input bytes : List ℕ) (after : Option (List ℕ)) → input ≡ bytes → length bytes ≤ READ_LIMIT → after ≡ Some [] → IsRead input after bytes
short input bytes after is most end = record {
  first = sym (ap (take READ_LIMIT) is ∙ take_all READ_LIMIT bytes most);
  others = end ∙ ap Some (sym (ap (drop READ_LIMIT) is ∙ drop_all READ_LIMIT bytes most));
}

-- the end of the input
pub read_ended : (before between after : Option (List ℕ)) (bytes old new : List ℕ) → Gave before between bytes → length bytes ≤ READ_LIMIT → IfSome between (λ left. GivesFirst left after 0 old new) → IfSome between (λ left. left ≡ []) → IfSome before (λ input. IsRead input after bytes)
read_ended None between after bytes old new gave most read end = tt
read_ended (Some input) None after bytes old new gave most read end = absurd (cc gave.1)
read_ended (Some input) (Some left) after bytes old new gave most read end =
    let same : left ≡ gave.0 = cc gave.1 in
    let all : input ≡ bytes = gave.2 ∙ ap (λ (xs : List ℕ). bytes ++ xs) (sym same ∙ end) ∙ append-nil bytes in
    short input bytes after all most (read.rest ∙ ap Some end)
