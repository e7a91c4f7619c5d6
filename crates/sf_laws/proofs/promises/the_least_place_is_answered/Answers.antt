use Rattle.std.proofs.Common.{◌≡◌, ℕ, ◌+◌, ◌-◌, ◌≤◌, ◌<◌, false, List, length, Option, Some, None, refl, ap, ◌∙◌, arith}
use Rattle.std.specs.Prelude.{find, unwrap_or}
use Rattle.std.specs.List.{range_with_len}
use Rattle.sf_types.specs.Calls.LocatorCalls.{matches_at}
use Rattle.sf_laws.proofs.LeastLemmas.{IsLeastFrom, found-least, found-none}
use Rattle.sf_laws.proofs.promises.the_least_place_is_answered.Goals as goal

-- what was looked for
abbrev sought : List ℕ → List ℕ → ℕ → Option ℕ
sought bytes pattern offset = find (matches_at bytes pattern) (range_with_len offset (length bytes + 1 - offset))

found-at : (bytes pattern : List ℕ) (offset k : ℕ) (o : Option ℕ) → sought bytes pattern offset ≡ o → unwrap_or o 0 ≡ k + 1 → IsLeastFrom (matches_at bytes pattern) offset (k + 1)
found-at bytes pattern offset k None is there = absurd (omega (arith, there))
found-at bytes pattern offset k (Some h) is there = found-least (matches_at bytes pattern) offset (length bytes + 1 - offset) (k + 1) (is ∙ ap (λ (n : ℕ). Some n) there)

below-is : (bytes pattern : List ℕ) (offset k : ℕ) (o : Option ℕ) → sought bytes pattern offset ≡ o → offset ≤ k → k < unwrap_or o 0 → matches_at bytes pattern k ≡ false
below-is bytes pattern offset k None is low high = absurd (omega (arith, high))
below-is bytes pattern offset k (Some h) is low high = (found-least (matches_at bytes pattern) offset (length bytes + 1 - offset) h is).least k low high

none-is : (bytes pattern : List ℕ) (offset k : ℕ) (o : Option ℕ) → sought bytes pattern offset ≡ o → 1 ≤ offset → unwrap_or o 0 ≡ 0 → offset ≤ k → k ≤ length bytes → matches_at bytes pattern k ≡ false
none-is bytes pattern offset k None is some there low high = found-none (matches_at bytes pattern) offset (length bytes + 1 - offset) k is low (omega (arith, low, high))
none-is bytes pattern offset k (Some h) is some there low high =
    let least = found-least (matches_at bytes pattern) offset (length bytes + 1 - offset) h is in
    absurd (omega (arith, some, there, least.from))

pub returns-clause-stands : goal.returns-clause-stands
returns-clause-stands c bytes pattern offset k some there =
    let least = found-at bytes pattern offset k (sought bytes pattern offset) refl there in
    (least.from, least.passes)

pub returns-clause-least : goal.returns-clause-least
returns-clause-least c bytes pattern offset k some low high = below-is bytes pattern offset k (sought bytes pattern offset) refl low high

pub returns-clause-none : goal.returns-clause-none
returns-clause-none c bytes pattern offset k some there low high = none-is bytes pattern offset k (sought bytes pattern offset) refl some there low high
