-- Offsets looked at one after another.
use Rattle.std.proofs.Common.{◌≡◌, ℕ, suc, ◌+◌, ◌-◌, ◌<◌, Bool, false, cond, List, ◌∷◌, Some, sym, ap, ◌∙◌, arith}
use Rattle.std.specs.Prelude.{find}
use Rattle.std.specs.List.{range_with_len}

skipped : (p : ℕ → Bool) (x : ℕ) (xs : List ℕ) → p x ≡ false → find p (x ∷ xs) ≡ find p xs
skipped p x xs misses = ap (λ b. cond b (Some x) (find p xs)) misses

-- an offset that misses is passed over
pub next_offset : (p : ℕ → Bool) (at end : ℕ) → at < end → p at ≡ false → find p (range_with_len (at + 1) (end - (at + 1))) ≡ find p (range_with_len at (end - at))
next_offset p at end less misses =
    let rest = end - (at + 1) in
    let count : end - at ≡ suc rest = omega (arith, less) in
    sym (ap (λ n. find p (range_with_len at n)) count ∙ skipped p at (range_with_len (at + 1) rest) misses)
