-- The depth of a balanced tree.
use Rattle.std.proofs.Common.{◌≡◌, ℕ, suc, ◌+◌, ◌/◌, ◌^◌, ◌≤◌, ◌<◌, max, min, inl, inr, ap, add-one, arith}
use Rattle.std.proofs.Math.Pow.{pow_mono}
use Rattle.std.proofs.Math.Nat.{pow-suc}
use Rattle.std.proofs.lemmas.Bool.{cases_lt}
use Rattle.sf_piece_tree.specs.Inside.Shapes.{AreBalanced}

-- a power of at most one more is at most twice the power
twice : (k j : ℕ) → k ≤ j + 1 → 2 ^ k ≤ 2 ^ j + 2 ^ j
twice k j most =
    let next : k ≤ suc j = omega arith in
    let above : 2 ^ k ≤ 2 ^ suc j = pow_mono next in
    omega (arith, above, pow-suc 2 j)

-- two balanced trees with a node between are shallow if each is
pub shallow_node : (left right m n : ℕ) → AreBalanced left right → 2 ^ (left / 2) ≤ m + 1 → 2 ^ (right / 2) ≤ n + 1 → 2 ^ ((max left right + 1) / 2) ≤ m + 1 + n + 1
shallow_node left right m n balanced below beyond =
    let top : 2 ^ ((max left right + 1) / 2) ≤ 2 ^ (min left right / 2) + 2 ^ (min left right / 2) = twice _ _ (omega (arith, balanced.0, balanced.1)) in
    let half : min left right / 2 ≤ left / 2 = omega arith in
    let other_half : min left right / 2 ≤ right / 2 = omega arith in
    let first : 2 ^ (min left right / 2) ≤ 2 ^ (left / 2) = pow_mono half in
    let second : 2 ^ (min left right / 2) ≤ 2 ^ (right / 2) = pow_mono other_half in
    omega arith

-- two trees with a node between are deep if each is
pub deep_node : (left right m n : ℕ) → m + 1 ≤ 2 ^ left → n + 1 ≤ 2 ^ right → m + 1 + n + 1 ≤ 2 ^ (max left right + 1)
deep_node left right m n below beyond =
    let low : left ≤ max left right = omega arith in
    let high : right ≤ max left right = omega arith in
    let first : 2 ^ left ≤ 2 ^ max left right = pow_mono low in
    let second : 2 ^ right ≤ 2 ^ max left right = pow_mono high in
    let next : 2 ^ (max left right + 1) ≡ 2 ^ suc (max left right) = ap (λ k. 2 ^ k) (add-one (max left right)) in
    omega (arith, first, second, below, beyond, next, pow-suc 2 (max left right))

-- a shallow tree of fewer than 2^64 units has a height that can grow
pub height_fits : (height n : ℕ) → 2 ^ (height / 2) ≤ n + 1 → n < 2 ^ 64 → height + 1 < 2 ^ 32
height_fits height n shallow few =
    elim (cases_lt height 130) [
      | inl low ↦ omega arith
      | inr high ↦
          let half : 65 ≤ height / 2 = omega arith in
          let more : 2 ^ 65 ≤ 2 ^ (height / 2) = pow_mono half in
          absurd (omega arith)
    ]
