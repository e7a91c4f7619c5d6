-- Numbers drawn from a generator that keeps one number below 2^64 (our own, with the multiplier and the increment of
-- Knuth's MMIX).
use Rattle.std.specs.Prelude.{ℕ, ◌+◌, ◌*◌, ◌/◌, ◌%◌, ◌^◌}
use Rattle.sf_script_generate.specs.declared.draws.TheConstants.{MULTIPLIER, INCREMENT}

-- What draws give from the generator's number, and its number after them.
abbrev pub Drawn : Type 0 → Type 0
Drawn X = ℕ → X × ℕ

-- One draw behind another.
infixl 10 ◌>>=◌
abbrev pub ◌>>=◌ : {X Y : Type 0} → Drawn X → (X → Drawn Y) → Drawn Y
first >>= next = λ number. next (first number).0 (first number).1

-- A value that no draw is made for.
abbrev pub give : {X : Type 0} → X → Drawn X
give value = λ number. (value, number)

-- The generator's number after a draw.
unfoldable pub next_number : ℕ → ℕ
next_number number = (number * MULTIPLIER + INCREMENT) % 2 ^ 64

-- A draw of a number below a bound.
unfoldable pub draw : ℕ → Drawn ℕ
draw bound = λ number. (next_number number / 2 ^ 33 % bound, next_number number)
