-- Masks of neighbouring bits, which the private `mask_from` makes (our own).
use Rattle.std.specs.Prelude.{ℕ, ◌-◌, ◌^◌}

-- The mask whose bits are set from one offset up to another, which isn't reached.
abbrev pub mask_between : ℕ → ℕ → ℕ
mask_between from to = 2 ^ to - 2 ^ from
