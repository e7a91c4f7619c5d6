-- Tests that are joined.
use Rattle.std.proofs.Common.{◌≡◌, Bool, true, false, not, ◌||◌, ◌&&◌, ◌⊎◌, inl, inr, refl}
use Rattle.std.specs.Prelude.{T}

pub none-of-both : (a b : Bool) → a ≡ false → b ≡ false → (a || b) ≡ false
none-of-both a b no-a no-b = rw no-a no-b

-- the middle one last
pub middle-last : (a b c : Bool) → (a || (b || c)) ≡ ((a || c) || b)
middle-last true b c = refl
middle-last false true true = refl
middle-last false true false = refl
middle-last false false true = refl
middle-last false false false = refl

pub or-false : (a : Bool) → a ≡ (a || false)
or-false true = refl
or-false false = refl

pub or-regroup : (a b c : Bool) → ((a || b) || c) ≡ (a || (b || c))
or-regroup true b c = refl
or-regroup false b c = refl

pub or-true : (a b : Bool) → b ≡ true → (a || b) ≡ true
or-true true b is = refl
or-true false b is = is

pub and-turned : (a b : Bool) → (a && b) ≡ false → (b && a) ≡ false
and-turned true true none = none
and-turned true false none = refl
and-turned false true none = refl
and-turned false false none = refl

-- what a conjunction says of each part
pub first : (a b : Bool) → T (a && b) → T a
first true b p = tt
first false b p = p

pub second : (a b : Bool) → T (a && b) → T b
second true b p = p
second false b p = absurd p

pub both : (a b : Bool) → T a → T b → T (a && b)
both true b p q = q
both false b p q = p

pub both_first : (a b : Bool) → (a && b) ≡ true → a ≡ true
both_first true b h = refl
both_first false b h = h

pub both_second : (a b : Bool) → (a && b) ≡ true → b ≡ true
both_second true b h = h
both_second false b h = absurd cc

pub either : (a b : Bool) → (a || b) ≡ true → (a ≡ true) ⊎ (b ≡ true)
either true b is = inl refl
either false b is = inr is

pub not_not : (b : Bool) → not b ≡ false → b ≡ true
not_not true is = refl
not_not false is = absurd cc

-- neither of two holds
pub neither-first : (a b : Bool) → (a || b) ≡ false → a ≡ false
neither-first true b none = none
neither-first false b none = refl

-- the last one before the middle one
pub or-last : (a b c : Bool) → ((a || b) || c) ≡ (a || (c || b))
or-last true b c = refl
or-last false true true = refl
or-last false true false = refl
or-last false false true = refl
or-last false false false = refl
