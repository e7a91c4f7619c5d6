-- What a seat is between calls.
use Rattle.std.proofs.Common.{◌≡◌, ℕ, true, false, true≢false, List, [], ◌∷◌, Option, None, refl, sym}
use Rattle.sf_turnstile.specs.declared.view.Phase.{Phase}
use Rattle.sf_turnstile.specs.declared.view.Phase.TheVariants.{Idle, Waits, Holds, Spent}
use Rattle.sf_turnstile.specs.Sittings.{is_holding}
use Rattle.sf_turnstile.specs.Inside.{InPhase}

pub idle_is : {B : Type 0} (p : Phase) (l : List (ℕ × Option B)) → InPhase p l → is_holding p ≡ false → (p ≡ Idle) × (l ≡ [])
idle_is Idle l fits e = (refl, fits)
idle_is (Waits t) l fits e = absurd fits
idle_is (Holds t) l fits e = absurd (true≢false e)
idle_is Spent l fits e = absurd fits

pub holding_is : {B : Type 0} (p : Phase) (l : List (ℕ × Option B)) → InPhase p l → is_holding p ≡ true → (t : ℕ) × (p ≡ Holds t) × (l ≡ (0, None) ∷ [])
holding_is Idle l fits e = absurd (true≢false (sym e))
holding_is (Waits t) l fits e = absurd fits
holding_is (Holds t) l fits e = (t, refl, fits)
holding_is Spent l fits e = absurd fits
