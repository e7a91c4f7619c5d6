-- What a function that may want memory gives (our own).
use Rattle.std.specs.Prelude.{◌≡◌, Result, Ok, Err}
use Rattle.sf_script.specs.declared.fault.Reason.{Reason}
use Rattle.sf_script.specs.declared.fault.Stop.{Stop}
use Rattle.sf_script.specs.declared.fault.Stop.TheVariants as stops

-- The reason is the one that is due, unless memory ran out.
abbrev pub Fails : {Y : Type 0} → Stop → Result Y Reason → Type 0
Fails stops.Memory due = Unit {0}
Fails (stops.Refused reason) due = due ≡ Err reason

-- What a function returned, seen by view, is what is due, unless memory ran out.
abbrev pub Gives : {X Y : Type 0} → (X → Y) → Result X Stop → Result Y Reason → Type 0
Gives view (Ok x) due = due ≡ Ok (view x)
Gives view (Err stop) due = Fails stop due
