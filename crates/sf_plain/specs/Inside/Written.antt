-- Calls whose written locator is there (our own).
use Rattle.std.specs.Prelude.{IsSome}
use Rattle.std.specs.Option.{IfSome}
use Rattle.sf_types.specs.declared.call.Call.{Call}
use Rattle.sf_types.specs.Table.Parts.{Session}
use Rattle.sf_types.specs.Calls.LocatorCalls.{locator_named}
use Rattle.sf_types.specs.Calls.WritingCalls.{written_name}

-- The locator through which a call writes is there. A call that writes through none passes.
abbrev pub HasWritten : Session → Call → Type 0
HasWritten p c = IfSome (written_name c) (λ at. IsSome (locator_named p at))
