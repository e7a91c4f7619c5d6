-- What a session's due call flushes (our own).
use Rattle.std.specs.Prelude.{◌≡◌, Option, Some}
use Rattle.sf_types.specs.declared.call.Call.{Call}
use Rattle.sf_types.specs.declared.options.Options.{Options}
use Rattle.sf_types.specs.Space.Cuts.{cuts}
use Rattle.sf_types.specs.Halves.Flushes.{own_flush}
use Rattle.sf_versions.specs.Asks.{cuts_with}
use Rattle.sf_own_part.specs.declared.cuts.Cuts.{Cuts}
use Rattle.sf_session.specs.Cores.{CoreView}

-- Contents with their choices are the cuts of what a core's standing call flushes, in a store with any options.
abbrev pub AreCutsOf : CoreView → Cuts → Type 0
AreCutsOf core of =
    (options : Options) (c : Call) → core.standing ≡ Some c → cuts_with options of.contents of.choices ≡ cuts options (own_flush core.own c)
