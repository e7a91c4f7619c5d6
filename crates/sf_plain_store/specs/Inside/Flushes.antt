-- The flush of a core's due call (our own).
use Rattle.std.specs.Prelude.{◌≡◌, Option, Some, None}
use Rattle.sf_types.specs.declared.options.Options.{Options}
use Rattle.sf_versions.specs.declared.asks.Flush.{Flush}
use Rattle.sf_versions.specs.declared.asks.Verdict.{Verdict}
use Rattle.sf_versions.specs.declared.asks.Verdict.TheVariants as verdict
use Rattle.sf_versions.specs.Asks.{IsFlush}
use Rattle.sf_store_half.specs.HalfMoves.{HasPrints}
use Rattle.sf_session.specs.Cores.{CoreView}

-- A flush is that of the call that stands on a core, in a store with these options.
pub record IsFlushOf (options : Options) (core : CoreView) (flush : Flush) : Type 0 where
  pub call : core.standing ≡ Some flush.ask.call
  pub prints : HasPrints flush
  pub flush_is : IsFlush options core.own flush

-- The flush that is kept after a verdict: where the blocks were granted.
abbrev pub flush_to_keep : Verdict → Flush → Option Flush
flush_to_keep (verdict.Granted blocks) flush = Some flush
flush_to_keep (verdict.NoSpace wanted free) flush = None
