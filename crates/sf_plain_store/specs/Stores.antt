-- A store on one thread, and the sessions that are at home in it (our own, after VLDB 2008).
use Rattle.std.specs.Prelude.{◌≡◌, ℕ, List, length}
use Rattle.sf_types.specs.declared.history.Entry.{Entry}
use Rattle.sf_types.specs.declared.options.Options.{Options}
use Rattle.sf_types.specs.Orders.Histories.{history_table}
use Rattle.sf_types.specs.Play.Blocks.{Space, collected_by}
use Rattle.sf_types.specs.Play.Turns.{Stage}
use Rattle.sf_session.specs.AtHome.{IsAtHomeAfter}
use Rattle.sf_session.specs.Cores.{CoreView}
use Rattle.sf_session.specs.declared.phase.Phase.{Phase}
use Rattle.sf_session.specs.declared.phase.Phase.TheVariants.{Unpromised, Promised, Collected}

-- A store: its options, the number of its sessions, what was done so far, and where blocks stand. All else is a function of the
-- history.
pub record StoreView : Type 0 where
  pub options : Options
  pub sessions : ℕ
  pub history : List Entry
  pub space : Space

-- A store as a stage of a play.
abbrev pub stage_of : StoreView → Stage
stage_of v = record { history = v.history; table = history_table v.options v.sessions v.history; space = v.space }

-- A store at a stage.
abbrev pub with_stage : StoreView → Stage → StoreView
with_stage v x = record v { history = x.history; space = x.space }

-- How many blocks were collected for a call that has come so far.
abbrev pub collected_count : Phase → ℕ
collected_count Unpromised = 0
collected_count (Promised blocks) = 0
collected_count (Collected blocks) = blocks

-- A core is at home in a store: after its history, and with as many collected blocks as the core knows of.
pub record IsAtHomeIn (v : StoreView) (core : CoreView) : Type 0 where
  pub home : IsAtHomeAfter v.options v.sessions v.history core
  pub collected : length (collected_by v.space core.session) ≡ collected_count core.phase
