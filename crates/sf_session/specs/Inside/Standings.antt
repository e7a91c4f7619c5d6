-- What a session keeps beside what contracts see of it (our own).
use Rattle.std.specs.Prelude.{◌≡◌, ℕ, ◌≤◌, Bool, true, false, List, Option, Some, None}
use Rattle.sf_types.specs.declared.call.Call.{Call}
use Rattle.sf_types.specs.Rooms.{Roomy}
use Rattle.sf_types.specs.Space.Reach.{session_births}
use Rattle.sf_types.specs.Halves.Own.{Own, own_due}
use Rattle.sf_types.specs.Calls.WritingCalls.{written_name}
use Rattle.sf_own_part.specs.declared.writes.Written.{Written}
use Rattle.sf_own_part.specs.Ends.{IsPrepared}
use Rattle.sf_own_part.specs.OwnWrites.{write_refusal, written}
use Rattle.sf_own_part.specs.Readiness.{IsReady}
use Rattle.sf_session.specs.declared.session_core.Standing.{Standing}
use Rattle.sf_session.specs.declared.phase.Phase.{Phase}
use Rattle.sf_session.specs.declared.phase.Phase.TheVariants.{Unpromised, Promised, Collected}

-- Births that are kept are those that the session holds.
abbrev pub AreBirths : Own → Option (List ℕ) → Type 0
AreBirths o None = Unit {0}
AreBirths o (Some births) = births ≡ session_births o.part

-- Only a due call comes to have a promise.
abbrev pub IsPhase : Bool → Phase → Type 0
IsPhase due Unpromised = Unit {0}
IsPhase due (Promised blocks) = due ≡ true
IsPhase due (Collected blocks) = due ≡ true

-- A call that stands can end without memory, and it is known whether it is due. Where it isn't due there is room to keep it as
-- a pending call.
pub record CanEnd (gather : ℕ) (o : Roomy Own) (room : ℕ) (phase : Phase) (s : Standing) : Type 0 where
  pub ready : IsReady o
  pub prepared : IsPrepared o.held s.call s.prepared
  pub due : s.is_due ≡ own_due gather o.held s.call
  pub phase_is : IsPhase s.is_due phase
  pub room_is : s.is_due ≡ false → 1 ≤ room

-- A call that stands, where one does.
abbrev pub IsStanding : ℕ → Roomy Own → ℕ → Phase → Option Standing → Type 0
IsStanding gather o room phase None = Unit {0}
IsStanding gather o room phase (Some s) = CanEnd gather o room phase s

-- What was prepared for a writing call that isn't refused.
pub record IsResult (o : Own) (c : Call) (w : Written) : Type 0 where
  pub name : written_name c ≡ Some w.at
  pub unrefused : write_refusal o w.at c ≡ None
  pub same : w ≡ written o w.at c
