-- What a core's need tells of its parts.
use Rattle.std.proofs.Common.{◌≡◌, ℕ, Bool, true, false, cond, List, [], Option, Some, None, refl, sym, ap, ◌∙◌}
use Rattle.std.specs.Prelude.{◌==◌}
use Rattle.std.specs.Option.{option_map_or}
use Rattle.sf_types.specs.declared.call.Call.{Call}
use Rattle.sf_types.specs.Table.Parts.{Promise}
use Rattle.sf_types.specs.Halves.Own.{own_due, is_event}
use Rattle.sf_session.specs.declared.need.Need.{Need}
use Rattle.sf_session.specs.declared.need.Need.TheVariants as need
use Rattle.sf_session.specs.declared.phase.Phase.{Phase}
use Rattle.sf_session.specs.declared.phase.Phase.TheVariants.{Unpromised, Promised, Collected}
use Rattle.sf_session.specs.Cores.{CoreView, need_of_call, need_of}
use Rattle.sf_session.specs.AtHome.{IsPromised}

-- a call without a promise: whether it is due, and whether it is an event
pub record IsUnpromised (core : CoreView) (c : Call) (due event : Bool) : Type 0 where
  pub goes_on : core.own.part.has_ended ≡ false
  pub phase : core.phase ≡ Unpromised
  pub due_is : own_due core.gather core.own c ≡ due
  pub event_is : is_event c ≡ event

-- the need of a standing call
abbrev need_by : Bool → Option Call → CoreView → Need
need_by ended standing core = cond ended need.Ended (option_map_or (need_of_call core.gather core.own core.phase) standing need.Idle)

of_call : (core : CoreView) (c : Call) (n : Need) → core.standing ≡ Some c → need_of core ≡ n → cond core.own.part.has_ended need.Ended (need_of_call core.gather core.own core.phase c) ≡ n
of_call core c n standing e = ap (λ (o : Option Call). need_by core.own.part.has_ended o core) (sym standing) ∙ e

-- the three needs of a call without a promise
abbrev need_unpromised : Bool → Bool → Need
need_unpromised due event = cond due need.Reserve (cond event need.Event need.Local)

pub event_need : (core : CoreView) (c : Call) → core.standing ≡ Some c → need_of core ≡ need.Event → IsUnpromised core c false true
event_need core c standing e = by_ended core.own.part.has_ended core.phase refl refl (of_call core c need.Event standing e)
  where
    by_tests : (due event : Bool) → own_due core.gather core.own c ≡ due → is_event c ≡ event → core.own.part.has_ended ≡ false → core.phase ≡ Unpromised → need_unpromised due event ≡ need.Event → IsUnpromised core c false true
    by_tests true event d v g p is = absurd cc
    by_tests false true d v g p is = record { goes_on = g; phase = p; due_is = d; event_is = v }
    by_tests false false d v g p is = absurd cc

    by_blocks : (zero : Bool) (n : ℕ) → cond zero need.Publish (need.Collect n) ≡ need.Event → ⊥
    by_blocks true n is = absurd cc
    by_blocks false n is = absurd cc

    by_ended : (ended : Bool) (phase : Phase) → core.own.part.has_ended ≡ ended → core.phase ≡ phase → cond ended need.Ended (need_of_call core.gather core.own phase c) ≡ need.Event → IsUnpromised core c false true
    by_ended true phase g p is = absurd cc
    by_ended false Unpromised g p is = by_tests (own_due core.gather core.own c) (is_event c) refl refl g p is
    by_ended false (Promised n) g p is = absurd (by_blocks (n == 0) n is)
    by_ended false (Collected n) g p is = absurd cc

pub local_need : (core : CoreView) (c : Call) → core.standing ≡ Some c → need_of core ≡ need.Local → IsUnpromised core c false false
local_need core c standing e = by_ended core.own.part.has_ended core.phase refl refl (of_call core c need.Local standing e)
  where
    by_tests : (due event : Bool) → own_due core.gather core.own c ≡ due → is_event c ≡ event → core.own.part.has_ended ≡ false → core.phase ≡ Unpromised → need_unpromised due event ≡ need.Local → IsUnpromised core c false false
    by_tests true event d v g p is = absurd cc
    by_tests false true d v g p is = absurd cc
    by_tests false false d v g p is = record { goes_on = g; phase = p; due_is = d; event_is = v }

    by_blocks : (zero : Bool) (n : ℕ) → cond zero need.Publish (need.Collect n) ≡ need.Local → ⊥
    by_blocks true n is = absurd cc
    by_blocks false n is = absurd cc

    by_ended : (ended : Bool) (phase : Phase) → core.own.part.has_ended ≡ ended → core.phase ≡ phase → cond ended need.Ended (need_of_call core.gather core.own phase c) ≡ need.Local → IsUnpromised core c false false
    by_ended true phase g p is = absurd cc
    by_ended false Unpromised g p is = by_tests (own_due core.gather core.own c) (is_event c) refl refl g p is
    by_ended false (Promised n) g p is = absurd (by_blocks (n == 0) n is)
    by_ended false (Collected n) g p is = absurd cc

-- a due call without a promise
pub record IsDueCall (core : CoreView) (c : Call) : Type 0 where
  pub goes_on : core.own.part.has_ended ≡ false
  pub phase : core.phase ≡ Unpromised
  pub due : own_due core.gather core.own c ≡ true

pub reserve_need : (core : CoreView) (c : Call) → core.standing ≡ Some c → need_of core ≡ need.Reserve → IsDueCall core c
reserve_need core c standing e = by_ended core.own.part.has_ended core.phase refl refl (of_call core c need.Reserve standing e)
  where
    by_tests : (due event : Bool) → own_due core.gather core.own c ≡ due → core.own.part.has_ended ≡ false → core.phase ≡ Unpromised → need_unpromised due event ≡ need.Reserve → IsDueCall core c
    by_tests true event d g p is = record { goes_on = g; phase = p; due = d }
    by_tests false true d g p is = absurd cc
    by_tests false false d g p is = absurd cc

    by_blocks : (zero : Bool) (n : ℕ) → cond zero need.Publish (need.Collect n) ≡ need.Reserve → ⊥
    by_blocks true n is = absurd cc
    by_blocks false n is = absurd cc

    by_ended : (ended : Bool) (phase : Phase) → core.own.part.has_ended ≡ ended → core.phase ≡ phase → cond ended need.Ended (need_of_call core.gather core.own phase c) ≡ need.Reserve → IsDueCall core c
    by_ended true phase g p is = absurd cc
    by_ended false Unpromised g p is = by_tests (own_due core.gather core.own c) (is_event c) refl g p is
    by_ended false (Promised n) g p is = absurd (by_blocks (n == 0) n is)
    by_ended false (Collected n) g p is = absurd cc

-- a core on which a promised call stands
pub record IsPromisedCall (core : CoreView) : Type 0 where
  pub goes_on : core.own.part.has_ended ≡ false
  pub phase : core.phase ≡ Unpromised → ⊥

pub publish_need : (core : CoreView) (c : Call) → core.standing ≡ Some c → need_of core ≡ need.Publish → IsPromisedCall core
publish_need core c standing e = by_ended core.own.part.has_ended core.phase refl refl (of_call core c need.Publish standing e)
  where
    by_tests : (due event : Bool) → need_unpromised due event ≡ need.Publish → ⊥
    by_tests true event is = absurd cc
    by_tests false true is = absurd cc
    by_tests false false is = absurd cc

    by_ended : (ended : Bool) (phase : Phase) → core.own.part.has_ended ≡ ended → core.phase ≡ phase → cond ended need.Ended (need_of_call core.gather core.own phase c) ≡ need.Publish → IsPromisedCall core
    by_ended true phase g p is = absurd cc
    by_ended false Unpromised g p is = absurd (by_tests (own_due core.gather core.own c) (is_event c) is)
    by_ended false (Promised n) g p is = record { goes_on = g; phase = λ other. let wrong : Promised n ≡ Unpromised = sym p ∙ other in absurd cc }
    by_ended false (Collected n) g p is = record { goes_on = g; phase = λ other. let wrong : Collected n ≡ Unpromised = sym p ∙ other in absurd cc }

-- a call whose promised blocks aren't collected
pub record IsUncollected (core : CoreView) (blocks : ℕ) : Type 0 where
  pub goes_on : core.own.part.has_ended ≡ false
  pub phase : core.phase ≡ Promised blocks

collect_of_call : (core : CoreView) (c : Call) (blocks : ℕ) → core.standing ≡ Some c → need_of core ≡ need.Collect blocks → IsUncollected core blocks
collect_of_call core c blocks standing e = by_ended core.own.part.has_ended core.phase refl refl (of_call core c (need.Collect blocks) standing e)
  where
    by_tests : (due event : Bool) → need_unpromised due event ≡ need.Collect blocks → ⊥
    by_tests true event is = absurd cc
    by_tests false true is = absurd cc
    by_tests false false is = absurd cc

    by_blocks : (zero : Bool) (n : ℕ) → core.own.part.has_ended ≡ false → core.phase ≡ Promised n → cond zero need.Publish (need.Collect n) ≡ need.Collect blocks → IsUncollected core blocks
    by_blocks true n g p is = absurd cc
    by_blocks false n g p is = let same : n ≡ blocks = cc in record { goes_on = g; phase = p ∙ ap Promised same }

    by_ended : (ended : Bool) (phase : Phase) → core.own.part.has_ended ≡ ended → core.phase ≡ phase → cond ended need.Ended (need_of_call core.gather core.own phase c) ≡ need.Collect blocks → IsUncollected core blocks
    by_ended true phase g p is = absurd cc
    by_ended false Unpromised g p is = absurd (by_tests (own_due core.gather core.own c) (is_event c) is)
    by_ended false (Promised n) g p is = by_blocks (n == 0) n g p is
    by_ended false (Collected n) g p is = absurd cc

no_call : (ended : Bool) (blocks : ℕ) → cond ended need.Ended need.Idle ≡ need.Collect blocks → ⊥
no_call true blocks is = absurd cc
no_call false blocks is = absurd cc

pub collect_need : (core : CoreView) (blocks : ℕ) → need_of core ≡ need.Collect blocks → IsUncollected core blocks
collect_need core blocks e = by_standing core.standing refl
  where
    by_standing : (o : Option Call) → core.standing ≡ o → IsUncollected core blocks
    by_standing None is = absurd (no_call core.own.part.has_ended blocks (ap (λ (o : Option Call). need_by core.own.part.has_ended o core) (sym is) ∙ e))
    by_standing (Some c) is = collect_of_call core c blocks is e

-- no call stands
pub record IsIdle (core : CoreView) : Type 0 where
  pub goes_on : core.own.part.has_ended ≡ false
  pub standing : core.standing ≡ None

pub idle_need : (core : CoreView) → need_of core ≡ need.Idle → IsIdle core
idle_need core e = by_standing core.own.part.has_ended core.standing core.phase refl refl e
  where
    by_tests : (due event : Bool) → need_unpromised due event ≡ need.Idle → ⊥
    by_tests true event is = absurd cc
    by_tests false true is = absurd cc
    by_tests false false is = absurd cc

    by_blocks : (zero : Bool) (n : ℕ) → cond zero need.Publish (need.Collect n) ≡ need.Idle → ⊥
    by_blocks true n is = absurd cc
    by_blocks false n is = absurd cc

    by_standing : (ended : Bool) (o : Option Call) (phase : Phase) → core.own.part.has_ended ≡ ended → core.standing ≡ o → cond ended need.Ended (option_map_or (need_of_call core.gather core.own phase) o need.Idle) ≡ need.Idle → IsIdle core
    by_standing true o phase g s is = absurd cc
    by_standing false None phase g s is = record { goes_on = g; standing = s }
    by_standing false (Some c) Unpromised g s is = absurd (by_tests (own_due core.gather core.own c) (is_event c) is)
    by_standing false (Some c) (Promised n) g s is = absurd (by_blocks (n == 0) n is)
    by_standing false (Some c) (Collected n) g s is = absurd cc

-- what the promise of the table is
pub unpromised_is : (o : Option Promise) (pending : List Call) (standing : Option Call) (phase : Phase) → phase ≡ Unpromised → IsPromised o pending standing phase → o ≡ None
unpromised_is None pending standing phase e is = refl
unpromised_is (Some q) pending None Unpromised e is = absurd is
unpromised_is (Some q) pending (Some c) Unpromised e is = absurd is
unpromised_is (Some q) pending standing (Promised n) e is = absurd cc
unpromised_is (Some q) pending standing (Collected n) e is = absurd cc

-- no call stands without one
pub idle_is : (o : Option Promise) (pending : List Call) (standing : Option Call) (phase : Phase) → standing ≡ None → IsPromised o pending standing phase → (o ≡ None) × (phase ≡ Unpromised)
idle_is None pending standing Unpromised e is = (refl, refl)
idle_is None pending standing (Promised n) e is = absurd is
idle_is None pending standing (Collected n) e is = absurd is
idle_is (Some q) pending None Unpromised e is = absurd is
idle_is (Some q) pending None (Promised n) e is = absurd is
idle_is (Some q) pending None (Collected n) e is = absurd is
idle_is (Some q) pending (Some c) phase e is = absurd cc

pub record HasPromise (o : Option Promise) (pending : List Call) (c : Call) : Type 0 where
  pub promise : Promise
  pub is : o ≡ Some promise
  pub call : promise.call ≡ c
  pub none : pending ≡ []

pub promised_is : (o : Option Promise) (pending : List Call) (standing : Option Call) (phase : Phase) (c : Call) → (phase ≡ Unpromised → ⊥) → standing ≡ Some c → IsPromised o pending standing phase → HasPromise o pending c
promised_is None pending standing Unpromised c apart e is = absurd (apart refl)
promised_is None pending standing (Promised n) c apart e is = absurd is
promised_is None pending standing (Collected n) c apart e is = absurd is
promised_is (Some q) pending None phase c apart e is = absurd cc
promised_is (Some q) pending (Some d) Unpromised c apart e is = absurd is
promised_is (Some q) pending (Some d) (Promised n) c apart e is = let same : d ≡ c = cc in record { promise = q; is = refl; call = is.1 ∙ same; none = is.0 }
promised_is (Some q) pending (Some d) (Collected n) c apart e is = let same : d ≡ c = cc in record { promise = q; is = refl; call = is.1 ∙ same; none = is.0 }

-- collected blocks are those of the promise
pub collected_is : (o : Option Promise) (pending : List Call) (standing : Option Call) (phase : Phase) (n : ℕ) → phase ≡ Promised n → IsPromised o pending standing phase → IsPromised o pending standing (Collected n)
collected_is None pending standing Unpromised n e is = absurd cc
collected_is None pending standing (Promised m) n e is = absurd is
collected_is None pending standing (Collected m) n e is = absurd is
collected_is (Some q) pending None Unpromised n e is = absurd cc
collected_is (Some q) pending None (Promised m) n e is = absurd is
collected_is (Some q) pending None (Collected m) n e is = absurd is
collected_is (Some q) pending (Some d) Unpromised n e is = absurd cc
collected_is (Some q) pending (Some d) (Promised m) n e is = let same : m ≡ n = cc in (is.0, is.1, is.2 ∙ same)
collected_is (Some q) pending (Some d) (Collected m) n e is = absurd cc

pub collect_promised : (core : CoreView) (blocks : ℕ) → need_of core ≡ need.Collect blocks → IsPromisedCall core
collect_promised core blocks e =
    let is = collect_need core blocks e in
    record { goes_on = is.goes_on; phase = λ other. let wrong : Promised blocks ≡ Unpromised = sym is.phase ∙ other in absurd cc }
