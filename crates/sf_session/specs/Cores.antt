-- What contracts see of a session outside the store, and what it needs next (our own).
use Rattle.std.specs.Prelude.{◌≡◌, ℕ, ◌==◌, ◌⊎◌, List, [], ◌∷◌, ◌++◌, Option, Some, None, if◌then◌else◌}
use Rattle.std.specs.Option.{option_map_or}
use Rattle.sf_types.specs.declared.call.Call.{Call}
use Rattle.sf_types.specs.Table.Parts.{new_session}
use Rattle.sf_types.specs.Halves.Own.{Own, own_due, own_step, is_event}
use Rattle.sf_types.specs.Halves.Asks.{Answer, after_answer}
use Rattle.sf_session.specs.declared.need.Need.{Need}
use Rattle.sf_session.specs.declared.need.Need.TheVariants as need
use Rattle.sf_session.specs.declared.phase.Phase.{Phase}
use Rattle.sf_session.specs.declared.phase.Phase.TheVariants.{Unpromised, Promised, Collected}

-- A core: its session's number, the threshold at which its store gathers, its own part after all local calls that it has
-- ended, those of them that the store hasn't got yet, the call that stands, and how far that has come.
pub record CoreView : Type 0 where
  pub session : ℕ
  pub gather : ℕ
  pub own : Own
  pub pending : List Call
  pub standing : Option Call
  pub phase : Phase

-- The core of a session that has done nothing yet.
abbrev pub new_core : ℕ → ℕ → CoreView
new_core session gather = record {
  session = session;
  gather = gather;
  own = record { part = new_session; rows = [] };
  pending = [];
  standing = None;
  phase = Unpromised;
}

-- What a call that stands needs next. A promise of no blocks has no collection.
abbrev pub need_of_call : ℕ → Own → Phase → Call → Need
need_of_call gather o Unpromised c =
    if own_due gather o c then need.Reserve else if is_event c then need.Event else need.Local
need_of_call gather o (Promised blocks) c = if blocks == 0 then need.Publish else need.Collect blocks
need_of_call gather o (Collected blocks) c = need.Publish

-- What a core needs next.
abbrev pub need_of : CoreView → Need
need_of core =
    if core.own.part.has_ended then need.Ended
    else option_map_or (need_of_call core.gather core.own core.phase) core.standing need.Idle

-- A core on which a call has begun to stand.
abbrev pub started : CoreView → Call → CoreView
started core c = record core { standing = Some c; phase = Unpromised }

-- A core whose local call has ended: the call is pending.
abbrev pub ended_locally : CoreView → Call → CoreView
ended_locally core c = record core { own = own_step core.own c; pending = core.pending ++ c ∷ []; standing = None }

-- A core whose standing call ended with an answer of the store, which then has the pending calls too.
abbrev pub accepted : CoreView → Call → Answer → CoreView
accepted core c answer = record core { own = (after_answer core.own c answer).0; pending = []; standing = None; phase = Unpromised }

-- A core to which so many blocks were promised. The store has its pending calls then.
abbrev pub promised : CoreView → ℕ → CoreView
promised core blocks = record core { pending = []; phase = Promised blocks }

-- A core to which no blocks were promised. Its call has ended, and the store has its pending calls.
abbrev pub not_promised : CoreView → CoreView
not_promised core = record core { pending = []; standing = None; phase = Unpromised }

-- A core whose promised blocks were collected.
abbrev pub collected : CoreView → ℕ → CoreView
collected core blocks = record core { phase = Collected blocks }

-- A core whose standing call was dropped.
abbrev pub abandoned : CoreView → CoreView
abandoned core = record core { standing = None; phase = Unpromised }

-- A core whose pending calls the store has got.
abbrev pub noted : CoreView → CoreView
noted core = record core { pending = [] }

-- A core whose standing call awaits the store's answer.
abbrev pub Awaits : CoreView → Type 0
Awaits core = (need_of core ≡ need.Event) ⊎ (need_of core ≡ need.Publish)

-- A core whose standing call is due and flushes: it wants its promise, or its publication.
abbrev pub Flushes : CoreView → Type 0
Flushes core = (need_of core ≡ need.Reserve) ⊎ (need_of core ≡ need.Publish)
