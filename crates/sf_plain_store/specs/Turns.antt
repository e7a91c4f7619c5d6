-- What a turn of a session does to a store and to its core (our own).
use Rattle.std.specs.Prelude.{◌≡◌, ◌≢◌, ◌⊎◌, ℕ, List, [], Option, Some, None, is_some}
use Rattle.sf_types.specs.declared.call.Call.{Call}
use Rattle.sf_types.specs.declared.reply.Reply.{Reply}
use Rattle.sf_types.specs.Play.Turns.{Action, action_at, action_reply, stage_after, stage_after_reclaim}
use Rattle.sf_session.specs.Cores.{CoreView, need_of}
use Rattle.sf_session.specs.declared.need.Need.TheVariants as need
use Rattle.sf_plain_store.specs.Stores.{StoreView, IsAtHomeIn, stage_of, with_stage}

-- A core needs a turn of the store for the call that stands.
abbrev pub NeedsTurn : CoreView → Type 0
NeedsTurn core = (need_of core ≡ need.Event) ⊎ (need_of core ≡ need.Reserve) ⊎ ((blocks : ℕ) × (need_of core ≡ need.Collect blocks)) ⊎ (need_of core ≡ need.Publish)

-- What a turn of a core does for a call, behind the core's pending calls.
abbrev pub next_action : StoreView → CoreView → Call → Action
next_action v core c = action_at (stage_of v) core.session core.pending c

-- The store after a turn of a core, of which this call stands.
abbrev pub store_after : StoreView → CoreView → Call → StoreView
store_after v core c = with_stage v (stage_after (stage_of v) core.session core.pending c (next_action v core c))

-- The reply to the call, where the turn ends it.
abbrev pub turn_reply : StoreView → CoreView → Call → Option Reply
turn_reply v core c = action_reply (stage_of v) core.session core.pending c (next_action v core c)

-- The call that stands after a turn: none where the turn told a reply, and else the same.
abbrev pub standing_after : Option Call → Option Reply → Option Call
standing_after standing (Some reply) = None
standing_after standing None = standing

-- A core after a turn that told this: it is the same session's, nothing is pending, and the call that stands is the one before,
-- or none where the turn told a reply.
pub record HasTaken (before after : CoreView) (told : Option Reply) : Type 0 where
  pub session : after.session ≡ before.session
  pub gather : after.gather ≡ before.gather
  pub pending : after.pending ≡ []
  pub standing : after.standing ≡ standing_after before.standing told

-- Every core of another session that was at home in a store is at home in another one.
abbrev pub KeepsOthers : StoreView → StoreView → ℕ → Type 0
KeepsOthers before after s = (other : CoreView) → other.session ≢ s → IsAtHomeIn before other → IsAtHomeIn after other

-- Every core that was at home in a store is at home in another one.
abbrev pub KeepsCores : StoreView → StoreView → Type 0
KeepsCores before after = (core : CoreView) → IsAtHomeIn before core → IsAtHomeIn after core

-- A store after a reclaim of so many parked blocks, or of all where there are fewer.
abbrev pub store_after_reclaim : ℕ → StoreView → StoreView
store_after_reclaim max v = with_stage v (stage_after_reclaim max (stage_of v))

-- A turn of a core on which a call stands: what it does to the store and to the core, and what it tells.
pub record IsTurn (before after : StoreView) (core next : CoreView) (told : Option Reply) : Type 0 where
  pub store : (c : Call) → core.standing ≡ Some c → after ≡ store_after before core c
  pub reply : (c : Call) → core.standing ≡ Some c → told ≡ turn_reply before core c
  pub taken : HasTaken core next told
  pub home : IsAtHomeIn after next
  pub others : KeepsOthers before after core.session

-- A store after want of memory: as before, or some of its parked blocks are free.
abbrev pub IsLeft : StoreView → StoreView → Type 0
IsLeft before after = (after ≡ before) ⊎ ((max : ℕ) × (after ≡ store_after_reclaim max before))
