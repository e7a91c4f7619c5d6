-- Cores and the tables in which they are at home (our own).
use Rattle.std.specs.Prelude.{◌≡◌, ℕ, List, [], ◌++◌, IsTrue, Option, Some, None}
use Rattle.sf_types.specs.declared.call.Call.{Call}
use Rattle.sf_types.specs.declared.history.Entry.{Entry}
use Rattle.sf_types.specs.declared.history.Kind.TheVariants as kind
use Rattle.sf_types.specs.declared.options.Options.{Options}
use Rattle.sf_types.specs.declared.reply.Reply.{Reply}
use Rattle.sf_types.specs.Table.Parts.{Promise, Table, opening_table}
use Rattle.sf_types.specs.Table.Sessions.{has_session, session_of}
use Rattle.sf_types.specs.Orders.Histories.{IsLegalHistory, history_table, effect_of, call_entries}
use Rattle.sf_types.specs.Halves.Own.{own_of, own_after, AreLocal}
use Rattle.sf_types.specs.Halves.Asks.{Answer, half_of, half_answer, request_of, kept_births}
use Rattle.sf_types.specs.Halves.Flushes.{Verdict, half_promise, half_publish, own_flush}
use Rattle.sf_types.specs.Space.Cuts.{Cut, cuts}
use Rattle.sf_session.specs.declared.phase.Phase.{Phase}
use Rattle.sf_session.specs.declared.phase.Phase.TheVariants.{Unpromised, Promised, Collected}
use Rattle.sf_session.specs.Cores.{CoreView}

-- A promise of the table is that of the call that stands, with its blocks, and nothing is pending beside it. Without one the
-- call that stands has no promise.
abbrev pub IsPromised : Option Promise → List Call → Option Call → Phase → Type 0
IsPromised None pending standing Unpromised = Unit {0}
IsPromised (Some q) pending (Some c) (Promised n) = (pending ≡ []) × (q.call ≡ c) × (q.blocks ≡ n)
IsPromised (Some q) pending (Some c) (Collected n) = (pending ≡ []) × (q.call ≡ c) × (q.blocks ≡ n)
IsPromised _ pending _ _ = ⊥

-- A core is at home in a table: what it has of its session is the table's, once its pending calls, all of them local, are done
-- there; and its promise is the table's.
pub record IsAtHome (t : Table) (core : CoreView) : Type 0 where
  pub session : IsTrue (has_session t core.session)
  pub gather : core.gather ≡ t.options.gather
  pub goes_on : (session_of t core.session).has_ended ≡ core.own.part.has_ended
  pub local : AreLocal t.options.gather (own_of t core.session) core.pending
  pub own : core.own ≡ own_after (own_of t core.session) core.pending
  pub promised : IsPromised (session_of t core.session).promise core.pending core.standing core.phase

-- A core is at home after a legal history of the store's entries.
pub record IsAtHomeAfter (options : Options) (sessions : ℕ) (history : List Entry) (core : CoreView) : Type 0 where
  pub legal : IsLegalHistory (opening_table options sessions) history
  pub home : IsAtHome (history_table options sessions history) core

-- A history with a core's pending calls.
abbrev pub with_pending : List Entry → CoreView → List Entry
with_pending history core = history ++ call_entries core.session core.pending

-- The reply that an entry brings after a history: none where it ends no call.
abbrev pub reply_after : Options → ℕ → List Entry → Entry → Option Reply
reply_after options sessions history e = (effect_of (history_table options sessions history) e).1

-- The store's answer to a core's event, in the table with the core's pending calls.
abbrev pub event_answer : Table → CoreView → Call → Answer
event_answer t core c = (half_answer (half_of t) core.session c (request_of core.own c) (kept_births core.own c)).1

-- The cuts of what a core's due call flushes.
abbrev pub flushed_cuts : Table → CoreView → Call → List Cut
flushed_cuts t core c = cuts t.options (own_flush core.own c)

-- The store's verdict on the promise of a core's due call, in the table with the core's pending calls.
abbrev pub verdict : Table → CoreView → Call → Verdict
verdict t core c = (half_promise (half_of t) core.session c (flushed_cuts t core c)).1

-- The store's answer to the publication of a core's due call.
abbrev pub publication_answer : Table → CoreView → Call → Answer
publication_answer t core c = (half_publish (half_of t) core.session (request_of core.own c) (flushed_cuts t core c) (kept_births core.own c)).1
