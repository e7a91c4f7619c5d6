-- What calls do after legal runs, by the store's half and the session's own part.
use Rattle.std.proofs.Common.{◌≡◌, ℕ, Bool, true, IsTrue, List, [], ◌∷◌, Option, Some, None, refl, sym, ap, ◌∙◌}
use Rattle.std.specs.Option.{option_map_or}
use Rattle.sf_types.specs.declared.call.Call.{Call}
use Rattle.sf_types.specs.declared.call.Call.TheVariants as call
use Rattle.sf_types.specs.declared.history.Entry.{Entry}
use Rattle.sf_types.specs.declared.options.Options.{Options}
use Rattle.sf_types.specs.declared.reply.Fault.{Fault}
use Rattle.sf_types.specs.declared.reply.Reply.{Reply}
use Rattle.sf_types.specs.declared.reply.Reply.TheVariants as reply
use Rattle.sf_types.specs.Space.Reach.{session_births}
use Rattle.sf_types.specs.Calls.Refusals.{refusal_or}
use Rattle.sf_types.specs.Table.Parts.{Promise, Session, Table, opening_table}
use Rattle.sf_types.specs.Table.Sessions.{has_session, session_of}
use Rattle.sf_types.specs.Calls.WritingCalls.{written_name, writing_refusal}
use Rattle.sf_types.specs.Orders.Histories.{IsLegalHistory, history_table, table_after, effect_of, call_entries}
use Rattle.sf_types.specs.Calls.Steps.{step}
use Rattle.sf_types.specs.Halves.Own.{Own, own_of, own_after, own_call, own_step, own_write_call, has_lock, held_value, own_row, is_event, AreLocal, MayCall}
use Rattle.sf_laws.specs.Halves.{Agrees}
use Rattle.sf_types.specs.Halves.Asks.{Kept, half_of, with_kept, with_kept_births, request_of, half_answer, kept_births}
use Rattle.sf_laws.proofs.AskLemmas.{Asks, events_agree, half_with, kept_is}
use Rattle.sf_laws.proofs.OwnRunLemmas.{Stands, stands_entry, stands_opening}
use Rattle.sf_laws.proofs.OwnLemmas.{goes_on, local_run}
use Rattle.sf_laws.proofs.OrderlyLemmas.{AllOrderly, orderly_entry, orderly_opening, asks_where}

orderly_after : (t : Table) (es : List Entry) → IsLegalHistory t es → Stands t → AllOrderly t → Stands (table_after t es) × AllOrderly (table_after t es)
orderly_after t [] legal stands all = (stands, all)
orderly_after t (e ∷ es) legal stands all = orderly_after (effect_of t e).0 es legal.1 (stands_entry t e legal.0 stands) (orderly_entry t e legal.0 stands.within stands.rising all)

-- What stands after a legal run, and what is known of each session.
pub stands_where : (options : Options) (sessions : ℕ) (history : List Entry) → IsLegalHistory (opening_table options sessions) history → Stands (history_table options sessions history)
stands_where options sessions history legal = (orderly_after (opening_table options sessions) history legal (stands_opening options sessions) (orderly_opening options sessions)).0

pub asks_after : (options : Options) (sessions s : ℕ) (history : List Entry) → IsLegalHistory (opening_table options sessions) history → IsTrue (has_session (history_table options sessions history) s) → Asks (history_table options sessions history) s
asks_after options sessions s history legal has =
    let both = orderly_after (opening_table options sessions) history legal (stands_opening options sessions) (orderly_opening options sessions) in
    asks_where (history_table options sessions history) s has both.0.within both.0.rising both.1

pub event_law : (options : Options) (sessions s : ℕ) (history : List Entry) (c : Call) → IsLegalHistory (opening_table options sessions) history → IsTrue (has_session (history_table options sessions history) s) → is_event c ≡ true
    → let t = history_table options sessions history in Agrees (own_of t s) s c (step t s c) (half_answer (half_of t) s c (request_of (own_of t s) c) (kept_births (own_of t s) c))
event_law options sessions s history c legal has is = events_agree (history_table options sessions history) s c (asks_after options sessions s history legal has) is

-- A local call leaves whether a transaction is open.
same_open : (o : Option Fault) (p : Session) (done : Session × Reply) → done.0.is_open ≡ p.is_open → (refusal_or o p done).0.is_open ≡ p.is_open
same_open None p done same = same
same_open (Some f) p done same = refl

open_write : (o : Own) (c : Call) (x : Option (List ℕ)) → (option_map_or (λ at. own_write_call o at c) x (o.part, reply.Done)).0.is_open ≡ o.part.is_open
open_write o c None = refl
open_write o c (Some at) = same_open (writing_refusal o.part (has_lock o (own_row o at)) (held_value o (own_row o at)) at c) o.part _ refl

open_call : (o : Own) (c : Call) → (own_call o c).0.is_open ≡ o.part.is_open
open_call o (call.Assign to from) = same_open _ o.part _ refl
open_call o (call.Free at) = same_open _ o.part _ refl
open_call o (call.Length at) = same_open _ o.part _ refl
open_call o (call.Read at amount offset) = same_open _ o.part _ refl
open_call o (call.Instr at pattern offset) = same_open _ o.part _ refl
open_call o (call.Compare left right amount left_offset right_offset) = same_open _ o.part _ refl
open_call o (call.Savepoint name) = same_open _ o.part _ refl
open_call o c = open_write o c (written_name c)

stays_after : (o : Own) (cs : List Call) → ((own_after o cs).part.is_open ≡ o.part.is_open) × ((own_after o cs).part.promise ≡ o.part.promise) × ((own_after o cs).part.has_ended ≡ o.part.has_ended)
stays_after o [] = (refl, refl, refl)
stays_after o (c ∷ cs) =
    let rest = stays_after (own_step o c) cs in
    let one = goes_on o c in
    (rest.0 ∙ open_call o c, rest.1 ∙ one.1, rest.2 ∙ one.0)

-- A batch changes of the store's half the births that its session holds, and nothing else.
pub batch_by_half : (t : Table) (s : ℕ) (cs : List Call) → IsTrue (has_session t s) → Stands t → MayCall (session_of t s) → AreLocal t.options.gather (own_of t s) cs
    → half_of (table_after t (call_entries s cs)) ≡ with_kept_births (half_of t) s (session_births (own_after (own_of t s) cs).part)
batch_by_half t s cs has stands may local =
    let run = local_run t s cs has stands.rising may local in
    let q = (own_after (own_of t s) cs).part in
    let stays = stays_after (own_of t s) cs in
    ap half_of run.same
    ∙ half_with t s q t.locks
    ∙ ap (λ (b : Bool). with_kept (half_of t) s (record { births = session_births q; is_open = b; promise = q.promise; has_ended = q.has_ended })) stays.0
    ∙ ap (λ (o : Option Promise). with_kept (half_of t) s (record { births = session_births q; is_open = (session_of t s).is_open; promise = o; has_ended = q.has_ended })) (stays.1 ∙ sym may.unpromised)
    ∙ ap (λ (b : Bool). with_kept (half_of t) s (record { births = session_births q; is_open = (session_of t s).is_open; promise = (session_of t s).promise; has_ended = b })) stays.2
    ∙ ap (λ (k : Kept). with_kept (half_of t) s (record k { births = session_births q })) (sym (kept_is t s))
