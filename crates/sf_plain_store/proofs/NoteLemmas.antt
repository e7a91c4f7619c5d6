-- A store that gets the pending calls of a session.
use Rattle.std.proofs.Common.{◌≡◌, ℕ, Bool, false, cond, IsTrue, List, [], ◌∷◌, ◌++◌, length, Option, Some, None, refl, sym, ap, subst, ◌∙◌}
use Rattle.std.specs.Prelude.{is_some}
use Rattle.std.proofs.lemmas.List.{length-replicate}
use Rattle.sf_types.specs.declared.call.Call.{Call}
use Rattle.sf_types.specs.declared.options.Options.{Options}
use Rattle.sf_types.specs.Table.Parts.{Promise, Table, new_session, opening_table}
use Rattle.sf_types.specs.Table.Sessions.{has_session, session_of}
use Rattle.sf_types.specs.Orders.Histories.{IsLegalHistory, call_entries, history_table, table_after}
use Rattle.sf_types.specs.Play.Blocks.{after_entries, after_publication}
use Rattle.sf_types.specs.Play.Turns.{Stage, with_entries}
use Rattle.sf_types.specs.Halves.Own.{AreLocal, own_of}
use Rattle.sf_laws.proofs.OwnRunLemmas.{Stands, run-append, shape_after, stands_after, stands_opening}
use Rattle.sf_laws.proofs.SpaceLemmas.{HasBlocks, entries_keep}
use Rattle.sf_laws.proofs.StageLemmas.{Holds, holds_sound, is_behind}
use Rattle.sf_laws.proofs.TurnMoveLemmas.{moves_quiet}
use Rattle.sf_block_space.specs.Free.{FreeSpace}
use Rattle.sf_session.specs.declared.need.Need.TheVariants as need
use Rattle.sf_session.specs.Cores.{CoreView, need_of, noted}
use Rattle.sf_session.specs.AtHome.{with_pending}
use Rattle.sf_session.proofs.CallHomeLemmas.{noted_home}
use Rattle.sf_session.proofs.HomeLemmas.{behind_pending}
use Rattle.sf_session.proofs.NeedLemmas.{idle_is, idle_need}
use Rattle.sf_book.specs.Books.{BookView, table_of}
use Rattle.sf_book.specs.Moves.{IsMoved}
use Rattle.sf_plain_store.specs.declared.due_calls.DueCall.{DueCall}
use Rattle.sf_plain_store.specs.Stores.{IsAtHomeIn, StoreView, stage_of, with_stage}
use Rattle.sf_plain_store.specs.Turns.{KeepsOthers}
use Rattle.sf_plain_store.specs.Inside.Bodies.{IsStore, flush_at, store_of}
use Rattle.sf_plain_store.proofs.EntryTurnLemmas.{AreEntries, others_at_home, quiet_collected, store_stands, unpromised_slot}
use Rattle.sf_plain_store.proofs.KeptFlushLemmas.{others_calls}
use Rattle.sf_plain_store.proofs.PendingLemmas.{home_moved}
use Rattle.sf_plain_store.proofs.StoreMoveLemmas.{moved_store}

-- local calls of a session without a promise keep a stage
calls_keep : (options : Options) (sessions : ℕ) (x : Stage) (core : CoreView) → Holds options sessions x → IsTrue (has_session x.table core.session) → (session_of x.table core.session).promise ≡ None
    → (session_of x.table core.session).has_ended ≡ false → AreLocal x.table.options.gather (own_of x.table core.session) core.pending
    → IsLegalHistory (opening_table options sessions) (x.history ++ call_entries core.session core.pending) → Holds options sessions (with_entries x core.session (call_entries core.session core.pending))
calls_keep options sessions x core holds there none going local legal =
    let s = core.session in
    let es = call_entries s core.pending in
    let u = table_after x.table es in
    let opening = opening_table options sessions in
    let behind = is_behind x.table s core.pending there holds.stands going none local in
    let quiet = behind.calls.quiet in
    let table : u ≡ history_table options sessions (x.history ++ es) = ap (λ (t : Table). table_after t es) holds.table ∙ sym (run-append opening x.history es) in
    let shape = shape_after opening (x.history ++ es) legal in
    record {
      legal = legal;
      table = table;
      stands = subst Stands (sym table) (stands_after opening (x.history ++ es) legal (stands_opening options sessions));
      same = ap (λ (t : Table). t.options) table ∙ shape.1;
      size = ap (λ (t : Table). length t.sessions) table ∙ shape.0 ∙ length-replicate sessions new_session;
      has = subst (HasBlocks u) (ap (λ (o : Option Promise). cond (is_some o) (after_publication x.table u s x.space) (after_entries x.table u x.space)) (sym none))
          (entries_keep x.table u s x.space there quiet.leaves (moves_quiet x.table u s quiet holds.stands.within.true_marks) none holds.has);
    }

-- What a note does.
pub record IsNoted (b a : BookView) (free : FreeSpace) (due_calls : List DueCall) (core : CoreView) : Type 0 where
  pub store : IsStore a free due_calls
  pub after : store_of a free due_calls ≡ with_stage (store_of b free due_calls) (with_entries (stage_of (store_of b free due_calls)) core.session (call_entries core.session core.pending))
  pub home : IsAtHomeIn (store_of a free due_calls) (noted core)
  pub others : KeepsOthers (store_of b free due_calls) (store_of a free due_calls) core.session

pub note_turn : (b a : BookView) (free : FreeSpace) (due_calls : List DueCall) (core : CoreView) → IsStore b free due_calls → IsAtHomeIn (store_of b free due_calls) core → need_of core ≡ need.Idle
    → IsMoved b a (call_entries core.session core.pending) [] → IsNoted b a free due_calls core
note_turn b a free due_calls core store at needs moved =
    let v = store_of b free due_calls in
    let x = stage_of v in
    let t = table_of b in
    let s = core.session in
    let es = call_entries s core.pending in
    let idle = idle_need core needs in
    let both = idle_is (session_of t s).promise core.pending core.standing core.phase idle.standing at.home.home.promised in
    let behind = behind_pending b.options b.sessions b.history core at.home idle.goes_on both.0 in
    let holds = calls_keep b.options b.sessions x core (holds_sound b.options b.sessions x store.sound) at.home.home.session both.0 (at.home.home.goes_on ∙ idle.goes_on) at.home.home.local behind.legal in
    let is = moved_store b a free due_calls due_calls s es moved both.0 refl in
    let of : AreEntries v due_calls due_calls s es = record {
      holds = holds;
      entries = λ r apart. others_calls s r core.pending apart;
      slots = λ r low apart. refl;
      collected = λ r low apart. quiet_collected x s r es both.0;
    } in
    record {
      store = store_stands b a free free due_calls due_calls s es store moved.options store.order refl is of (unpromised_slot b.options t (history_table b.options b.sessions (b.history ++ es)) s (flush_at due_calls s) (store.flushes s at.home.home.session) behind.unpromised);
      after = is;
      home = record {
        home = home_moved b.options a.options b.sessions a.sessions (with_pending b.history core) a.history (noted core) moved.options moved.sessions moved.history (noted_home b.options b.sessions b.history core at.home needs);
        collected = at.collected;
      };
      others = subst (λ (w : StoreView). KeepsOthers v w s) (sym is) (others_at_home v due_calls due_calls s es of);
    }

-- the same, by the number that the core tells of its session
pub note_here : (b a : BookView) (core : CoreView) (s : ℕ) (calls : List Call) → s ≡ core.session → calls ≡ core.pending → IsMoved b a (call_entries s calls) [] → IsMoved b a (call_entries core.session core.pending) []
note_here b a core s calls same pending moved =
    subst (λ (cs : List Call). IsMoved b a (call_entries core.session cs) []) pending (subst (λ (n : ℕ). IsMoved b a (call_entries n calls) []) same moved)
