-- A store behind entries of one session.
use Rattle.std.proofs.Common.{◌≡◌, ℕ, ◌-◌, ◌≤◌, ◌<◌, ◌&&◌, Bool, true, false, cond, IsTrue, List, [], ◌∷◌, ◌++◌, length, Option, Some, None, refl, sym, ap, subst, ◌∙◌, arith}
use Rattle.std.specs.Prelude.{◌==◌, nat_le, is_some}
use Rattle.std.specs.List.{AllByRecursion}
use Rattle.std.specs.Option.{IfSome}
use Rattle.std.proofs.lemmas.List.{length-map}
use Rattle.sf_types.specs.declared.history.Entry.{Entry}
use Rattle.sf_types.specs.declared.options.Options.{Options}
use Rattle.sf_types.specs.Limits.{IsInRange}
use Rattle.sf_types.specs.Table.Parts.{Promise, Table}
use Rattle.sf_types.specs.Table.Sessions.{has_session, session_of}
use Rattle.sf_types.specs.Orders.Histories.{history_table, table_after}
use Rattle.sf_types.specs.Space.BlockRuns.{blocks_in}
use Rattle.sf_types.specs.Play.Blocks.{after_entries, after_publication, collected_by}
use Rattle.sf_types.specs.Play.Turns.{Stage, with_entries}
use Rattle.sf_types.specs.Halves.Own.{own_of}
use Rattle.sf_types.proofs.NumberLemmas.{from_one, not_same, one_less, same_number}
use Rattle.sf_laws.proofs.OwnRunLemmas.{others_law}
use Rattle.sf_laws.proofs.SpaceLemmas.{session_before}
use Rattle.sf_laws.proofs.StageLemmas.{Holds, holds_sound}
use Rattle.sf_block_space.specs.Free.{AreFreeRuns, FreeSpace}
use Rattle.sf_versions.specs.declared.asks.Flush.{Flush}
use Rattle.sf_versions.specs.Asks.{IsFlush}
use Rattle.sf_session.specs.Cores.{CoreView}
use Rattle.sf_session.specs.AtHome.{IsAtHomeAfter}
use Rattle.sf_session.proofs.CallHomeLemmas.{others_home}
use Rattle.sf_book.specs.Books.{BookView}
use Rattle.sf_plain_store.specs.declared.due_calls.DueCall.{DueCall}
use Rattle.sf_plain_store.specs.Stores.{IsAtHomeIn, StoreView, stage_of, with_stage}
use Rattle.sf_plain_store.specs.Turns.{KeepsOthers}
use Rattle.sf_plain_store.specs.Inside.Bodies.{IsKept, IsStore, flush_at, store_of}
use Rattle.sf_plain_store.proofs.KeptFlushLemmas.{all_kept, others_part}
use Rattle.sf_plain_store.proofs.StoreMoveLemmas.{sound_at}

-- The flushes of a store are kept.
abbrev pub AreKept : StoreView → List DueCall → Type 0
AreKept v due_calls = (s : ℕ) → IsTrue (has_session (stage_of v).table s) → IfSome (flush_at due_calls s) (IsKept v.options (stage_of v).table s)

-- Entries of session s, with what a turn of it keeps of other sessions.
pub record AreEntries (v : StoreView) (due_calls next : List DueCall) (s : ℕ) (es : List Entry) : Type 0 where
  pub holds : Holds v.options v.sessions (with_entries (stage_of v) s es)
  pub entries : (r : ℕ) → (r ≡ s → ⊥) → AllByRecursion (λ e. r ≡ e.token.session → ⊥) es
  pub slots : (r : ℕ) → 1 ≤ r → (r ≡ s → ⊥) → flush_at next r ≡ flush_at due_calls r
  pub collected : (r : ℕ) → 1 ≤ r → (r ≡ s → ⊥) → collected_by (with_entries (stage_of v) s es).space r ≡ collected_by v.space r

module _ (v : StoreView) (due_calls next : List DueCall) (s : ℕ) (es : List Entry) (of : AreEntries v due_calls next s es) where
  abbrev pub after : StoreView
  after = with_stage v (with_entries (stage_of v) s es)

  low : (t : Table) (r : ℕ) → IsTrue (has_session t r) → 1 ≤ r
  low t r has = from_one r (length t.sessions) has

  pub others_at_home : KeepsOthers v after s
  others_at_home other apart at = record {
    home = others_home v.options v.sessions v.history es other at.home of.holds.legal (of.entries other.session apart);
    collected = ap (λ (bs : List ℕ). length bs) (of.collected other.session (low (history_table v.options v.sessions v.history) other.session at.home.home.session) apart) ∙ at.collected;
  }

  pub kept_after : Holds v.options v.sessions (stage_of v) → AreKept v due_calls → IfSome (flush_at next s) (IsKept v.options (stage_of after).table s) → AreKept after next
  kept_after before kept own r there =
      let t = (stage_of v).table in
      let u = (stage_of after).table in
      let count : length u.sessions ≡ length t.sessions = ap (λ (x : Table). length x.sessions) (sym of.holds.table) ∙ of.holds.size ∙ sym before.size in
      let here = session_before t u r count there in
      elim (r == s) as (λ b. (r == s) ≡ b → IfSome (flush_at next r) (IsKept v.options u r)) [
        | true ↦ λ is. subst (λ (k : ℕ). IfSome (flush_at next k) (IsKept v.options u k)) (sym (same_number r s is)) own
        | false ↦ λ is.
            let apart = not_same r s is in
            subst (λ (o : Option Flush). IfSome o (IsKept v.options u r)) (sym (of.slots r (low u r there) apart))
            (all_kept v.options t u r (flush_at due_calls r)
            (others_part v.options v.sessions v.history es r of.holds.legal here (of.entries r apart))
            (others_law v.options v.sessions r v.history es of.holds.legal here (of.entries r apart))
            (kept r here))
      ] refl

-- the store after such entries
pub store_stands : (b a : BookView) (free next_free : FreeSpace) (due_calls next : List DueCall) (s : ℕ) (es : List Entry) → IsStore b free due_calls → a.options ≡ b.options
    → AreFreeRuns next_free.capacity next_free.runs → next_free.capacity ≡ free.capacity
    → store_of a next_free next ≡ with_stage (store_of b free due_calls) (with_entries (stage_of (store_of b free due_calls)) s es)
    → AreEntries (store_of b free due_calls) due_calls next s es
    → IfSome (flush_at next s) (IsKept b.options (stage_of (with_stage (store_of b free due_calls) (with_entries (stage_of (store_of b free due_calls)) s es))).table s)
    → IsStore a next_free next
store_stands b a free next_free due_calls next s es store options order capacity is of own =
    let v = store_of b free due_calls in
    record {
      options = subst IsInRange (sym options) store.options;
      order = order;
      capacity = capacity ∙ store.capacity ∙ ap (λ (o : Options). o.capacity) (sym options);
      sound = sound_at v (store_of a next_free next) (with_entries (stage_of v) s es) is of.holds;
      flushes = subst (λ (w : StoreView). AreKept w next) (sym is) (kept_after v due_calls next s es of (holds_sound b.options b.sessions (stage_of v) store.sound) store.flushes own);
    }

-- entries without a promise leave what sessions have collected
pub quiet_collected : (x : Stage) (s r : ℕ) (es : List Entry) → (session_of x.table s).promise ≡ None → collected_by (with_entries x s es).space r ≡ collected_by x.space r
quiet_collected x s r es none =
    let u = table_after x.table es in
    ap (λ (o : Option Promise). collected_by (cond (is_some o) (after_publication x.table u s x.space) (after_entries x.table u x.space)) r) none

-- without a promise nothing is asked of a flush but its prints
pub unpromised_slot : (options : Options) (t u : Table) (s : ℕ) (flush : Option Flush) → IfSome flush (IsKept options t s) → (session_of u s).promise ≡ None → IfSome flush (IsKept options u s)
unpromised_slot options t u s None kept none = tt
unpromised_slot options t u s (Some flush) kept none =
    (kept.0, subst (λ (o : Option Promise). IfSome o (λ promise. (promise.call ≡ flush.ask.call) × IsFlush options (own_of u s) flush)) (sym none) tt)

-- a session has its due call
pub due_inside : (b : BookView) (free : FreeSpace) (due_calls : List DueCall) (s : ℕ) → IsStore b free due_calls → IsTrue (has_session (stage_of (store_of b free due_calls)).table s) → s - 1 < length due_calls
due_inside b free due_calls s store there =
    let x = stage_of (store_of b free due_calls) in
    let lists = (holds_sound b.options b.sessions x store.sound).has.lists in
    omega (arith, one_less s (length x.table.sessions) there, lists, length-map due_calls (λ (d : DueCall). blocks_in d.blocks.held))
