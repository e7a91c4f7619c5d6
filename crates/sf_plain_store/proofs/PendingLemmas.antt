-- A core's pending calls as the batch of a turn, and the table behind them.
use Rattle.std.proofs.Common.{◌≡◌, ℕ, IsTrue, true, false, List, [], ◌∷◌, ◌++◌, Option, Some, None, refl, sym, ap, subst, ◌∙◌, append_assoc}
use Rattle.std.specs.Prelude.{unwrap_or}
use Rattle.std.specs.Option.{IfSome}
use Rattle.sf_types.specs.declared.call.Call.{Call}
use Rattle.sf_types.specs.declared.history.Entry.{Entry}
use Rattle.sf_types.specs.declared.history.Kind.{Kind}
use Rattle.sf_types.specs.declared.options.Options.{Options}
use Rattle.sf_types.specs.Table.Parts.{Promise, Table, opening_table}
use Rattle.sf_types.specs.Table.Sessions.{session_of}
use Rattle.sf_types.specs.Orders.Histories.{call_entries, entry_of, history_table, table_after}
use Rattle.sf_types.specs.Halves.Own.{Own, AreLocal, own_after, own_of}
use Rattle.sf_laws.specs.Stages.{IsAtCall}
use Rattle.sf_laws.proofs.OwnRunLemmas.{run-append}
use Rattle.sf_versions.specs.declared.asks.Batch.{Batch}
use Rattle.sf_versions.specs.Asks.{HasBirths}
use Rattle.sf_session.specs.Cores.{CoreView}
use Rattle.sf_session.specs.AtHome.{IsAtHome, IsAtHomeAfter, with_pending}
use Rattle.sf_book.specs.Books.{BookView}
use Rattle.sf_book.specs.Moves.{IsBatch, IsMoved, own_with_batch, table_with_batch}

module _ (t : Table) (core : CoreView) (batch : Batch) (home : IsAtHome t core) (calls : batch.calls ≡ core.pending) where
  pub own_pending : own_with_batch t core.session batch ≡ core.own
  own_pending = ap (own_after (own_of t core.session)) calls ∙ sym home.own

  pub pending_batch : core.own.part.has_ended ≡ false → (session_of t core.session).promise ≡ None → HasBirths core.own batch → IsBatch t core.session batch
  pending_batch going none births = record {
    session = home.session;
    may = record { goes_on = home.goes_on ∙ going; unpromised = none };
    local = subst (AreLocal t.options.gather (own_of t core.session)) (sym calls) home.local;
    births = subst (λ (o : Own). HasBirths o batch) (sym own_pending) births;
  }

-- the table behind the pending calls
pub pending_table : (options : Options) (sessions : ℕ) (history : List Entry) (core : CoreView) → history_table options sessions (with_pending history core) ≡ table_after (history_table options sessions history) (call_entries core.session core.pending)
pending_table options sessions history core = run-append (opening_table options sessions) history (call_entries core.session core.pending)

pub batch_table : (options : Options) (sessions : ℕ) (history : List Entry) (core : CoreView) (batch : Batch) → batch.calls ≡ core.pending → table_with_batch (history_table options sessions history) core.session batch ≡ history_table options sessions (with_pending history core)
batch_table options sessions history core batch calls = ap (λ (cs : List Call). table_after (history_table options sessions history) (call_entries core.session cs)) calls ∙ sym (pending_table options sessions history core)

-- the history with the pending calls and one entry more
pub pending_history : (history : List Entry) (core : CoreView) (k : Kind) (c : Call) → with_pending history core ++ entry_of core.session k c ∷ [] ≡ history ++ (call_entries core.session core.pending ++ entry_of core.session k c ∷ [])
pending_history history core k c = append_assoc history (call_entries core.session core.pending) (entry_of core.session k c ∷ [])

-- a core without a promise is at a call
pub at_call : (t : Table) (core : CoreView) (c : Call) → IsAtHome t core → core.own.part.has_ended ≡ false → (session_of t core.session).promise ≡ None → IsAtCall t core.session core.pending c
at_call t core c home going none = record {
  session = home.session;
  goes_on = home.goes_on ∙ going;
  local = home.local;
  standing = subst (λ (o : Option Promise). IfSome o (λ promise. (core.pending ≡ []) × (c ≡ promise.call))) (sym none) tt;
}

-- a core at home in an equal store
pub home_moved : (o p : Options) (m n : ℕ) (h i : List Entry) (core : CoreView) → p ≡ o → n ≡ m → i ≡ h → IsAtHomeAfter o m h core → IsAtHomeAfter p n i core
home_moved o p m n h i core options sessions history home =
    subst (λ (v : Options). IsAtHomeAfter v n i core) (sym options)
    (subst (λ (v : ℕ). IsAtHomeAfter o v i core) (sym sessions)
    (subst (λ (v : List Entry). IsAtHomeAfter o m v core) (sym history) home))

-- one call stands
pub one_stands : (o : Option Call) (c d : Call) → o ≡ Some c → o ≡ Some d → c ≡ d
one_stands None c d first then = absurd cc
one_stands (Some b) c d first then = inner c d (sym first ∙ then)
  where
    inner : (c d : Call) → Some c ≡ Some d → c ≡ d
    inner c d same = ap (λ (o : Option Call). unwrap_or o c) same

-- what a Book did for a session is what it did for a core's
pub moved_here : (b a : BookView) (core : CoreView) (s : ℕ) (calls : List Call) (k : Kind) (c : Call) (given : List ℕ) → s ≡ core.session → calls ≡ core.pending
    → IsMoved b a (call_entries s calls ++ entry_of s k c ∷ []) given → IsMoved b a (call_entries core.session core.pending ++ entry_of core.session k c ∷ []) given
moved_here b a core s calls k c given same pending moved =
    subst (λ (cs : List Call). IsMoved b a (call_entries core.session cs ++ entry_of core.session k c ∷ []) given) pending
    (subst (λ (n : ℕ). IsMoved b a (call_entries n calls ++ entry_of n k c ∷ []) given) same moved)
