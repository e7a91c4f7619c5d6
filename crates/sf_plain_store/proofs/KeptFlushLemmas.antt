-- The flushes that a store keeps, behind entries of other sessions.
use Rattle.std.proofs.Common.{◌≡◌, ℕ, zero, suc, ◌-◌, ◌≤◌, ◌<◌, Bool, true, false, IsTrue, List, [], ◌∷◌, ◌++◌, length, map, Option, Some, None, refl, sym, ap, subst, ◌∙◌, arith}
use Rattle.std.specs.Prelude.{slice_get, slice_index_or, slice_set, unwrap_or}
use Rattle.std.specs.List.{AllByRecursion}
use Rattle.std.specs.Option.{IfSome}
use Rattle.std.proofs.lemmas.List.{map-set}
use Rattle.sf_types.specs.declared.call.Call.{Call}
use Rattle.sf_types.specs.declared.history.Entry.{Entry}
use Rattle.sf_types.specs.declared.history.Kind.{Kind}
use Rattle.sf_types.specs.declared.history.Kind.TheVariants as kind
use Rattle.sf_types.specs.declared.options.Options.{Options}
use Rattle.sf_types.specs.Table.Parts.{Promise, Session, Table, opening_table}
use Rattle.sf_types.specs.Table.Sessions.{has_session, session_of}
use Rattle.sf_types.specs.Space.BlockRuns.{blocks_in}
use Rattle.sf_types.specs.Orders.Histories.{IsLegalHistory, call_entries, entry_of, history_table}
use Rattle.sf_types.specs.Halves.Own.{Own, own_of}
use Rattle.sf_laws.proofs.OwnRunLemmas.{legal-append, may_still, run-append}
use Rattle.sf_versions.specs.declared.asks.Flush.{Flush}
use Rattle.sf_versions.specs.Asks.{IsFlush}
use Rattle.sf_plain_store.specs.declared.due_calls.DueCall.{DueCall}
use Rattle.sf_plain_store.specs.Inside.Bodies.{IsKept}
use Rattle.sf_plain_store.specs.Inside.DueCalls.{due_call_of, no_due_call}
use Rattle.sf_plain_store.proofs.StoreMoveLemmas.{blocks_collected}

-- entries of a session are of no other
pub others_entries : (s r : ℕ) (cs : List Call) (k : Kind) (c : Call) → (r ≡ s → ⊥) → AllByRecursion (λ e. r ≡ e.token.session → ⊥) (call_entries s cs ++ entry_of s k c ∷ [])
others_entries s r [] k c apart = (apart, tt)
others_entries s r (d ∷ cs) k c apart = (apart, others_entries s r cs k c apart)

pub others_calls : (s r : ℕ) (cs : List Call) → (r ≡ s → ⊥) → AllByRecursion (λ e. r ≡ e.token.session → ⊥) (call_entries s cs)
others_calls s r [] apart = tt
others_calls s r (d ∷ cs) apart = (apart, others_calls s r cs apart)

-- what a session's flush rests on
pub kept_on : (options : Options) (t u : Table) (r : ℕ) (flush : Flush) → session_of u r ≡ session_of t r → own_of u r ≡ own_of t r → IsKept options t r flush → IsKept options u r flush
kept_on options t u r flush part own kept = (
  kept.0,
  subst (λ (p : Session). IfSome p.promise (λ promise. (promise.call ≡ flush.ask.call) × IsFlush options (own_of u r) flush)) (sym part)
      (subst (λ (o : Own). IfSome (session_of t r).promise (λ promise. (promise.call ≡ flush.ask.call) × IsFlush options o flush)) (sym own) kept.1),
)

pub all_kept : (options : Options) (t u : Table) (r : ℕ) (flush : Option Flush) → session_of u r ≡ session_of t r → own_of u r ≡ own_of t r → IfSome flush (IsKept options t r) → IfSome flush (IsKept options u r)
all_kept options t u r None part own kept = tt
all_kept options t u r (Some flush) part own kept = kept_on options t u r flush part own kept

-- one session's due call that was set
pub due_own : (due_calls : List DueCall) (s : ℕ) (due : DueCall) → s - 1 < length due_calls → due_call_of (slice_set due_calls (s - 1) due) s ≡ due
due_own due_calls s due less = set_here due_calls (s - 1) less
  where
    set_here : (xs : List DueCall) (i : ℕ) → i < length xs → unwrap_or (slice_get (slice_set xs i due) i) no_due_call ≡ due
    set_here [] i less = absurd (omega (arith, less))
    set_here (x ∷ xs) zero less = refl
    set_here (x ∷ xs) (suc i) less = set_here xs i (omega (arith, less))

pub due_other : (due_calls : List DueCall) (s r : ℕ) (due : DueCall) → 1 ≤ s → 1 ≤ r → (r ≡ s → ⊥) → due_call_of (slice_set due_calls (s - 1) due) r ≡ due_call_of due_calls r
due_other due_calls s r due low_s low_r apart = set_there due_calls (s - 1) (r - 1) (λ same. apart (omega (arith, same, low_s, low_r)))
  where
    set_there : (xs : List DueCall) (i j : ℕ) → (i ≡ j → ⊥) → unwrap_or (slice_get (slice_set xs i due) j) no_due_call ≡ unwrap_or (slice_get xs j) no_due_call
    set_there [] i j apart = refl
    set_there (x ∷ xs) zero zero apart = absurd (apart refl)
    set_there (x ∷ xs) zero (suc j) apart = refl
    set_there (x ∷ xs) (suc i) zero apart = refl
    set_there (x ∷ xs) (suc i) (suc j) apart = set_there xs i j (λ same. apart (ap suc same))

-- the blocks of a session's due call
pub collected_here : (due_calls : List DueCall) (s : ℕ) → slice_index_or (blocks_collected due_calls) (s - 1) [] ≡ blocks_in (due_call_of due_calls s).blocks.held
collected_here due_calls s = here due_calls (s - 1)
  where
    here : (xs : List DueCall) (i : ℕ) → slice_index_or (blocks_collected xs) i [] ≡ blocks_in (unwrap_or (slice_get xs i) no_due_call).blocks.held
    here [] i = refl
    here (x ∷ xs) zero = refl
    here (x ∷ xs) (suc i) = here xs i

-- a flush that is set leaves the blocks
pub blocks_stay : (due_calls : List DueCall) (s : ℕ) (flush : Option Flush) → blocks_collected (slice_set due_calls (s - 1) (record (due_call_of due_calls s) { flush = flush })) ≡ blocks_collected due_calls
blocks_stay due_calls s flush = stay due_calls (s - 1)
  where
    stay : (xs : List DueCall) (i : ℕ) → blocks_collected (slice_set xs i (record (unwrap_or (slice_get xs i) no_due_call) { flush = flush })) ≡ blocks_collected xs
    stay [] i = refl
    stay (x ∷ xs) zero = refl
    stay (x ∷ xs) (suc i) = ap (λ (bs : List (List ℕ)). blocks_in x.blocks.held ∷ bs) (stay xs i)

-- blocks that are set
pub blocks_set : (due_calls : List DueCall) (i : ℕ) (due : DueCall) → blocks_collected (slice_set due_calls i due) ≡ slice_set (blocks_collected due_calls) i (blocks_in due.blocks.held)
blocks_set due_calls i due = map-set (λ (d : DueCall). blocks_in d.blocks.held) due_calls i due

-- another session's part behind entries
pub others_part : (options : Options) (sessions : ℕ) (history es : List Entry) (r : ℕ) → IsLegalHistory (opening_table options sessions) (history ++ es) → IsTrue (has_session (history_table options sessions history) r)
    → AllByRecursion (λ e. r ≡ e.token.session → ⊥) es → session_of (history_table options sessions (history ++ es)) r ≡ session_of (history_table options sessions history) r
others_part options sessions history es r legal has apart =
    let o = opening_table options sessions in
    ap (λ (x : Table). session_of x r) (run-append o history es) ∙ may_still (history_table options sessions history) es r (legal-append o history es legal).1 has apart
