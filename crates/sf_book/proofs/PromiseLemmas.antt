-- A promise behind a session's local calls.
use Rattle.std.proofs.Common.{◌≡◌, ℕ, true, List, [], ◌∷◌, ◌++◌, length, refl, sym, ap, subst, ◌∙◌}
use Rattle.sf_types.specs.declared.call.Call.{Call}
use Rattle.sf_types.specs.declared.call.Call.TheVariants as call
use Rattle.sf_types.specs.declared.history.Entry.{Entry}
use Rattle.sf_types.specs.declared.history.Kind.TheVariants as kind
use Rattle.sf_types.specs.declared.options.Options.{Options}
use Rattle.sf_types.specs.Space.Cuts.{Cut, cuts}
use Rattle.sf_types.specs.Space.Promises.{flush_cuts}
use Rattle.sf_types.specs.Orders.Histories.{IsLegal, IsLegalHistory, effect_of, entry_of, call_entries, table_after}
use Rattle.sf_types.specs.Halves.Own.{Own, own_of, own_due}
use Rattle.sf_types.specs.Halves.Asks.{Half, half_of, request_of, with_kept_births}
use Rattle.sf_types.specs.Halves.Flushes.{Verdict, half_promise, own_flush}
use Rattle.sf_stock.specs.Stocks as stock
use Rattle.sf_versions.specs.declared.asks.Batch.{Batch}
use Rattle.sf_versions.specs.declared.asks.Flush.{Flush}
use Rattle.sf_versions.specs.Asks.{IsFlush}
use Rattle.sf_laws.proofs.FlushLemmas.{promise_by_half}
use Rattle.sf_laws.proofs.HalfLemmas.{stands_where}
use Rattle.sf_laws.proofs.OwnRunLemmas.{stands_after, run-append, legal-joined, shape_after}
use Rattle.sf_laws.proofs.PublicationLemmas.{cuts_by_own}
use Rattle.sf_laws.proofs.TurnMoveLemmas.{Quiet, quiet_on, quiet_entry}
use Rattle.sf_store_half.specs.Fields.{Fields, Keeps}
use Rattle.sf_store_half.specs.HalfMoves.{HasCutsOfRequest, IsRepacked, cuts_in, flushed_rows}
use Rattle.sf_book.specs.Books.{BookView, table_of, IsSound}
use Rattle.sf_book.specs.Moves.{own_with_batch, table_with_batch}
use Rattle.sf_book.specs.Inside.Bodies.{book_of}
use Rattle.sf_book.proofs.BatchLemmas.{Behind, due_behind}
use Rattle.sf_book.proofs.QuietLemmas.{IsNext, next_quietly}

-- what a due call flushes has the cuts of what its publication settles
cuts_of_request : (options : Options) (gather : ℕ) (o : Own) (c : Call) → own_due gather o c ≡ true → cuts options (own_flush o c) ≡ cuts options (flushed_rows (request_of o c))
cuts_of_request options gather o (call.Insert row) due = absurd cc
cuts_of_request options gather o (call.Delete row) due = absurd cc
cuts_of_request options gather o (call.Lock to row) due = absurd cc
cuts_of_request options gather o (call.Select to row) due = absurd cc
cuts_of_request options gather o (call.SelectAsOf to row n) due = absurd cc
cuts_of_request options gather o (call.RollbackTo name) due = absurd cc
cuts_of_request options gather o call.Rollback due = absurd cc
cuts_of_request options gather o call.End due = absurd cc
cuts_of_request options gather o c due = refl

pub flush_has_cuts : (options : Options) (gather : ℕ) (o : Own) (flush : Flush) → own_due gather o flush.ask.call ≡ true → IsFlush options o flush → HasCutsOfRequest options flush
flush_has_cuts options gather o flush due is =
    is.cuts_are ∙ cuts_of_request options gather o flush.ask.call due ∙ ap (λ r. cuts options (flushed_rows r)) (sym is.ask.part)

-- The entries of a batch with a promise behind it.
abbrev pub promise_entries : ℕ → Batch → Call → List Entry
promise_entries s batch c = call_entries s batch.calls ++ entry_of s kind.Promise c ∷ []

-- The verdict of the store's half by its own words.
abbrev pub verdict_in : BookView → ℕ → Batch → Call → Half × Verdict
verdict_in b s batch c =
    let t = table_of b in
    half_promise (half_of (table_with_batch t s batch)) s c (cuts b.options (own_flush (own_with_batch t s batch) c))

pub verdict_same : (f : Fields) (history : List Entry) (s : ℕ) (batch : Batch) (flush : Flush) → Behind f history s batch → IsFlush f.options (own_with_batch (table_of (book_of f history)) s batch) flush
    → half_promise (with_kept_births (half_of (table_of (book_of f history))) s batch.births) s flush.ask.call (cuts_in f.options flush) ≡ verdict_in (book_of f history) s batch flush.ask.call
verdict_same f history s batch flush behind is =
    ap (λ (h : Half). half_promise h s flush.ask.call (cuts_in f.options flush)) behind.half
    ∙ ap (λ (of : List Cut). half_promise (half_of (table_with_batch (table_of (book_of f history)) s batch)) s flush.ask.call of) is.cuts_are

-- A promise behind a batch: it is legal, and the half of the table after it is that of the verdict.
record IsPromised (f : Fields) (history : List Entry) (s : ℕ) (batch : Batch) (c : Call) : Type 0 where
  legal : IsLegalHistory (table_of (book_of f history)) (promise_entries s batch c)
  quiet : Quiet (table_of (book_of f history)) s (table_after (table_of (book_of f history)) (promise_entries s batch c))
  half : (verdict_in (book_of f history) s batch c).0 ≡ half_of (table_after (table_of (book_of f history)) (promise_entries s batch c))

promise_behind : (f : Fields) (history : List Entry) (s : ℕ) (batch : Batch) (c : Call) → IsSound (book_of f history) → Keeps f (half_of (table_of (book_of f history))) → Behind f history s batch
    → own_due f.options.gather (own_with_batch (table_of (book_of f history)) s batch) c ≡ true → IsPromised f history s batch c
promise_behind f history s batch c sound keeps behind is_due =
    let t = table_of (book_of f history) in
    let calls = call_entries s batch.calls in
    let u = table_with_batch t s batch in
    let e = entry_of s kind.Promise c in
    let free = behind.is.calls.free in
    let due = due_behind f history s batch c true sound keeps behind is_due in
    let legal : IsLegal u s kind.Promise c = record { session = behind.is.session; goes_on = behind.is.goes_on; standing = rw free due } in
    let both = run-append t calls (e ∷ []) in
    let stands = stands_where f.options (length f.sessions) history sound.legal in
    let rising = (stands_after t calls behind.is.legal stands).rising in
    let options : u.options ≡ f.options = (shape_after t calls behind.is.legal).1 ∙ sym keeps.options in
    let of : cuts f.options (own_flush (own_with_batch t s batch) c) ≡ flush_cuts u s c =
    ap (λ (x : Own). cuts f.options (own_flush x c)) (sym behind.is.own) ∙ ap (λ (o : Options). cuts o (own_flush (own_of u s) c)) (sym options) ∙ cuts_by_own u s c rising due in
    record {
      legal = legal-joined t calls (e ∷ []) behind.is.legal (legal, tt);
      quiet = subst (Quiet t s) (sym both) (quiet_on t u (effect_of u e).0 s behind.is.calls.quiet (quiet_entry u s kind.Promise c legal free));
      half = ap (λ (xs : List Cut). (half_promise (half_of u) s c xs).0) of ∙ sym (promise_by_half u s c (flush_cuts u s c) behind.is.session).half ∙ ap half_of (sym both);
    }

pub next_by_promise : (f : Fields) (history : List Entry) (after : Fields) (s : ℕ) (batch : Batch) (flush : Flush) → IsSound (book_of f history) → Keeps f (half_of (table_of (book_of f history))) → Behind f history s batch
    → own_due f.options.gather (own_with_batch (table_of (book_of f history)) s batch) flush.ask.call ≡ true → IsFlush f.options (own_with_batch (table_of (book_of f history)) s batch) flush
    → Keeps after (half_promise (with_kept_births (half_of (table_of (book_of f history))) s batch.births) s flush.ask.call (cuts_in f.options flush)).0 → stock.IsSound after.stock → IsRepacked f.stock after.stock []
    → IsNext f history after (promise_entries s batch flush.ask.call) []
next_by_promise f history after s batch flush sound keeps behind due is kept stocked repacked =
    let promised = promise_behind f history s batch flush.ask.call sound keeps behind due in
    next_quietly f history after s (promise_entries s batch flush.ask.call) sound keeps promised.legal promised.quiet
    (subst (Keeps after) (ap (λ (told : Half × Verdict). told.0) (verdict_same f history s batch flush behind is) ∙ promised.half) kept) stocked repacked
