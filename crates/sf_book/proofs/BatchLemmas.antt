-- A session's local calls since its last turn, and an event behind them.
use Rattle.std.proofs.Common.{◌≡◌, ℕ, Bool, true, false, IsTrue, List, [], ◌∷◌, ◌++◌, length, Option, sym, ap, subst, ◌∙◌}
use Rattle.std.specs.Prelude.{flat_map, Contains}
use Rattle.std.specs.List.{AllByRecursion as Each}
use Rattle.sf_types.specs.declared.call.Call.{Call}
use Rattle.sf_types.specs.declared.history.Entry.{Entry}
use Rattle.sf_types.specs.declared.history.Kind.TheVariants as kind
use Rattle.sf_types.specs.declared.options.Options.{Options}
use Rattle.sf_types.specs.Values.Marks.{births_in}
use Rattle.sf_types.specs.Table.Parts.{Promise, Table, opening_table}
use Rattle.sf_types.specs.Table.Sessions.{has_session, session_of}
use Rattle.sf_types.specs.Calls.Steps.{step}
use Rattle.sf_types.specs.Space.Due.{is_due}
use Rattle.sf_types.specs.Space.Reach.{reach, values_in}
use Rattle.sf_types.specs.Orders.Histories.{IsLegal, IsLegalHistory, history_table, effect_of, entry_of, call_entries, call_effect, table_after}
use Rattle.sf_types.specs.Halves.Own.{Own, own_of, own_due, is_event}
use Rattle.sf_types.specs.Halves.Asks.{Half, Answer, Request, half_of, half_answer, kept_births, request_of, with_kept_births}
use Rattle.sf_stock.specs.Stocks as stock
use Rattle.sf_versions.specs.declared.asks.Ask.{Ask}
use Rattle.sf_versions.specs.declared.asks.Batch.{Batch}
use Rattle.sf_versions.specs.Asks.{IsAsk, request_of_part}
use Rattle.sf_laws.specs.Halves.{Agrees}
use Rattle.sf_laws.proofs.HalfLemmas.{stands_where, event_law, batch_by_half}
use Rattle.sf_laws.proofs.HeldLemmas.{OfSession}
use Rattle.sf_laws.proofs.HeldStepLemmas.{of_part}
use Rattle.sf_laws.proofs.OwnLemmas.{due_by_own}
use Rattle.sf_laws.proofs.OwnRunLemmas.{stands_after, run-append, legal-joined, shape_after}
use Rattle.sf_laws.proofs.ReachLemmas.{OfBirth, each_from_reach, each-session_births}
use Rattle.sf_laws.proofs.StageLemmas.{IsBehind, is_behind}
use Rattle.sf_laws.proofs.TurnMoveLemmas.{Quiet, quiet_on, quiet_entry}
use Rattle.sf_store_half.specs.Fields.{Fields, Keeps}
use Rattle.sf_store_half.specs.HalfMoves.{BringsStocked, IsRepacked, flushed_rows}
use Rattle.sf_book.specs.Books.{BookView, table_of, IsSound}
use Rattle.sf_book.specs.Moves.{IsBatch, own_with_batch, table_with_batch}
use Rattle.sf_book.specs.Inside.Bodies.{book_of}
use Rattle.sf_book.proofs.KeptBirthLemmas.{each_kept, each_brought}
use Rattle.sf_book.proofs.QuietLemmas.{IsNext, next_quietly, are_stocked}

-- What is known of a Book's session behind a batch.
pub record Behind (f : Fields) (history : List Entry) (s : ℕ) (batch : Batch) : Type 0 where
  pub is : IsBehind (table_of (book_of f history)) s batch.calls
  pub half : with_kept_births (half_of (table_of (book_of f history))) s batch.births ≡ half_of (table_with_batch (table_of (book_of f history)) s batch)
  pub held : OfSession (OfBirth (Contains (reach (table_of (book_of f history))))) (own_with_batch (table_of (book_of f history)) s batch).part
  pub births : Each (Contains (reach (table_of (book_of f history)))) batch.births

pub behind_batch : (f : Fields) (history : List Entry) (s : ℕ) (batch : Batch) → IsSound (book_of f history) → IsBatch (table_of (book_of f history)) s batch → Behind f history s batch
behind_batch f history s batch sound is =
    let t = table_of (book_of f history) in
    let u = table_with_batch t s batch in
    let o = own_with_batch t s batch in
    let P = Contains (reach t) in
    let stands = stands_where f.options (length f.sessions) history sound.legal in
    let behind = is_behind t s batch.calls is.session stands is.may.goes_on is.may.unpromised is.local in
    let part : OfSession (OfBirth P) (session_of u s) = of_part (OfBirth P) u.floor u s (each_from_reach P u behind.calls.quiet.fewer).held in
    let own : OfSession (OfBirth P) (own_of u s).part = record { working = part.working; locators = part.locators; savepoints = part.savepoints } in
    let held : OfSession (OfBirth P) o.part = subst (λ (x : Own). OfSession (OfBirth P) x.part) behind.own own in
    record {
      is = behind;
      half = ap (with_kept_births (half_of t) s) is.births ∙ sym (batch_by_half t s batch.calls is.session stands is.may is.local);
      held = held;
      births = subst (Each P) (sym is.births) (each-session_births P o.part held);
    }

-- The entries of a batch with an event behind it.
abbrev pub event_entries : ℕ → Batch → Call → List Entry
event_entries s batch c = call_entries s batch.calls ++ entry_of s kind.Call c ∷ []

-- What the store's half answers to an event by its own words, and by those of the ask.
abbrev pub told_in : BookView → ℕ → Batch → Call → Half × Answer
told_in b s batch c =
    let t = table_of b in
    let o = own_with_batch t s batch in
    half_answer (half_of (table_with_batch t s batch)) s c (request_of o c) (kept_births o c)

abbrev pub told_by : Fields → List Entry → ℕ → Batch → Call → Half × Answer
told_by f history s batch c = told_in (book_of f history) s batch c

abbrev pub told_to : Fields → List Entry → ℕ → List ℕ → Ask → Half × Answer
told_to f history s births ask =
    half_answer (with_kept_births (half_of (table_of (book_of f history))) s births) s ask.call (request_of_part ask.part) ask.kept

pub told_same : (f : Fields) (history : List Entry) (s : ℕ) (batch : Batch) (ask : Ask) → Behind f history s batch → IsAsk (own_with_batch (table_of (book_of f history)) s batch) ask
    → told_to f history s batch.births ask ≡ told_by f history s batch ask.call
told_same f history s batch ask behind asks =
    let t = table_of (book_of f history) in
    let o = own_with_batch t s batch in
    ap (λ (h : Half). half_answer h s ask.call (request_of_part ask.part) ask.kept) behind.half
    ∙ ap (λ (r : Request). half_answer (half_of (table_with_batch t s batch)) s ask.call r ask.kept) asks.part
    ∙ ap (λ (births : List ℕ). half_answer (half_of (table_with_batch t s batch)) s ask.call (request_of o ask.call) births) asks.kept

-- An event behind a batch: it is legal, and the half of the table after it is what the store's half answers.
pub record IsEvent (f : Fields) (history : List Entry) (s : ℕ) (batch : Batch) (c : Call) : Type 0 where
  pub legal : IsLegalHistory (table_of (book_of f history)) (event_entries s batch c)
  pub quiet : Quiet (table_of (book_of f history)) s (table_after (table_of (book_of f history)) (event_entries s batch c))
  pub half : (told_by f history s batch c).0 ≡ half_of (table_after (table_of (book_of f history)) (event_entries s batch c))

-- whether a call is due behind a batch
pub due_behind : (f : Fields) (history : List Entry) (s : ℕ) (batch : Batch) (c : Call) (b : Bool) → IsSound (book_of f history) → Keeps f (half_of (table_of (book_of f history))) → Behind f history s batch
    → own_due f.options.gather (own_with_batch (table_of (book_of f history)) s batch) c ≡ b → is_due (table_with_batch (table_of (book_of f history)) s batch) s c ≡ b
due_behind f history s batch c b sound keeps behind due =
    let t = table_of (book_of f history) in
    let u = table_with_batch t s batch in
    let stands = stands_where f.options (length f.sessions) history sound.legal in
    let shape = shape_after t (call_entries s batch.calls) behind.is.legal in
    due_by_own u s c (stands_after t (call_entries s batch.calls) behind.is.legal stands).rising
    ∙ ap (λ (x : Own). own_due u.options.gather x c) behind.is.own
    ∙ ap (λ (o : Options). own_due o.gather (own_with_batch t s batch) c) (shape.1 ∙ sym keeps.options)
    ∙ due

pub event_behind : (f : Fields) (history : List Entry) (s : ℕ) (batch : Batch) (c : Call) → IsSound (book_of f history) → Keeps f (half_of (table_of (book_of f history))) → Behind f history s batch
    → is_event c ≡ true → own_due f.options.gather (own_with_batch (table_of (book_of f history)) s batch) c ≡ false → IsEvent f history s batch c
event_behind f history s batch c sound keeps behind event undue =
    let t = table_of (book_of f history) in
    let calls = call_entries s batch.calls in
    let u = table_with_batch t s batch in
    let o = own_with_batch t s batch in
    let e = entry_of s kind.Call c in
    let free = behind.is.calls.free in
    let due = due_behind f history s batch c false sound keeps behind undue in
    let legal : IsLegal u s kind.Call c = record { session = behind.is.session; goes_on = behind.is.goes_on; standing = rw free due } in
    let both = run-append t calls (e ∷ []) in
    let opening = opening_table f.options (length f.sessions) in
    let whole : history_table f.options (length f.sessions) (history ++ calls) ≡ u = run-append opening history calls in
    let run : IsLegalHistory opening (history ++ calls) = legal-joined opening history calls sound.legal behind.is.legal in
    let agrees : Agrees (own_of u s) s c (step u s c) (half_answer (half_of u) s c (request_of (own_of u s) c) (kept_births (own_of u s) c)) =
    subst (λ (x : Table). Agrees (own_of x s) s c (step x s c) (half_answer (half_of x) s c (request_of (own_of x s) c) (kept_births (own_of x s) c))) whole
    (event_law f.options (length f.sessions) s (history ++ calls) c run (subst (λ (x : Table). IsTrue (has_session x s)) (sym whole) behind.is.session) event) in
    let effect : (effect_of u e).0 ≡ (step u s c).0 = ap (λ (p : Option Promise). (call_effect p u s c).0) free in
    record {
      legal = legal-joined t calls (e ∷ []) behind.is.legal (legal, tt);
      quiet = subst (Quiet t s) (sym both) (quiet_on t u (effect_of u e).0 s behind.is.calls.quiet (quiet_entry u s kind.Call c legal free));
      half = ap (λ (x : Own). (half_answer (half_of u) s c (request_of x c) (kept_births x c)).0) (sym behind.is.own) ∙ sym agrees.half ∙ ap half_of (sym effect) ∙ ap half_of (sym both);
    }

-- what an ask brings has places
pub asked_stocked : (f : Fields) (history : List Entry) (s : ℕ) (batch : Batch) (ask : Ask) → Keeps f (half_of (table_of (book_of f history))) → stock.IsSound f.stock → Behind f history s batch
    → is_event ask.call ≡ true → IsAsk (own_with_batch (table_of (book_of f history)) s batch) ask → BringsStocked f ask
asked_stocked f history s batch ask keeps stocked behind event asks =
    let t = table_of (book_of f history) in
    let o = own_with_batch t s batch in
    let P = Contains (reach t) in
    record {
      kept = are_stocked f t ask.kept keeps stocked (subst (Each P) (sym asks.kept) (each_kept P o ask.call behind.held));
      named = are_stocked f t (flat_map births_in (values_in (flushed_rows (request_of_part ask.part)))) keeps stocked
          (subst (λ (r : Request). Each P (flat_map births_in (values_in (flushed_rows r)))) (sym asks.part) (each_brought P o ask.call behind.held event));
    }

-- the Book after a batch, and after an event behind it
pub next_by_batch : (f : Fields) (history : List Entry) (after : Fields) (s : ℕ) (batch : Batch) → IsSound (book_of f history) → Keeps f (half_of (table_of (book_of f history))) → Behind f history s batch
    → Keeps after (with_kept_births (half_of (table_of (book_of f history))) s batch.births) → stock.IsSound after.stock → IsRepacked f.stock after.stock []
    → IsNext f history after (call_entries s batch.calls) []
next_by_batch f history after s batch sound keeps behind kept stocked repacked =
    next_quietly f history after s (call_entries s batch.calls) sound keeps behind.is.legal behind.is.calls.quiet (subst (Keeps after) behind.half kept) stocked repacked

pub next_by_event : (f : Fields) (history : List Entry) (after : Fields) (s : ℕ) (batch : Batch) (ask : Ask) → IsSound (book_of f history) → Keeps f (half_of (table_of (book_of f history))) → Behind f history s batch
    → is_event ask.call ≡ true → own_due f.options.gather (own_with_batch (table_of (book_of f history)) s batch) ask.call ≡ false → IsAsk (own_with_batch (table_of (book_of f history)) s batch) ask
    → Keeps after (told_to f history s batch.births ask).0 → stock.IsSound after.stock → IsRepacked f.stock after.stock []
    → IsNext f history after (event_entries s batch ask.call) []
next_by_event f history after s batch ask sound keeps behind event undue asks kept stocked repacked =
    let is = event_behind f history s batch ask.call sound keeps behind event undue in
    next_quietly f history after s (event_entries s batch ask.call) sound keeps is.legal is.quiet
    (subst (Keeps after) (ap (λ (told : Half × Answer). told.0) (told_same f history s batch ask behind asks) ∙ is.half) kept) stocked repacked
