-- Entries that give out no birth, and what a session's local calls and an event behind them do to the store's half.
use Rattle.std.proofs.Common.{◌≡◌, ℕ, ◌+◌, ◌-◌, ◌≤◌, Bool, true, false, cond, IsTrue, List, [], ◌∷◌, ◌++◌, length, sym, ap, subst, ◌∙◌, arith}
use Rattle.std.specs.Prelude.{filter, is_some, Contains}
use Rattle.std.specs.List.{AllByRecursion as Each, range_with_len}
use Rattle.std.proofs.lemmas.List.Elements.{All-nil, All-from_recursion}
use Rattle.sf_types.specs.declared.history.Entry.{Entry}
use Rattle.sf_types.specs.Table.Parts.{Content, Table}
use Rattle.sf_types.specs.Table.Sessions.{has_session}
use Rattle.sf_types.specs.Calls.Steps.{step}
use Rattle.sf_types.specs.Space.Reach.{reach}
use Rattle.sf_types.specs.Orders.Histories.{IsLegalHistory, table_after}
use Rattle.sf_types.specs.Play.Blocks.{new_births, places_of_new}
use Rattle.sf_types.specs.Halves.Asks.{half_of}
use Rattle.sf_stock.specs.Stocks.{is_stocked}
use Rattle.sf_stock.specs.Stocks as stock
use Rattle.sf_laws.proofs.BlockSumLemmas.{counted_some}
use Rattle.sf_laws.proofs.EachLemmas.{each_weaker}
use Rattle.sf_laws.proofs.HalfLemmas.{stands_where}
use Rattle.sf_laws.proofs.PlacingLemmas.{counted_among}
use Rattle.sf_laws.proofs.TurnMoveLemmas.{Quiet, moves_quiet}
use Rattle.sf_store_half.specs.declared.session_fields.SessionField.{SessionField}
use Rattle.sf_store_half.specs.Fields.{Fields, Keeps}
use Rattle.sf_store_half.specs.HalfMoves.{AreStocked, HasField, IsRepacked}
use Rattle.sf_book.specs.Books.{BookView, table_of, IsSound}
use Rattle.sf_book.specs.Moves.{AreAway, IsMoved}
use Rattle.sf_book.specs.Inside.Bodies.{IsBook, book_of, promise_count}
use Rattle.sf_book.proofs.MoveLemmas.{IsStep, session_count, shape_of_step, tests_agree, moved_by_step}

nothing_away : (b : BookView) → AreAway b []
nothing_away b = record { below = All-nil _; once = λ i j d before less. absurd (omega (arith, less)); apart = All-nil _ }

no_births : (t u : Table) → u.contents ≡ t.contents → new_births t u ≡ []
no_births t u same =
    let equal : length u.contents ≡ length t.contents = ap (λ (cs : List Content). length cs) same in
    let none : length u.contents - length t.contents ≡ 0 = omega (arith, equal) in
    ap (range_with_len (length t.contents + 1)) none

-- the promises that stand are no more than the sessions
passed_few : {X : Type 0} (test : X → Bool) (xs : List X) → length (filter test xs) ≤ length xs
passed_few test [] = omega arith
passed_few test (x ∷ xs) =
    let rest = passed_few test xs in
    elim (test x) as (λ b. length (cond b (x ∷ filter test xs) (filter test xs)) ≤ length (x ∷ xs)) [
      | true ↦ omega (arith, rest)
      | false ↦ omega (arith, rest)
    ]

-- Where a Book is after a call, and what always holds of its fields.
pub record IsNext (f : Fields) (history : List Entry) (after : Fields) (es : List Entry) (given : List ℕ) : Type 0 where
  pub moved : IsMoved (book_of f history) (book_of after (history ++ es)) es given
  pub kept : (sessions spare : ℕ) → sessions ≡ length f.sessions → promise_count after.sessions ≤ spare → IsBook after (history ++ es) sessions spare
  pub few : promise_count after.sessions ≤ length f.sessions

pub next_by_step : (f : Fields) (history : List Entry) (after : Fields) (es : List Entry) (given : List ℕ) → IsSound (book_of f history) → Keeps f (half_of (table_of (book_of f history))) → AreAway (book_of f history) given
    → IsStep f history after es given → IsNext f history after es given
next_by_step f history after es given sound keeps away step =
    let moved = moved_by_step f history after es given sound keeps away step in
    let shape = shape_of_step f history after es keeps step.legal step.keeps in
    let few = passed_few (λ (field : SessionField). is_some field.promise) after.sessions in
    let same = shape.sessions in
    record {
      moved = moved;
      kept = λ sessions spare is room. record {
        count = is ∙ sym shape.sessions;
        sound = moved.sound;
        keeps = subst (λ (t : Table). Keeps after (half_of t)) (sym shape.table) step.keeps;
        stocked = step.stocked;
        room = room;
      };
      few = omega (arith, few, same);
    }

-- entries that give out no birth
pub next_quietly : (f : Fields) (history : List Entry) (after : Fields) (s : ℕ) (es : List Entry) → IsSound (book_of f history) → Keeps f (half_of (table_of (book_of f history)))
    → IsLegalHistory (table_of (book_of f history)) es → Quiet (table_of (book_of f history)) s (table_after (table_of (book_of f history)) es)
    → Keeps after (half_of (table_after (table_of (book_of f history)) es)) → stock.IsSound after.stock → IsRepacked f.stock after.stock []
    → IsNext f history after es []
next_quietly f history after s es sound keeps legal quiet kept stocked repacked =
    let t = table_of (book_of f history) in
    let u = table_after t es in
    let none : places_of_new u.contents (new_births t u) [] ≡ [] = ap (λ (bs : List ℕ). places_of_new u.contents bs []) (no_births t u quiet.contents) in
    next_by_step f history after es [] sound keeps (nothing_away (book_of f history)) (record {
      legal = legal;
      moves = moves_quiet t u s quiet (stands_where f.options (length f.sessions) history sound.legal).within.true_marks;
      keeps = kept;
      stocked = stocked;
      repacked = subst (IsRepacked f.stock after.stock) (sym none) repacked;
    })

-- births in reach have places
pub are_stocked : (f : Fields) (t : Table) (births : List ℕ) → Keeps f (half_of t) → stock.IsSound f.stock → Each (Contains (reach t)) births → AreStocked f births
are_stocked f t births keeps stocked all =
    All-from_recursion (λ b. is_stocked f.stock.stocked b ≡ true) births
    (each_weaker (Contains (reach t)) (λ b. is_stocked f.stock.stocked b ≡ true) births (λ b has. tests_agree f t keeps stocked b ∙ counted_among b (reach t) (counted_some (reach t) b has)) all)

pub has_field : (f : Fields) (t : Table) (s : ℕ) → Keeps f (half_of t) → IsTrue (has_session t s) → HasField f s
has_field f t s keeps has =
    let count = session_count f t keeps in
    let both : IsTrue (has_session t s) = has in
    record { low = grind (arith, both); high = grind (arith, both, count) }
