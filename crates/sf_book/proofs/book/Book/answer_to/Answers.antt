use Rattle.std.proofs.Common.{◌≡◌, false, List, [], ◌∷◌, ◌++◌, sym, ap, subst, ◌∙◌, append_assoc, arith}
use Rattle.sf_types.specs.declared.history.Entry.{Entry}
use Rattle.sf_types.specs.declared.history.Kind.TheVariants as kind
use Rattle.sf_types.specs.declared.call.Call.{Call}
use Rattle.sf_types.specs.Orders.Histories.{call_entries, entry_of}
use Rattle.sf_types.specs.Halves.Asks.{Answer, Half, half_of}
use Rattle.sf_versions.specs.Asks.{IsAnswer, IsAsk}
use Rattle.sf_types.specs.Halves.Own.{own_due}
use Rattle.sf_book.specs.Books.{BookView, table_of}
use Rattle.sf_book.specs.Moves.{IsBatch, IsMoved, own_with_batch}
use Rattle.sf_book.specs.Inside.Bodies.{IsBook, book_of}
use Rattle.sf_book.proofs.BatchLemmas.{Behind, behind_batch, event_entries, told_in, told_same, asked_stocked, next_by_event}
use Rattle.sf_book.proofs.QuietLemmas.{IsNext, are_stocked}
use Rattle.sf_book.proofs.book.Book.answer_to.Goals as goal

behind : (c : goal.After-answer-arg-1) → Behind c.self.inside.half c.self.inside.history.held c.args.session c.args.batch
behind c =
    behind_batch c.self.inside.half c.self.inside.history.held c.args.session c.args.batch c.self.invariant.sound
    (subst (λ (b : BookView). IsBatch (table_of b) c.args.session c.args.batch) (sym c.self.view_is) c.requires.batch)

pub answer-requires-clause-births : goal.answer-requires-clause-births
answer-requires-clause-births c =
    let f = c.self.inside.half in
    are_stocked f (table_of (book_of f c.self.inside.history.held)) c.args.batch.births c.self.invariant.keeps c.self.invariant.stocked (behind c).births

pub answer-requires-clause-ask : goal.answer-requires-clause-ask
answer-requires-clause-ask c =
    asked_stocked c.self.inside.half c.self.inside.history.held c.args.session c.args.batch c.args.ask c.self.invariant.keeps c.self.invariant.stocked (behind c) c.requires.event
    (subst (λ (b : BookView). IsAsk (own_with_batch (table_of b) c.args.session c.args.batch) c.args.ask) (sym c.self.view_is) c.requires.ask)

behind_then : (c : goal.After-next_birth-next) → Behind c.self.inside.half c.self.inside.history.held c.args.session c.args.batch
behind_then c =
    behind_batch c.self.inside.half c.self.inside.history.held c.args.session c.args.batch c.self.invariant.sound
    (subst (λ (b : BookView). IsBatch (table_of b) c.args.session c.args.batch) (sym c.self.view_is) c.requires.batch)

asks : (c : goal.After-next_birth-next) → IsAsk (own_with_batch (table_of (book_of c.self.inside.half c.self.inside.history.held)) c.args.session c.args.batch) c.args.ask
asks c = subst (λ (b : BookView). IsAsk (own_with_batch (table_of b) c.args.session c.args.batch) c.args.ask) (sym c.self.view_is) c.requires.ask

next : (c : goal.After-next_birth-next) → IsNext c.self.inside.half c.self.inside.history.held c.answer.new.self (event_entries c.args.session c.args.batch c.args.ask.call) []
next c =
    let f = c.self.inside.half in
    let history = c.self.inside.history.held in
    let kept = c.self.invariant in
    next_by_event f history c.answer.new.self c.args.session c.args.batch c.args.ask kept.sound kept.keeps (behind_then c) c.requires.event
    (subst (λ (b : BookView). own_due b.options.gather (own_with_batch (table_of b) c.args.session c.args.batch) c.args.ask.call ≡ false) (sym c.self.view_is) c.requires.undue) (asks c)
    (c.in-Ok.ensures.kept (half_of (table_of (book_of f history))) kept.keeps) c.next_birth-next.ensures.sound c.in-Ok.ensures.repacked

entries : (c : goal.After-next_birth-next) → c.push_entry.new.history.held ≡ c.self.inside.history.held ++ event_entries c.args.session c.args.batch c.args.ask.call
entries c =
    let calls = call_entries c.args.session c.args.batch.calls in
    c.push_entry.ensures.held
    ∙ ap (λ (d : Call). c.push_calls.new.history.held ++ entry_of c.args.session kind.Call d ∷ []) c.requires.call
    ∙ ap (λ (es : List Entry). es ++ entry_of c.args.session kind.Call c.args.ask.call ∷ []) (c.push_calls.ensures.held ∙ ap (λ (es : List Entry). es ++ calls) c.make_room.ensures.held)
    ∙ append_assoc c.self.inside.history.held calls (entry_of c.args.session kind.Call c.args.ask.call ∷ [])

pub invariant_of-self-in-Ok : goal.invariant_of-self-in-Ok
invariant_of-self-in-Ok c =
    let few = (next c).few in
    let count = c.self.invariant.count in
    let len = c.len.ensures in
    let room = c.in_default.ensures.room in
    let calls = c.push_calls.ensures.spare in
    let one = c.push_entry.ensures.spare in
    subst (λ (es : List Entry). IsBook c.answer.new.self es c.self.inside.sessions c.push_entry.new.history.spare) (sym (entries c))
    ((next c).kept c.self.inside.sessions c.push_entry.new.history.spare count (omega (arith, few, count, len, room, calls, one)))

pub returns-in-Ok-clause-moved : goal.returns-in-Ok-clause-moved
returns-in-Ok-clause-moved c =
    let es = event_entries c.args.session c.args.batch c.args.ask.call in
    subst (λ (b : BookView). IsMoved b (book_of c.answer.new.self c.push_entry.new.history.held) es []) c.self.view_is
    (subst (λ (all : List Entry). IsMoved (book_of c.self.inside.half c.self.inside.history.held) (book_of c.answer.new.self all) es []) (sym (entries c)) (next c).moved)

pub returns-in-Ok-clause-answer : goal.returns-in-Ok-clause-answer
returns-in-Ok-clause-answer c =
    let f = c.self.inside.half in
    let history = c.self.inside.history.held in
    let told = c.in-Ok.ensures.answer (half_of (table_of (book_of f history))) c.self.invariant.keeps in
    let same = told_same f history c.args.session c.args.batch c.args.ask (behind_then c) (asks c) in
    subst (λ (b : BookView). IsAnswer c.in-Ok.answer (told_in b c.args.session c.args.batch c.args.ask.call).1) c.self.view_is
    (subst (λ (x : Half × Answer). IsAnswer c.in-Ok.answer x.1) same told)
