use Rattle.std.proofs.Common.{◌≡◌, List, [], ◌++◌, sym, ap, subst, ◌∙◌, arith}
use Rattle.sf_types.specs.declared.history.Entry.{Entry}
use Rattle.sf_types.specs.Orders.Histories.{call_entries}
use Rattle.sf_types.specs.Halves.Asks.{half_of}
use Rattle.sf_book.specs.Books.{BookView, table_of}
use Rattle.sf_book.specs.Moves.{IsBatch, IsMoved}
use Rattle.sf_book.specs.Inside.Bodies.{IsBook, book_of}
use Rattle.sf_book.proofs.BatchLemmas.{Behind, behind_batch, next_by_batch}
use Rattle.sf_book.proofs.QuietLemmas.{IsNext, are_stocked}
use Rattle.sf_book.proofs.book.Book.note_with.Goals as goal

behind : (c : goal.After-note-arg-1) → Behind c.self.inside.half c.self.inside.history.held c.args.session c.args.batch
behind c =
    behind_batch c.self.inside.half c.self.inside.history.held c.args.session c.args.batch c.self.invariant.sound
    (subst (λ (b : BookView). IsBatch (table_of b) c.args.session c.args.batch) (sym c.self.view_is) c.requires.batch)

pub note-requires-clause-births : goal.note-requires-clause-births
note-requires-clause-births c =
    let f = c.self.inside.half in
    let t = table_of (book_of f c.self.inside.history.held) in
    are_stocked f t c.args.batch.births c.self.invariant.keeps c.self.invariant.stocked (behind c).births

next : (c : goal.After-next_birth-next) → IsNext c.self.inside.half c.self.inside.history.held c.note.new.self (call_entries c.args.session c.args.batch.calls) []
next c =
    let f = c.self.inside.half in
    let history = c.self.inside.history.held in
    let kept = c.self.invariant in
    let is = behind_batch f history c.args.session c.args.batch kept.sound (subst (λ (b : BookView). IsBatch (table_of b) c.args.session c.args.batch) (sym c.self.view_is) c.requires.batch) in
    next_by_batch f history c.note.new.self c.args.session c.args.batch kept.sound kept.keeps is
    (c.in_ok-note.ensures.kept (half_of (table_of (book_of f history))) kept.keeps) c.next_birth-next.ensures.sound c.in_ok-note.ensures.repacked

entries : (c : goal.After-next_birth-next) → c.push_calls.new.history.held ≡ c.self.inside.history.held ++ call_entries c.args.session c.args.batch.calls
entries c = c.push_calls.ensures.held ∙ ap (λ (es : List Entry). es ++ call_entries c.args.session c.args.batch.calls) c.make_room.ensures.held

pub invariant_of-self-2 : goal.invariant_of-self-2
invariant_of-self-2 c =
    let few = (next c).few in
    let count = c.self.invariant.count in
    let len = c.len.ensures in
    let room = c.in_ok-make_room.ensures.room in
    let spare = c.push_calls.ensures.spare in
    subst (λ (es : List Entry). IsBook c.note.new.self es c.self.inside.sessions c.push_calls.new.history.spare) (sym (entries c))
    ((next c).kept c.self.inside.sessions c.push_calls.new.history.spare count (omega (arith, few, count, len, room, spare)))

pub returns-clause-moved : goal.returns-clause-moved
returns-clause-moved c =
    let es = call_entries c.args.session c.args.batch.calls in
    subst (λ (b : BookView). IsMoved b (book_of c.note.new.self c.push_calls.new.history.held) es []) c.self.view_is
    (subst (λ (all : List Entry). IsMoved (book_of c.self.inside.half c.self.inside.history.held) (book_of c.note.new.self all) es []) (sym (entries c)) (next c).moved)
