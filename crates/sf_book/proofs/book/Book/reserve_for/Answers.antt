use Rattle.std.proofs.Common.{◌≡◌, true, List, [], ◌∷◌, ◌++◌, sym, ap, subst, ◌∙◌, append_assoc, arith}
use Rattle.sf_types.specs.declared.call.Call.{Call}
use Rattle.sf_types.specs.declared.history.Entry.{Entry}
use Rattle.sf_types.specs.declared.history.Kind.TheVariants as kind
use Rattle.sf_types.specs.Orders.Histories.{call_entries, entry_of}
use Rattle.sf_types.specs.Halves.Own.{own_due}
use Rattle.sf_types.specs.Halves.Asks.{Half, half_of}
use Rattle.sf_types.specs.Halves.Flushes.{Verdict}
use Rattle.sf_versions.specs.Asks.{IsFlush, rule_of_verdict}
use Rattle.sf_book.specs.Books.{BookView, table_of}
use Rattle.sf_book.specs.Moves.{IsBatch, IsMoved, own_with_batch}
use Rattle.sf_book.specs.Inside.Bodies.{IsBook, book_of}
use Rattle.sf_book.proofs.BatchLemmas.{Behind, behind_batch}
use Rattle.sf_book.proofs.PromiseLemmas.{flush_has_cuts, promise_entries, verdict_in, verdict_same, next_by_promise}
use Rattle.sf_book.proofs.QuietLemmas.{IsNext, are_stocked}
use Rattle.sf_book.proofs.book.Book.reserve_for.Goals as goal

pub reserve-requires-clause-births : goal.reserve-requires-clause-births
reserve-requires-clause-births c =
    let f = c.self.inside.half in
    let history = c.self.inside.history.held in
    let behind = behind_batch f history c.args.session c.args.batch c.self.invariant.sound
    (subst (λ (b : BookView). IsBatch (table_of b) c.args.session c.args.batch) (sym c.self.view_is) c.requires.batch) in
    are_stocked f (table_of (book_of f history)) c.args.batch.births c.self.invariant.keeps c.self.invariant.stocked behind.births

pub reserve-requires-clause-cuts : goal.reserve-requires-clause-cuts
reserve-requires-clause-cuts c =
    let f = c.self.inside.half in
    let o = own_with_batch (table_of (book_of f c.self.inside.history.held)) c.args.session c.args.batch in
    flush_has_cuts f.options f.options.gather o c.args.flush.now
    (subst (λ (b : BookView). own_due b.options.gather (own_with_batch (table_of b) c.args.session c.args.batch) c.args.flush.now.ask.call ≡ true) (sym c.self.view_is) c.requires.due)
    (subst (λ (b : BookView). IsFlush b.options (own_with_batch (table_of b) c.args.session c.args.batch) c.args.flush.now) (sym c.self.view_is) c.requires.flush)

behind : (c : goal.After-next_birth-next) → Behind c.self.inside.half c.self.inside.history.held c.args.session c.args.batch
behind c =
    behind_batch c.self.inside.half c.self.inside.history.held c.args.session c.args.batch c.self.invariant.sound
    (subst (λ (b : BookView). IsBatch (table_of b) c.args.session c.args.batch) (sym c.self.view_is) c.requires.batch)

flushes : (c : goal.After-next_birth-next) → IsFlush c.self.inside.half.options (own_with_batch (table_of (book_of c.self.inside.half c.self.inside.history.held)) c.args.session c.args.batch) c.args.flush.now
flushes c = subst (λ (b : BookView). IsFlush b.options (own_with_batch (table_of b) c.args.session c.args.batch) c.args.flush.now) (sym c.self.view_is) c.requires.flush

next : (c : goal.After-next_birth-next) → IsNext c.self.inside.half c.self.inside.history.held c.reserve.new.self (promise_entries c.args.session c.args.batch c.args.flush.now.ask.call) []
next c =
    let f = c.self.inside.half in
    let history = c.self.inside.history.held in
    let kept = c.self.invariant in
    next_by_promise f history c.reserve.new.self c.args.session c.args.batch c.args.flush.now kept.sound kept.keeps (behind c)
    (subst (λ (b : BookView). own_due b.options.gather (own_with_batch (table_of b) c.args.session c.args.batch) c.args.flush.now.ask.call ≡ true) (sym c.self.view_is) c.requires.due) (flushes c)
    (c.in-Ok.ensures.kept (half_of (table_of (book_of f history))) kept.keeps) c.next_birth-next.ensures.sound c.in-Ok.ensures.repacked

entries : (c : goal.After-next_birth-next) → c.push_entry.new.history.held ≡ c.self.inside.history.held ++ promise_entries c.args.session c.args.batch c.args.flush.now.ask.call
entries c =
    let calls = call_entries c.args.session c.args.batch.calls in
    let s = c.args.session in
    c.push_entry.ensures.held
    ∙ ap (λ (d : Call). c.push_calls.new.history.held ++ entry_of s kind.Promise d ∷ []) c.requires.call
    ∙ ap (λ (es : List Entry). es ++ entry_of s kind.Promise c.args.flush.now.ask.call ∷ []) (c.push_calls.ensures.held ∙ ap (λ (es : List Entry). es ++ calls) c.make_room.ensures.held)
    ∙ append_assoc c.self.inside.history.held calls (entry_of s kind.Promise c.args.flush.now.ask.call ∷ [])

pub invariant_of-self-in-Ok : goal.invariant_of-self-in-Ok
invariant_of-self-in-Ok c =
    let few = (next c).few in
    let count = c.self.invariant.count in
    let len = c.len.ensures in
    let room = c.in_default.ensures.room in
    let calls = c.push_calls.ensures.spare in
    let one = c.push_entry.ensures.spare in
    subst (λ (es : List Entry). IsBook c.reserve.new.self es c.self.inside.sessions c.push_entry.new.history.spare) (sym (entries c))
    ((next c).kept c.self.inside.sessions c.push_entry.new.history.spare count (omega (arith, few, count, len, room, calls, one)))

pub returns-in-Ok-clause-moved : goal.returns-in-Ok-clause-moved
returns-in-Ok-clause-moved c =
    let es = promise_entries c.args.session c.args.batch c.args.flush.now.ask.call in
    subst (λ (b : BookView). IsMoved b (book_of c.reserve.new.self c.push_entry.new.history.held) es []) c.self.view_is
    (subst (λ (all : List Entry). IsMoved (book_of c.self.inside.half c.self.inside.history.held) (book_of c.reserve.new.self all) es []) (sym (entries c)) (next c).moved)

pub returns-in-Ok-clause-verdict : goal.returns-in-Ok-clause-verdict
returns-in-Ok-clause-verdict c =
    let f = c.self.inside.half in
    let history = c.self.inside.history.held in
    let told = c.in-Ok.ensures.verdict (half_of (table_of (book_of f history))) c.self.invariant.keeps in
    let same = verdict_same f history c.args.session c.args.batch c.args.flush.now (behind c) (flushes c) in
    subst (λ (b : BookView). rule_of_verdict c.in-Ok.verdict ≡ (verdict_in b c.args.session c.args.batch c.args.flush.now.ask.call).1) c.self.view_is
    (subst (λ (x : Half × Verdict). rule_of_verdict c.in-Ok.verdict ≡ x.1) same told)
