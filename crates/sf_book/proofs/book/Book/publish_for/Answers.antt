use Rattle.std.proofs.Common.{◌≡◌, List, [], ◌∷◌, ◌++◌, length, sym, ap, subst, ◌∙◌, arith}
use Rattle.sf_types.specs.declared.history.Entry.{Entry}
use Rattle.sf_types.specs.declared.history.Kind.TheVariants as kind
use Rattle.sf_types.specs.Space.BlockRuns.{blocks_in}
use Rattle.sf_types.specs.Orders.Histories.{entry_of}
use Rattle.sf_types.specs.Play.Blocks.{unused_blocks}
use Rattle.sf_types.specs.Halves.Own.{own_of}
use Rattle.sf_types.specs.Halves.Asks.{Answer, Half, half_of}
use Rattle.sf_versions.specs.Asks.{IsAnswer, IsFlush}
use Rattle.sf_store_half.specs.HalfMoves.{blocks_left_over}
use Rattle.sf_book.specs.Books.{BookView, table_of}
use Rattle.sf_book.specs.Moves.{AreAway, IsMoved, Stands}
use Rattle.sf_book.specs.Inside.Bodies.{IsBook, book_of, with_call}
use Rattle.sf_book.proofs.PublicationLemmas.{IsPublishable, IsPublished, is_publishable, published, published_in, published_same}
use Rattle.sf_book.proofs.book.Book.publish_for.Goals as goal

stands : (c : goal.After-publish-arg-1) → Stands (table_of (book_of c.self.inside.half c.self.inside.history.held)) c.args.session c.args.call (length (blocks_in c.args.runs.held))
stands c = subst (λ (b : BookView). Stands (table_of b) c.args.session c.args.call (length (blocks_in c.args.runs.held))) (sym c.self.view_is) c.requires.promise

flushes : (c : goal.After-publish-arg-1) → IsFlush c.self.inside.half.options (own_of (table_of (book_of c.self.inside.half c.self.inside.history.held)) c.args.session) (with_call c.args.flush c.args.call)
flushes c = subst (λ (b : BookView). IsFlush b.options (own_of (table_of b) c.args.session) (with_call c.args.flush c.args.call)) (sym c.self.view_is) c.requires.flush

away : (c : goal.After-publish-arg-1) → AreAway (book_of c.self.inside.half c.self.inside.history.held) (blocks_in c.args.runs.held)
away c = subst (λ (b : BookView). AreAway b (blocks_in c.args.runs.held)) (sym c.self.view_is) c.requires.away

publishable : (c : goal.After-publish-arg-1) → IsPublishable c.self.inside.half (with_call c.args.flush c.args.call) (blocks_in c.args.runs.held)
publishable c =
    let kept = c.self.invariant in
    is_publishable c.self.inside.half c.self.inside.history.held c.args.session (with_call c.args.flush c.args.call) (blocks_in c.args.runs.held) kept.sound kept.keeps kept.stocked (stands c) (flushes c) (away c)

pub publish-requires-clause-births : goal.publish-requires-clause-births
publish-requires-clause-births c = let births = (publishable c).births in record { kept = births.kept; named = births.named }

pub publish-requires-clause-cuts : goal.publish-requires-clause-cuts
publish-requires-clause-cuts c = (publishable c).cuts

pub publish-requires-clause-placeable : goal.publish-requires-clause-placeable
publish-requires-clause-placeable c = (publishable c).placeable

pub publish-requires-clause-enough : goal.publish-requires-clause-enough
publish-requires-clause-enough c = (publishable c).enough

stands_then : (c : goal.After-next_birth-next) → Stands (table_of (book_of c.self.inside.half c.self.inside.history.held)) c.args.session c.args.call (length (blocks_in c.args.runs.held))
stands_then c = subst (λ (b : BookView). Stands (table_of b) c.args.session c.args.call (length (blocks_in c.args.runs.held))) (sym c.self.view_is) c.requires.promise

flushes_then : (c : goal.After-next_birth-next) → IsFlush c.self.inside.half.options (own_of (table_of (book_of c.self.inside.half c.self.inside.history.held)) c.args.session) (with_call c.args.flush c.args.call)
flushes_then c = subst (λ (b : BookView). IsFlush b.options (own_of (table_of b) c.args.session) (with_call c.args.flush c.args.call)) (sym c.self.view_is) c.requires.flush

away_then : (c : goal.After-next_birth-next) → AreAway (book_of c.self.inside.half c.self.inside.history.held) (blocks_in c.args.runs.held)
away_then c = subst (λ (b : BookView). AreAway b (blocks_in c.args.runs.held)) (sym c.self.view_is) c.requires.away

done : (c : goal.After-next_birth-next) → IsPublished c.self.inside.half c.self.inside.history.held c.publish.new.self c.args.session c.args.call (blocks_in c.args.runs.held)
done c =
    let f = c.self.inside.half in
    let history = c.self.inside.history.held in
    let kept = c.self.invariant in
    let h = half_of (table_of (book_of f history)) in
    published f history c.publish.new.self c.args.session (with_call c.args.flush c.args.call) (blocks_in c.args.runs.held) kept.sound kept.keeps (stands_then c) (flushes_then c) (away_then c)
    (c.in-Ok.ensures.kept h kept.keeps) c.next_birth-next.ensures.sound (c.in-Ok.ensures.repacked h kept.keeps)

entries : (c : goal.After-next_birth-next) → c.push_entry.new.history.held ≡ c.self.inside.history.held ++ entry_of c.args.session kind.Call c.args.call ∷ []
entries c =
    c.push_entry.ensures.held
    ∙ ap (λ (es : List Entry). es ++ entry_of c.args.session kind.Call c.args.call ∷ []) c.make_room.ensures.held

pub invariant_of-self-in-Ok : goal.invariant_of-self-in-Ok
invariant_of-self-in-Ok c =
    let next = (done c).next in
    let few = next.few in
    let count = c.self.invariant.count in
    let room = c.in_default.ensures.room in
    let one = c.push_entry.ensures.spare in
    subst (λ (es : List Entry). IsBook c.publish.new.self es c.self.inside.sessions c.push_entry.new.history.spare) (sym (entries c))
    (next.kept c.self.inside.sessions c.push_entry.new.history.spare count (omega (arith, few, count, room, one)))

pub returns-in-Ok-clause-moved : goal.returns-in-Ok-clause-moved
returns-in-Ok-clause-moved c =
    let es = entry_of c.args.session kind.Call c.args.call ∷ [] in
    let given = blocks_in c.args.runs.held in
    subst (λ (b : BookView). IsMoved b (book_of c.publish.new.self c.push_entry.new.history.held) es given) c.self.view_is
    (subst (λ (all : List Entry). IsMoved (book_of c.self.inside.half c.self.inside.history.held) (book_of c.publish.new.self all) es given) (sym (entries c)) (done c).next.moved)

pub returns-in-Ok-clause-answer : goal.returns-in-Ok-clause-answer
returns-in-Ok-clause-answer c =
    let f = c.self.inside.half in
    let history = c.self.inside.history.held in
    let told = c.in-Ok.ensures.answer (half_of (table_of (book_of f history))) c.self.invariant.keeps in
    subst (λ (b : BookView). IsAnswer c.in-Ok.published.answer (published_in b c.args.session c.args.call).1) c.self.view_is
    (subst (λ (x : Half × Answer). IsAnswer c.in-Ok.published.answer x.1) (published_same f history c.args.session (with_call c.args.flush c.args.call) (flushes_then c)) told)

pub returns-in-Ok-clause-unused : goal.returns-in-Ok-clause-unused
returns-in-Ok-clause-unused c =
    let f = c.self.inside.half in
    let history = c.self.inside.history.held in
    let t = table_of (book_of f history) in
    let given = blocks_in c.args.runs.held in
    let bs = blocks_in c.in-Ok.published.unused.held in
    let left = c.in-Ok.ensures.unused (half_of t) c.self.invariant.keeps in
    let told = left ∙ ap (λ (x : Half × Answer). blocks_left_over (half_of t) x.0 given) (published_same f history c.args.session (with_call c.args.flush c.args.call) (flushes_then c)) in
    subst (λ (b : BookView). bs ≡ unused_blocks (table_of b) (table_of (book_of c.publish.new.self c.push_entry.new.history.held)) given) c.self.view_is
    (subst (λ (all : List Entry). bs ≡ unused_blocks t (table_of (book_of c.publish.new.self all)) given) (sym (entries c)) ((done c).unused bs told))
