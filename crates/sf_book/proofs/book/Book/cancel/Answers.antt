use Rattle.std.proofs.Common.{◌≡◌, IsTrue, List, [], ◌∷◌, ◌++◌, Option, Some, sym, ap, subst, ◌∙◌, arith}
use Rattle.std.specs.Option.{IfSome, IsSome}
use Rattle.sf_types.specs.declared.call.Call.{Call}
use Rattle.sf_types.specs.declared.history.Entry.{Entry}
use Rattle.sf_types.specs.declared.history.Kind.TheVariants as kind
use Rattle.sf_types.specs.Table.Parts.{Promise}
use Rattle.sf_types.specs.Table.Sessions.{has_session, session_of}
use Rattle.sf_types.specs.Orders.Histories.{entry_of}
use Rattle.sf_types.specs.Halves.Asks.{half_of}
use Rattle.sf_book.specs.Books.{BookView, table_of}
use Rattle.sf_book.specs.Moves.{IsMoved}
use Rattle.sf_book.specs.Inside.Bodies.{IsBook, book_of}
use Rattle.sf_book.proofs.CancelLemmas.{IsCancelled, cancelled, standing, field_promised, call_of_field, one_stands}
use Rattle.sf_book.proofs.book.Book.cancel.Goals as goal

pub cancel-call-requires-clause-promised : goal.cancel-call-requires-clause-promised
cancel-call-requires-clause-promised c =
    let f = c.self.inside.half in
    field_promised f (table_of (book_of f c.self.inside.history.held)) c.args.session c.self.invariant.keeps
    (subst (λ (b : BookView). IsSome (session_of (table_of b) c.args.session).promise) (sym c.self.view_is) c.requires.promised)

pub push_entry-requires : goal.push_entry-requires
push_entry-requires c =
    let f = c.self.inside.half in
    let some = one_stands f (table_of (book_of f c.self.inside.history.held)) c.args.session c.self.invariant.keeps
    (subst (λ (b : BookView). IsTrue (has_session (table_of b) c.args.session)) (sym c.self.view_is) c.requires.session)
    (subst (λ (b : BookView). IsSome (session_of (table_of b) c.args.session).promise) (sym c.self.view_is) c.requires.promised) in
    let room = c.self.invariant.room in
    omega (arith, some, room)

-- The cancel, with the promise that stood.
record Cancels (c : goal.After-next_birth-next) : Type 0 where
  promise : Promise
  is : (session_of (table_of (book_of c.self.inside.half c.self.inside.history.held)) c.args.session).promise ≡ Some promise
  done : IsCancelled c.self.inside.half c.self.inside.history.held c.cancel-call.new.self c.args.session promise
  entries : c.push_entry.new.history.held ≡ c.self.inside.history.held ++ entry_of c.args.session kind.Cancel promise.call ∷ []

cancels : (c : goal.After-next_birth-next) → Cancels c
cancels c =
    let f = c.self.inside.half in
    let history = c.self.inside.history.held in
    let t = table_of (book_of f history) in
    let s = c.args.session in
    let kept = c.self.invariant in
    let has : IsTrue (has_session t s) = subst (λ (b : BookView). IsTrue (has_session (table_of b) s)) (sym c.self.view_is) c.requires.session in
    let some : IsSome (session_of t s).promise = subst (λ (b : BookView). IsSome (session_of (table_of b) s).promise) (sym c.self.view_is) c.requires.promised in
    let (q, is) = standing (session_of t s).promise some in
    record {
      promise = q;
      is = is;
      done = cancelled f history c.cancel-call.new.self s q kept.sound kept.keeps has is (c.cancel-call.ensures.kept (half_of t) kept.keeps) c.next_birth-next.ensures.sound c.cancel-call.ensures.repacked;
      entries = c.push_entry.ensures.held ∙ ap (λ (d : Call). history ++ entry_of s kind.Cancel d ∷ []) (call_of_field f t s q c.cancel-call.result kept.keeps is c.cancel-call.ensures.call);
    }

pub invariant_of-self : goal.invariant_of-self
invariant_of-self c =
    let all = cancels c in
    let less = all.done.count in
    let room = c.self.invariant.room in
    let spare = c.push_entry.ensures.spare in
    subst (λ (es : List Entry). IsBook c.cancel-call.new.self es c.self.inside.sessions c.push_entry.new.history.spare) (sym all.entries)
    (all.done.next.kept c.self.inside.sessions c.push_entry.new.history.spare c.self.invariant.count (omega (arith, less, room, spare)))

pub returns : goal.returns
returns c =
    let all = cancels c in
    let s = c.args.session in
    let f = c.self.inside.half in
    let history = c.self.inside.history.held in
    let after = book_of c.cancel-call.new.self c.push_entry.new.history.held in
    let moved : IsMoved (book_of f history) after (entry_of s kind.Cancel all.promise.call ∷ []) [] =
    subst (λ (es : List Entry). IsMoved (book_of f history) (book_of c.cancel-call.new.self es) (entry_of s kind.Cancel all.promise.call ∷ []) []) (sym all.entries) all.done.next.moved in
    subst (λ (b : BookView). IfSome (session_of (table_of b) s).promise (λ promise. IsMoved b after (entry_of s kind.Cancel promise.call ∷ []) [])) c.self.view_is
    (subst (λ (o : Option Promise). IfSome o (λ promise. IsMoved (book_of f history) after (entry_of s kind.Cancel promise.call ∷ []) [])) (sym all.is) moved)
