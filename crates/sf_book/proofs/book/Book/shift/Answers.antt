use Rattle.std.proofs.Common.{◌≡◌, List, [], map, sym, ap, subst, ◌∙◌}
use Rattle.sf_types.specs.Space.Placings.{IsSafe, Placed}
use Rattle.sf_shrink.specs.Plans.{shifted_to}
use Rattle.sf_store_half.specs.Fields.{Fields}
use Rattle.sf_book.specs.Books.{BookView, table_of}
use Rattle.sf_book.specs.Inside.Bodies.{book_of}
use Rattle.sf_book.proofs.ShiftLemmas.{after_shift, are_shifts, book_moved}
use Rattle.sf_book.proofs.book.Book.shift.Goals as goal

pub shift-requires : goal.shift-requires
shift-requires c =
    are_shifts c.self.inside.half c.self.inside.history.held c.args.shifts c.self.inside.sessions c.self.inside.history.spare c.self.invariant
    (subst (λ (b : BookView). b.parked ≡ []) (sym c.self.view_is) c.requires.parked) c.requires.runs
    (subst (λ (b : BookView). IsSafe (table_of b) (map shifted_to c.args.shifts)) (sym c.self.view_is) c.requires.safe)

pub invariant_of-self : goal.invariant_of-self
invariant_of-self c =
    after_shift c.self.inside.half c.shift.new.self c.self.inside.history.held c.args.shifts c.self.inside.sessions c.self.inside.history.spare c.self.invariant
    (subst (λ (b : BookView). b.parked ≡ []) (sym c.self.view_is) c.requires.parked)
    (subst (λ (b : BookView). IsSafe (table_of b) (map shifted_to c.args.shifts)) (sym c.self.view_is) c.requires.safe) c.shift.ensures c.next_birth-next.ensures.sound

pub returns : goal.returns
returns c =
    let f = c.self.inside.half in
    let history = c.self.inside.history.held in
    let places = book_moved f history c.args.shifts c.self.inside.sessions c.self.inside.history.spare c.self.invariant
    (subst (λ (b : BookView). b.parked ≡ []) (sym c.self.view_is) c.requires.parked)
    (subst (λ (b : BookView). IsSafe (table_of b) (map shifted_to c.args.shifts)) (sym c.self.view_is) c.requires.safe) in
    ap (λ (x : Fields). book_of x history) c.shift.ensures
    ∙ ap (λ (xs : List Placed). record (book_of f history) { places = xs }) places
    ∙ ap (λ (b : BookView). record b { places = map shifted_to c.args.shifts }) c.self.view_is
