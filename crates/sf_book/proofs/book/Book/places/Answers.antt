use Rattle.std.proofs.Common.{◌≡◌, List, map, subst}
use Rattle.std.specs.Prelude.{IfOk}
use Rattle.sf_types.specs.declared.place.Place.{Place}
use Rattle.sf_book.specs.Books.{BookView, listed_place, table_of}
use Rattle.sf_book.specs.Inside.Bodies.{book_of}
use Rattle.sf_book.proofs.ReadLemmas.{listed_by_half}
use Rattle.sf_book.proofs.book.Book.places.Goals as goal

pub returns : goal.returns
returns c =
    let f = c.self.inside.half in
    subst (λ (b : BookView). IfOk c.places.result (λ places. places ≡ map (listed_place (table_of b)) b.places)) c.self.view_is
    (subst (λ (told : List Place). IfOk c.places.result (λ places. places ≡ told)) (listed_by_half f (table_of (book_of f c.self.inside.history.held)) c.self.invariant.keeps) c.places.ensures)
