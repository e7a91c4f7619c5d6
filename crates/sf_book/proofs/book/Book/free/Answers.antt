use Rattle.std.proofs.Common.{◌≡◌, subst, sym, ◌∙◌}
use Rattle.sf_types.specs.Space.Use.{free_of}
use Rattle.sf_types.specs.Halves.Asks.{half_of}
use Rattle.sf_laws.proofs.FlushLemmas.{free_by_half}
use Rattle.sf_book.specs.Books.{BookView, table_of}
use Rattle.sf_book.specs.Inside.Bodies.{book_of}
use Rattle.sf_book.proofs.book.Book.free.Goals as goal

pub returns : goal.returns
returns c =
    let t = table_of (book_of c.self.inside.half c.self.inside.history.held) in
    subst (λ (b : BookView). c.free.result ≡ free_of (table_of b)) c.self.view_is (c.free.ensures (half_of t) c.self.invariant.keeps ∙ sym (free_by_half t))
