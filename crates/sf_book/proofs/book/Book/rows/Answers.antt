use Rattle.std.proofs.Common.{◌≡◌, List, subst}
use Rattle.std.specs.Prelude.{IfOk}
use Rattle.std.proofs.lemmas.Result.{IfOk-weaker}
use Rattle.sf_types.specs.declared.row_end.RowEnd.{RowEnd}
use Rattle.sf_types.specs.Orders.RowEnds.{row_ends_of}
use Rattle.sf_types.specs.Halves.Asks.{half_of}
use Rattle.sf_book.specs.Books.{BookView, table_of}
use Rattle.sf_book.specs.Inside.Bodies.{book_of}
use Rattle.sf_book.proofs.book.Book.rows.Goals as goal

pub returns : goal.returns
returns c =
    let t = table_of (book_of c.self.inside.half c.self.inside.history.held) in
    subst (λ (b : BookView). IfOk c.rows.result (λ rows. rows ≡ row_ends_of (table_of b))) c.self.view_is
    (IfOk-weaker c.rows.result _ (λ (rows : List RowEnd). rows ≡ row_ends_of t) (λ rows is. is (half_of t) c.self.invariant.keeps) c.rows.ensures)
