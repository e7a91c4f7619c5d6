use Rattle.std.proofs.Common.{◌≡◌, subst}
use Rattle.std.specs.Prelude.{slice_get}
use Rattle.std.specs.Map.Iter.{deref_pair}
use Rattle.std.specs.Option.{option_map}
use Rattle.sf_types.specs.Table.Versions.{present_rows}
use Rattle.sf_types.specs.Halves.Asks.{half_of}
use Rattle.sf_book.specs.Books.{BookView, table_of}
use Rattle.sf_book.specs.Inside.Bodies.{book_of}
use Rattle.sf_book.proofs.book.Book.row_at.Goals as goal

pub returns : goal.returns
returns c =
    let t = table_of (book_of c.self.inside.half c.self.inside.history.held) in
    subst (λ (b : BookView). option_map deref_pair c.row_at.result ≡ slice_get (present_rows (table_of b)) c.args.k) c.self.view_is (c.row_at.ensures (half_of t) c.self.invariant.keeps)
