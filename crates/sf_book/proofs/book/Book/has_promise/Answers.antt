use Rattle.std.proofs.Common.{◌≡◌, subst, ◌∙◌}
use Rattle.std.specs.Prelude.{is_some}
use Rattle.std.specs.List.{list_any}
use Rattle.sf_types.specs.Table.Parts.{Session}
use Rattle.sf_book.specs.Books.{BookView, table_of}
use Rattle.sf_book.specs.Inside.Bodies.{book_of}
use Rattle.sf_book.proofs.ReadLemmas.{has_promise_by_half}
use Rattle.sf_book.proofs.book.Book.has_promise.Goals as goal

pub returns : goal.returns
returns c =
    let f = c.self.inside.half in
    subst (λ (b : BookView). c.has_promise.result ≡ list_any (λ (p : Session). is_some p.promise) (table_of b).sessions) c.self.view_is
    (c.has_promise.ensures ∙ has_promise_by_half f (table_of (book_of f c.self.inside.history.held)) c.self.invariant.keeps)
