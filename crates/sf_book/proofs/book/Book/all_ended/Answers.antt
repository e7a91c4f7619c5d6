use Rattle.std.proofs.Common.{◌≡◌, subst, ◌∙◌}
use Rattle.std.specs.List.{list_all}
use Rattle.sf_types.specs.Table.Parts.{Session}
use Rattle.sf_book.specs.Books.{BookView, table_of}
use Rattle.sf_book.specs.Inside.Bodies.{book_of}
use Rattle.sf_book.proofs.ReadLemmas.{all_ended_by_half}
use Rattle.sf_book.proofs.book.Book.all_ended.Goals as goal

pub returns : goal.returns
returns c =
    let f = c.self.inside.half in
    subst (λ (b : BookView). c.all_ended.result ≡ list_all (λ (p : Session). p.has_ended) (table_of b).sessions) c.self.view_is
    (c.all_ended.ensures ∙ all_ended_by_half f (table_of (book_of f c.self.inside.history.held)) c.self.invariant.keeps)
