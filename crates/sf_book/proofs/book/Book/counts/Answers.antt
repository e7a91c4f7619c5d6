use Rattle.std.proofs.Common.{◌≡◌, ℕ, List, ap, subst, sym, ◌∙◌}
use Rattle.std.specs.Prelude.{not, filter}
use Rattle.sf_types.specs.Table.Versions.{present_rows}
use Rattle.sf_types.specs.Space.Use.{blocks_of_births}
use Rattle.sf_types.specs.Play.Blocks.{is_among}
use Rattle.sf_types.specs.Halves.Asks.{half_of}
use Rattle.sf_laws.proofs.FlushLemmas.{reach_by_half}
use Rattle.sf_store_half.specs.Reads.{births_of_rows}
use Rattle.sf_book.specs.Books.{BookView, table_of, uncommitted_blocks}
use Rattle.sf_book.specs.Inside.Bodies.{book_of}
use Rattle.sf_book.proofs.book.Book.counts.Goals as goal

pub returns-clause-uncommitted : goal.returns-clause-uncommitted
returns-clause-uncommitted c =
    let t = table_of (book_of c.self.inside.half c.self.inside.history.held) in
    let told = c.in_ok-uncommitted.ensures (half_of t) c.self.invariant.keeps in
    subst (λ (b : BookView). c.in_ok-uncommitted.field-0 ≡ uncommitted_blocks (table_of b)) c.self.view_is
    (told ∙ ap (λ (bs : List ℕ). blocks_of_births t.contents (filter (λ birth. not (is_among (births_of_rows (present_rows t)) birth)) bs)) (sym (reach_by_half t)))
