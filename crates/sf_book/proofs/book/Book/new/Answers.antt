use Rattle.std.proofs.Common.{List, sym, subst}
use Rattle.sf_types.specs.declared.history.Entry.{Entry}
use Rattle.sf_book.specs.Inside.Bodies.{IsBook}
use Rattle.sf_book.proofs.OpeningLemmas.{new_book}
use Rattle.sf_book.proofs.book.Book.new.Goals as goal

pub invariant_of-result : goal.invariant_of-result
invariant_of-result c =
    subst (λ (es : List Entry). IsBook c.in_ok-half.half es c.args.sessions c.new-2.result.spare) (sym c.new-2.ensures.items)
    (new_book c.in_ok-half.half c.args.options c.args.sessions c.new-2.result.spare c.in_ok-half.ensures c.requires.options c.requires.some c.requires.few c.next_birth-next.ensures.sound)
