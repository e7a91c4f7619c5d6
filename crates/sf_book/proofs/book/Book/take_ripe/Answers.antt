use Rattle.sf_book.proofs.RipeLemmas.{after_ripe}
use Rattle.sf_book.proofs.book.Book.take_ripe.Goals as goal

pub invariant_of-self : goal.invariant_of-self
invariant_of-self c = after_ripe c.self.inside.half c.take_ripe-count.new.self c.self.inside.history.held c.self.inside.sessions c.self.inside.history.spare c.take_ripe-count.result c.self.invariant c.take_ripe-count.ensures.fields c.next_birth-next.ensures.sound
