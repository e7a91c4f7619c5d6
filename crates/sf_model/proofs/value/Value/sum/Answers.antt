use Rattle.std.proofs.Common.{refl}
use Rattle.sf_model.proofs.MarkLemmas.{bytes_of-fresh}
use Rattle.sf_model.proofs.value.Value.sum.Goals as goal

pub returns : goal.returns
returns c = rw (c.sum_of_pieces.ensures, c.as_slice.ensures, ← c.self.view_is, bytes_of-fresh) refl
