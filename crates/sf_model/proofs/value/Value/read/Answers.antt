use Rattle.std.proofs.Common.{refl}
use Rattle.sf_model.proofs.MarkLemmas.{bytes_of-fresh}
use Rattle.sf_model.proofs.value.Value.read.Goals as goal

pub returns : goal.returns
returns c =
    rw (c.in_ok-blob.ensures, c.in_ok-bytes.ensures, c.as_slice.ensures, c.saturating_sub-skipped.ensures, ← c.self.view_is, bytes_of-fresh) refl
