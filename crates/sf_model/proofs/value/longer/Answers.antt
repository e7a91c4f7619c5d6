use Rattle.std.proofs.lemmas.List.{take_rest}
use Rattle.sf_model.proofs.PieceLemmas.{replaced}
use Rattle.sf_model.proofs.value.longer.Goals as goal

pub returns : goal.returns
returns c =
    rw (c.from_vec.ensures, c.in_ok-push.ensures.items, c.truncate.ensures.items, c.into_vec-all.ensures, c.in_ok-copy.ensures, c.in_ok-last.ensures, take_rest, c.as_slice-2.ensures)
    (replaced c.args.pieces.now c.kept_pieces-kept.result c.args.buffer.now)
