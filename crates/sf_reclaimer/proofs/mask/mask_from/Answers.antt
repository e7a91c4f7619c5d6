use Rattle.sf_reclaimer.proofs.MaskLemmas.{mask_value}
use Rattle.sf_reclaimer.proofs.mask.mask_from.Goals as goal

pub returns : goal.returns
returns c = mask_value c.args.offset c.args.count c.requires.within
