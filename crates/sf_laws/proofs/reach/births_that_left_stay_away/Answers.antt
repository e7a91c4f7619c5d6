use Rattle.std.proofs.Common.{length}
use Rattle.sf_types.specs.Space.Reach.{reach}
use Rattle.sf_types.specs.Orders.Histories.{effect_of}
use Rattle.sf_laws.proofs.EachLemmas.{each_contained}
use Rattle.sf_laws.proofs.NewBirthLemmas.{IsOldOrNew, old-or-new}
use Rattle.sf_laws.proofs.reach.births_that_left_stay_away.Goals as goal

pub returns : goal.returns
returns c = record {
  law = λ t e b legal marks within.
      each_contained (IsOldOrNew (reach t) (length t.contents)) (reach (effect_of t e).0) b (old-or-new t e.token.session e.token.kind e.call legal marks) within;
}
