use Rattle.std.proofs.Common.{subst}
use Rattle.std.specs.Ordering.{nat_cmp}
use Rattle.sf_room_map.proofs.EntryLemmas.{rising_from_sorted}
use Rattle.sf_dedup.specs.Contents.{AreDistinct}
use Rattle.sf_dedup.specs.Inside.Filing.{plain_contents}
use Rattle.sf_dedup.proofs.FilingLemmas.{sorted_contents}
use Rattle.sf_dedup.proofs.index.Index.len.Goals as goal

pub returns-clause-distinct : goal.returns-clause-distinct
returns-clause-distinct c =
    let m = c.self.inside.contents.held in
    subst (λ v. AreDistinct v.held) c.self.view_is
    (record { rising = rising_from_sorted nat_cmp (plain_contents m) (sorted_contents m c.self.invariant.rising); apart = c.self.invariant.apart })
