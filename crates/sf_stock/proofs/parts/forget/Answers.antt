use Rattle.std.proofs.Common.{◌∙◌, ap, take, arith}
use Rattle.std.specs.Ordering.{nat_cmp}
use Rattle.sf_types.proofs.NameMapLemmas.{sorted_from_ordered}
use Rattle.sf_room_map.specs.Entries.{without_key}
use Rattle.sf_stock.specs.Inside.Keeps.{without_births}
use Rattle.sf_stock.proofs.ForgetLemmas.{without_next, without_none}
use Rattle.sf_stock.proofs.parts.forget.Goals as goal

pub loop-place-init : goal.loop-place-init
loop-place-init c = record { known = without_none c.args.known.now.held; index = without_none c.args.index.now.held; known_spare = omega arith; index_spare = omega arith }

pub loop-place-preserved : goal.loop-place-preserved
loop-place-preserved c =
    let old = c.loop-place.invariant in
    let gone = c.args.gone.now in
    let k = c.loop-place.place-index in
    let less = c.loop-place-test.true in
    record {
      known =
          c.remove.ensures.held
          ∙ ap (λ es. without_key nat_cmp es c.place-item.result.birth) old.known
          ∙ ap (λ place. without_key nat_cmp (without_births c.args.known.now.held (take k gone)) place.birth) c.place-item.is
          ∙ without_next c.args.known.now.held gone k c.place-item.result (sorted_from_ordered nat_cmp c.args.known.now.held c.len.ensures.rising) less;
      index =
          c.remove-in-loop-place.ensures.held
          ∙ ap (λ es. without_key nat_cmp es c.place-item.result.birth) old.index
          ∙ ap (λ place. without_key nat_cmp (without_births c.args.index.now.held (take k gone)) place.birth) c.place-item.is
          ∙ without_next c.args.index.now.held gone k c.place-item.result (sorted_from_ordered nat_cmp c.args.index.now.held c.len-2.ensures.distinct.rising) less;
      known_spare = omega (arith, old.known_spare, c.remove.ensures.spare);
      index_spare = omega (arith, old.index_spare, c.remove-in-loop-place.ensures.spare);
    }
