use Rattle.std.proofs.Common.{◌∙◌, ap, sym, subst, arith}
use Rattle.std.specs.FinMap as fin
use Rattle.std.specs.FinMap.{get-empty}
use Rattle.std.specs.Ordering.{nat_cmp}
use Rattle.sf_lifetimes.specs.Inside.GivenUp.{IsGivenUp}
use Rattle.sf_lifetimes.proofs.ledger.Ledger.give_up.Goals as goal

pub invariant_of-result : goal.invariant_of-result
invariant_of-result c =
    let l = c.self.inside in
    subst (λ hs. IsGivenUp l.places.held l.holdings.held hs c.new-2.result) (sym c.new.ensures.items) (record {
      counted = c.self.invariant.counted;
      once = λ i j d before less. absurd (omega (arith, less));
      tallied = λ q. ap (λ t. fin.get t q) c.new-2.ensures ∙ get-empty nat_cmp q;
    })
