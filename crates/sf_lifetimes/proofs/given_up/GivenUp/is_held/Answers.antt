use Rattle.std.proofs.Common.{◌∙◌, ap, sym}
use Rattle.std.specs.Prelude.{nat_lt}
use Rattle.std.specs.FinMap as fin
use Rattle.sf_lifetimes.specs.Ledgers.{is_live, number_of_holders, without_holders}
use Rattle.sf_lifetimes.specs.Inside.Counts.{holders_in}
use Rattle.sf_lifetimes.specs.Inside.Tallies.{left_of, number_among}
use Rattle.sf_lifetimes.proofs.TallyLemmas.{among_and_others, others_left, some_number}
use Rattle.sf_lifetimes.proofs.given_up.GivenUp.is_held.Goals as goal

pub returns : goal.returns
returns c =
    let g = c.self.inside in
    let b = c.args.birth in
    let x = fin.get g.places.now.held b in
    let h = g.holdings.now.held in
    let hs = g.holders.items in
    ap (nat_lt 0)
    (c.left.ensures
    ∙ ap (left_of (fin.get g.tally b)) c.holders_of.ensures
    ∙ ap (λ t. left_of t (holders_in x)) (c.self.invariant.tallied b)
    ∙ others_left x (number_among h hs b) (number_of_holders b (without_holders h hs)) (among_and_others h hs b c.self.invariant.once ∙ sym (c.self.invariant.counted b)))
    ∙ some_number (number_of_holders b (without_holders h hs))
    ∙ ap (λ v. is_live (without_holders v.ledger.holdings v.holders) b) c.self.view_is
