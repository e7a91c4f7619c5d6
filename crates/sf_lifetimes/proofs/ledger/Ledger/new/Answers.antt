use Rattle.std.proofs.Common.{◌∙◌, ap, sym, arith}
use Rattle.std.specs.FinMap as fin
use Rattle.sf_lifetimes.specs.Inside.Counts.{holders_in}
use Rattle.sf_lifetimes.specs.Inside.Counted.{places_in}
use Rattle.sf_lifetimes.specs.Ledgers.{number_of_holders}
use Rattle.sf_lifetimes.proofs.LedgerLemmas.{no_places, none_counted_by}
use Rattle.sf_lifetimes.proofs.ledger.Ledger.new.Goals as goal

pub invariant_of-result : goal.invariant_of-result
invariant_of-result c = record {
  counted = λ b. ap (λ m. holders_in (fin.get m b)) c.new.ensures ∙ none_counted_by b ∙ ap (number_of_holders b) (sym c.new-2.ensures);
  places_room = omega arith;
  holdings_room = omega arith;
}

pub returns-clause-places : goal.returns-clause-places
returns-clause-places c = ap places_in c.new.ensures ∙ no_places
