use Rattle.sf_tests.proofs.LedgerLemmas.{both_placed}
use Rattle.sf_tests.proofs.lifetimes.freed_by_version.Goals as goal

pub hold_one-requires : goal.hold_one-requires
hold_one-requires c = (both_placed c.hold_both.new.ledger.held.places c.in_ok-hold_both.ensures.places).1
