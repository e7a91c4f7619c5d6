use Rattle.std.proofs.Common.{◌∙◌, ap}
use Rattle.sf_tests.proofs.LedgerLemmas.{first_new, first_free, one_placed, second_new, second_free, two_placed}
use Rattle.sf_tests.proofs.lifetimes.two_places.Goals as goal

pub place-requires-clause-birth : goal.place-requires-clause-birth
place-requires-clause-birth c = first_free c.make_room.new.self.held.places (ap (λ v. v.places) c.make_room.ensures.held ∙ c.in_ok-ledger.ensures.places)

pub place-requires-clause-runs : goal.place-requires-clause-runs
place-requires-clause-runs c = first_new c.make_room.new.self.held.places c.in_ok-one_block.field-0 (ap (λ v. v.places) c.make_room.ensures.held ∙ c.in_ok-ledger.ensures.places) c.in_ok-one_block.ensures

pub place-requires-2-clause-birth : goal.place-requires-2-clause-birth
place-requires-2-clause-birth c =
    second_free c.place.new.self.held.places
    (one_placed c.make_room.new.self.held.places c.place.new.self.held.places c.in_ok-one_block.field-0 (ap (λ v. v.places) c.make_room.ensures.held ∙ c.in_ok-ledger.ensures.places) c.in_ok-one_block.ensures c.in_ok-place.ensures.places)

pub place-requires-2-clause-runs : goal.place-requires-2-clause-runs
place-requires-2-clause-runs c =
    second_new c.place.new.self.held.places c.in_ok-one_block-2.field-0 c.in_ok-one_block-2.ensures
    (one_placed c.make_room.new.self.held.places c.place.new.self.held.places c.in_ok-one_block.field-0 (ap (λ v. v.places) c.make_room.ensures.held ∙ c.in_ok-ledger.ensures.places) c.in_ok-one_block.ensures c.in_ok-place.ensures.places)

pub returns-clause-places : goal.returns-clause-places
returns-clause-places c =
    two_placed c.place.new.self.held.places c.place-2.new.self.held.places c.in_ok-one_block-2.field-0 c.in_ok-one_block-2.ensures
    (one_placed c.make_room.new.self.held.places c.place.new.self.held.places c.in_ok-one_block.field-0 (ap (λ v. v.places) c.make_room.ensures.held ∙ c.in_ok-ledger.ensures.places) c.in_ok-one_block.ensures c.in_ok-place.ensures.places)
    c.in_ok-place-2.ensures.places
