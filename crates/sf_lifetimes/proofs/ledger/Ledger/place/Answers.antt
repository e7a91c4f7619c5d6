use Rattle.std.proofs.Common.{◌∙◌, ap, sym, subst, arith}
use Rattle.std.specs.FinMap as fin
use Rattle.sf_lifetimes.specs.Inside.Counted.{places_in, IsCountedBy}
use Rattle.sf_lifetimes.specs.Ledgers.{IsNewPlace}
use Rattle.sf_lifetimes.proofs.LedgerLemmas.{unplaced, get_places, new_is_free, counted_placed, places_placed}
use Rattle.sf_lifetimes.proofs.ledger.Ledger.place.Goals as goal

pub insert-requires-clause-new : goal.insert-requires-clause-new
insert-requires-clause-new c =
    unplaced (fin.get c.self.inside.places.held c.args.birth)
    (sym (get_places c.self.inside.places.held c.args.birth) ∙ ap (λ v. fin.get v.held.places c.args.birth) c.self.view_is ∙ c.requires.birth)

pub insert-requires-clause-free : goal.insert-requires-clause-free
insert-requires-clause-free c =
    new_is_free c.self.inside.places.held c.args.runs (subst (λ v. IsNewPlace v.held.places c.args.runs) (sym c.self.view_is) c.requires.runs)

pub invariant_of-self-2 : goal.invariant_of-self-2
invariant_of-self-2 c =
    let none = unplaced (fin.get c.self.inside.places.held c.args.birth)
    (sym (get_places c.self.inside.places.held c.args.birth) ∙ ap (λ v. fin.get v.held.places c.args.birth) c.self.view_is ∙ c.requires.birth) in
    record {
      counted = subst (λ m. IsCountedBy m c.self.inside.holdings.held) (sym c.in_ok-insert.ensures.ok)
          (counted_placed c.self.inside.places.held c.self.inside.holdings.held c.args.birth c.args.runs none c.self.invariant.counted);
      places_room = omega (arith, c.self.invariant.places_room, c.in_ok-insert.ensures.room.spare);
      holdings_room = omega (arith, c.self.invariant.holdings_room);
    }

pub returns-clause-places : goal.returns-clause-places
returns-clause-places c =
    ap places_in c.in_ok-insert.ensures.ok
    ∙ places_placed c.self.inside.places.held c.args.birth c.args.runs
    ∙ ap (λ v. fin.insert v.held.places c.args.birth c.args.runs) c.self.view_is
