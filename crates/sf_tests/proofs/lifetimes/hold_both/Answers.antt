use Rattle.std.proofs.Common.{◌≡◌, [], ◌∷◌, sym, subst, rules}
use Rattle.std.specs.Prelude.{All, IsSome}
use Rattle.std.specs.FinMap as fin
use Rattle.std.proofs.lemmas.List.Elements.{All-from_recursion}
use Rattle.sf_tests.proofs.LedgerLemmas.{both_placed, both_held}
use Rattle.sf_tests.proofs.lifetimes.hold_both.Goals as goal

pub returns : goal.returns
returns c =
    let births : c.push-2.new.self ≡ 1 ∷ 2 ∷ [] = search rules in
    both_held c.args.ledger.now.held c.hold.new.self.held c.args.holder c.push-2.new.self births c.requires.places c.requires.holdings c.in_ok-hold.ensures.held

pub hold-requires : goal.hold-requires
hold-requires c =
    let births : c.push-2.new.self ≡ 1 ∷ 2 ∷ [] = search rules in
    let both = both_placed c.args.ledger.now.held.places c.requires.places in
    subst (All (λ b. IsSome (fin.get c.args.ledger.now.held.places b))) (sym births)
    (All-from_recursion (λ b. IsSome (fin.get c.args.ledger.now.held.places b)) (1 ∷ 2 ∷ []) (both.0, (both.1, tt)))
