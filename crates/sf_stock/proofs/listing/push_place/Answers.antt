use Rattle.std.proofs.Common.{◌≡◌, ◌∙◌, ◌++◌, ◌∷◌, [], Some, ap, sym, arith}
use Rattle.std.specs.Option.{option_copied}
use Rattle.sf_types.specs.declared.place.Place.{Place}
use Rattle.sf_lifetimes.specs.Ledgers.{place_of}
use Rattle.sf_stock.specs.Inside.Keeps.{listed_if}
use Rattle.sf_stock.proofs.ListLemmas.{listed_is}
use Rattle.sf_stock.proofs.listing.push_place.Goals as goal

pub overflow_cast-len : goal.overflow_cast-len
overflow_cast-len c =
    let kept = c.requires c.in-Some.runs.now (sym c.place_of.ensures.place ∙ ap option_copied c.in-Some.is) in
    omega (arith, c.len.ensures, kept.size)

pub returns-in_ok-push : goal.returns-in_ok-push
returns-in_ok-push c =
    let runs = c.in-Some.runs.now in
    let here : place_of c.args.ledger.now.held c.args.birth ≡ Some runs = sym c.place_of.ensures.place ∙ ap option_copied c.in-Some.is in
    let kept = c.requires runs here in
    c.in_ok-push.ensures.ok
    ∙ ap (λ (p : Place). c.args.places.now ++ p ∷ []) (listed_is c.args.birth c.len.result c.args.known.now runs c.in_ok-copy.field-0 kept c.len.ensures c.in_ok-copy.ensures)
    ∙ ap (λ x. c.args.places.now ++ listed_if c.args.birth c.args.known.now x) (sym here)
