use Rattle.std.proofs.Common.{rules}
use Rattle.std.proofs.lemmas.Fn.{always_returns_same}
use Rattle.sf_sorted_map.proofs.PlaceLemmas.{search_found, search_gap}
use Rattle.sf_sorted_map.proofs.sorted_map.search.Goals as goal

pub returns-clause-found : goal.returns-clause-found
returns-clause-found g c =
    let facts = c.binary_search_by.ensures in
    let by_key = facts.position (λ e. g.K.Ord.cmp e.0 c.args.key.now) (always_returns_same _ _ _ (λ a r after called. search rules)) in
    search_found g.K.Ord.cmp g.met.K.Ord.total c.args.entries.now c.args.key.now c.binary_search_by.result c.requires facts.bound by_key

pub returns-clause-gap : goal.returns-clause-gap
returns-clause-gap g c =
    let facts = c.binary_search_by.ensures in
    let by_key = facts.position (λ e. g.K.Ord.cmp e.0 c.args.key.now) (always_returns_same _ _ _ (λ a r after called. search rules)) in
    search_gap g.K.Ord.cmp g.met.K.Ord.total c.args.entries.now c.args.key.now c.binary_search_by.result c.requires facts.bound by_key
