use Rattle.std.proofs.Common.{◌∙◌, ◌≤◌, ap, sym, subst, arith, cond, take, take_all}
use Rattle.std.specs.Ordering.{nat_cmp}
use Rattle.std.specs.FinMap as fin
use Rattle.std.specs.FinMap.{get-empty}
use Rattle.sf_lifetimes.specs.Inside.Counts.{AreHeld, holders_in}
use Rattle.sf_lifetimes.specs.Ledgers.{has_birth, held_by}
use Rattle.sf_lifetimes.specs.Inside.Tallies.{left_of, counted_off, tally_of, number_among}
use Rattle.sf_lifetimes.specs.Inside.Bounds.{freed_at, live_at}
use Rattle.sf_lifetimes.proofs.LedgerLemmas.{are_held}
use Rattle.sf_lifetimes.proofs.TallyLemmas.{tally_left, tally_bounded, tally_more, among_few, among_next, freed_is}
use Rattle.sf_lifetimes.proofs.tally.freed_blocks.Goals as goal

pub loop-holder-init : goal.loop-holder-init
loop-holder-init c q = ap (λ t. fin.get t q) c.new-tally.ensures ∙ get-empty nat_cmp q

pub count_births-requires-clause-held : goal.count_births-requires-clause-held
count_births-requires-clause-held c =
    subst (AreHeld c.args.places.now.held) (sym c.births_of.ensures.births) (are_held c.args.places.now.held c.args.holdings.now.held c.holder-item.result c.requires.counted)

pub count_births-requires-clause-left : goal.count_births-requires-clause-left
count_births-requires-clause-left c b is =
    let x = fin.get c.args.places.now.held b in
    let h = c.args.holdings.now.held in
    let holders = c.args.holders.now in
    let k = c.loop-holder.holder-index in
    let d = c.holder-item.result in
    let a = number_among h (take k holders) b in
    let has = ap (λ bs. has_birth bs b) (sym (c.births_of.ensures.births ∙ ap (held_by h) c.holder-item.is)) ∙ is in
    subst (λ t. 1 ≤ left_of t (holders_in x)) (sym (c.loop-holder.invariant b))
    (tally_left x a (omega (arith, among_next h holders k d b c.loop-holder-test.true c.requires.once has, c.requires.counted b)))

pub count_births-requires-clause-bounded : goal.count_births-requires-clause-bounded
count_births-requires-clause-bounded c q =
    let x = fin.get c.args.places.now.held q in
    let h = c.args.holdings.now.held in
    let a = number_among h (take c.loop-holder.holder-index c.args.holders.now) q in
    subst (λ t. freed_at t ≤ live_at x) (sym (c.loop-holder.invariant q))
    (tally_bounded x a (omega (arith, among_few h c.args.holders.now c.loop-holder.holder-index q c.requires.once, c.requires.counted q)))

pub loop-holder-preserved : goal.loop-holder-preserved
loop-holder-preserved c q =
    let x = fin.get c.args.places.now.held q in
    let h = c.args.holdings.now.held in
    let t = fin.get c.loop-holder.tally q in
    tally_more h c.args.holders.now c.loop-holder.holder-index c.holder-item.result x q t (fin.get c.count_births.new.tally q) c.loop-holder-test.true (c.loop-holder.invariant q)
    (c.in_ok-count_births.ensures q ∙ ap (λ bs. cond (has_birth bs q) (counted_off x t) t) (c.births_of.ensures.births ∙ ap (held_by h) c.holder-item.is))

pub returns : goal.returns
returns c =
    let h = c.args.holdings.now.held in
    let m = c.args.places.now.held in
    let all = take_all c.loop-holder.holder-index c.args.holders.now c.loop-holder-test.false in
    c.freed.ensures ∙ freed_is c.loop-holder.tally m h c.args.holders.now c.requires.counted c.requires.once (λ q.
    c.loop-holder.invariant q ∙ ap (λ hs. tally_of (fin.get m q) (number_among h hs q)) all)
