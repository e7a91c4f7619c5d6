use Rattle.std.proofs.Common.{◌≡◌, ◌≢◌, ◌∙◌, ◌∷◌, ◌++◌, ◌≤◌, ℕ, [], List, cond, ap, sym, subst, arith}
use Rattle.std.specs.Prelude.{All, AllPairs}
use Rattle.std.specs.FinMap as fin
use Rattle.sf_types.specs.declared.holder.Holder.{Holder}
use Rattle.sf_lifetimes.specs.Ledgers.{has_birth}
use Rattle.sf_lifetimes.specs.Inside.Bounds.{freed_at, live_at}
use Rattle.sf_lifetimes.specs.Inside.Counts.{AreHeld, holders_in}
use Rattle.sf_lifetimes.specs.Inside.GivenUp.{IsGivenUp}
use Rattle.sf_lifetimes.specs.Inside.Tallies.{left_of, counted_off, number_among}
use Rattle.sf_lifetimes.proofs.LedgerLemmas.{are_held}
use Rattle.sf_lifetimes.proofs.TallyLemmas.{given_more, given_once, given_few, tally_left, tally_bounded}
use Rattle.sf_lifetimes.proofs.given_up.GivenUp.give_up.Goals as goal

pub count_births-requires-clause-held : goal.count_births-requires-clause-held
count_births-requires-clause-held c =
    let g = c.self.inside in
    subst (AreHeld g.places.now.held) (sym c.births_of.ensures.births) (are_held g.places.now.held g.holdings.now.held c.args.holder c.self.invariant.counted)

-- none is given up twice
once_more : (holders before : List Holder) (d : Holder) → before ≡ holders → AllPairs (λ a b. a ≢ b) before → All (λ other. other ≢ d) holders → AllPairs (λ a b. a ≢ b) (before ++ d ∷ [])
once_more holders before d is once new = given_once before d once (subst (All (λ other. other ≢ d)) (sym is) new)

pub count_births-requires-clause-left : goal.count_births-requires-clause-left
count_births-requires-clause-left c b is =
    let g = c.self.inside in
    let h = g.holdings.now.held in
    let hs = g.holders.items in
    let x = fin.get g.places.now.held b in
    let once = once_more c.args.self.holders hs c.args.holder (ap (λ v. v.holders) c.self.view_is) c.self.invariant.once c.requires in
    let has = ap (λ bs. has_birth bs b) (sym c.births_of.ensures.births) ∙ is in
    let one = ap {B = ℕ} (λ t. cond t 1 0) has in
    subst (λ t. 1 ≤ left_of t (holders_in x)) (sym (c.self.invariant.tallied b))
    (tally_left x (number_among h hs b) (omega (arith, given_few h hs c.args.holder b once, one, c.self.invariant.counted b)))

pub count_births-requires-clause-bounded : goal.count_births-requires-clause-bounded
count_births-requires-clause-bounded c q =
    let g = c.self.inside in
    let h = g.holdings.now.held in
    let hs = g.holders.items in
    let x = fin.get g.places.now.held q in
    let once = once_more c.args.self.holders hs c.args.holder (ap (λ v. v.holders) c.self.view_is) c.self.invariant.once c.requires in
    subst (λ t. freed_at t ≤ live_at x) (sym (c.self.invariant.tallied q))
    (tally_bounded x (number_among h hs q) (omega (arith, given_few h hs c.args.holder q once, c.self.invariant.counted q)))

pub invariant_of-result : goal.invariant_of-result
invariant_of-result c =
    let g = c.self.inside in
    let h = g.holdings.now.held in
    let hs = g.holders.items in
    let once = once_more c.args.self.holders hs c.args.holder (ap (λ v. v.holders) c.self.view_is) c.self.invariant.once c.requires in
    subst (λ all. IsGivenUp g.places.now.held h all c.count_births.new.tally) (sym c.in_ok-push.ensures.items) (record {
      counted = c.self.invariant.counted;
      once = once;
      tallied = λ q.
          given_more h hs c.args.holder (fin.get g.places.now.held q) q (fin.get g.tally q) (fin.get c.count_births.new.tally q) (c.self.invariant.tallied q)
          (c.in_ok-count_births.ensures q ∙ ap (λ bs. cond (has_birth bs q) (counted_off (fin.get g.places.now.held q) (fin.get g.tally q)) (fin.get g.tally q)) c.births_of.ensures.births);
    })
