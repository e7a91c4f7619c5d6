use Rattle.std.proofs.Common.{◌≡◌, ◌∙◌, ◌<◌, ◌^◌, ◌++◌, map, length, ap, sym, subst, arith}
use Rattle.std.specs.Prelude.{All}
use Rattle.std.specs.List.{sum_by}
use Rattle.sf_types.specs.Space.BlockRuns.{blocks_in}
use Rattle.sf_shrink.specs.Plans.{placed_at, blocks_of_places}
use Rattle.sf_stock.specs.Stocks.{with_left_parked}
use Rattle.sf_stock.proofs.ParkLemmas.{below_sorted, few_sorted, runs_sorted, places_sorted, stock_parked}
use Rattle.sf_stock.proofs.stock.Stock.park_left.Goals as goal

pub park_all-parked-requires-clause-below : goal.park_all-parked-requires-clause-below
park_all-parked-requires-clause-below c =
    let s = c.self.inside in
    subst (All (λ place. All (λ block. block < 2 ^ 32) (blocks_in place.runs))) (sym c.as_slice.ensures)
    (below_sorted s.ledger.held s.known.held s.left.held c.sort_by_first.new.self.held s.parked.held c.self.invariant.blocks c.sort_by_first.ensures.same)

pub park_all-parked-requires-clause-few : goal.park_all-parked-requires-clause-few
park_all-parked-requires-clause-few c =
    let s = c.self.inside in
    omega (
      arith,
      few_sorted s.ledger.held s.known.held s.left.held c.sort_by_first.new.self.held s.parked.held c.self.invariant.blocks c.sort_by_first.ensures.same,
      ap (λ xs. length (blocks_of_places xs)) c.as_slice.ensures,
    )

pub park_all-parked-requires-clause-room : goal.park_all-parked-requires-clause-room
park_all-parked-requires-clause-room c =
    let s = c.self.inside in
    omega (
      arith,
      runs_sorted s.ledger.held s.known.held s.left.held c.sort_by_first.new.self.held s.parked.held c.self.invariant.blocks c.sort_by_first.ensures.same,
      ap (sum_by (λ place. length place.runs)) c.as_slice.ensures,
      c.self.invariant.counted,
      c.self.invariant.rooms.parked_room,
    )

pub park_all-parked-requires-clause-number : goal.park_all-parked-requires-clause-number
park_all-parked-requires-clause-number c =
    let s = c.self.inside in
    omega (
      arith,
      runs_sorted s.ledger.held s.known.held s.left.held c.sort_by_first.new.self.held s.parked.held c.self.invariant.blocks c.sort_by_first.ensures.same,
      ap (sum_by (λ place. length place.runs)) c.as_slice.ensures,
      c.self.invariant.counted,
      c.self.invariant.rooms.run_number,
    )

pub overflow_sub-self : goal.overflow_sub-self
overflow_sub-self c =
    let s = c.self.inside in
    omega (
      arith,
      runs_sorted s.ledger.held s.known.held s.left.held c.sort_by_first.new.self.held s.parked.held c.self.invariant.blocks c.sort_by_first.ensures.same,
      ap (sum_by (λ place. length place.runs)) c.as_slice.ensures,
      c.self.invariant.counted,
      c.park_all-parked.ensures.runs,
    )

pub invariant_of-self : goal.invariant_of-self
invariant_of-self c =
    let s = c.self.inside in
    stock_parked s.ledger s.index s.known s.left c.sort_by_first.new.self c.clear.new.self s.parked c.park_all-parked.new.parked s.next s.runs s.room c.park_all-parked.result c.self.invariant
    c.sort_by_first.ensures.same c.sort_by_first.ensures.spare c.clear.ensures.places c.clear.ensures.spare
    (c.park_all-parked.ensures.blocks ∙ ap (λ xs. blocks_in s.parked.held ++ blocks_of_places xs) c.as_slice.ensures)
    (c.park_all-parked.ensures.runs ∙ ap (sum_by (λ place. length place.runs)) c.as_slice.ensures) c.park_all-parked.ensures.spare

pub returns-clause-held : goal.returns-clause-held
returns-clause-held c =
    let s = c.self.inside in
    let parked : blocks_in c.park_all-parked.new.parked.held ≡ (with_left_parked c.args.self.now.held).parked =
    c.park_all-parked.ensures.blocks
    ∙ ap (λ xs. blocks_in s.parked.held ++ blocks_of_places xs) c.as_slice.ensures
    ∙ ap (λ bs. blocks_in s.parked.held ++ bs) (places_sorted s.ledger.held s.known.held s.left.held c.sort_by_first.new.self.held s.parked.held c.self.invariant.blocks c.sort_by_first.ensures.same c.sort_by_first.ensures.rising)
    ∙ ap (λ v. (with_left_parked v.held).parked) c.self.view_is in
    λ i. record {
      holdings = (c.self.view_is i).held.holdings;
      next = (c.self.view_is i).held.next;
      stocked = (c.self.view_is i).held.stocked;
      left = map placed_at (c.clear.ensures.places i);
      parked = parked i;
    }
