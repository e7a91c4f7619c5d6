-- A Book from which parked blocks were taken.
use Rattle.std.proofs.Common.{◌≡◌, ℕ, ◌<◌, List, ◌++◌, drop, sym, subst, arith}
use Rattle.std.specs.Prelude.{◌≢◌, AllPairs}
use Rattle.std.proofs.lemmas.List.Elements.{All-from_recursion, recursion_from_All}
use Rattle.std.proofs.lemmas.List.Sums.{sum_by-append, sum_by-take-drop}
use Rattle.sf_types.specs.declared.history.Entry.{Entry}
use Rattle.sf_types.specs.Space.Placings.{all_blocks}
use Rattle.sf_laws.proofs.BlockSumLemmas.{is_one, once_apart}
use Rattle.sf_laws.proofs.EachLemmas.{each-drop}
use Rattle.sf_stock.specs.Stocks.{places_of, without_ripe}
use Rattle.sf_stock.specs.Stocks as stock
use Rattle.sf_store_half.specs.Fields.{Fields}
use Rattle.sf_book.specs.Inside.Bodies.{IsBook}
use Rattle.sf_book.proofs.MoveLemmas.{once_where_apart}

still_once : (xs ys : List ℕ) (n : ℕ) → AllPairs (λ x y. x ≢ y) (xs ++ ys) → AllPairs (λ x y. x ≢ y) (xs ++ drop n ys)
still_once xs ys n apart =
    once_apart (xs ++ drop n ys) (record {
      most = λ b.
          let most = (once_where_apart (xs ++ ys) apart).most b in
          let all = sum_by-append (is_one b) xs ys in
          let rest = sum_by-append (is_one b) xs (drop n ys) in
          let split = sum_by-take-drop (is_one b) ys n in
          omega (arith, most, all, rest, split);
    })

ripe_taken : (f : Fields) (history : List Entry) (sessions spare n : ℕ) → IsBook f history sessions spare → stock.IsSound (without_ripe f.stock n) → IsBook (record f { stock = without_ripe f.stock n }) history sessions spare
ripe_taken f history sessions spare n is stocked = record {
  count = is.count;
  sound = record {
    in_range = is.sound.in_range;
    some_sessions = is.sound.some_sessions;
    few_sessions = is.sound.few_sessions;
    legal = is.sound.legal;
    safe = is.sound.safe;
    below = All-from_recursion (λ block. block < f.options.capacity) (drop n f.stock.parked)
        (each-drop (λ block. block < f.options.capacity) n f.stock.parked (recursion_from_All (λ block. block < f.options.capacity) f.stock.parked is.sound.below));
    once = still_once (all_blocks (places_of f.stock.stocked)) f.stock.parked n is.sound.once;
  };
  keeps = record {
    options = is.keeps.options;
    locks = is.keeps.locks;
    floor = is.keeps.floor;
    sessions = is.keeps.sessions;
    now = is.keeps.now;
    commits = is.keeps.commits;
    rows = is.keeps.rows;
    notes = is.keeps.notes;
    next = is.keeps.next;
    held = is.keeps.held;
    live = is.keeps.live;
    contents = is.keeps.contents;
    none_left = is.keeps.none_left;
  };
  stocked = stocked;
  room = is.room;
}

pub after_ripe : (f after : Fields) (history : List Entry) (sessions spare n : ℕ) → IsBook f history sessions spare → after ≡ record f { stock = without_ripe f.stock n } → stock.IsSound after.stock → IsBook after history sessions spare
after_ripe f after history sessions spare n is same stocked =
    subst (λ (x : Fields). IsBook x history sessions spare) (sym same) (ripe_taken f history sessions spare n is (subst (λ (x : Fields). stock.IsSound x.stock) same stocked))
