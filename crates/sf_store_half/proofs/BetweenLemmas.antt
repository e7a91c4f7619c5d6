-- A stock between two parkings.
use Rattle.std.proofs.Common.{◌≡◌, ℕ, Bool, true, false, cond, not, ◌&&◌, List, [], ◌∷◌, ◌++◌, refl, sym, ap, subst, ◌∙◌}
use Rattle.std.specs.Prelude.{All}
use Rattle.std.specs.List.{AllByRecursion as Each, filter}
use Rattle.std.proofs.lemmas.List.{append-nil}
use Rattle.std.proofs.lemmas.List.Elements.{All-from_recursion, recursion_from_All}
use Rattle.sf_types.specs.Space.Placings.{Placed, all_blocks}
use Rattle.sf_types.specs.Play.Blocks.{places_by_first}
use Rattle.sf_lifetimes.specs.Ledgers.{Holdings, is_live}
use Rattle.sf_stock.specs.Stocks.{Stocked, StockView, IsSound, has_left, is_stocked, place_of, places_of, with_holdings, with_left_parked}
use Rattle.sf_stock.specs.Since.{IsSince, departed, remaining}
use Rattle.sf_stock.proofs.SinceLemmas.{since_itself, since_held, since_parked}
use Rattle.sf_store_half.specs.HalfMoves.{IsRepacked, remaining_places}

-- Since the last parking holders changed, and no content came.
pub record IsBetween (before now : StockView) : Type 0 where
  pub since : IsSince before [] now
  pub live : Each (λ x. is_live now.holdings x.birth ≡ true) now.stocked
  pub next : now.next ≡ before.next
  pub parked : now.parked ≡ before.parked

pub between_itself : (s : StockView) → s.left ≡ [] → IsSound s → All (λ x. is_live s.holdings x.birth ≡ true) s.stocked → IsBetween s s
between_itself s none sound live = record {
  since = since_itself s none sound;
  live = recursion_from_All (λ (x : Stocked). is_live s.holdings x.birth ≡ true) s.stocked live;
  next = refl;
  parked = refl;
}

-- what is held and doesn't leave is held then
pub stays_live : (before after : Holdings) (xs : List Stocked) → Each (λ x. is_live before x.birth ≡ true) xs → Each (λ x. is_live after x.birth ≡ true) (filter (λ x. not (has_left before after x.birth)) xs)
stays_live before after [] live = tt
stays_live before after (x ∷ xs) live =
    let kept = filter (λ (y : Stocked). not (has_left before after y.birth)) xs in
    let rest = stays_live before after xs live.1 in
    elim (is_live after x.birth) as (λ t. is_live after x.birth ≡ t → Each (λ y. is_live after y.birth ≡ true) (cond (not (is_live before x.birth && not t)) (x ∷ kept) kept)) [
      | true ↦ λ is. subst (λ u. Each (λ y. is_live after y.birth ≡ true) (cond (not (u && false)) (x ∷ kept) kept)) (sym live.0) (is, rest)
      | false ↦ λ _. subst (λ u. Each (λ y. is_live after y.birth ≡ true) (cond (not (u && true)) (x ∷ kept) kept)) (sym live.0) rest
    ] refl

pub between_held : (before s : StockView) (after : Holdings) → IsBetween before s → IsBetween before (with_holdings s after)
between_held before s after between = record {
  since = since_held before [] s after between.since;
  live = stays_live s.holdings after s.stocked between.live;
  next = between.next;
  parked = between.parked;
}

-- what holds of all that had places holds of those that still have them
pub each_kept : (P : Stocked → Type 0) (p : Stocked → Bool) (xs : List Stocked) → Each P xs → Each P (filter p xs)
each_kept P p [] all = tt
each_kept P p (x ∷ xs) all =
    let rest = each_kept P p xs all.1 in
    elim (p x) as (λ t. Each P (cond t (x ∷ filter p xs) (filter p xs))) [ true ↦ (all.0, rest) | false ↦ rest ]

pub all_since : (P : Stocked → Type 0) (before now : StockView) → IsSince before [] now → All P before.stocked → All P now.stocked
all_since P before now since all =
    let same : now.stocked ≡ remaining now.stocked before.stocked = since.remain ∙ ap (remaining now.stocked) (append-nil before.stocked) in
    All-from_recursion P now.stocked (subst (Each P) (sym same) (each_kept P (λ x. is_stocked now.stocked x.birth) before.stocked (recursion_from_All P before.stocked all)))

pub live_between : (before now : StockView) → IsBetween before now → All (λ x. is_live now.holdings x.birth ≡ true) now.stocked
live_between before now between = All-from_recursion (λ (x : Stocked). is_live now.holdings x.birth ≡ true) now.stocked between.live

-- ---- what the parking leaves
pub places-filter : (p : ℕ → Bool) (xs : List Stocked) → places_of (filter (λ x. p x.birth) xs) ≡ filter (λ x. p x.birth) (places_of xs)
places-filter p [] = refl
places-filter p (x ∷ xs) =
    let rest = places-filter p xs in
    elim (p x.birth) as (λ t. places_of (cond t (x ∷ filter (λ y. p y.birth) xs) (filter (λ y. p y.birth) xs)) ≡ cond t (place_of x ∷ filter (λ y. p y.birth) (places_of xs)) (filter (λ y. p y.birth) (places_of xs))) [
      | true ↦ ap (λ (ys : List _). place_of x ∷ ys) rest
      | false ↦ rest
    ]

pub repacked_between : (before now : StockView) → IsBetween before now → IsSound now → IsRepacked before (with_left_parked now) []
repacked_between before now between sound =
    let all = append-nil before.stocked in
    record {
      places =
          ap places_of (between.since.remain ∙ ap (remaining now.stocked) all)
          ∙ places-filter (λ b. is_stocked now.stocked b) before.stocked
          ∙ sym (append-nil (remaining_places before now));
      parked =
          ap (λ (bs : List ℕ). bs ++ all_blocks (places_by_first now.left)) between.parked
          ∙ ap (λ (bs : List ℕ). before.parked ++ bs)
          (ap all_blocks (since_parked before [] now between.since sound
          ∙ ap places_by_first (ap (λ xs. places_of (departed now.stocked xs)) all ∙ places-filter (λ b. not (is_stocked now.stocked b)) before.stocked)));
    }

-- where nothing changes, nothing is repacked
pub repacked_itself : (s : StockView) → s.left ≡ [] → IsSound s → All (λ x. is_live s.holdings x.birth ≡ true) s.stocked → IsRepacked s s []
repacked_itself s none sound live =
    let parked : s.parked ++ all_blocks (places_by_first s.left) ≡ s.parked = ap (λ (xs : List Placed). s.parked ++ all_blocks (places_by_first xs)) none ∙ append-nil s.parked in
    let same : with_left_parked s ≡ s = (λ i. record s { left = sym none i; parked = parked i }) in
    subst (λ (x : StockView). IsRepacked s x []) same (repacked_between s s (between_itself s none sound live) sound)
