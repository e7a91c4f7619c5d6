-- A stock in which new contents were placed, and whose holders changed since.
use Rattle.std.proofs.Common.{◌≡◌, ℕ, Bool, true, false, cond, not, ◌&&◌, List, [], ◌∷◌, ◌++◌, ◌⊎◌, inl, inr, refl, sym, ap, subst, ◌∙◌}
use Rattle.std.specs.List.{AllByRecursion as Each, filter}
use Rattle.std.proofs.lemmas.List.{append-nil, map-append}
use Rattle.std.proofs.lemmas.List.Elements.{filter-append}
use Rattle.sf_types.specs.declared.holder.Holder.TheVariants as holder
use Rattle.sf_types.specs.Space.Placings.{all_blocks}
use Rattle.sf_types.specs.Play.Blocks.{places_by_first}
use Rattle.sf_retention.specs.declared.retention.Pair.{Pair}
use Rattle.sf_lifetimes.specs.Ledgers.{Holdings, is_live, with_births}
use Rattle.sf_stock.specs.Since.{IsSince, departed}
use Rattle.sf_stock.specs.Stocks.{IsSound, Stocked, StockView, has_left, is_stocked, places_of, with_holder, with_holdings, with_left_parked}
use Rattle.sf_stock.proofs.SinceLemmas.{since_held, since_parked}
use Rattle.sf_store_half.specs.declared.commits.RowBirths.{RowBirths}
use Rattle.sf_store_half.specs.HalfMoves.{IsRepacked}
use Rattle.sf_store_half.specs.Inside.Commits.{stock_with}
use Rattle.sf_store_half.specs.Inside.Floors.{stock_without}
use Rattle.sf_store_half.proofs.BetweenLemmas.{each_kept, places-filter}

-- New contents were placed since the last parking, and holders changed. K holds of each birth that has a place; and each is held,
-- or Q holds of it.
pub record IsGrownTo (before : StockView) (new : List Stocked) (K Q : Stocked → Type 0) (next : ℕ) (now : StockView) : Type 0 where
  pub since : IsSince before new now
  pub live : Each (λ x. (is_live now.holdings x.birth ≡ true) ⊎ Q x) now.stocked
  pub known : Each K now.stocked
  pub next_is : now.next ≡ next
  pub parked : now.parked ≡ before.parked

-- what is held and doesn't leave is held then, and Q goes on
held_one : (Q : Stocked → Type 0) (before after : Holdings) (x : Stocked) (kept : List Stocked) → (is_live before x.birth ≡ true) ⊎ Q x → Each (λ y. (is_live after y.birth ≡ true) ⊎ Q y) kept
    → Each (λ y. (is_live after y.birth ≡ true) ⊎ Q y) (cond {A = List Stocked} (not (is_live before x.birth && not (is_live after x.birth))) (x ∷ kept) kept)
held_one Q before after x kept one rest =
    elim (is_live after x.birth) as (λ t. is_live after x.birth ≡ t → Each (λ y. (is_live after y.birth ≡ true) ⊎ Q y) (cond {A = List Stocked} (not (is_live before x.birth && not t)) (x ∷ kept) kept)) [
      | true ↦ λ is. stays is (is_live before x.birth)
      | false ↦ λ _. goes one
    ] refl
  where
    stays : is_live after x.birth ≡ true → (b : Bool) → Each (λ y. (is_live after y.birth ≡ true) ⊎ Q y) (cond {A = List Stocked} (not (b && false)) (x ∷ kept) kept)
    stays is true = (inl is, rest)
    stays is false = (inl is, rest)

    goes : (is_live before x.birth ≡ true) ⊎ Q x → Each (λ y. (is_live after y.birth ≡ true) ⊎ Q y) (cond {A = List Stocked} (not (is_live before x.birth && true)) (x ∷ kept) kept)
    goes (inl is) = subst (λ u. Each (λ y. (is_live after y.birth ≡ true) ⊎ Q y) (cond {A = List Stocked} (not (u && true)) (x ∷ kept) kept)) (sym is) rest
    goes (inr q) = elim (is_live before x.birth) as (λ u. Each (λ y. (is_live after y.birth ≡ true) ⊎ Q y) (cond {A = List Stocked} (not (u && true)) (x ∷ kept) kept)) [
      | true ↦ rest
      | false ↦ (inr q, rest)
    ]

held_or : (Q : Stocked → Type 0) (before after : Holdings) (xs : List Stocked) → Each (λ x. (is_live before x.birth ≡ true) ⊎ Q x) xs → Each (λ x. (is_live after x.birth ≡ true) ⊎ Q x) (filter (λ x. not (has_left before after x.birth)) xs)
held_or Q before after [] all = tt
held_or Q before after (x ∷ xs) all = held_one Q before after x (filter (λ (y : Stocked). not (has_left before after y.birth)) xs) all.0 (held_or Q before after xs all.1)

pub grown_held : (before : StockView) (new : List Stocked) (K Q : Stocked → Type 0) (next : ℕ) (s : StockView) (after : Holdings) → IsGrownTo before new K Q next s → IsGrownTo before new K Q next (with_holdings s after)
grown_held before new K Q next s after grown = record {
  since = since_held before new s after grown.since;
  live = held_or Q s.holdings after s.stocked grown.live;
  known = each_kept K (λ x. not (has_left s.holdings after x.birth)) s.stocked grown.known;
  next_is = grown.next_is;
  parked = grown.parked;
}

pub grown_with : (before : StockView) (new : List Stocked) (K Q : Stocked → Type 0) (next : ℕ) (s : StockView) (number : ℕ) (xs : List RowBirths) → IsGrownTo before new K Q next s → IsGrownTo before new K Q next (stock_with s number xs)
grown_with before new K Q next s number [] grown = grown
grown_with before new K Q next s number (x ∷ xs) grown =
    grown_with before new K Q next (with_holder s (holder.Version x.row number) x.births) number xs (grown_held before new K Q next s (with_births s.holdings (holder.Version x.row number) x.births) grown)

pub grown_without : (before : StockView) (new : List Stocked) (K Q : Stocked → Type 0) (next : ℕ) (s : StockView) (ps : List Pair) → IsGrownTo before new K Q next s → IsGrownTo before new K Q next (stock_without s ps)
grown_without before new K Q next s [] grown = grown
grown_without before new K Q next s (p ∷ ps) grown =
    grown_without before new K Q next (with_holder s (holder.Version p.name p.from) []) ps (grown_held before new K Q next s (with_births s.holdings (holder.Version p.name p.from) []) grown)

-- ---- how the places move where all new births stay
all_pass : (p : Stocked → Bool) (xs : List Stocked) → Each (λ x. p x ≡ true) xs → filter p xs ≡ xs
all_pass p [] all = refl
all_pass p (x ∷ xs) all = ap (λ t. cond {A = List Stocked} t (x ∷ filter p xs) (filter p xs)) all.0 ∙ ap (λ (ys : List Stocked). x ∷ ys) (all_pass p xs all.1)

none_pass : (p : Stocked → Bool) (xs : List Stocked) → Each (λ x. p x ≡ true) xs → filter (λ x. not (p x)) xs ≡ []
none_pass p [] all = refl
none_pass p (x ∷ xs) all = ap (λ t. cond {A = List Stocked} (not t) (x ∷ filter (λ y. not (p y)) xs) (filter (λ y. not (p y)) xs)) all.0 ∙ none_pass p xs all.1

pub repacked_grown : (before : StockView) (new : List Stocked) (now : StockView) → IsSince before new now → now.parked ≡ before.parked → IsSound now → Each (λ x. is_stocked now.stocked x.birth ≡ true) new → IsRepacked before (with_left_parked now) (places_of new)
repacked_grown before new now since same sound stay =
    let p : Stocked → Bool = λ x. is_stocked now.stocked x.birth in
    let kept : now.stocked ≡ filter p before.stocked ++ new = since.remain ∙ filter-append p before.stocked new ∙ ap (λ (xs : List Stocked). filter p before.stocked ++ xs) (all_pass p new stay) in
    let gone : departed now.stocked (before.stocked ++ new) ≡ filter (λ x. not (p x)) before.stocked =
    filter-append (λ x. not (p x)) before.stocked new ∙ ap (λ (xs : List Stocked). filter (λ x. not (p x)) before.stocked ++ xs) (none_pass p new stay) ∙ append-nil (filter (λ x. not (p x)) before.stocked) in
    record {
      places =
          ap places_of kept
          ∙ map-append _ (filter p before.stocked) new
          ∙ ap (λ xs. xs ++ places_of new) (places-filter (λ b. is_stocked now.stocked b) before.stocked);
      parked =
          ap (λ (bs : List ℕ). bs ++ all_blocks (places_by_first now.left)) same
          ∙ ap (λ (bs : List ℕ). before.parked ++ bs)
          (ap all_blocks (since_parked before new now since sound
          ∙ ap places_by_first (ap places_of gone ∙ places-filter (λ b. not (is_stocked now.stocked b)) before.stocked)));
    }
