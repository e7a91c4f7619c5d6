-- What holds of a stock whose births are all held.
use Rattle.std.proofs.Common.{◌≡◌, true, List, [], ◌∷◌, cond, refl, ap, ◌∙◌}
use Rattle.std.specs.Prelude.{filter}
use Rattle.std.specs.List.{AllByRecursion}
use Rattle.std.proofs.lemmas.List.Elements.{recursion_from_All, All-from_recursion}
use Rattle.std.specs.Prelude.{All}
use Rattle.sf_shrink.specs.declared.shifts.Shift.{Shift}
use Rattle.sf_lifetimes.specs.Ledgers.{Holdings, is_live}
use Rattle.sf_stock.specs.Stocks.{Stocked, moved_by}

all_live : (holdings : Holdings) (xs : List Stocked) → AllByRecursion (λ x. is_live holdings x.birth ≡ true) xs → filter (λ x. is_live holdings x.birth) xs ≡ xs
all_live holdings [] live = refl
all_live holdings (x ∷ xs) live =
    ap (λ t. cond {A = List Stocked} t (x ∷ filter (λ y. is_live holdings y.birth) xs) (filter (λ y. is_live holdings y.birth) xs)) live.0
    ∙ ap (λ (ys : List Stocked). x ∷ ys) (all_live holdings xs live.1)

-- The births that somebody holds are all of them.
pub live_are_all : (holdings : Holdings) (xs : List Stocked) → All (λ x. is_live holdings x.birth ≡ true) xs → filter (λ x. is_live holdings x.birth) xs ≡ xs
live_are_all holdings xs live = all_live holdings xs (recursion_from_All (λ (x : Stocked). is_live holdings x.birth ≡ true) xs live)

moved_live : (holdings : Holdings) (xs : List Stocked) (shifts : List Shift) → AllByRecursion (λ x. is_live holdings x.birth ≡ true) xs → AllByRecursion (λ x. is_live holdings x.birth ≡ true) (moved_by xs shifts)
moved_live holdings [] shifts live = live
moved_live holdings (x ∷ xs) [] live = live
moved_live holdings (x ∷ xs) (shift ∷ shifts) live = (live.0, moved_live holdings xs shifts live.1)

-- Births that move are held as before.
pub live_where_moved : (holdings : Holdings) (xs : List Stocked) (shifts : List Shift) → All (λ x. is_live holdings x.birth ≡ true) xs → All (λ x. is_live holdings x.birth ≡ true) (moved_by xs shifts)
live_where_moved holdings xs shifts live =
    All-from_recursion (λ (x : Stocked). is_live holdings x.birth ≡ true) (moved_by xs shifts)
    (moved_live holdings xs shifts (recursion_from_All (λ (x : Stocked). is_live holdings x.birth ≡ true) xs live))
