-- What became of a stock in several calls between two parkings.
use Rattle.std.proofs.Common.{◌≡◌, ℕ, ◌+◌, ◌≤◌, ◌<◌, Bool, true, false, cond, not, ◌&&◌, ◌||◌, List, [], ◌∷◌, ◌++◌, length, refl, sym, ap, subst, ◌∙◌, append_assoc, arith}
use Rattle.std.specs.Prelude.{All, ◌==◌}
use Rattle.std.specs.List.{AllByRecursion, filter, sum_by}
use Rattle.std.specs.List.Sorted.{IsPermutation}
use Rattle.std.proofs.lemmas.List.{append-nil, map-append}
use Rattle.std.proofs.lemmas.List.Elements.{All-from_recursion, recursion_from_All, filter-append, filter_agree}
use Rattle.std.proofs.lemmas.List.Sorted.{All-permutation, IsPermutation-refl, IsPermutation-sym, IsPermutation-map, IsPermutation-append, IsPermutation-trans, IsPermutation-filter_both, sum_by-IsPermutation}
use Rattle.std.proofs.lemmas.List.Sums.{sum_by-cons}
use Rattle.sf_types.specs.Space.Placings.{Placed, all_blocks}
use Rattle.sf_types.specs.Play.Blocks.{places_by_first}
use Rattle.sf_types.proofs.BoolLemmas.{or-false, or-regroup, or-true}
use Rattle.sf_types.proofs.NumberLemmas.{same_number, own_number, other_number}
use Rattle.sf_lifetimes.specs.Ledgers.{Holdings}
use Rattle.sf_lifetimes.proofs.CountLemmas.{named_once}
use Rattle.sf_stock.specs.Stocks.{Stocked, StockView, NewContentView, IsSound, place_of, places_of, is_stocked, has_left, newcomer, with_new, with_holdings}
use Rattle.sf_stock.specs.Since.{IsSince, remaining, departed}
use Rattle.sf_stock.proofs.ForgetLemmas.{filter_both}
use Rattle.sf_stock.proofs.NewLemmas.{count_of, count-append}
use Rattle.sf_stock.proofs.SortLemmas.{firsts_apart, resorted}

-- ---- which births have a place
pub stocked-append : (xs ys : List Stocked) (b : ℕ) → is_stocked (xs ++ ys) b ≡ (is_stocked xs b || is_stocked ys b)
stocked-append [] ys b = refl
stocked-append (x ∷ xs) ys b = ap (λ t. (b == x.birth) || t) (stocked-append xs ys b) ∙ sym (or-regroup (b == x.birth) (is_stocked xs b) (is_stocked ys b))

pub stocked-filter : (g : ℕ → Bool) (xs : List Stocked) (b : ℕ) → is_stocked (filter (λ x. not (g x.birth)) xs) b ≡ (is_stocked xs b && not (g b))
stocked-filter g [] b = refl
stocked-filter g (x ∷ xs) b =
    let rest = stocked-filter g xs b in
    let kept = filter (λ (y : Stocked). not (g y.birth)) xs in
    elim (b == x.birth) as (λ t. (b == x.birth) ≡ t → is_stocked (cond (not (g x.birth)) (x ∷ kept) kept) b ≡ ((t || is_stocked xs b) && not (g b))) [
      | true ↦ λ t.
          let same : b ≡ x.birth = same_number b x.birth t in
          ap (λ n. is_stocked (cond (not (g n)) (x ∷ kept) kept) b) (sym same)
          ∙ elim (g b) as (λ u. is_stocked kept b ≡ (is_stocked xs b && not u) → is_stocked (cond (not u) (x ∷ kept) kept) b ≡ not u) [
            | true ↦ λ none. none ∙ never (is_stocked xs b)
            | false ↦ λ _. ap (λ u. u || is_stocked kept b) t
          ] rest
      | false ↦ λ t. elim (g x.birth) as (λ u. is_stocked (cond (not u) (x ∷ kept) kept) b ≡ (is_stocked xs b && not (g b))) [
        | true ↦ rest
        | false ↦ ap (λ u. u || is_stocked kept b) t ∙ rest
      ]
    ] refl
  where
    never : (x : Bool) → (x && false) ≡ false
    never true = refl
    never false = refl

all_there : (front xs : List Stocked) → AllByRecursion (λ x. is_stocked (front ++ xs) x.birth ≡ true) xs
all_there front [] = tt
all_there front (x ∷ xs) = (
  stocked-append front (x ∷ xs) x.birth ∙ or-true (is_stocked front x.birth) (is_stocked (x ∷ xs) x.birth) (ap (λ t. t || is_stocked xs x.birth) (own_number x.birth)),
  subst (λ ys. AllByRecursion (λ y. is_stocked ys y.birth ≡ true) xs) (append_assoc front (x ∷ []) xs) (all_there (front ++ x ∷ []) xs),
)

filter_all : (p : Stocked → Bool) (xs : List Stocked) → AllByRecursion (λ x. p x ≡ true) xs → xs ≡ filter p xs
filter_all p [] all = refl
filter_all p (x ∷ xs) all = ap (λ (ys : List Stocked). x ∷ ys) (filter_all p xs all.1) ∙ ap (λ t. cond t (x ∷ filter p xs) (filter p xs)) (sym all.0)

filter_none : (p : Stocked → Bool) (xs : List Stocked) → AllByRecursion (λ x. p x ≡ true) xs → [] ≡ filter (λ x. not (p x)) xs
filter_none p [] all = refl
filter_none p (x ∷ xs) all = filter_none p xs all.1 ∙ ap (λ t. cond (not t) (x ∷ filter (λ x. not (p x)) xs) (filter (λ x. not (p x)) xs)) (sym all.0)

filter_each : (p q : Stocked → Bool) (xs : List Stocked) → AllByRecursion (λ x. p x ≡ q x) xs → filter p xs ≡ filter q xs
filter_each p q [] same = refl
filter_each p q (x ∷ xs) same = ap (λ (ys : List Stocked). cond (p x) (x ∷ ys) ys) (filter_each p q xs same.1) ∙ ap (λ t. cond t (x ∷ filter q xs) (filter q xs)) same.0

-- ---- at first nothing has left
pub since_itself : (s : StockView) → s.left ≡ [] → IsSound s → IsSince s [] s
since_itself s none sound =
    let all = append-nil s.stocked in
    let there : AllByRecursion (λ x. is_stocked s.stocked x.birth ≡ true) s.stocked = all_there [] s.stocked in
    record {
      remain = subst (λ xs. s.stocked ≡ remaining s.stocked xs) (sym all) (filter_all (λ x. is_stocked s.stocked x.birth) s.stocked there);
      left = subst (λ xs. IsPermutation (places_of (departed s.stocked xs)) s.left) (sym all)
          (subst (λ xs. IsPermutation (places_of xs) s.left) (filter_none (λ x. is_stocked s.stocked x.birth) s.stocked there) (subst (IsPermutation []) (sym none) (IsPermutation-refl [])));
      before_next = subst (All (λ x. x.birth < s.next)) (sym all) sound.before_next;
    }

-- ---- a content comes
older_same : (s : StockView) (x : Stocked) (xs : List Stocked) → x.birth ≡ s.next → AllByRecursion (λ y. y.birth < s.next) xs → AllByRecursion (λ y. is_stocked (s.stocked ++ x ∷ []) y.birth ≡ is_stocked s.stocked y.birth) xs
older_same s x [] is older = tt
older_same s x (y ∷ ys) is older = (
  stocked-append s.stocked (x ∷ []) y.birth
      ∙ ap (λ t. is_stocked s.stocked y.birth || (t || false)) (other_number y.birth x.birth (λ same. omega (arith, older.0, is, same)))
      ∙ sym (or-false (is_stocked s.stocked y.birth)),
  older_same s x ys is older.1,
)

each_not : (p q : Stocked → Bool) (xs : List Stocked) → AllByRecursion (λ x. p x ≡ q x) xs → AllByRecursion (λ x. not (p x) ≡ not (q x)) xs
each_not p q [] same = tt
each_not p q (x ∷ xs) same = (ap not same.0, each_not p q xs same.1)

each_older : (n : ℕ) (xs : List Stocked) (x : Stocked) → x.birth ≡ n → AllByRecursion (λ y. y.birth < n) xs → AllByRecursion (λ y. y.birth < n + 1) (xs ++ x ∷ [])
each_older n [] x is older = (omega (arith, is), tt)
each_older n (y ∷ ys) x is older = (omega (arith, older.0), each_older n ys x is older.1)

pub since_new : (before : StockView) (new : List Stocked) (s : StockView) (n : NewContentView) → IsSince before new s → IsSince before (new ++ newcomer s n ∷ []) (with_new s n)
since_new before new s n since =
    let x = newcomer s n in
    let all = before.stocked ++ new in
    let now = s.stocked ++ x ∷ [] in
    let whole : before.stocked ++ (new ++ x ∷ []) ≡ all ++ x ∷ [] = sym (append_assoc before.stocked new (x ∷ [])) in
    let older = recursion_from_All (λ (y : Stocked). y.birth < s.next) all since.before_next in
    let same = older_same s x all refl older in
    let own : is_stocked now x.birth ≡ true = stocked-append s.stocked (x ∷ []) x.birth ∙ or-true (is_stocked s.stocked x.birth) (is_stocked (x ∷ []) x.birth) (ap (λ t. t || false) (own_number x.birth)) in
    record {
      remain = subst (λ xs. now ≡ remaining now xs) (sym whole) (
          ap (λ (ys : List Stocked). ys ++ x ∷ []) (since.remain ∙ sym (filter_each (λ y. is_stocked now y.birth) (λ y. is_stocked s.stocked y.birth) all same))
          ∙ ap (λ (ys : List Stocked). remaining now all ++ ys) (ap (λ t. cond t (x ∷ []) []) (sym own))
          ∙ sym (filter-append (λ (y : Stocked). is_stocked now y.birth) all (x ∷ [])));
      left = subst (λ xs. IsPermutation (places_of (departed now xs)) s.left) (sym whole) (subst (λ xs. IsPermutation (places_of xs) s.left) (
          sym (filter_each (λ y. not (is_stocked now y.birth)) (λ y. not (is_stocked s.stocked y.birth)) all (each_not (λ y. is_stocked now y.birth) (λ y. is_stocked s.stocked y.birth) all same))
          ∙ sym (append-nil (departed now all))
          ∙ ap (λ (ys : List Stocked). departed now all ++ ys) (ap (λ t. cond (not t) (x ∷ []) []) (sym own))
          ∙ sym (filter-append (λ (y : Stocked). not (is_stocked now y.birth)) all (x ∷ []))) since.left);
      before_next = subst (All (λ y. y.birth < s.next + 1)) (sym whole) (All-from_recursion (λ (y : Stocked). y.birth < s.next + 1) (all ++ x ∷ []) (each_older s.next all x refl older));
    }

-- ---- holders change
gone_first : (p g : Bool) → (not (p && not g) && not p) ≡ not p
gone_first true true = refl
gone_first true false = refl
gone_first false g = refl

gone_now : (p g : Bool) → (not (p && not g) && not (not p)) ≡ (p && g)
gone_now true true = refl
gone_now true false = refl
gone_now false g = refl

pub since_held : (before : StockView) (new : List Stocked) (s : StockView) (after : Holdings) → IsSince before new s → IsSince before new (with_holdings s after)
since_held before new s after since =
    let g : ℕ → Bool = has_left s.holdings after in
    let all = before.stocked ++ new in
    let now = filter (λ (x : Stocked). not (g x.birth)) s.stocked in
    let p : Stocked → Bool = λ x. is_stocked s.stocked x.birth in
    let q : Stocked → Bool = λ x. is_stocked now x.birth in
    let still : (x : Stocked) → q x ≡ (p x && not (g x.birth)) = λ x. stocked-filter g s.stocked x.birth in
    let gone = departed now all in
    let earlier : filter (λ x. not (p x)) gone ≡ departed s.stocked all =
    filter_both (λ (x : Stocked). not (p x)) (λ x. not (q x)) all
    ∙ filter_agree (λ (x : Stocked). not (q x) && not (p x)) (λ x. not (p x)) (λ x. ap (λ t. not t && not (p x)) (still x) ∙ gone_first (p x) (g x.birth)) all in
    let later : filter (λ x. not (not (p x))) gone ≡ filter (λ x. g x.birth) s.stocked =
    filter_both (λ (x : Stocked). not (not (p x))) (λ x. not (q x)) all
    ∙ filter_agree (λ (x : Stocked). not (q x) && not (not (p x))) (λ x. p x && g x.birth) (λ x. ap (λ t. not t && not (not (p x))) (still x) ∙ gone_now (p x) (g x.birth)) all
    ∙ sym (filter_both (λ (x : Stocked). g x.birth) p all)
    ∙ ap (filter (λ (x : Stocked). g x.birth)) (sym since.remain) in
    let parts = IsPermutation-map place_of gone (filter (λ x. not (p x)) gone ++ filter (λ x. not (not (p x))) gone) (IsPermutation-filter_both (λ x. not (p x)) (λ x. not (not (p x))) (λ _. refl) gone) in
    let both : places_of (filter (λ x. not (p x)) gone ++ filter (λ x. not (not (p x))) gone) ≡ places_of (departed s.stocked all) ++ places_of (filter (λ x. g x.birth) s.stocked) =
    map-append place_of (filter (λ x. not (p x)) gone) (filter (λ x. not (not (p x))) gone) ∙ (λ i. places_of (earlier i) ++ places_of (later i)) in
    record {
      remain =
          ap (filter (λ (x : Stocked). not (g x.birth))) since.remain
          ∙ filter_both (λ (x : Stocked). not (g x.birth)) p all
          ∙ filter_agree (λ (x : Stocked). p x && not (g x.birth)) q (λ x. sym (still x)) all;
      left = IsPermutation-trans (places_of gone) (places_of (departed s.stocked all) ++ places_of (filter (λ x. g x.birth) s.stocked)) (s.left ++ places_of (filter (λ x. g x.birth) s.stocked))
          (subst (IsPermutation (places_of gone)) both parts)
          (IsPermutation-append (places_of (departed s.stocked all)) s.left (places_of (filter (λ x. g x.birth) s.stocked)) (places_of (filter (λ x. g x.birth) s.stocked)) since.left (IsPermutation-refl (places_of (filter (λ x. g x.birth) s.stocked))));
      before_next = since.before_next;
    }

-- ---- what left is parked as if it had left at once

counted_by : (block : ℕ) (xs : List Placed) → count_of block (all_blocks xs) ≡ sum_by (λ x. count_of block x.blocks) xs
counted_by block [] = refl
counted_by block (x ∷ xs) = omega (arith, count-append block x.blocks (all_blocks xs), counted_by block xs, sum_by-cons (λ (y : Placed). count_of block y.blocks) x xs)

pub since_parked : (before : StockView) (new : List Stocked) (s : StockView) → IsSince before new s → IsSound s → places_by_first s.left ≡ places_by_first (places_of (departed s.stocked (before.stocked ++ new)))
since_parked before new s since sound =
    let gone = places_of (departed s.stocked (before.stocked ++ new)) in
    let rest = all_blocks s.left ++ s.parked in
    let once : (block : ℕ) → count_of block (all_blocks s.left) ≤ 1 =
    λ block. omega (arith, named_once (all_blocks (places_of s.stocked) ++ rest) sound.once block, count-append block (all_blocks (places_of s.stocked)) rest, count-append block (all_blocks s.left) s.parked) in
    let there = firsts_apart s.left (recursion_from_All (λ (x : Placed). 1 ≤ length x.blocks) s.left sound.filled) once in
    let back = IsPermutation-sym gone s.left since.left in
    let also = firsts_apart gone (recursion_from_All (λ (x : Placed). 1 ≤ length x.blocks) gone (All-permutation (λ (x : Placed). 1 ≤ length x.blocks) s.left gone back sound.filled))
    (λ block. omega (arith, once block, counted_by block gone, counted_by block s.left, sum_by-IsPermutation (λ (x : Placed). count_of block x.blocks) s.left gone back)) in
    resorted s.left gone there back also
