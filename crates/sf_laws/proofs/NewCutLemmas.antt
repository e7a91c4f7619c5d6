-- The new cuts of a list, told by the cuts that stand before them.
use Rattle.std.proofs.Common.{◌≡◌, ℕ, ◌+◌, Bool, true, false, ◌||◌, ◌&&◌, not, cond, List, [], ◌∷◌, ◌++◌, length, take, Option, Some, refl, sym, ap, ◌∙◌, append_assoc, length-append}
use Rattle.std.specs.Prelude.{filter, filter_map, slice_get}
use Rattle.std.specs.List.{list_any, range_with_len, cons_option}
use Rattle.std.specs.Option.{option_map_or}
use Rattle.sf_types.specs.Table.Parts.{Content}
use Rattle.sf_types.specs.Space.Cuts.{Cut}
use Rattle.sf_types.specs.Space.Promises.{is_found, is_equal_sharing, new_cuts}
use Rattle.sf_laws.specs.NewCuts.{is_new_behind, is_new_at, new_cut_indices}

pub get_middle : {X : Type 0} (front : List X) (x : X) (back : List X) → slice_get (front ++ x ∷ back) (length front) ≡ Some x
get_middle [] x back = refl
get_middle (y ∷ front) x back = get_middle front x back

pub take_front : {X : Type 0} (front back : List X) → take (length front) (front ++ back) ≡ front
take_front [] back = refl
take_front (y ∷ front) back = ap (λ (ys : List _). y ∷ ys) (take_front front back)

-- where something passes in a list with one item more at its end
pub any_push : {X : Type 0} (test : X → Bool) (xs : List X) (x : X) → list_any test (xs ++ x ∷ []) ≡ (test x || list_any test xs)
any_push test [] x = refl
any_push test (y ∷ xs) x = ap (λ b. test y || b) (any_push test xs x) ∙ turned (test y) (test x) (list_any test xs)
  where
    turned : (a b c : Bool) → (a || (b || c)) ≡ (b || (a || c))
    turned true true c = refl
    turned true false c = refl
    turned false b c = refl

neither_test : {X : Type 0} (a b : Bool) (xs ys : List X) → cond (a || b) xs ys ≡ cond (not a && not b) ys xs
neither_test true b xs ys = refl
neither_test false true xs ys = refl
neither_test false false xs ys = refl

test_first : (b : Bool) (f : ℕ → Option Cut) (i : ℕ) (is : List ℕ) → filter_map f (cond b (i ∷ is) is) ≡ cond b (cons_option (f i) (filter_map f is)) (filter_map f is)
test_first true f i is = refl
test_first false f i is = refl

new_from : (contents : List Content) (reached : List ℕ) (front earlier rest : List Cut) → ((cut : Cut) → list_any (is_equal_sharing cut) earlier ≡ list_any (is_equal_sharing cut) front)
    → new_cuts contents reached earlier rest ≡ filter_map (slice_get (front ++ rest)) (filter (is_new_at contents reached (front ++ rest)) (range_with_len (length front) (length rest)))
new_from contents reached front earlier [] same = refl
new_from contents reached front earlier (cut ∷ rest) same =
    let of = front ++ cut ∷ rest in
    let more : (x : Cut) → list_any (is_equal_sharing x) (cut ∷ earlier) ≡ list_any (is_equal_sharing x) (front ++ cut ∷ []) = λ x. ap (λ b. is_equal_sharing x cut || b) (same x) ∙ sym (any_push (is_equal_sharing x) front cut) in
    let joined : (front ++ cut ∷ []) ++ rest ≡ of = append_assoc front (cut ∷ []) rest in
    let longer : length (front ++ cut ∷ []) ≡ length front + 1 = length-append front (cut ∷ []) in
    let later : new_cuts contents reached (cut ∷ earlier) rest ≡ filter_map (slice_get of) (filter (is_new_at contents reached of) (range_with_len (length front + 1) (length rest))) =
    new_from contents reached (front ++ cut ∷ []) (cut ∷ earlier) rest more
    ∙ ap (λ (xs : List Cut). filter_map (slice_get xs) (filter (is_new_at contents reached xs) (range_with_len (length (front ++ cut ∷ [])) (length rest)))) joined
    ∙ ap (λ n. filter_map (slice_get of) (filter (is_new_at contents reached of) (range_with_len n (length rest)))) longer in
    let here : slice_get of (length front) ≡ Some cut = get_middle front cut rest in
    let tested : is_new_at contents reached of (length front) ≡ is_new_behind contents reached earlier cut =
    ap (λ (o : Option Cut). option_map_or (is_new_behind contents reached (take (length front) of)) o false) here
    ∙ ap (λ (xs : List Cut). is_new_behind contents reached xs cut) (take_front front (cut ∷ rest))
    ∙ ap (λ b. not (is_found contents reached cut) && not b) (sym (same cut)) in
    let indices = filter (is_new_at contents reached of) (range_with_len (length front + 1) (length rest)) in
    let b = is_new_behind contents reached earlier cut in
    neither_test (is_found contents reached cut) (list_any (is_equal_sharing cut) earlier) (new_cuts contents reached (cut ∷ earlier) rest) (cut ∷ new_cuts contents reached (cut ∷ earlier) rest)
    ∙ ap (λ (xs : List Cut). cond b (cut ∷ xs) xs) later
    ∙ ap (λ (o : Option Cut). cond b (cons_option o (filter_map (slice_get of) indices)) (filter_map (slice_get of) indices)) (sym here)
    ∙ sym (test_first b (slice_get of) (length front) indices)
    ∙ ap (λ x. filter_map (slice_get of) (cond x (length front ∷ indices) indices)) (sym tested)

pub new_cuts_are : (contents : List Content) (reached : List ℕ) (of : List Cut) → new_cuts contents reached [] of ≡ filter_map (slice_get of) (new_cut_indices contents reached of)
new_cuts_are contents reached of = new_from contents reached [] [] of (λ cut. refl)
