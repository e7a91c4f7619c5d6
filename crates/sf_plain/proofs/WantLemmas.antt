-- The blocks that cuts want, one cut after another.
use Rattle.std.proofs.Common.{◌≡◌, ℕ, suc, ◌+◌, ◌<◌, Bool, true, false, cond, List, [], ◌∷◌, ◌++◌, length, take, drop, drop-cons, get_or, refl, sym, ap, ◌∙◌, arith}
use Rattle.std.specs.Prelude.{◌||◌, sum_by}
use Rattle.std.specs.List.{list_any}
use Rattle.std.proofs.lemmas.List.{take_more}
use Rattle.std.proofs.lemmas.List.Folds.{list_any-append}
use Rattle.std.proofs.lemmas.List.Sums.{sum_by-cons}
use Rattle.sf_types.specs.Table.Parts.{Content}
use Rattle.sf_types.specs.Space.Contents.{blocks_of}
use Rattle.sf_types.specs.Space.Cuts.{Cut}
use Rattle.sf_types.specs.Space.Promises.{is_found, is_equal_sharing, new_cuts}
use Rattle.sf_plain.specs.Inside.Wants.{blocks_behind}

-- What is new depends on which cuts came before, and not on their order.
same_earlier : (contents : List Content) (reached : List ℕ) (e f rest : List Cut) → ((x : Cut) → list_any (is_equal_sharing x) e ≡ list_any (is_equal_sharing x) f) → new_cuts contents reached e rest ≡ new_cuts contents reached f rest
same_earlier contents reached e f [] same = refl
same_earlier contents reached e f (c ∷ rest) same =
    let later = same_earlier contents reached (c ∷ e) (c ∷ f) rest (λ x. ap (λ b. is_equal_sharing x c || b) (same x)) in
    ap (λ b. cond (is_found contents reached c || b) (new_cuts contents reached (c ∷ e) rest) (c ∷ new_cuts contents reached (c ∷ e) rest)) (same c)
    ∙ ap (λ (xs : List Cut). cond (is_found contents reached c || list_any (is_equal_sharing c) f) xs (c ∷ xs)) later

or_turned : (a b : Bool) → (a || b) ≡ (b || (a || false))
or_turned true true = refl
or_turned true false = refl
or_turned false true = refl
or_turned false false = refl

first_or_last : (c : Cut) (done : List Cut) (x : Cut) → list_any (is_equal_sharing x) (c ∷ done) ≡ list_any (is_equal_sharing x) (done ++ c ∷ [])
first_or_last c done x = or_turned (is_equal_sharing x c) (list_any (is_equal_sharing x) done) ∙ sym (list_any-append (is_equal_sharing x) done (c ∷ []))

abbrev wanted_behind : List Content → List ℕ → List Cut → List Cut → ℕ
wanted_behind contents reached earlier rest = sum_by (λ (cut : Cut). blocks_of (length cut.bytes)) (new_cuts contents reached earlier rest)

first_wanted : (contents : List Content) (reached : List ℕ) (done : List Cut) (c : Cut) (rest : List Cut) → wanted_behind contents reached done (c ∷ rest) ≡ blocks_behind contents reached done c + wanted_behind contents reached (done ++ c ∷ []) rest
first_wanted contents reached done c rest =
    by (is_found contents reached c || list_any (is_equal_sharing c) done) (new_cuts contents reached (c ∷ done) rest)
    ∙ ap (λ (xs : List Cut). blocks_behind contents reached done c + sum_by (λ (cut : Cut). blocks_of (length cut.bytes)) xs) (same_earlier contents reached (c ∷ done) (done ++ c ∷ []) rest (first_or_last c done))
  where
    by : (b : Bool) (xs : List Cut) → sum_by (λ (cut : Cut). blocks_of (length cut.bytes)) (cond b xs (c ∷ xs)) ≡ cond b 0 (blocks_of (length c.bytes)) + sum_by (λ (cut : Cut). blocks_of (length cut.bytes)) xs
    by true xs = omega arith
    by false xs = sum_by-cons (λ (cut : Cut). blocks_of (length cut.bytes)) c xs

-- The blocks that the rest of some cuts wants are those of its first one and of the others behind it.
pub next_wanted : (contents : List Content) (reached : List ℕ) (of : List Cut) (at : ℕ) (c : Cut) → at < length of → c ≡ get_or of at c
    → sum_by (λ (cut : Cut). blocks_of (length cut.bytes)) (new_cuts contents reached (take at of) (drop at of))
    ≡ blocks_behind contents reached (take at of) c + sum_by (λ (cut : Cut). blocks_of (length cut.bytes)) (new_cuts contents reached (take (at + 1) of) (drop (at + 1) of))
next_wanted contents reached of at c less is =
    let x = get_or of at c in
    let rest = drop (at + 1) of in
    let one : suc at ≡ at + 1 = omega arith in
    ap (wanted_behind contents reached (take at of)) (drop-cons of at c less ∙ ap (λ n. x ∷ drop n of) one)
    ∙ first_wanted contents reached (take at of) x rest
    ∙ ap (λ (y : Cut). blocks_behind contents reached (take at of) y + wanted_behind contents reached (take at of ++ x ∷ []) rest) (sym is)
    ∙ ap (λ (done : List Cut). blocks_behind contents reached (take at of) c + wanted_behind contents reached done rest) (sym (take_more of at c less))
