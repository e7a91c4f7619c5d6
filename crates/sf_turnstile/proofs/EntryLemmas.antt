-- Entries of sessions in histories, and beginnings of one history.
use Rattle.std.proofs.Common.{◌≡◌, ◌≢◌, ℕ, ◌≤◌, ◌==◌, Bool, true, false, cond, List, [], ◌∷◌, ◌++◌, length, refl, sym, ap, ◌∙◌, arith, length-append, append-nil, append_assoc, eqb-true, eq-eqb, ne_eqb}
use mathlib.Core.List.{IsPrefix}
use Rattle.std.proofs.lemmas.List.Elements.{filter-append}
use Rattle.std.proofs.lemmas.List.Sums.{length-filter, count_by-le-length}
use Rattle.sf_types.specs.declared.history.Entry.{Entry}
use Rattle.sf_types.specs.Orders.Fronts.{entries_of}

abbrev is_of : ℕ → Entry → Bool
is_of s e = e.token.session == s

few_of : (n : ℕ) (xs : List Entry) → length (entries_of n xs) ≤ length xs
few_of n xs = let a = length-filter (is_of n) xs in let b = count_by-le-length (is_of n) xs in omega arith

tails : (x : Entry) (xs ys : List Entry) → x ∷ xs ≡ x ∷ ys → xs ≡ ys
tails x xs ys e = cc e

-- entries of one session alone have none of another
none_step : (s n : ℕ) (x : Entry) (xs : List Entry) (t : Bool) → is_of n x ≡ t → s ≢ n → entries_of n (x ∷ xs) ≡ x ∷ xs → (entries_of n xs ≡ xs → entries_of s xs ≡ []) → entries_of s (x ∷ xs) ≡ []
none_step s n x xs true is ne e rest =
    let same : x.token.session ≡ n = eqb-true x.token.session n is in
    let off : is_of s x ≡ false = ne_eqb x.token.session s (λ q. ne (sym q ∙ same)) in
    let kept : x ∷ entries_of n xs ≡ x ∷ xs = sym (ap (λ (b : Bool). cond b (x ∷ entries_of n xs) (entries_of n xs)) is) ∙ e in
    ap (λ (b : Bool). cond b (x ∷ entries_of s xs) (entries_of s xs)) off ∙ rest (tails x (entries_of n xs) xs kept)
none_step s n x xs false is ne e rest =
    let kept : entries_of n xs ≡ x ∷ xs = sym (ap (λ (b : Bool). cond b (x ∷ entries_of n xs) (entries_of n xs)) is) ∙ e in
    let long = ap length kept in let most = few_of n xs in absurd (omega arith)

pub none_of_other : (s n : ℕ) (xs : List Entry) → s ≢ n → entries_of n xs ≡ xs → entries_of s xs ≡ []
none_of_other s n [] ne e = refl
none_of_other s n (x ∷ xs) ne e = none_step s n x xs (is_of n x) refl ne e (none_of_other s n xs ne)

-- what a session adds is rest_empty of another
pub grown : (s n : ℕ) (front added : List Entry) → s ≢ n → entries_of n added ≡ added → entries_of s (front ++ added) ≡ entries_of s front
grown s n front added ne own = filter-append (is_of s) front added ∙ (ap (λ (l : List Entry). entries_of s front ++ l) (none_of_other s n added ne own) ∙ append-nil (entries_of s front))

pub prefix_self : (xs : List Entry) → IsPrefix xs xs
prefix_self xs = ([], append-nil xs)

pub prefix_trans : (xs ys zs : List Entry) → IsPrefix xs ys → IsPrefix ys zs → IsPrefix xs zs
prefix_trans xs ys zs p q = (p.0 ++ q.0, sym (append_assoc xs p.0 q.0) ∙ (ap (λ (w : List Entry). w ++ q.0) p.1 ∙ q.1))

-- of two beginnings of one history the shorter begins the longer
pub prefix_shorter : (xs ys zs : List Entry) → IsPrefix xs zs → IsPrefix ys zs → length xs ≤ length ys → IsPrefix xs ys
prefix_shorter [] ys zs p q le = (ys, refl)
prefix_shorter (x ∷ xs) [] zs p q le = absurd (omega arith)
prefix_shorter (x ∷ xs) (y ∷ ys) [] p q le = absurd (cc (p.1))
prefix_shorter (x ∷ xs) (y ∷ ys) (z ∷ zs) p q le =
    let heads : x ≡ y = cc (p.1, q.1) in
    let rest = prefix_shorter xs ys zs (p.0, cc (p.1)) (q.0, cc (q.1)) (omega arith) in
    (rest.0, cc (heads, rest.1))

rest_empty : (xs ys : List Entry) → length xs ≡ length (xs ++ ys) → ys ≡ []
rest_empty xs [] e = refl
rest_empty xs (y ∷ ys) e = let l = length-append xs (y ∷ ys) in absurd (omega arith)

-- a list between a front and the history that has no more of a session than the front has just those of it
pub between : (s : ℕ) (xs ys zs : List Entry) → IsPrefix xs ys → IsPrefix ys zs → entries_of s xs ≡ entries_of s zs → entries_of s ys ≡ entries_of s zs
between s xs ys zs p q e =
    let first : entries_of s ys ≡ entries_of s xs ++ entries_of s p.0 = sym (ap (entries_of s) p.1) ∙ filter-append (is_of s) xs p.0 in
    let second : entries_of s zs ≡ entries_of s ys ++ entries_of s q.0 = sym (ap (entries_of s) q.1) ∙ filter-append (is_of s) ys q.0 in
    let a = ap length first in let b = ap length second in let c = ap length e in
    let d = length-append (entries_of s xs) (entries_of s p.0) in
    let f = length-append (entries_of s ys) (entries_of s q.0) in
    let none : entries_of s q.0 ≡ [] = rest_empty (entries_of s ys) (entries_of s q.0) (omega arith) in
    sym (second ∙ (ap (λ (l : List Entry). entries_of s ys ++ l) none ∙ append-nil (entries_of s ys)))

-- a history in which no session has an entry is empty
pub empty_of_none : (xs : List Entry) → ((s : ℕ) → entries_of s xs ≡ []) → xs ≡ []
empty_of_none [] h = refl
empty_of_none (x ∷ xs) h =
    let on : is_of x.token.session x ≡ true = eq-eqb x.token.session x.token.session refl in
    let e : x ∷ entries_of x.token.session xs ≡ [] = sym (ap (λ (b : Bool). cond b (x ∷ entries_of x.token.session xs) (entries_of x.token.session xs)) on) ∙ h x.token.session in
    absurd (cc e)

pub prefix_none : (s : ℕ) (xs zs : List Entry) → IsPrefix xs zs → entries_of s zs ≡ [] → entries_of s xs ≡ []
prefix_none s xs zs p e =
    let parts : entries_of s zs ≡ entries_of s xs ++ entries_of s p.0 = sym (ap (entries_of s) p.1) ∙ filter-append (is_of s) xs p.0 in
    let a = ap length parts in let b = ap length e in let c = length-append (entries_of s xs) (entries_of s p.0) in
    no_length (entries_of s xs) (omega arith)
  where
    no_length : (l : List Entry) → length l ≡ 0 → l ≡ []
    no_length [] q = refl
    no_length (x ∷ l) q = absurd (omega arith)

-- what stands behind a front that has all of a session has rest_empty of it
pub rest_none : (s : ℕ) (xs zs : List Entry) (p : IsPrefix xs zs) → entries_of s xs ≡ entries_of s zs → entries_of s p.0 ≡ []
rest_none s xs zs p e = let parts : entries_of s zs ≡ entries_of s xs ++ entries_of s p.0 = sym (ap (entries_of s) p.1) ∙ filter-append (is_of s) xs p.0 in
    rest_empty (entries_of s xs) (entries_of s p.0) (ap length (e ∙ parts))
