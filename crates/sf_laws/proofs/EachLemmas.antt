-- What holds of each element of a list.
use Rattle.std.proofs.Common.{◌≡◌, ℕ, zero, suc, Bool, true, false, cond, List, [], ◌∷◌, ◌++◌, map, take, drop, replicate, Option, Some, None, refl, subst}
use Rattle.std.specs.Prelude.{filter, flat_map, find, slice_get, slice_set, unwrap_or, Contains}
use Rattle.std.specs.List.{AllByRecursion as Each, filter_map, cons_option}
use Rattle.std.specs.Option.{IfSome}
use Rattle.std.proofs.lemmas.List.Elements.{All-from_recursion, recursion_from_All, All-contains, All-contains_itself}

pub each_weaker : {X : Type 0} (P Q : X → Type 0) (xs : List X) → ((x : X) → P x → Q x) → Each P xs → Each Q xs
each_weaker P Q [] f all = tt
each_weaker P Q (x ∷ xs) f all = (f x all.0, each_weaker P Q xs f all.1)

pub each_of_any : {X : Type 0} (P : X → Type 0) (xs : List X) → ((x : X) → P x) → Each P xs
each_of_any P [] f = tt
each_of_any P (x ∷ xs) f = (f x, each_of_any P xs f)

pub each_both : {X : Type 0} (P Q R : X → Type 0) (xs : List X) → ((x : X) → P x → Q x → R x) → Each P xs → Each Q xs → Each R xs
each_both P Q R [] f p q = tt
each_both P Q R (x ∷ xs) f p q = (f x p.0 q.0, each_both P Q R xs f p.1 q.1)

pub each-append : {X : Type 0} (P : X → Type 0) (xs ys : List X) → Each P xs → Each P ys → Each P (xs ++ ys)
each-append P [] ys a b = b
each-append P (x ∷ xs) ys a b = (a.0, each-append P xs ys a.1 b)

pub each_left : {X : Type 0} (P : X → Type 0) (xs ys : List X) → Each P (xs ++ ys) → Each P xs
each_left P [] ys all = tt
each_left P (x ∷ xs) ys all = (all.0, each_left P xs ys all.1)

pub each_right : {X : Type 0} (P : X → Type 0) (xs ys : List X) → Each P (xs ++ ys) → Each P ys
each_right P [] ys all = all
each_right P (x ∷ xs) ys all = each_right P xs ys all.1

pub each-take : {X : Type 0} (P : X → Type 0) (n : ℕ) (xs : List X) → Each P xs → Each P (take n xs)
each-take P zero xs all = tt
each-take P (suc n) [] all = tt
each-take P (suc n) (x ∷ xs) all = (all.0, each-take P n xs all.1)

pub each-drop : {X : Type 0} (P : X → Type 0) (n : ℕ) (xs : List X) → Each P xs → Each P (drop n xs)
each-drop P zero xs all = all
each-drop P (suc n) [] all = tt
each-drop P (suc n) (x ∷ xs) all = each-drop P n xs all.1

pub each-replicate : {X : Type 0} (P : X → Type 0) (n : ℕ) (x : X) → P x → Each P (replicate n x)
each-replicate P zero x is = tt
each-replicate P (suc n) x is = (is, each-replicate P n x is)

pub each-map : {X Y : Type 0} (P : Y → Type 0) (f : X → Y) (xs : List X) → Each (λ x. P (f x)) xs → Each P (map f xs)
each-map P f [] all = tt
each-map P f (x ∷ xs) all = (all.0, each-map P f xs all.1)

pub each_from_map : {X Y : Type 0} (P : Y → Type 0) (f : X → Y) (xs : List X) → Each P (map f xs) → Each (λ x. P (f x)) xs
each_from_map P f [] all = tt
each_from_map P f (x ∷ xs) all = (all.0, each_from_map P f xs all.1)

pub each-flat_map : {X Y : Type 0} (P : Y → Type 0) (f : X → List Y) (xs : List X) → Each (λ x. Each P (f x)) xs → Each P (flat_map f xs)
each-flat_map P f [] all = tt
each-flat_map P f (x ∷ xs) all = each-append P (f x) (flat_map f xs) all.0 (each-flat_map P f xs all.1)

pub each_from_flat_map : {X Y : Type 0} (P : Y → Type 0) (f : X → List Y) (xs : List X) → Each P (flat_map f xs) → Each (λ x. Each P (f x)) xs
each_from_flat_map P f [] all = tt
each_from_flat_map P f (x ∷ xs) all = (each_left P (f x) (flat_map f xs) all, each_from_flat_map P f xs (each_right P (f x) (flat_map f xs) all))

kept_at : {X : Type 0} (P : X → Type 0) (b : Bool) (x : X) (xs : List X) → P x → Each P xs → Each P (cond b (x ∷ xs) xs)
kept_at P true x xs is all = (is, all)
kept_at P false x xs is all = all

pub each-filter : {X : Type 0} (P : X → Type 0) (test : X → Bool) (xs : List X) → Each P xs → Each P (filter test xs)
each-filter P test [] all = tt
each-filter P test (x ∷ xs) all = kept_at P (test x) x (filter test xs) all.0 (each-filter P test xs all.1)

cons_holds : {Y : Type 0} (P : Y → Type 0) (o : Option Y) (ys : List Y) → IfSome o P → Each P ys → Each P (cons_option o ys)
cons_holds P None ys is all = all
cons_holds P (Some y) ys is all = (is, all)

cons_first : {Y : Type 0} (P : Y → Type 0) (o : Option Y) (ys : List Y) → Each P (cons_option o ys) → IfSome o P
cons_first P None ys all = tt
cons_first P (Some y) ys all = all.0

cons_rest : {Y : Type 0} (P : Y → Type 0) (o : Option Y) (ys : List Y) → Each P (cons_option o ys) → Each P ys
cons_rest P None ys all = all
cons_rest P (Some y) ys all = all.1

pub each-filter_map : {X Y : Type 0} (P : Y → Type 0) (h : X → Option Y) (xs : List X) → Each (λ x. IfSome (h x) P) xs → Each P (filter_map h xs)
each-filter_map P h [] all = tt
each-filter_map P h (x ∷ xs) all = cons_holds P (h x) (filter_map h xs) all.0 (each-filter_map P h xs all.1)

pub each_from_filter_map : {X Y : Type 0} (P : Y → Type 0) (h : X → Option Y) (xs : List X) → Each P (filter_map h xs) → Each (λ x. IfSome (h x) P) xs
each_from_filter_map P h [] all = tt
each_from_filter_map P h (x ∷ xs) all = (cons_first P (h x) (filter_map h xs) all, each_from_filter_map P h xs (cons_rest P (h x) (filter_map h xs) all))

pub each-set : {X : Type 0} (P : X → Type 0) (xs : List X) (i : ℕ) (y : X) → P y → Each P xs → Each P (slice_set xs i y)
each-set P [] i y is all = tt
each-set P (x ∷ xs) zero y is all = (is, all.1)
each-set P (x ∷ xs) (suc i) y is all = (all.0, each-set P xs i y is all.1)

pub each_at : {X : Type 0} (P : X → Type 0) (xs : List X) (i : ℕ) (d : X) → P d → Each P xs → P (unwrap_or (slice_get xs i) d)
each_at P [] i d is all = is
each_at P (x ∷ xs) zero d is all = all.0
each_at P (x ∷ xs) (suc i) d is all = each_at P xs i d is all.1

-- what a search gives has what each has, and passes the test
found_at : {X : Type 0} (P : X → Type 0) (test : X → Bool) (b : Bool) (x y : X) (rest : Option X) → test x ≡ b → P x → (rest ≡ Some y → P y × (test y ≡ true)) → cond b (Some x) rest ≡ Some y → P y × (test y ≡ true)
found_at P test true x y rest passes is later same = let e : x ≡ y = cc in subst (λ z. P z × (test z ≡ true)) e (is, passes)
found_at P test false x y rest passes is later same = later same

pub each_found : {X : Type 0} (P : X → Type 0) (test : X → Bool) (xs : List X) (y : X) → find test xs ≡ Some y → Each P xs → P y × (test y ≡ true)
each_found P test [] y same all = absurd cc
each_found P test (x ∷ xs) y same all = found_at P test (test x) x y (find test xs) refl all.0 (λ h. each_found P test xs y h all.1) same

-- where a search finds nothing
pub none_found : {X : Type 0} (test : X → Bool) (xs : List X) → find test xs ≡ None → Each (λ x. test x ≡ false) xs
none_found test [] is = tt
none_found test (x ∷ xs) is =
    elim (test x) as (λ b. test x ≡ b → cond b (Some x) (find test xs) ≡ None → Each (λ y. test y ≡ false) (x ∷ xs)) [
      | true ↦ λ t h. absurd cc
      | false ↦ λ t h. (t, none_found test xs h)
    ] refl is

-- elements of a list
pub each_contained : {X : Type 0} (P : X → Type 0) (xs : List X) (x : X) → Each P xs → Contains xs x → P x
each_contained P xs x all has = All-contains P xs x (All-from_recursion P xs all) has

pub each_itself : {X : Type 0} (xs : List X) → Each (Contains xs) xs
each_itself xs = recursion_from_All (Contains xs) xs (All-contains_itself xs)
