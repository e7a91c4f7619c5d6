-- Holders, told apart by lists of numbers, so that they can be compared and hashed (our own).
use Rattle.std.specs.Prelude.{◌≡◌, ℕ, true, ◌==◌, T, List, [], ◌∷◌, ◌++◌, nat_eq}
use Rattle.std.proofs.Common.{ap, sym, refl, subst, ◌∙◌}
use Rattle.std.specs.Hash as fed
use Rattle.std.specs.Ordering.{nat_cmp, on, is_eq}
use Rattle.std.specs.Cmp.{IsTotalOrder, on_total}
use Rattle.std.specs.Cmp.Lexicographic.{pointwise, slice_cmp, nat_list_cmp_total, texts_ties}
use Rattle.std.specs.FinMap.{IsAntisymmetric, nat_cmp-IsAntisymmetric, slice_cmp-IsAntisymmetric}
use Rattle.std.specs.declared.cmp.Ordering.{Ordering}
use Rattle.std.specs.declared.cmp.Ordering.TheVariants.{Less, Equal, Greater}
use Rattle.sf_types.specs.declared.holder.Holder.{Holder}
use Rattle.sf_types.specs.declared.holder.Holder.TheVariants.{Version, Session, Promise}

-- The numbers of a holder: its kind, and then what its variant has.
abbrev pub key_of : Holder → List ℕ
key_of (Version name commit) = 0 ∷ commit ∷ name
key_of (Session session) = 1 ∷ session ∷ []
key_of (Promise session) = 2 ∷ session ∷ []

-- The order of holders: by their keys, the first number first.
abbrev pub holder_cmp : Holder → Holder → Ordering
holder_cmp = on key_of (slice_cmp nat_cmp)

pub holder_cmp_total : IsTotalOrder holder_cmp
holder_cmp_total = on_total key_of nat_list_cmp_total

-- What a holder feeds a hasher.
abbrev pub input_of : Holder → List (List ℕ)
input_of (Version name commit) = fed.slice fed.u8 name ++ fed.u64 commit
input_of (Session session) = fed.u16 session
input_of (Promise session) = fed.u16 session

abbrev head : List ℕ → ℕ
head [] = 0
head (x ∷ xs) = x

abbrev rest : List ℕ → List ℕ
rest [] = []
rest (x ∷ xs) = xs

-- Holders with one key are one.
same_holder : (a b : Holder) → key_of a ≡ key_of b → a ≡ b
same_holder (Version name commit) (Version other made) e = λ i. Version (rest (rest (e i))) (head (rest (e i)))
same_holder (Version name commit) (Session session) e = absurd (subst (λ xs. T (head xs == 0)) e tt)
same_holder (Version name commit) (Promise session) e = absurd (subst (λ xs. T (head xs == 0)) e tt)
same_holder (Session session) (Version name commit) e = absurd (subst (λ xs. T (head xs == 1)) e tt)
same_holder (Session session) (Session other) e = λ i. Session (head (rest (e i)))
same_holder (Session session) (Promise other) e = absurd (subst (λ xs. T (head xs == 1)) e tt)
same_holder (Promise session) (Version name commit) e = absurd (subst (λ xs. T (head xs == 2)) e tt)
same_holder (Promise session) (Session other) e = absurd (subst (λ xs. T (head xs == 2)) e tt)
same_holder (Promise session) (Promise other) e = λ i. Promise (head (rest (e i)))

pub holder_cmp-IsAntisymmetric : IsAntisymmetric holder_cmp
holder_cmp-IsAntisymmetric a b e = same_holder a b (slice_cmp-IsAntisymmetric nat_cmp-IsAntisymmetric (key_of a) (key_of b) e)

equal : (r : Ordering) → is_eq r ≡ true → r ≡ Equal
equal Less p = absurd (subst T (sym p) tt)
equal Equal p = refl
equal Greater p = absurd (subst T (sym p) tt)

-- Holders that are equal feed alike.
pub same_input : (a b : Holder) → pointwise nat_eq (key_of a) (key_of b) ≡ true → input_of a ≡ input_of b
same_input a b is = ap input_of (holder_cmp-IsAntisymmetric a b (equal (holder_cmp a b) (sym (texts_ties (key_of a) (key_of b)) ∙ is)))
