-- The reach of a half where a session holds other births, and some versions are given up.
use Rattle.std.proofs.Common.{◌≡◌, ℕ, Bool, true, false, cond, List, [], ◌∷◌, refl, sym, ap, subst, ◌∙◌, inl, inr}
use Rattle.std.specs.Prelude.{◌==◌, ◌||◌, not, filter}
use Rattle.std.specs.List.{AllByRecursion as Each}
use Rattle.sf_types.specs.declared.holder.Holder.{Holder}
use Rattle.sf_types.specs.declared.holder.Holder.TheVariants as holder
use Rattle.sf_types.specs.Inside.Births.{IsRising}
use Rattle.sf_types.specs.Halves.Asks.{Half}
use Rattle.sf_types.specs.Halves.Flushes.{half_reach}
use Rattle.sf_types.proofs.NumberLemmas.{same_number, own_number}
use Rattle.sf_laws.proofs.PlacingLemmas.{rising_births-filter}
use Rattle.sf_lifetimes.specs.Ledgers.{Holdings, has_birth, held_by, is_live, with_births, without_holders}
use Rattle.sf_lifetimes.proofs.LedgerLemmas.{holds, is_at}
use Rattle.sf_stock.specs.Stocks.{Stocked, births_of, is_stocked}
use Rattle.sf_stock.proofs.LeaveLemmas.{live_before}
use Rattle.sf_versions.specs.VersionTables.{AreCommits}
use Rattle.sf_store_half.specs.Fields.{held_in}
use Rattle.sf_store_half.specs.Inside.Trials.{is_reached}
use Rattle.sf_store_half.proofs.HeldLemmas.{held_after, is_holder, same_session}
use Rattle.sf_store_half.proofs.LiveLemmas.{holder_live, same_number_held}
use Rattle.sf_store_half.proofs.StockReachLemmas.{births_reached}

own_holder : (m : Holdings) (y : Holder) (births : List ℕ) → is_holder y y ≡ true → held_by (with_births m y births) y ≡ births
own_holder m y births own = held_after m y births y ∙ ap (λ t. cond t births (held_by m y)) own

-- the births that somebody holds once a holder holds these: those that others hold, and these
pub live_with : (m : Holdings) (y : Holder) (births : List ℕ) (b : ℕ) → is_holder y y ≡ true → is_live (with_births m y births) b ≡ (is_live (with_births m y []) b || has_birth births b)
live_with m y births b own =
    elim (has_birth births b) as (λ t. has_birth births b ≡ t → is_live (with_births m y births) b ≡ (is_live (with_births m y []) b || t)) [
      | true ↦ λ has.
          holder_live (with_births m y births) y b (ap (λ bs. has_birth bs b) (own_holder m y births own) ∙ has) ∙ sym (always (is_live (with_births m y []) b))
      | false ↦ λ lacks.
          ap (λ k. not (k == 0)) (same_number_held (with_births m y births) (with_births m y []) b (λ x.
          ap (holds b) (held_after m y births x) ∙ alike x lacks (is_holder x y) ∙ sym (ap (holds b) (held_after m y [] x))))
          ∙ sym (plain (is_live (with_births m y []) b))
    ] refl
  where
    always : (t : Bool) → (t || true) ≡ true
    always true = refl
    always false = refl

    plain : (t : Bool) → (t || false) ≡ t
    plain true = refl
    plain false = refl

    alike : (x : Holder) → has_birth births b ≡ false → (t : Bool) → holds b (cond t births (held_by m x)) ≡ holds b (cond t [] (held_by m x))
    alike x lacks true = ap {B = ℕ} (λ t. cond t 1 0) lacks
    alike x lacks false = refl

-- a birth that somebody holds where some hold nothing was held before
pub live_less : (m : Holdings) (holders : List Holder) (b : ℕ) → is_live (without_holders m holders) b ≡ true → is_live m b ≡ true
live_less m [] b live = live
live_less m (y ∷ holders) b live =
    elim (live_before (without_holders m holders) y [] b live) [
      | inl bad ↦ absurd cc
      | inr before ↦ live_less m holders b before
    ]

births_filtered : (g : ℕ → Bool) (xs : List Stocked) → births_of (filter (λ x. g x.birth) xs) ≡ filter g (births_of xs)
births_filtered g [] = refl
births_filtered g (x ∷ xs) =
    elim (g x.birth) as (λ t. births_of (cond t (x ∷ filter (λ y. g y.birth) xs) (filter (λ y. g y.birth) xs)) ≡ cond t (x.birth ∷ filter g (births_of xs)) (filter g (births_of xs))) [
      | true ↦ ap (λ (bs : List ℕ). x.birth ∷ bs) (births_filtered g xs)
      | false ↦ births_filtered g xs
    ]

pub stocked_filtered : (g : ℕ → Bool) (xs : List Stocked) (b : ℕ) → g b ≡ true → is_stocked xs b ≡ true → is_stocked (filter (λ x. g x.birth) xs) b ≡ true
stocked_filtered g [] b passes there = there
stocked_filtered g (x ∷ xs) b passes there =
    elim (g x.birth) as (λ t. g x.birth ≡ t → is_stocked (cond t (x ∷ filter (λ y. g y.birth) xs) (filter (λ y. g y.birth) xs)) b ≡ true) [
      | true ↦ λ _. first (b == x.birth) there (λ later. stocked_filtered g xs b passes later)
      | false ↦ λ fails. stocked_filtered g xs b passes (behind fails (b == x.birth) refl there)
    ] refl
  where
    first : (t : Bool) → (t || is_stocked xs b) ≡ true → (is_stocked xs b ≡ true → is_stocked (filter (λ y. g y.birth) xs) b ≡ true) → (t || is_stocked (filter (λ y. g y.birth) xs) b) ≡ true
    first true there later = refl
    first false there later = later there

    behind : g x.birth ≡ false → (t : Bool) → (b == x.birth) ≡ t → (t || is_stocked xs b) ≡ true → is_stocked xs b ≡ true
    behind fails true is there = let same : g b ≡ g x.birth = ap g (same_number b x.birth is) in let bad : true ≡ false = sym passes ∙ same ∙ fails in absurd cc
    behind fails false is there = there

each_filtered : (g : ℕ → Bool) (xs : List Stocked) → Each (λ x. g x.birth ≡ true) (filter (λ x. g x.birth) xs)
each_filtered g [] = tt
each_filtered g (x ∷ xs) =
    elim (g x.birth) as (λ t. g x.birth ≡ t → Each (λ y. g y.birth ≡ true) (cond t (x ∷ filter (λ y. g y.birth) xs) (filter (λ y. g y.birth) xs))) [
      | true ↦ λ is. (is, each_filtered g xs)
      | false ↦ λ _. each_filtered g xs
    ] refl

each_same : (P Q : Stocked → Type 0) (xs : List Stocked) → ((x : Stocked) → P x → Q x) → Each P xs → Each Q xs
each_same P Q [] to all = tt
each_same P Q (x ∷ xs) to all = (to x all.0, each_same P Q xs to all.1)

pub own_session : (s : ℕ) → is_holder (holder.Session s) (holder.Session s) ≡ true
own_session s = same_session s s ∙ own_number s

-- the births of a stock that would be reached are those in reach of a half where each holder holds the same
pub tried_are_reached : (m : Holdings) (xs : List Stocked) (gone : List Holder) (s : ℕ) (births : List ℕ) (h : Half) → AreCommits h.commits
    → ((x : Holder) → held_by (with_births (without_holders m gone) (holder.Session s) births) x ≡ held_in h x)
    → IsRising (births_of xs) → ((b : ℕ) → is_live m b ≡ true → is_stocked xs b ≡ true) → Each (λ b. is_stocked xs b ≡ true) births
    → births_of (filter (λ x. is_reached m (holder.Session s ∷ gone) births x.birth) xs) ≡ half_reach h
tried_are_reached m xs gone s births h commits held rising stocked brought =
    let after : Holdings = with_births (without_holders m gone) (holder.Session s) births in
    let test : ℕ → Bool = is_reached m (holder.Session s ∷ gone) births in
    let same : (b : ℕ) → is_live after b ≡ test b = λ b. live_with (without_holders m gone) (holder.Session s) births b (own_session s) in
    births_reached after h (filter (λ x. test x.birth) xs) commits held
    (subst IsRising (sym (births_filtered test xs)) (rising_births-filter test (births_of xs) rising))
    (λ b live. let passes : test b ≡ true = sym (same b) ∙ live in stocked_filtered test xs b passes (there b (is_live (without_holders m (holder.Session s ∷ gone)) b) refl passes))
    (each_same (λ x. test x.birth ≡ true) (λ x. is_live after x.birth ≡ true) (filter (λ x. test x.birth) xs) (λ x is. same x.birth ∙ is) (each_filtered test xs))
  where
    there : (b : ℕ) (t : Bool) → is_live (without_holders m (holder.Session s ∷ gone)) b ≡ t → (t || has_birth births b) ≡ true → is_stocked xs b ≡ true
    there b true live either = stocked b (live_less m (holder.Session s ∷ gone) b live)
    there b false dead either = is_at (λ c. is_stocked xs c ≡ true) b births brought either
