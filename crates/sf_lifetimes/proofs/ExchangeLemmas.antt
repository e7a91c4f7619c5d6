-- One holder more, and then one fewer.
use Rattle.std.proofs.Common.{◌≡◌, ℕ, ◌+◌, ◌-◌, ◌≤◌, Bool, true, false, cond, List, Option, Some, None, refl, sym, ap, ◌∙◌, arith}
use Rattle.std.specs.Prelude.{◌==◌, is_some}
use Rattle.std.specs.FinMap as fin
use Rattle.std.proofs.lemmas.Bool.Decides.{nat_tests}
use Rattle.sf_lifetimes.specs.declared.counted.Counted.{Counted}
use Rattle.sf_lifetimes.specs.Inside.Counts.{CountedMap, AreChangedBut, AreExchanged, AreFew, AreHeld, with_one_more, with_one_fewer, holders_in}
use Rattle.sf_lifetimes.specs.Ledgers.{has_birth}
use Rattle.sf_types.proofs.NumberLemmas.{same_number}
use Rattle.sf_lifetimes.proofs.CountLemmas.{with_holders}

raise_one : (x : Option Counted) → is_some x ≡ true → holders_in (with_one_more x) ≡ holders_in x + 1
raise_one None is = absurd cc
raise_one (Some c) is = refl

-- what a birth has where it may be raised
pub raised_at : (m : CountedMap) (new : List ℕ) → AreFew m new → (b : ℕ) → holders_in (cond (has_birth new b) (with_one_more (fin.get m b)) (fin.get m b)) ≡ holders_in (fin.get m b) + cond (has_birth new b) 1 0
raised_at m new few b =
    elim (has_birth new b) as (λ t. has_birth new b ≡ t → holders_in (cond t (with_one_more (fin.get m b)) (fin.get m b)) ≡ holders_in (fin.get m b) + cond t 1 0) [
      | true ↦ λ t. raise_one (fin.get m b) (few b t).0
      | false ↦ λ t. omega arith
    ] refl

-- one holder more, and then one fewer, leaves a place that some holder holds
fewer_more : (x : Option Counted) → 1 ≤ holders_in x → with_one_fewer (with_one_more x) ≡ x
fewer_more None some = absurd (omega (arith, some))
fewer_more (Some c) some =
    let more : (c.holders + 1 == 1) ≡ false = grind (arith, nat_tests, some) in
    let same : c.holders + 1 - 1 ≡ c.holders = omega arith in
    ap (λ t. cond t None (Some (with_holders c (c.holders + 1 - 1)))) more ∙ ap (λ h. Some (with_holders c h)) same

both_changed : (old new : Bool) (x : Option Counted) → (old ≡ true → with_one_fewer (with_one_more x) ≡ x)
    → cond new (cond old (cond old (cond new x (with_one_fewer x)) x) (with_one_more (cond old (cond new x (with_one_fewer x)) x))) (cond old (cond new x (with_one_fewer x)) x)
    ≡ cond old (with_one_fewer (cond new (with_one_more x) x)) (cond new (with_one_more x) x)
both_changed true true x same = sym (same refl)
both_changed true false x same = refl
both_changed false true x same = refl
both_changed false false x same = refl

-- what births that stand in one list alone have changed is what all have
pub exchanged_but : (m n p : CountedMap) (new old : List ℕ) → AreHeld m old → AreChangedBut with_one_fewer m old new n → AreChangedBut with_one_more n new old p → AreExchanged m old new p
exchanged_but m n p new old held down up q =
    up q
    ∙ ap (λ x. cond (has_birth new q) (cond (has_birth old q) x (with_one_more x)) x) (down q)
    ∙ both_changed (has_birth old q) (has_birth new q) (fin.get m q) (λ is. fewer_more (fin.get m q) (held q is))

-- the new births have what they had before the old ones went
either_way : (t : Bool) (x : Option Counted) → cond t x x ≡ x
either_way true x = refl
either_way false x = refl

new_kept : (m n : CountedMap) (new old : List ℕ) → AreChangedBut with_one_fewer m old new n → (b : ℕ) → has_birth new b ≡ true → fin.get n b ≡ fin.get m b
new_kept m n new old down b is =
    down b
    ∙ ap (λ t. cond (has_birth old b) (cond t (fin.get m b) (with_one_fewer (fin.get m b))) (fin.get m b)) is
    ∙ either_way (has_birth old b) (fin.get m b)

pub still_few : (m n : CountedMap) (new old : List ℕ) → AreFew m new → AreChangedBut with_one_fewer m old new n → AreFew n new
still_few m n new old few down b is =
    let same = new_kept m n new old down b is in
    (ap (λ x. is_some x) same ∙ (few b is).0, omega (arith, ap holders_in same, (few b is).1))

release_one : (x : Option Counted) → 1 ≤ holders_in x → holders_in (with_one_fewer x) + 1 ≡ holders_in x
release_one None some = absurd (omega (arith, some))
release_one (Some c) some =
    elim (c.holders == 1) as (λ t. (c.holders == 1) ≡ t → holders_in (cond t None (Some (with_holders c (c.holders - 1)))) + 1 ≡ c.holders) [
      | true ↦ λ t. sym (same_number c.holders 1 t)
      | false ↦ λ t. omega (arith, some)
    ] refl

-- the number of holders that a birth has after an exchange
pub exchanged_count : (m p : CountedMap) (new old : List ℕ) → AreFew m new → AreHeld m old → AreExchanged m old new p → (b : ℕ) → holders_in (fin.get p b) + cond (has_birth old b) 1 0 ≡ holders_in (fin.get m b) + cond (has_birth new b) 1 0
exchanged_count m p new old few held changed b =
    let r = cond (has_birth new b) (with_one_more (fin.get m b)) (fin.get m b) in
    let more = raised_at m new few b in
    let now = elim (has_birth old b) as (λ t. has_birth old b ≡ t → holders_in (cond t (with_one_fewer r) r) + cond t 1 0 ≡ holders_in r) [
      | true ↦ λ t. release_one r (omega (arith, held b t, more))
      | false ↦ λ t. omega arith
    ] refl in
    omega (arith, ap holders_in (changed b), more, now)
