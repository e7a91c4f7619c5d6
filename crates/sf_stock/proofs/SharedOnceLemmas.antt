-- No two shared births of a stock have the same bytes.
use Rattle.std.proofs.Common.{◌≡◌, ℕ, true, false, cond, ◌&&◌, List, [], ◌∷◌, map, Some, None, refl, sym, ap, ◌∙◌}
use Rattle.std.specs.Prelude.{bytes_eq}
use Rattle.std.specs.List.{AllByRecursion as Each, cons_option}
use Rattle.std.specs.List.Sorted.{IsStrictlySortedBy}
use Rattle.std.specs.Map.{keys_of}
use Rattle.std.specs.declared.cmp.Ordering.TheVariants.{Less}
use Rattle.std.specs.Ordering.{nat_cmp, is_eq, eq_by_cmp}
use Rattle.std.specs.Cmp.{eq_by_cmp_equiv, nat_cmp_total, unsigned_ties}
use Rattle.std.specs.Cmp.Lexicographic.{same_text}
use Rattle.sf_types.proofs.NumberLemmas.{own_number}
use Rattle.sf_dedup.specs.Contents.{AreDistinct, Contents, content_at}
use Rattle.sf_lifetimes.specs.Ledgers.{Places}
use Rattle.sf_stock.specs.Stocks.{AreSharedOnce, is_shared_with}
use Rattle.sf_stock.specs.Inside.Keeps.{KnownMap, shared_in, stocked_in}

-- births rise, one by one
abbrev AreRising : Contents → Type 0
AreRising [] = Unit {0}
AreRising (e ∷ es) = Each (λ d. nat_cmp e.0 d.0 ≡ Less) es × AreRising es

rising_from : (es : Contents) → IsStrictlySortedBy nat_cmp (keys_of es) → AreRising es
unfolding IsStrictlySortedBy
rising_from [] rising = tt
rising_from (e ∷ es) rising = (above es rising.0, rising_from es rising.1)
  where
    above : (ds : Contents) → Each (λ b. nat_cmp e.0 b ≡ Less) (keys_of ds) → Each (λ d. nat_cmp e.0 d.0 ≡ Less) ds
    above [] all = tt
    above (d ∷ ds) all = (all.0, above ds all.1)

-- each entry is what the contents have at its birth
members : (es : Contents) → AreRising es → Each (λ d. content_at es d.0 ≡ Some d.1) es
members [] rising = tt
members (e ∷ es) rising = (ap (λ t. cond t (Some e.1) (content_at es e.0)) (sym (unsigned_ties e.0 e.0) ∙ own_number e.0), behind es rising.0 (members es rising.1))
  where
    behind : (ds : Contents) → Each (λ d. nat_cmp e.0 d.0 ≡ Less) ds → Each (λ d. content_at es d.0 ≡ Some d.1) ds → Each (λ d. content_at (e ∷ es) d.0 ≡ Some d.1) ds
    behind [] above there = tt
    behind (d ∷ ds) above there =
        (ap (λ t. cond t (Some e.1) (content_at es d.0)) ((eq_by_cmp_equiv nat_cmp_total).symm d.0 e.0 ∙ ap is_eq above.0) ∙ there.0, behind ds above.1 there.1)

-- no two entries have the same bytes
abbrev AreApart : Contents → Type 0
AreApart [] = Unit {0}
AreApart (e ∷ es) = Each (λ d. bytes_eq d.1 e.1 ≡ false) es × AreApart es

apart_each : (all es : Contents) → ((birth other : ℕ) (bytes : List ℕ) → content_at all birth ≡ Some bytes → content_at all other ≡ Some bytes → birth ≡ other)
    → AreRising es → Each (λ d. content_at all d.0 ≡ Some d.1) es → AreApart es
apart_each all [] differ rising there = tt
apart_each all (e ∷ es) differ rising there = (others es rising.0 there.1, apart_each all es differ rising.1 there.1)
  where
    others : (ds : Contents) → Each (λ d. nat_cmp e.0 d.0 ≡ Less) ds → Each (λ d. content_at all d.0 ≡ Some d.1) ds → Each (λ d. bytes_eq d.1 e.1 ≡ false) ds
    others [] above have = tt
    others (d ∷ ds) above have = (
      elim (bytes_eq d.1 e.1) as (λ t. bytes_eq d.1 e.1 ≡ t → t ≡ false) [
        | true ↦ λ is.
            let one : d.0 ≡ e.0 = differ d.0 e.0 e.1 (have.0 ∙ ap Some (same_text d.1 e.1 (sym is))) there.0 in
            sym (sym (unsigned_ties e.0 e.0) ∙ own_number e.0) ∙ ap (λ b. eq_by_cmp nat_cmp e.0 b) (sym one) ∙ ap is_eq above.0
        | false ↦ λ _. refl
      ] refl,
      others ds above.1 have.1,
    )

-- what holds of the shared contents holds of the stock
others_known : (places : Places) (bytes : List ℕ) (known : KnownMap) → Each (λ d. bytes_eq d.1 bytes ≡ false) (shared_in known) → Each (λ y. is_shared_with bytes y ≡ false) (map (stocked_in places) known)
others_known places bytes [] all = tt
others_known places bytes (d ∷ known) all =
    elim d.1.is_shared as (λ t. Each (λ x. bytes_eq x.1 bytes ≡ false) (cons_option {X = ℕ × List ℕ} (cond t (Some (d.0, d.1.content)) None) (shared_in known))
    → ((t && bytes_eq d.1.content bytes) ≡ false) × Each (λ y. is_shared_with bytes y ≡ false) (map (stocked_in places) known)) [
      | true ↦ λ parts. (parts.0, others_known places bytes known parts.1)
      | false ↦ λ parts. (refl, others_known places bytes known parts)
    ] all

none_shared : (places : Places) (bytes : List ℕ) (known : KnownMap) → Each (λ y. (false && is_shared_with bytes y) ≡ false) (map (stocked_in places) known)
none_shared places bytes [] = tt
none_shared places bytes (d ∷ known) = (refl, none_shared places bytes known)

once_known : (places : Places) (known : KnownMap) → AreApart (shared_in known) → AreSharedOnce (map (stocked_in places) known)
once_known places [] apart = tt
once_known places (e ∷ known) apart =
    elim e.1.is_shared as (λ t. AreApart (cons_option {X = ℕ × List ℕ} (cond t (Some (e.0, e.1.content)) None) (shared_in known))
    → Each (λ y. (t && is_shared_with e.1.content y) ≡ false) (map (stocked_in places) known) × AreSharedOnce (map (stocked_in places) known)) [
      | true ↦ λ parts. (others_known places e.1.content known parts.0, once_known places known parts.1)
      | false ↦ λ parts. (none_shared places e.1.content known, once_known places known parts)
    ] apart

pub shared_once : (places : Places) (known : KnownMap) → AreDistinct (shared_in known) → AreSharedOnce (map (stocked_in places) known)
shared_once places known distinct =
    let rising = rising_from (shared_in known) distinct.rising in
    once_known places known (apart_each (shared_in known) (shared_in known) distinct.apart rising (members (shared_in known) rising))
