-- Which births somebody holds, by what each holder holds.
use Rattle.std.proofs.Common.{◌≡◌, ℕ, true, false, cond, List, Option, sym, ap, ◌∙◌, arith}
use Rattle.std.specs.Prelude.{not, ◌==◌}
use Rattle.std.specs.List.{count_by}
use Rattle.std.specs.FinMap as fin
use Rattle.std.specs.FinMap.{get-empty}
use Rattle.sf_types.specs.declared.holder.Holder.{Holder}
use Rattle.sf_types.specs.Inside.Holders.{holder_cmp, holder_cmp_total, holder_cmp-IsAntisymmetric}
use Rattle.sf_types.proofs.NumberLemmas.{other_number}
use Rattle.sf_lifetimes.specs.Ledgers.{Holdings, has_birth, held_by, is_live, number_of_holders}
use Rattle.sf_lifetimes.proofs.LedgerLemmas.{holds, holds_one, weight_held}
use Rattle.sf_lifetimes.proofs.MapSumLemmas.{weight, same_sum, no_values}

-- holdings where each holder holds the same have the same number of holders
pub same_number_held : (m n : Holdings) (b : ℕ) → ((x : Holder) → holds b (held_by m x) ≡ holds b (held_by n x)) → number_of_holders b m ≡ number_of_holders b n
same_number_held m n b same =
    same_sum holder_cmp holder_cmp_total holder_cmp-IsAntisymmetric (holds b) (holds b) m n (λ x. weight_held m x b ∙ same x ∙ sym (weight_held n x b))

pub same_live : (m n : Holdings) (b : ℕ) → ((x : Holder) → held_by m x ≡ held_by n x) → is_live m b ≡ is_live n b
same_live m n b same = ap (λ k. not (k == 0)) (same_number_held m n b (λ x. ap (holds b) (same x)))

pub none_holds : (m : Holdings) (b : ℕ) → ((x : Holder) → has_birth (held_by m x) b ≡ false) → is_live m b ≡ false
none_holds m b none =
    ap (λ k. not (k == 0)) (same_number_held m fin.empty b (λ x. ap {B = ℕ} (λ t. cond t 1 0) (none x) ∙ sym (ap (λ (y : Option (List ℕ)). weight (holds b) y) (get-empty holder_cmp x)) ∙ weight_held fin.empty x b)
    ∙ ap (λ (xs : List (List ℕ)). count_by (λ births. has_birth births b) xs) (no_values holder_cmp))

pub holder_live : (m : Holdings) (x : Holder) (b : ℕ) → has_birth (held_by m x) b ≡ true → is_live m b ≡ true
holder_live m x b held =
    let one = holds_one m x b held in
    ap not (other_number (number_of_holders b m) 0 (λ none. omega (arith, one, none)))
