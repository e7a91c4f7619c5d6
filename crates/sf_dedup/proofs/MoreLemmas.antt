-- One content more.
use Rattle.std.proofs.Common.{◌≡◌, ℕ, true, false, cond, ◌||◌, List, [], ◌∷◌, ◌++◌, Some, None, ⊎_elim, refl, sym, ap, subst, ◌∙◌}
use Rattle.std.specs.Prelude.{T, is_some}
use Rattle.std.specs.Option.{option_map}
use Rattle.std.specs.Ordering.{nat_cmp, eq_by_cmp}
use Rattle.std.specs.Cmp.{nat_cmp_total}
use Rattle.std.specs.Cmp.Lexicographic.{nat_list_cmp_total}
use Rattle.std.specs.FinMap.{nat_cmp-IsAntisymmetric}
use Rattle.std.specs.FinMap.Entries.{is_sorted}
use Rattle.sf_types.proofs.BoolLemmas.{either, or-true}
use Rattle.sf_room_map.specs.Entries.{value_for, with_value}
use Rattle.sf_room_map.proofs.EntryLemmas as entry
use Rattle.sf_dedup.specs.declared.index.IndexEntry.{IndexEntry}
use Rattle.sf_dedup.specs.Prints.{print_of}
use Rattle.sf_dedup.specs.Contents.{content_at, birth_with}
use Rattle.sf_types.specs.Play.Blocks.{is_among}
use Rattle.sf_dedup.specs.Inside.Filing.{EntryMap, plain_contents, Firsts, first_at, is_first, firsts_with, others_with, IsFiled}
use Rattle.sf_dedup.proofs.ContentLemmas.{DifferInBytes, birth_is_found}
use Rattle.sf_dedup.proofs.FilingLemmas.{sum_cmp, sums_exact, plain-with, sorted_contents, first_from, is_first_from, among-push, among-last, among-push_cases}

no_filed : (m : EntryMap) (birth q : ℕ) (sum : List ℕ) → value_for nat_cmp m birth ≡ None → option_map (λ x. x.print.sum) (value_for nat_cmp m q) ≡ Some sum → q ≡ birth → ⊥
no_filed m birth q sum none is same = let bad = sym is ∙ ap (λ k. option_map (λ (x : IndexEntry). x.print.sum) (value_for nat_cmp m k)) same ∙ ap (option_map (λ (x : IndexEntry). x.print.sum)) none in cc

-- what is said of births that are there stays where a new one is put
module _ (m : EntryMap) (b : ℕ) (x : IndexEntry) (new : value_for nat_cmp m b ≡ None) where
  abbrev more : EntryMap
  more = with_value nat_cmp m b x

  apart_more : T (is_sorted nat_cmp m) → DifferInBytes (plain_contents m) → birth_with (plain_contents m) x.content ≡ None → DifferInBytes (plain_contents more)
  apart_more sorted apart none birth other bytes is also =
      let old = plain_contents m in
      let at = λ (q : ℕ) (found : content_at (plain_contents more) q ≡ Some bytes). entry.with_cases nat_cmp nat_cmp_total nat_cmp-IsAntisymmetric old b x.content q bytes (subst (λ c. content_at c q ≡ Some bytes) (plain-with m b x) found) in
      ⊎_elim
      (λ here. ⊎_elim (λ too. here.0 ∙ sym too.0) (λ there. absurd (clash sorted apart none other bytes here.1 there.1)) (at other also))
      (λ there. ⊎_elim (λ too. absurd (clash sorted apart none birth bytes too.1 there.1)) (λ too. apart birth other bytes there.1 too.1) (at other also))
      (at birth is)
    where
      clash : T (is_sorted nat_cmp m) → DifferInBytes (plain_contents m) → birth_with (plain_contents m) x.content ≡ None → (q : ℕ) (bytes : List ℕ) → x.content ≡ bytes → content_at (plain_contents m) q ≡ Some bytes → ⊥
      clash sorted apart none q bytes same found = let bad = sym none ∙ ap (birth_with (plain_contents m)) same ∙ birth_is_found (plain_contents m) q bytes (sorted_contents m sorted) apart found in cc

  stays : (q : ℕ) (sum : List ℕ) → option_map (λ (y : IndexEntry). y.print.sum) (value_for nat_cmp m q) ≡ Some sum → option_map (λ (y : IndexEntry). y.print.sum) (value_for nat_cmp more q) ≡ Some sum
  stays q sum is =
      ap (option_map (λ (y : IndexEntry). y.print.sum)) (entry.with_other nat_cmp nat_cmp_total nat_cmp-IsAntisymmetric m b x q (entry.other_key nat_cmp nat_cmp_total nat_cmp-IsAntisymmetric q b (no_filed m b q sum new is))) ∙ is

  here : value_for nat_cmp more b ≡ Some x
  here = entry.with_here nat_cmp nat_cmp_total nat_cmp-IsAntisymmetric m b x

  there_more : (q : ℕ) → is_some (value_for nat_cmp m q) ≡ true → is_some (value_for nat_cmp more q) ≡ true
  there_more q is =
      elim (eq_by_cmp nat_cmp q b) as (λ t. eq_by_cmp nat_cmp q b ≡ t → is_some (value_for nat_cmp more q) ≡ true) [
        | true ↦ λ same. ap (λ k. is_some (value_for nat_cmp more k)) (entry.same_key nat_cmp nat_cmp_total nat_cmp-IsAntisymmetric q b same) ∙ ap is_some here
        | false ↦ λ apart. ap is_some (entry.with_other nat_cmp nat_cmp_total nat_cmp-IsAntisymmetric m b x q apart) ∙ is
      ] refl

  prints_more : ((q : ℕ) (y : IndexEntry) → value_for nat_cmp m q ≡ Some y → y.print ≡ print_of y.content) → x.print ≡ print_of x.content → (q : ℕ) (y : IndexEntry) → value_for nat_cmp more q ≡ Some y → y.print ≡ print_of y.content
  prints_more prints own q y is =
      ⊎_elim (λ same. subst (λ (z : IndexEntry). z.print ≡ print_of z.content) same.1 own) (λ old. prints q y old.1) (entry.with_cases nat_cmp nat_cmp_total nat_cmp-IsAntisymmetric m b x q y is)

-- a birth whose digest is new
first_filed : (m : EntryMap) (firsts : Firsts) (others : List ℕ) (b : ℕ) (x : IndexEntry) → IsFiled m firsts others → value_for nat_cmp m b ≡ None → x.print ≡ print_of x.content → birth_with (plain_contents m) x.content ≡ None → first_at firsts x.print.sum ≡ None
    → IsFiled (with_value nat_cmp m b x) (with_value sum_cmp firsts x.print.sum b) others
first_filed m firsts others b x filed new own none free =
    let s = x.print.sum in
    record {
      rising = entry.sorted_with nat_cmp nat_cmp_total m b x filed.rising;
      ordered = entry.sorted_with sum_cmp nat_list_cmp_total firsts s b filed.ordered;
      prints = prints_more m b x new filed.prints own;
      apart = apart_more m b x new filed.rising filed.apart none;
      under = λ sum q is. ⊎_elim
          (λ same. ap (option_map (λ (y : IndexEntry). y.print.sum)) (ap (value_for nat_cmp (with_value nat_cmp m b x)) (sym same.1) ∙ here m b x new) ∙ ap Some (sym same.0))
          (λ old. stays m b x new q sum (filed.under sum q old.1))
          (entry.with_cases sum_cmp nat_list_cmp_total sums_exact firsts s b sum q is);
      stands = λ q y is. ⊎_elim
          (λ same. first_or (with_value sum_cmp firsts s b) others y.print.sum q
          (is_first_from (with_value sum_cmp firsts s b) y.print.sum q (ap (λ (z : IndexEntry). first_at (with_value sum_cmp firsts s b) z.print.sum) (sym same.1) ∙ entry.with_here sum_cmp nat_list_cmp_total sums_exact firsts s b ∙ ap Some (sym same.0))))
          (λ old. ⊎_elim
          (λ first. first_or (with_value sum_cmp firsts s b) others y.print.sum q (is_first_from (with_value sum_cmp firsts s b) y.print.sum q (kept_first y.print.sum q (first_from firsts y.print.sum q first))))
          (λ other. or-true (is_first (with_value sum_cmp firsts s b) y.print.sum q) (is_among others q) other)
          (either (is_first firsts y.print.sum q) (is_among others q) (filed.stands q y old.1)))
          (entry.with_cases nat_cmp nat_cmp_total nat_cmp-IsAntisymmetric m b x q y is);
      there = λ q is. there_more m b x new q (filed.there q is);
    }
  where
    first_or : (firsts : Firsts) (others : List ℕ) (sum : List ℕ) (q : ℕ) → is_first firsts sum q ≡ true → (is_first firsts sum q || is_among others q) ≡ true
    first_or firsts others sum q is = ap (λ t. t || is_among others q) is

    kept_first : (sum : List ℕ) (q : ℕ) → first_at firsts sum ≡ Some q → first_at (with_value sum_cmp firsts x.print.sum b) sum ≡ Some q
    kept_first sum q is =
        entry.with_other sum_cmp nat_list_cmp_total sums_exact firsts x.print.sum b sum
        (entry.other_key sum_cmp nat_list_cmp_total sums_exact sum x.print.sum (λ same. let bad = sym is ∙ ap (first_at firsts) same ∙ free in cc)) ∙ is

-- a birth whose digest is taken
other_filed : (m : EntryMap) (firsts : Firsts) (others : List ℕ) (b : ℕ) (x : IndexEntry) → IsFiled m firsts others → value_for nat_cmp m b ≡ None → x.print ≡ print_of x.content → birth_with (plain_contents m) x.content ≡ None
    → IsFiled (with_value nat_cmp m b x) firsts (others ++ b ∷ [])
other_filed m firsts others b x filed new own none = record {
  rising = entry.sorted_with nat_cmp nat_cmp_total m b x filed.rising;
  ordered = filed.ordered;
  prints = prints_more m b x new filed.prints own;
  apart = apart_more m b x new filed.rising filed.apart none;
  under = λ sum q is. stays m b x new q sum (filed.under sum q is);
  stands = λ q y is. ⊎_elim
      (λ same. or-true (is_first firsts y.print.sum q) (is_among (others ++ b ∷ []) q) (ap (is_among (others ++ b ∷ [])) same.0 ∙ among-last others b))
      (λ old. ⊎_elim
      (λ first. ap (λ t. t || is_among (others ++ b ∷ []) q) first)
      (λ other. or-true (is_first firsts y.print.sum q) (is_among (others ++ b ∷ []) q) (among-push others b q other))
      (either (is_first firsts y.print.sum q) (is_among others q) (filed.stands q y old.1)))
      (entry.with_cases nat_cmp nat_cmp_total nat_cmp-IsAntisymmetric m b x q y is);
  there = λ q is. ⊎_elim
      (λ old. there_more m b x new q (filed.there q old))
      (λ same. ap (λ k. is_some (value_for nat_cmp (with_value nat_cmp m b x) k)) same ∙ ap is_some (here m b x new))
      (among-push_cases others b q is);
}

pub more_filed : (m : EntryMap) (firsts : Firsts) (others : List ℕ) (b : ℕ) (x : IndexEntry) → IsFiled m firsts others → value_for nat_cmp m b ≡ None → x.print ≡ print_of x.content → birth_with (plain_contents m) x.content ≡ None
    → IsFiled (with_value nat_cmp m b x) (firsts_with firsts x.print.sum b) (others_with firsts others x.print.sum b)
more_filed m firsts others b x filed new own none =
    let s = x.print.sum in
    elim (first_at firsts s) as (λ r. first_at firsts s ≡ r → IsFiled (with_value nat_cmp m b x) (cond (is_some r) firsts (with_value sum_cmp firsts s b)) (cond (is_some r) (others ++ b ∷ []) others)) [
      | None ↦ λ free. first_filed m firsts others b x filed new own none free
      | Some first ↦ λ _. other_filed m firsts others b x filed new own none
    ] refl
