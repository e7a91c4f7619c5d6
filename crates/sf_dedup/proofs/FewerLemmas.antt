-- One content fewer.
use Rattle.std.proofs.Common.{◌≡◌, ℕ, true, false, cond, ◌||◌, List, Option, Some, ⊎_elim, refl, sym, ap, subst, ◌∙◌}
use Rattle.std.specs.Prelude.{is_some}
use Rattle.std.specs.Option.{option_map}
use Rattle.std.specs.Ordering.{nat_cmp, eq_by_cmp}
use Rattle.std.specs.Cmp.{nat_cmp_total, unsigned_ties}
use Rattle.std.specs.Cmp.Lexicographic.{nat_list_cmp_total}
use Rattle.std.specs.FinMap.{nat_cmp-IsAntisymmetric}
use Rattle.sf_types.proofs.BoolLemmas.{either, or-true}
use Rattle.sf_room_map.specs.Entries.{value_for, without_key}
use Rattle.sf_room_map.proofs.EntryLemmas as entry
use Rattle.sf_dedup.specs.declared.index.IndexEntry.{IndexEntry}
use Rattle.sf_dedup.specs.Contents.{content_at}
use Rattle.sf_types.specs.Play.Blocks.{is_among}
use Rattle.sf_dedup.specs.Inside.Filing.{EntryMap, plain_contents, Firsts, first_at, is_first, firsts_without, others_without, IsFiled}
use Rattle.sf_dedup.proofs.ContentLemmas.{DifferInBytes}
use Rattle.sf_dedup.proofs.FilingLemmas.{sum_cmp, sums_exact, plain-without, sorted_contents, first_from, is_first_from, among-without, among-without_cases}

-- what is said of other births stays where one is taken out
module _ (m : EntryMap) (firsts : Firsts) (others : List ℕ) (b : ℕ) (x : IndexEntry) (filed : IsFiled m firsts others) (own : value_for nat_cmp m b ≡ Some x) where
  abbrev fewer : EntryMap
  fewer = without_key nat_cmp m b

  left_cases : (q : ℕ) (y : IndexEntry) → value_for nat_cmp fewer q ≡ Some y → (eq_by_cmp nat_cmp q b ≡ false) × (value_for nat_cmp m q ≡ Some y)
  left_cases q y is = entry.without_cases nat_cmp nat_cmp_total nat_cmp-IsAntisymmetric m b q y filed.rising is

  left_other : (q : ℕ) → eq_by_cmp nat_cmp q b ≡ false → value_for nat_cmp fewer q ≡ value_for nat_cmp m q
  left_other q apart = entry.without_other nat_cmp nat_cmp_total nat_cmp-IsAntisymmetric m b q filed.rising apart

  apart_fewer : DifferInBytes (plain_contents fewer)
  apart_fewer birth other bytes is also = filed.apart birth other bytes (at birth is) (at other also)
    where
      at : (q : ℕ) → content_at (plain_contents fewer) q ≡ Some bytes → content_at (plain_contents m) q ≡ Some bytes
      at q found = (entry.without_cases nat_cmp nat_cmp_total nat_cmp-IsAntisymmetric (plain_contents m) b q bytes (sorted_contents m filed.rising) (subst (λ c. content_at c q ≡ Some bytes) (plain-without m b) found)).1

  -- a birth under another digest is another birth
  another : (sum : List ℕ) (q : ℕ) → first_at firsts sum ≡ Some q → (sum ≡ x.print.sum → ⊥) → eq_by_cmp nat_cmp q b ≡ false
  another sum q is differs =
      entry.other_key nat_cmp nat_cmp_total nat_cmp-IsAntisymmetric q b (λ same. differs (some sum x.print.sum
      (sym (filed.under sum q is) ∙ ap (λ k. option_map (λ (y : IndexEntry). y.print.sum) (value_for nat_cmp m k)) same ∙ ap (option_map (λ (y : IndexEntry). y.print.sum)) own)))
    where
      some : (v w : List ℕ) → ◌≡◌ {A = Option (List ℕ)} (Some v) (Some w) → v ≡ w
      some v w is = cc

  stays_under : (sum : List ℕ) (q : ℕ) → first_at firsts sum ≡ Some q → eq_by_cmp nat_cmp q b ≡ false → option_map (λ y. y.print.sum) (value_for nat_cmp fewer q) ≡ Some sum
  stays_under sum q is apart = ap (option_map (λ (y : IndexEntry). y.print.sum)) (left_other q apart) ∙ filed.under sum q is

  stays_there : (q : ℕ) → is_among (others_without others b) q ≡ true → is_some (value_for nat_cmp fewer q) ≡ true
  stays_there q is =
      let old = among-without_cases others b q is in
      ap is_some (left_other q (sym (unsigned_ties q b) ∙ old.0)) ∙ filed.there q old.1

  stays_stood : (left : Firsts) → ((sum : List ℕ) (q : ℕ) → first_at firsts sum ≡ Some q → eq_by_cmp nat_cmp q b ≡ false → first_at left sum ≡ Some q) → (q : ℕ) (y : IndexEntry) → value_for nat_cmp fewer q ≡ Some y → (is_first left y.print.sum q || is_among (others_without others b) q) ≡ true
  stays_stood left keeps q y is =
      let old = left_cases q y is in
      ⊎_elim
      (λ first. ap (λ t. t || is_among (others_without others b) q) (is_first_from left y.print.sum q (keeps y.print.sum q (first_from firsts y.print.sum q first) old.0)))
      (λ other. or-true (is_first left y.print.sum q) (is_among (others_without others b) q) (among-without others b q (unsigned_ties q b ∙ old.0) other))
      (either (is_first firsts y.print.sum q) (is_among others q) (filed.stands q y old.1))

  first_gone : is_first firsts x.print.sum b ≡ true → IsFiled fewer (without_key sum_cmp firsts x.print.sum) (others_without others b)
  first_gone stood =
      let s = x.print.sum in
      let under_s = first_from firsts s b stood in
      record {
        rising = entry.sorted_without nat_cmp nat_cmp_total b m filed.rising;
        ordered = entry.sorted_without sum_cmp nat_list_cmp_total s firsts filed.ordered;
        prints = λ q y is. filed.prints q y (left_cases q y is).1;
        apart = apart_fewer;
        under = λ sum q is.
            let old = entry.without_cases sum_cmp nat_list_cmp_total sums_exact firsts s sum q filed.ordered is in
            stays_under sum q old.1 (another sum q old.1 (entry.not_own sum_cmp nat_list_cmp_total sums_exact sum s old.0));
        stands = stays_stood (without_key sum_cmp firsts s) (λ sum q is apart.
            entry.without_other sum_cmp nat_list_cmp_total sums_exact firsts s sum filed.ordered
            (entry.other_key sum_cmp nat_list_cmp_total sums_exact sum s (λ same. entry.not_own nat_cmp nat_cmp_total nat_cmp-IsAntisymmetric q b apart (some q b (sym is ∙ ap (first_at firsts) same ∙ under_s)))) ∙ is);
        there = stays_there;
      }
    where
      some : (v w : ℕ) → ◌≡◌ {A = Option ℕ} (Some v) (Some w) → v ≡ w
      some v w is = cc

  other_gone : is_first firsts x.print.sum b ≡ false → IsFiled fewer firsts (others_without others b)
  other_gone no_first = record {
    rising = entry.sorted_without nat_cmp nat_cmp_total b m filed.rising;
    ordered = filed.ordered;
    prints = λ q y is. filed.prints q y (left_cases q y is).1;
    apart = apart_fewer;
    under = λ sum q is. stays_under sum q is (entry.other_key nat_cmp nat_cmp_total nat_cmp-IsAntisymmetric q b (λ same. clash sum q is same));
    stands = stays_stood firsts (λ sum q is apart. is);
    there = stays_there;
  }
    where
      clash : (sum : List ℕ) (q : ℕ) → first_at firsts sum ≡ Some q → q ≡ b → ⊥
      clash sum q is same =
          let at_b = sym (filed.under sum q is) ∙ ap (λ k. option_map (λ (y : IndexEntry). y.print.sum) (value_for nat_cmp m k)) same ∙ ap (option_map (λ (y : IndexEntry). y.print.sum)) own in
          let stood = is_first_from firsts x.print.sum b (ap (first_at firsts) (sym (some sum x.print.sum at_b)) ∙ is ∙ ap Some same) in
          let bad = sym stood ∙ no_first in cc
        where
          some : (v w : List ℕ) → ◌≡◌ {A = Option (List ℕ)} (Some v) (Some w) → v ≡ w
          some v w is = cc

  pub fewer_filed : IsFiled fewer (firsts_without firsts x.print.sum b) (others_without others b)
  fewer_filed = elim (is_first firsts x.print.sum b) as (λ t. is_first firsts x.print.sum b ≡ t → IsFiled fewer (cond t (without_key sum_cmp firsts x.print.sum) firsts) (others_without others b)) [ true ↦ first_gone | false ↦ other_gone ] refl
