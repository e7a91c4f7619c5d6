-- Births by digest and by content, and what is found.
use Rattle.std.proofs.Common.{◌≡◌, ℕ, ◌+◌, ◌<◌, true, false, cond, not, ◌||◌, List, [], ◌∷◌, ◌++◌, length, take, get_or, Option, Some, None, ◌⊎◌, ⊎_elim, inl, inr, refl, sym, ap, ◌∙◌}
use Rattle.std.specs.Prelude.{◌==◌, T, bytes_eq, IfSome, IfNone}
use Rattle.std.specs.Option.{option_map, option_map_or}
use Rattle.std.specs.Ordering.{nat_cmp}
use Rattle.std.specs.declared.cmp.Ordering.{Ordering}
use Rattle.std.specs.Cmp.Lexicographic.{slice_cmp}
use Rattle.std.specs.FinMap.{IsAntisymmetric, nat_cmp-IsAntisymmetric, slice_cmp-IsAntisymmetric}
use Rattle.std.specs.FinMap.Entries.{is_sorted}
use Rattle.std.proofs.lemmas.List.Folds.{list_any_more}
use Rattle.std.proofs.lemmas.Map.Made.{lookup-map_values}
use Rattle.sf_types.proofs.BoolLemmas.{either, or-true}
use Rattle.sf_types.proofs.NumberLemmas.{same_number, own_number}
use Rattle.sf_room_map.specs.Entries.{value_for, with_value, without_key}
use Rattle.sf_room_map.proofs.EntryLemmas as entry
use Rattle.sf_dedup.specs.declared.index.IndexEntry.{IndexEntry}
use Rattle.sf_dedup.specs.Prints.{print_of}
use Rattle.sf_dedup.specs.Contents.{content_at, birth_with, has_content, with_content, without_birth}
use Rattle.sf_types.specs.Play.Blocks.{is_among}
use Rattle.sf_dedup.specs.Inside.Filing.{EntryMap, plain_contents, Firsts, first_at, is_first, others_without, NoneHas, IsFiled}
use Rattle.sf_dedup.proofs.ContentLemmas.{birth_is_found, no_birth, content_from_has}

abbrev pub sum_cmp : List ℕ → List ℕ → Ordering
sum_cmp = slice_cmp nat_cmp

pub sums_exact : IsAntisymmetric sum_cmp
sums_exact = slice_cmp-IsAntisymmetric nat_cmp-IsAntisymmetric

-- the content of a birth, by what is kept of it
pub content_is : (m : EntryMap) (birth : ℕ) → content_at (plain_contents m) birth ≡ option_map (λ x. x.content) (value_for nat_cmp m birth)
content_is m birth = lookup-map_values (λ (x : IndexEntry). x.content) _ m

pub plain-with : (m : EntryMap) (birth : ℕ) (x : IndexEntry) → plain_contents (with_value nat_cmp m birth x) ≡ with_content (plain_contents m) birth x.content
plain-with m birth x = entry.values-with nat_cmp (λ (x : IndexEntry). x.content) m birth x

pub plain-without : (m : EntryMap) (birth : ℕ) → plain_contents (without_key nat_cmp m birth) ≡ without_birth (plain_contents m) birth
plain-without m birth = entry.values-without nat_cmp (λ (x : IndexEntry). x.content) m birth

-- what is kept of a birth that has some content
pub kept : (m : EntryMap) (birth : ℕ) (bytes : List ℕ) → content_at (plain_contents m) birth ≡ Some bytes → (x : IndexEntry) × (value_for nat_cmp m birth ≡ Some x) × (x.content ≡ bytes)
kept m birth bytes is =
    elim (value_for nat_cmp m birth) as (λ r. option_map (λ (x : IndexEntry). x.content) r ≡ Some bytes → (x : IndexEntry) × (r ≡ Some x) × (x.content ≡ bytes)) [
      | None ↦ λ bad. absurd cc
      | Some x ↦ λ found. (x, refl, some x.content bytes found)
    ] (sym (content_is m birth) ∙ is)
  where
    some : (v y : List ℕ) → ◌≡◌ {A = Option (List ℕ)} (Some v) (Some y) → v ≡ y
    some v y is = cc

pub none_kept : (m : EntryMap) (birth : ℕ) → content_at (plain_contents m) birth ≡ None → value_for nat_cmp m birth ≡ None
none_kept m birth none =
    elim (value_for nat_cmp m birth) as (λ r. option_map (λ (x : IndexEntry). x.content) r ≡ None → r ≡ None) [ None ↦ λ _. refl | Some x ↦ λ bad. absurd cc ] (sym (content_is m birth) ∙ none)

-- whether what is kept of a birth has some bytes
pub has_is : (m : EntryMap) (birth : ℕ) (bytes : List ℕ) (r : Option IndexEntry) → r ≡ value_for nat_cmp m birth → option_map_or (λ x. bytes_eq x.content bytes) r false ≡ has_content (plain_contents m) birth bytes
has_is m birth bytes r is = by_case r ∙ ap (λ x. option_map_or (λ own. bytes_eq own bytes) x false) (ap (option_map (λ (x : IndexEntry). x.content)) is ∙ sym (content_is m birth))
  where
    by_case : (r : Option IndexEntry) → option_map_or (λ x. bytes_eq x.content bytes) r false ≡ option_map_or (λ own. bytes_eq own bytes) (option_map (λ (x : IndexEntry). x.content) r) false
    by_case None = refl
    by_case (Some x) = refl

pub sorted_contents : (m : EntryMap) → T (is_sorted nat_cmp m) → T (is_sorted nat_cmp (plain_contents m))
sorted_contents m sorted = entry.sorted-values nat_cmp (λ (x : IndexEntry). x.content) m sorted

-- ---- births in lists and under digests
pub first_from : (firsts : Firsts) (sum : List ℕ) (birth : ℕ) → is_first firsts sum birth ≡ true → first_at firsts sum ≡ Some birth
first_from firsts sum birth is =
    elim (first_at firsts sum) as (λ r. option_map_or (λ first. birth == first) r false ≡ true → r ≡ Some birth) [
      | None ↦ λ bad. absurd cc
      | Some first ↦ λ same. ap Some (sym (same_number birth first same))
    ] is

pub is_first_from : (firsts : Firsts) (sum : List ℕ) (birth : ℕ) → first_at firsts sum ≡ Some birth → is_first firsts sum birth ≡ true
is_first_from firsts sum birth is = ap (λ r. option_map_or (λ first. birth == first) r false) is ∙ own_number birth

pub among-push : (births : List ℕ) (b q : ℕ) → is_among births q ≡ true → is_among (births ++ b ∷ []) q ≡ true
among-push [] b q is = absurd cc
among-push (c ∷ births) b q is =
    elim (q == c) as (λ t. (t || is_among births q) ≡ true → (t || is_among (births ++ b ∷ []) q) ≡ true) [ true ↦ λ _. refl | false ↦ λ rest. among-push births b q rest ] is

pub among-last : (births : List ℕ) (b : ℕ) → is_among (births ++ b ∷ []) b ≡ true
among-last [] b = ap (λ t. t || false) (own_number b)
among-last (c ∷ births) b = or-true (b == c) (is_among (births ++ b ∷ []) b) (among-last births b)

pub among-push_cases : (births : List ℕ) (b q : ℕ) → is_among (births ++ b ∷ []) q ≡ true → (is_among births q ≡ true) ⊎ (q ≡ b)
among-push_cases [] b q is = elim (q == b) as (λ t. (q == b) ≡ t → (t || false) ≡ true → (false ≡ true) ⊎ (q ≡ b)) [ true ↦ λ same _. inr (same_number q b same) | false ↦ λ _ bad. absurd cc ] refl is
among-push_cases (c ∷ births) b q is =
    elim (q == c) as (λ t. (t || is_among (births ++ b ∷ []) q) ≡ true → ((t || is_among births q) ≡ true) ⊎ (q ≡ b)) [ true ↦ λ _. inl refl | false ↦ λ rest. among-push_cases births b q rest ] is

pub among-without : (births : List ℕ) (b q : ℕ) → (q == b) ≡ false → is_among births q ≡ true → is_among (others_without births b) q ≡ true
among-without [] b q apart is = is
among-without (c ∷ births) b q apart is =
    let left = others_without births b in
    elim (c == b) as (λ t. (c == b) ≡ t → is_among (cond (not t) (c ∷ left) left) q ≡ true) [
      | true ↦ λ same. elim (q == c) as (λ t. (q == c) ≡ t → (t || is_among births q) ≡ true → is_among left q ≡ true) [
        | true ↦ λ own _. absurd (let bad = sym (ap (λ k. k == b) (same_number q c own) ∙ same) ∙ apart in cc)
        | false ↦ λ _ rest. among-without births b q apart rest
      ] refl is
      | false ↦ λ _. elim (q == c) as (λ t. (t || is_among births q) ≡ true → (t || is_among left q) ≡ true) [ true ↦ λ _. refl | false ↦ λ rest. among-without births b q apart rest ] is
    ] refl

pub among-without_cases : (births : List ℕ) (b q : ℕ) → is_among (others_without births b) q ≡ true → ((q == b) ≡ false) × (is_among births q ≡ true)
among-without_cases [] b q is = absurd cc
among-without_cases (c ∷ births) b q is =
    let left = others_without births b in
    elim (c == b) as (λ t. (c == b) ≡ t → is_among (cond (not t) (c ∷ left) left) q ≡ true → ((q == b) ≡ false) × ((q == c || is_among births q) ≡ true)) [
      | true ↦ λ _ there. let rest = among-without_cases births b q there in (rest.0, or-true (q == c) (is_among births q) rest.1)
      | false ↦ λ apart. elim (q == c) as (λ t. (q == c) ≡ t → (t || is_among left q) ≡ true → ((q == b) ≡ false) × ((t || is_among births q) ≡ true)) [
        | true ↦ λ own _. (ap (λ k. k == b) (same_number q c own) ∙ apart, refl)
        | false ↦ λ _ there. among-without_cases births b q there
      ] refl
    ] refl is

-- ---- what is found
-- where neither the birth under the digest of some bytes nor one of the others has them, no birth has them
pub no_birth_found : (m : EntryMap) (firsts : Firsts) (others : List ℕ) (bytes : List ℕ) → IsFiled m firsts others
    → ((first : ℕ) → first_at firsts (print_of bytes).sum ≡ Some first → has_content (plain_contents m) first bytes ≡ false) → NoneHas (plain_contents m) others bytes → birth_with (plain_contents m) bytes ≡ None
no_birth_found m firsts others bytes filed no_first no_other =
    no_birth (plain_contents m) bytes (sorted_contents m filed.rising) (λ birth. elim (has_content (plain_contents m) birth bytes) as (λ t. has_content (plain_contents m) birth bytes ≡ t → t ≡ false) [
      | false ↦ λ _. refl
      | true ↦ λ has. absurd (
          let own = kept m birth bytes (content_from_has (plain_contents m) birth bytes has) in
          let x = own.0 in
          let print : x.print.sum ≡ (print_of bytes).sum = ap (λ p. p.sum) (filed.prints birth x own.1) ∙ ap (λ c. (print_of c).sum) own.2 in
          ⊎_elim
          (λ first. let bad = sym has ∙ no_first birth (ap (first_at firsts) (sym print) ∙ first_from firsts x.print.sum birth first) in no bad)
          (λ other. let bad = sym has ∙ no_other birth other in no bad)
          (either (is_first firsts x.print.sum birth) (is_among others birth) (filed.stands birth x own.1)))
    ] refl)
  where
    no : true ≡ false → ⊥
    no bad = cc

-- what a look among the others finds, where the birth under the digest doesn't have the bytes
pub among_found : (m : EntryMap) (firsts : Firsts) (others : List ℕ) (bytes : List ℕ) (r : Option ℕ) → IsFiled m firsts others → ((first : ℕ) → first_at firsts (print_of bytes).sum ≡ Some first → has_content (plain_contents m) first bytes ≡ false)
    → IfSome r (λ birth. has_content (plain_contents m) birth bytes ≡ true) → IfNone r (NoneHas (plain_contents m) others bytes) → r ≡ birth_with (plain_contents m) bytes
among_found m firsts others bytes None filed no_first some none = sym (no_birth_found m firsts others bytes filed no_first none)
among_found m firsts others bytes (Some birth) filed no_first some none =
    sym (birth_is_found (plain_contents m) birth bytes (sorted_contents m filed.rising) filed.apart (content_from_has (plain_contents m) birth bytes some))

-- one birth more was looked at
pub among-next : (births : List ℕ) (k q : ℕ) → k < length births → is_among (take (k + 1) births) q ≡ true → (is_among (take k births) q ≡ true) ⊎ (q ≡ get_or births k 0)
among-next births k q less is =
    ⊎_elim inl (λ same. inr (same_number q (get_or births k 0) same)) (either (is_among (take k births) q) (q == get_or births k 0) (sym (list_any_more (λ x. q == x) births k 0 less) ∙ is))
