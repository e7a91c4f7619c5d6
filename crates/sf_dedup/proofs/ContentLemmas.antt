-- Births that are found by their bytes.
use Rattle.std.proofs.Common.{◌≡◌, ℕ, true, false, List, Some, None, refl, sym, ap, ◌∙◌}
use Rattle.std.specs.Prelude.{T, find, bytes_eq}
use Rattle.std.specs.Option.{option_map, option_map_or}
use Rattle.std.specs.Ordering.{nat_cmp}
use Rattle.std.specs.Cmp.{nat_cmp_total}
use Rattle.std.specs.Cmp.Lexicographic.{same_text, nat_list_eq_equiv}
use Rattle.std.specs.FinMap.{nat_cmp-IsAntisymmetric}
use Rattle.std.specs.FinMap.Entries.{is_sorted}
use Rattle.sf_room_map.proofs.EntryLemmas.{first_passes, none_passes}
use Rattle.sf_dedup.specs.Contents.{Contents, content_at, birth_with, has_content}

-- No two births have the same bytes.
abbrev pub DifferInBytes : Contents → Type 0
DifferInBytes contents = (birth other : ℕ) (bytes : List ℕ) → content_at contents birth ≡ Some bytes → content_at contents other ≡ Some bytes → birth ≡ other

own_bytes : (bytes : List ℕ) → bytes_eq bytes bytes ≡ true
own_bytes bytes = nat_list_eq_equiv.refl bytes

pub content_from_has : (contents : Contents) (birth : ℕ) (bytes : List ℕ) → has_content contents birth bytes ≡ true → content_at contents birth ≡ Some bytes
content_from_has contents birth bytes has =
    elim (content_at contents birth) as (λ x. option_map_or (λ own. bytes_eq own bytes) x false ≡ true → x ≡ Some bytes) [
      | None ↦ λ bad. absurd cc
      | Some own ↦ λ is. ap Some (same_text own bytes (sym is))
    ] has

pub has_from_content : (contents : Contents) (birth : ℕ) (bytes : List ℕ) → content_at contents birth ≡ Some bytes → has_content contents birth bytes ≡ true
has_from_content contents birth bytes is = ap (λ x. option_map_or (λ own. bytes_eq own bytes) x false) is ∙ own_bytes bytes

-- the birth that has some bytes is the one that is found
pub birth_is_found : (contents : Contents) (birth : ℕ) (bytes : List ℕ) → T (is_sorted nat_cmp contents) → DifferInBytes contents → content_at contents birth ≡ Some bytes → birth_with contents bytes ≡ Some birth
birth_is_found contents birth bytes sorted apart is =
    elim (find (λ e. bytes_eq e.1 bytes) contents) as (λ r. find (λ e. bytes_eq e.1 bytes) contents ≡ r → option_map (λ (e : ℕ × List ℕ). e.0) r ≡ Some birth) [
      | None ↦ λ none. absurd (let bad = sym (none_passes nat_cmp nat_cmp_total nat_cmp-IsAntisymmetric (λ own. bytes_eq own bytes) contents birth bytes none is) ∙ own_bytes bytes in cc)
      | Some e ↦ λ found.
          let first = first_passes nat_cmp nat_cmp_total nat_cmp-IsAntisymmetric (λ own. bytes_eq own bytes) contents e sorted found in
          let own : content_at contents e.0 ≡ Some bytes = first.1 ∙ ap Some (same_text e.1 bytes (sym first.0)) in
          ap Some (apart e.0 birth bytes own is)
    ] refl

-- where no birth has some bytes, none is found
pub no_birth : (contents : Contents) (bytes : List ℕ) → T (is_sorted nat_cmp contents) → ((birth : ℕ) → has_content contents birth bytes ≡ false) → birth_with contents bytes ≡ None
no_birth contents bytes sorted none =
    elim (find (λ e. bytes_eq e.1 bytes) contents) as (λ r. find (λ e. bytes_eq e.1 bytes) contents ≡ r → option_map (λ (e : ℕ × List ℕ). e.0) r ≡ None) [
      | None ↦ λ _. refl
      | Some e ↦ λ found.
          let first = first_passes nat_cmp nat_cmp_total nat_cmp-IsAntisymmetric (λ own. bytes_eq own bytes) contents e sorted found in
          let own : content_at contents e.0 ≡ Some bytes = first.1 ∙ ap Some (same_text e.1 bytes (sym first.0)) in
          absurd (let bad = sym (has_from_content contents e.0 bytes own) ∙ none e.0 in cc)
    ] refl
