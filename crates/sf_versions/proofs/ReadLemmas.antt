-- What the versions of a span say.
use Rattle.std.proofs.Common.{◌≡◌, ℕ, zero, suc, ◌+◌, ◌-◌, ◌<◌, ◌≤◌, true, false, [], ◌∷◌, length, Option, Some, None, refl, ap, subst, ◌∙◌, arith}
use Rattle.std.specs.Prelude.{nat_le, slice_get, if◌then◌else◌}
use Rattle.std.proofs.lemmas.Bool.Decides.{nat_tests}
use Rattle.sf_types.specs.Values.Marks.{Value}
use Rattle.sf_types.specs.Table.Versions.{later_change, value_or_absent}
use Rattle.sf_versions.specs.declared.span.Span.{Span}
use Rattle.sf_versions.specs.RowChanges.{RowChanges, change_up_to, last_version, RiseWithin}
use Rattle.sf_versions.specs.Inside.Spans.{Ranked, version_at, versions_from, versions_in, IsSpan}
use Rattle.sf_versions.proofs.RiseLemmas.{rise_below}
use Rattle.sf_versions.proofs.SpanLemmas.{length_from, from_at, get_from}

pub span_bound : (now rows : ℕ) (vs : Ranked) (t : Span) → IsSpan now rows vs t → t.first + t.count ≤ now
span_bound now rows vs t is =
    let k = t.count - 1 in
    let below : k < t.count = omega (arith, is.some) in
    let within : k < length (versions_in vs t) = omega (arith, below, length_from vs t.row t.first t.count) in
    let has_rank : t.first + k < (version_at vs t.row (t.first + k)).0 = is.early (t.first + k) (omega (arith, is.some)) in
    let last : (version_at vs t.row (t.first + k)).0 < now + 1 = subst (λ (v : ℕ × Option Value). v.0 < now + 1) (from_at vs t.row t.first t.count k (0, None) below) (rise_below 0 now (versions_in vs t) is.rising k (0, None) within) in
    omega (arith, has_rank, last, is.some)

pub last_is : (vs : Ranked) (t : Span) → 1 ≤ t.count → last_version (versions_in vs t) ≡ Some (version_at vs t.row (t.first + t.count - 1))
last_is vs t some =
    ap (λ n. slice_get (versions_in vs t) (n - 1)) (length_from vs t.row t.first t.count)
    ∙ get_from vs t.row t.first t.count (t.count - 1) (omega (arith, some))
    ∙ ap (λ r. Some (version_at vs t.row r)) {x = t.first + (t.count - 1)} {y = t.first + t.count - 1} (omega (arith, some))

too_great : (m n : ℕ) → n < m → nat_le m n ≡ false
too_great m n more = grind (arith, nat_tests, more)

small_enough : (m n : ℕ) → m ≤ n → nat_le m n ≡ true
small_enough m n less = grind (arith, nat_tests, less)

none_up_to : (low now number : ℕ) (vs : RowChanges) → RiseWithin low now vs → number ≤ low → change_up_to vs number ≡ None
none_up_to low now number [] rise less = refl
none_up_to low now number (v ∷ vs) rise less =
    ap (λ b. later_change (if b then Some v.1 else None) (change_up_to vs number)) (too_great v.0 number (omega (arith, less, rise.0)))
    ∙ ap (later_change None) (none_up_to v.0 now number vs rise.2 (omega (arith, less, rise.0)))

-- the change that the version before a place made
abbrev pub change_before : Ranked → ℕ → ℕ → ℕ → Option (Option Value)
change_before vs row first zero = None
change_before vs row first (suc at) = Some (version_at vs row (first + at)).1

module _ (vs : Ranked) (row now number : ℕ) where
  pub up_to_is : (low first count r : ℕ) → RiseWithin low now (versions_from vs row first count) → r ≤ count → ((at : ℕ) → at + 1 ≡ r → (version_at vs row (first + at)).0 ≤ number) → (r < count → number < (version_at vs row (first + r)).0) → change_up_to (versions_from vs row first count) number ≡ change_before vs row first r
  up_to_is low first zero zero rise within before after = refl
  up_to_is low first zero (suc r) rise within before after = absurd (omega (arith, within))
  up_to_is low first (suc count) zero rise within before after =
      let v = version_at vs row first in
      let above : number < v.0 = subst (λ r. number < (version_at vs row r).0) {x = first + 0} {y = first} (omega arith) (after (omega arith)) in
      ap (λ b. later_change (if b then Some v.1 else None) (change_up_to (versions_from vs row (first + 1) count) number)) (too_great v.0 number above)
      ∙ ap (later_change None) (none_up_to v.0 now number (versions_from vs row (first + 1) count) rise.2 (omega (arith, above)))
  up_to_is low first (suc count) (suc zero) rise within before after =
      let v = version_at vs row first in
      let below : v.0 ≤ number = subst (λ r. (version_at vs row r).0 ≤ number) {x = first + 0} {y = first} (omega arith) (before 0 (omega arith)) in
      let tail = up_to_is v.0 (first + 1) count 0 rise.2 (omega arith) (λ at is. absurd (omega (arith, is))) (λ less. subst (λ r. number < (version_at vs row r).0) {x = first + 1} {y = first + 1 + 0} (omega arith) (after (omega (arith, less)))) in
      ap (λ b. later_change (if b then Some v.1 else None) (change_up_to (versions_from vs row (first + 1) count) number)) (small_enough v.0 number below)
      ∙ ap (later_change (Some v.1)) tail
      ∙ ap (λ r. Some (version_at vs row r).1) {x = first} {y = first + 0} (omega arith)
  up_to_is low first (suc count) (suc (suc r)) rise within before after =
      let v = version_at vs row first in
      let tail = up_to_is v.0 (first + 1) count (suc r) rise.2 (omega (arith, within))
      (λ at is. subst (λ k. (version_at vs row k).0 ≤ number) {x = first + suc at} {y = first + 1 + at} (omega arith) (before (suc at) (omega (arith, is))))
      (λ less. subst (λ k. number < (version_at vs row k).0) {x = first + suc (suc r)} {y = first + 1 + suc r} (omega arith) (after (omega (arith, less)))) in
      ap (later_change (if nat_le v.0 number then Some v.1 else None)) tail
      ∙ ap (λ k. Some (version_at vs row k).1) {x = first + 1 + r} {y = first + suc r} (omega arith)

pub before_is : (vs : Ranked) (row first r : ℕ) → 1 ≤ r → value_or_absent (change_before vs row first r) ≡ (version_at vs row (first + r - 1)).1
before_is vs row first zero one = absurd (omega (arith, one))
before_is vs row first (suc at) one = ap (λ k. (version_at vs row k).1) {x = first + at} {y = first + suc at - 1} (omega arith)
