-- A version that is taken out of a row.
use Rattle.std.proofs.Common.{◌≡◌, ℕ, zero, suc, ◌+◌, ◌-◌, ◌<◌, ◌≤◌, true, false, cond, [], ◌∷◌, Option, Some, None, ◌⊎◌, ⊎_elim, inl, inr, refl, sym, ap, subst, ◌∙◌, arith}
use Rattle.std.specs.Prelude.{IsSome, IfSome, nat_lt, unwrap_or}
use Rattle.std.specs.Option.{option_map}
use Rattle.std.specs.List.{AllByRecursion, remove}
use Rattle.std.specs.Map.{keys_of}
use Rattle.std.specs.Cmp.{nat_cmp_is}
use Rattle.std.specs.Ordering.{nat_cmp, is_eq}
use Rattle.std.specs.declared.cmp.Ordering.TheVariants.{Less, Equal, Greater}
use Rattle.sf_types.specs.Values.Marks.{Value}
use Rattle.sf_types.proofs.NumberLemmas.{less, not_less}
use Rattle.sf_room_map.specs.Entries.{value_for, without_key}
use Rattle.sf_sorted_map.specs.Inside.Places.{IsFound}
use Rattle.sf_sorted_map.proofs.PlaceLemmas.{value_in_gap, without_found}
use Rattle.sf_versions.specs.declared.span.Span.{Span}
use Rattle.sf_versions.specs.RowChanges.{RowChanges, last_number, RiseWithin}
use Rattle.sf_versions.specs.Inside.VersionOrder.{key_cmp}
use Rattle.sf_versions.specs.Inside.Spans.{Ranked, key_at, version_at, versions_from, versions_in, IsSpan, CountsUpTo, TakesOut}
use Rattle.sf_versions.proofs.SpanLemmas.{from_same}
use Rattle.sf_versions.proofs.ReadLemmas.{last_is}

pub less_or_is : (r n : ℕ) → r < n + 1 → (r < n) ⊎ (r ≡ n)
less_or_is r n within = elim (nat_lt r n) as (λ b. nat_lt r n ≡ b → (r < n) ⊎ (r ≡ n)) [
  | true ↦ λ is. inl (less r n is)
  | false ↦ λ is. inr (omega (arith, not_less r n is, within))
] refl

-- a number that is at most the least is less than all
pub less_rest : (low now number : ℕ) (vs : RowChanges) → RiseWithin low now vs → number ≤ low → AllByRecursion (λ o. nat_cmp number o ≡ Less) (keys_of vs)
less_rest low now number [] rise early = tt
less_rest low now number (v ∷ vs) rise early = (sym (nat_cmp_is number v.0 Less (omega (arith, early, rise.0))), less_rest v.0 now number vs rise.2 (omega (arith, early, rise.0)))

rise_lower : (low higher now : ℕ) (vs : RowChanges) → low ≤ higher → RiseWithin higher now vs → RiseWithin low now vs
rise_lower low higher now [] under rise = tt
rise_lower low higher now (v ∷ vs) under rise = (omega (arith, under, rise.0), rise.1, rise.2)

rise_removed : (low now : ℕ) (vs : RowChanges) (k : ℕ) → RiseWithin low now vs → RiseWithin low now (remove vs k)
rise_removed low now [] zero rise = tt
rise_removed low now [] (suc k) rise = tt
rise_removed low now (v ∷ vs) zero rise = rise_lower low v.0 now vs (omega (arith, rise.0)) rise.2
rise_removed low now (v ∷ vs) (suc k) rise = (rise.0, rise.1, rise_removed v.0 now vs k rise.2)

has_version : (vs : Ranked) (row rank : ℕ) → 0 < (version_at vs row rank).0 → IsSome (value_for key_cmp vs (key_at row rank))
has_version vs row rank some =
    elim (value_for key_cmp vs (key_at row rank)) as (λ o. 0 < (unwrap_or o (0, None)).0 → IsSome o) [
      | None ↦ λ bad. absurd (omega (arith, bad))
      | Some v ↦ λ _. refl
    ] some

module _ (vs : Ranked) (row now number : ℕ) where
  less_from : (low first count : ℕ) → RiseWithin low now (versions_from vs row first count) → (0 < count → number < (version_at vs row first).0) → AllByRecursion (λ o. nat_cmp number o ≡ Less) (keys_of (versions_from vs row first count))
  less_from low first zero rise after = tt
  less_from low first (suc count) rise after =
      let v = version_at vs row first in
      let above : number < v.0 = after (omega arith) in
      (sym (nat_cmp_is number v.0 Less above), less_rest v.0 now number (versions_from vs row (first + 1) count) rise.2 (omega (arith, above)))

  later_greater : (low first count k : ℕ) → RiseWithin low now (versions_from vs row first count) → k < count → low < (version_at vs row (first + k)).0
  later_greater low first zero k rise below = absurd (omega (arith, below))
  later_greater low first (suc count) zero rise below = subst (λ r. low < (version_at vs row r).0) {x = first} {y = first + 0} (omega arith) rise.0
  later_greater low first (suc count) (suc k) rise below =
      let v = version_at vs row first in
      let deep : v.0 < (version_at vs row (first + suc k)).0 = subst (λ r. v.0 < (version_at vs row r).0) {x = first + 1 + k} {y = first + suc k} (omega arith) (later_greater v.0 (first + 1) count k rise.2 (omega (arith, below))) in
      omega (arith, deep, rise.0)

  found_place : (low first count k : ℕ) → RiseWithin low now (versions_from vs row first count) → k < count → (version_at vs row (first + k)).0 ≤ number → (k + 1 < count → number < (version_at vs row (first + (k + 1))).0) → IsSome (value_for nat_cmp (versions_from vs row first count) number) → IsFound nat_cmp (versions_from vs row first count) number k
  found_place low first zero k rise below upto next made = absurd (omega (arith, below))
  found_place low first (suc count) zero rise below upto next made =
      let v = version_at vs row first in
      let tail = versions_from vs row (first + 1) count in
      let behind = less_from v.0 (first + 1) count rise.2 (λ some. subst (λ r. number < (version_at vs row r).0) {x = first + (0 + 1)} {y = first + 1} (omega arith) (next (omega (arith, some)))) in
      let none : value_for nat_cmp tail number ≡ None = value_in_gap nat_cmp tail number 0 behind in
      let own : nat_cmp number v.0 ≡ Equal = elim (nat_cmp number v.0) as (λ r. IsSome (cond (is_eq r) (Some v.1) (value_for nat_cmp tail number)) → r ≡ Equal) [
        | Less ↦ λ some. absurd (let bad = subst IsSome none some in cc)
        | Equal ↦ λ _. refl
        | Greater ↦ λ some. absurd (let bad = subst IsSome none some in cc)
      ] made in
      (own, behind)
  found_place low first (suc count) (suc k) rise below upto next made =
      let v = version_at vs row first in
      let tail = versions_from vs row (first + 1) count in
      let upto_next : (version_at vs row (first + 1 + k)).0 ≤ number = subst (λ r. (version_at vs row r).0 ≤ number) {x = first + suc k} {y = first + 1 + k} (omega arith) upto in
      let higher : v.0 < (version_at vs row (first + 1 + k)).0 = later_greater v.0 (first + 1) count k rise.2 (omega (arith, below)) in
      let greater : nat_cmp number v.0 ≡ Greater = sym (nat_cmp_is number v.0 Greater (omega (arith, upto_next, higher))) in (
        greater,
        found_place v.0 (first + 1) count k rise.2 (omega (arith, below)) upto_next
            (λ more. subst (λ r. number < (version_at vs row r).0) {x = first + (suc k + 1)} {y = first + 1 + (k + 1)} (omega arith) (next (omega (arith, more))))
            (subst IsSome (ap (λ r. cond (is_eq r) (Some v.1) (value_for nat_cmp tail number)) greater) made),
      )

removed : (vs ws : Ranked) (row first count k taken : ℕ) → taken ≡ first + k → k < suc count → ((rank : ℕ) → first ≤ rank → rank < taken → version_at ws row (rank + 1) ≡ version_at vs row rank) → ((rank : ℕ) → taken < rank → version_at ws row rank ≡ version_at vs row rank) → versions_from ws row (first + 1) count ≡ remove (versions_from vs row first (suc count)) k
removed vs ws row first count zero taken is below moved later = from_same vs ws row (first + 1) count (λ rank from _. later rank (omega (arith, is, from)))
removed vs ws row first zero (suc k) taken is below moved later = absurd (omega (arith, below))
removed vs ws row first (suc count) (suc k) taken is below moved later =
    ap (λ (v : ℕ × Option Value). v ∷ versions_from ws row (first + 1 + 1) count) (moved first (omega arith) (omega (arith, is)))
    ∙ ap (λ (rest : RowChanges). version_at vs row first ∷ rest) (removed vs ws row (first + 1) count k taken (omega (arith, is)) (omega (arith, below)) (λ rank from early. moved rank (omega (arith, from)) early) later)

abbrev pub shorter : Span → Span
shorter t = record { row = t.row; first = t.first + 1; count = t.count - 1 }

module _ (now rows : ℕ) (vs : Ranked) (t : Span) (number r : ℕ) (is : IsSpan now rows vs t) (up : CountsUpTo vs t number r) (made : IsSome (value_for nat_cmp (versions_in vs t) number)) (displaced : IfSome (last_number (versions_in vs t)) (λ last. number < last)) where
  not_none : r ≡ 0 → ⊥
  not_none none =
      let all = less_from vs t.row now number 0 t.first t.count is.rising (λ some. subst (λ q. number < (version_at vs t.row q).0) {x = t.first + r} {y = t.first} (omega (arith, none)) (up.after (omega (arith, none, some)))) in
      let bad = subst IsSome (value_in_gap nat_cmp (versions_in vs t) number 0 all) made in
      absurd cc

  pub one : 1 ≤ r
  one = elim (nat_lt 0 r) as (λ b. nat_lt 0 r ≡ b → 1 ≤ r) [
    | true ↦ λ some. omega (arith, less 0 r some)
    | false ↦ λ none. absurd (not_none (omega (arith, not_less 0 r none)))
  ] refl

  pub more : r < t.count
  more =
      let last : number < (version_at vs t.row (t.first + t.count - 1)).0 = subst (λ o. IfSome o (λ last. number < last)) (ap (option_map (λ (v : ℕ × Option Value). v.0)) (last_is vs t is.some)) displaced in
      ⊎_elim (λ below. below)
      (λ same.
      let before : (version_at vs t.row (t.first + t.count - 1)).0 ≤ number = subst (λ q. (version_at vs t.row q).0 ≤ number) {x = t.first + (t.count - 1)} {y = t.first + t.count - 1} (omega (arith, is.some)) (up.before (t.count - 1) (omega (arith, same, is.some))) in
      absurd (omega (arith, last, before)))
      (less_or_is r t.count (omega (arith, up.within)))

  place : IsFound nat_cmp (versions_in vs t) number (r - 1)
  place = found_place vs t.row now number 0 t.first t.count (r - 1) is.rising (omega (arith, more, one)) (up.before (r - 1) (omega (arith, one)))
      (λ _. subst (λ q. number < (version_at vs t.row (t.first + q)).0) {x = r} {y = r - 1 + 1} (omega (arith, one)) (up.after more)) made

  pub filled : (rank : ℕ) → t.first ≤ rank → rank ≤ t.first + r - 1 → IsSome (value_for key_cmp vs (key_at t.row rank))
  filled rank from upto =
      has_version vs t.row rank
      (subst (λ q. 0 < (version_at vs t.row q).0) {x = t.first + (rank - t.first)} {y = rank} (omega (arith, from))
      (later_greater vs t.row now number 0 t.first t.count (rank - t.first) is.rising (omega (arith, from, upto, more, one))))

  module _ (ws : Ranked) (out : TakesOut vs ws t.row t.first (t.first + r - 1)) where
    removed_is : versions_in ws (shorter t) ≡ remove (versions_in vs t) (r - 1)
    removed_is =
        removed vs ws t.row t.first (t.count - 1) (r - 1) (t.first + r - 1) (omega (arith, one)) (omega (arith, more, one)) out.moved out.later
        ∙ ap (λ n. remove (versions_from vs t.row t.first n) (r - 1)) {x = suc (t.count - 1)} {y = t.count} (omega (arith, is.some))

    pub taken_versions : versions_in ws (shorter t) ≡ without_key nat_cmp (versions_in vs t) number
    taken_versions = removed_is ∙ sym (without_found nat_cmp (versions_in vs t) number (r - 1) place)

    pub shorter_is : (kept : ℕ) → rows ≤ kept → IsSpan now kept ws (shorter t)
    shorter_is kept longer = record {
      some = omega (arith, more, one);
      numbered = omega (arith, is.numbered, longer);
      rising = subst (RiseWithin 0 now) (sym removed_is) (rise_removed 0 now (versions_in vs t) (r - 1) is.rising);
      early = λ rank last. subst (λ (v : ℕ × Option Value). rank < v.0) (sym (out.later rank (omega (arith, last, more, one)))) (is.early rank (omega (arith, last, is.some)));
    }
