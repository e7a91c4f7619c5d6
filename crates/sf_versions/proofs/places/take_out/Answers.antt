use Rattle.std.proofs.Common.{◌≡◌, ℕ, ◌+◌, ◌<◌, ◌⊎◌, ⊎_elim, inl, inr, true, false, Option, None, ◌∙◌, ap, sym, subst, arith, refl}
use Rattle.std.specs.Prelude.{T, IsSome, nat_lt, unwrap_or}
use Rattle.std.specs.FinMap.Entries.{is_sorted}
use Rattle.sf_types.specs.Values.Marks.{Value}
use Rattle.sf_types.proofs.NumberLemmas.{less, not_less}
use Rattle.sf_room_map.specs.Entries.{value_for, with_value}
use Rattle.sf_room_map.proofs.EntryLemmas as entry
use Rattle.sf_versions.specs.Inside.VersionOrder.{key_cmp, key_cmp_total, keys_exact}
use Rattle.sf_versions.specs.Inside.Spans.{key_at, version_at}
use Rattle.sf_versions.proofs.SpanLemmas.{version_here, version_other, other_row, other_rank}
use Rattle.sf_versions.proofs.places.take_out.Goals as goal

less_or_is : (r n : ℕ) → r < n + 1 → (r < n) ⊎ (r ≡ n)
less_or_is r n within = elim (nat_lt r n) as (λ b. nat_lt r n ≡ b → (r < n) ⊎ (r ≡ n)) [
  | true ↦ λ is. inl (less r n is)
  | false ↦ λ is. inr (omega (arith, not_less r n is, within))
] refl

pub loop-rank-init : goal.loop-rank-init
loop-rank-init c =
    let vs = c.args.versions.now.held in
    let first = key_at c.args.row c.args.first in
    let version = λ (x : Option (ℕ × Option Value)). unwrap_or x (0, None) in
    record {
      from = omega arith;
      upto = c.requires.within;
      in_hand = ap version (sym c.remove.ensures.value ∙ c.in-Some.is);
      ordered = subst (λ e. T (is_sorted key_cmp e)) (sym c.remove.ensures.held) (entry.sorted_without key_cmp key_cmp_total first vs c.requires.ordered);
      moved = λ rank from below. absurd (omega (arith, from, below));
      later = λ rank more. ap (λ e. value_for key_cmp e (key_at c.args.row rank)) c.remove.ensures.held
          ∙ entry.without_other key_cmp key_cmp_total keys_exact vs first (key_at c.args.row rank) c.requires.ordered (entry.other_key key_cmp key_cmp_total keys_exact (key_at c.args.row rank) first (other_rank c.args.row c.args.first rank (λ is. absurd (omega (arith, more, is)))));
      others = λ other rank apart. ap version (ap (λ e. value_for key_cmp e (key_at other rank)) c.remove.ensures.held
          ∙ entry.without_other key_cmp key_cmp_total keys_exact vs first (key_at other rank) c.requires.ordered (entry.other_key key_cmp key_cmp_total keys_exact (key_at other rank) first (other_row c.args.row c.args.first other rank apart)));
      spare = c.remove.ensures.spare;
    }

pub replace-moved-requires : goal.replace-moved-requires
replace-moved-requires c =
    let next = c.loop-rank.rank + 1 in
    subst IsSome (sym (c.loop-rank.invariant.later next (omega arith))) (c.requires.filled next (omega (arith, c.loop-rank.invariant.from)) (omega (arith, c.loop-rank-test.true)))

pub loop-rank-preserved : goal.loop-rank-preserved
loop-rank-preserved c =
    let vs = c.loop-rank.versions.held in
    let at = c.loop-rank.rank in
    let next = at + 1 in
    let key = key_at c.args.row next in
    let keeps = c.loop-rank.invariant in
    let version = λ (x : Option (ℕ × Option Value)). unwrap_or x (0, None) in
    let held = c.replace-moved.ensures.held in
    record {
      from = omega (arith, keeps.from);
      upto = omega (arith, c.loop-rank-test.true);
      in_hand = ap version (sym (keeps.later next (omega arith)) ∙ c.replace-moved.ensures.value);
      ordered = subst (λ e. T (is_sorted key_cmp e)) (sym held) (entry.sorted_with key_cmp key_cmp_total vs key c.loop-rank.moved keeps.ordered);
      moved = λ rank from below. ap (λ e. version_at e c.args.row (rank + 1)) held
          ∙ ⊎_elim
          (λ earlier. version_other vs key c.loop-rank.moved c.args.row (rank + 1) (other_rank c.args.row next (rank + 1) (λ is. absurd (omega (arith, earlier, is)))) ∙ keeps.moved rank from earlier)
          (λ is. ap (version_at (with_value key_cmp vs key c.loop-rank.moved) c.args.row) {x = rank + 1} {y = next} (omega (arith, is)) ∙ version_here vs c.args.row next c.loop-rank.moved ∙ sym keeps.in_hand ∙ ap (version_at c.args.versions.now.held c.args.row) (sym is))
          (less_or_is rank at below);
      later = λ rank more. ap (λ e. value_for key_cmp e (key_at c.args.row rank)) held
          ∙ entry.with_other key_cmp key_cmp_total keys_exact vs key c.loop-rank.moved (key_at c.args.row rank) (entry.other_key key_cmp key_cmp_total keys_exact (key_at c.args.row rank) key (other_rank c.args.row next rank (λ is. absurd (omega (arith, more, is)))))
          ∙ keeps.later rank (omega (arith, more));
      others = λ other rank apart. ap (λ e. version_at e other rank) held
          ∙ version_other vs key c.loop-rank.moved other rank (other_row c.args.row next other rank apart) ∙ keeps.others other rank apart;
      spare = omega (arith, keeps.spare, c.replace-moved.ensures.spare);
    }
