use Rattle.std.proofs.Common.{◌≡◌, ◌∙◌, ◌≤◌, ap, sym, cond, arith, List, ℕ, Option, Some, None, refl}
use Rattle.std.specs.Prelude.{is_some}
use Rattle.std.specs.FinMap as fin
use Rattle.sf_types.specs.declared.holder.Holder.{Holder}
use Rattle.sf_types.specs.Inside.Holders.{holder_cmp, holder_cmp_total, holder_cmp-IsAntisymmetric}
use Rattle.sf_room_map.specs.Entries.{value_for, with_value}
use Rattle.sf_lifetimes.proofs.EntryMapLemmas.{get_is, put_at}
use Rattle.sf_lifetimes.proofs.holding_map.HoldingMap.insert.Goals as goal

room_for : (x : Option (List ℕ)) (spare : ℕ) → (x ≡ None → 1 ≤ spare) → cond (is_some x) 0 1 ≤ spare
room_for None spare room = room refl
room_for (Some births) spare room = omega arith

pub insert_within-requires : goal.insert_within-requires
insert_within-requires c =
    let es = c.self.inside.entries.held in
    let is = ap (value_for holder_cmp es) c.of.ensures ∙ sym (get_is holder_cmp holder_cmp_total es c.args.holder.now) ∙ ap (λ v. fin.get v.held c.args.holder.now) c.self.view_is in
    omega (arith, room_for (fin.get c.args.self.now.held c.args.holder.now) c.args.self.now.spare c.requires, ap {B = ℕ} (λ x. cond (is_some x) 0 1) is, ap (λ v. v.spare) c.self.view_is)

pub returns-clause-held : goal.returns-clause-held
returns-clause-held c =
    let es = c.self.inside.entries.held in
    ap (λ (xs : List (Holder × List ℕ)). fin.from_entries {R = holder_cmp} xs) c.insert_within.ensures.held
    ∙ ap (λ (k : Holder). fin.from_entries {R = holder_cmp} (with_value holder_cmp es k c.args.births)) c.of.ensures
    ∙ put_at holder_cmp holder_cmp_total holder_cmp-IsAntisymmetric es c.args.holder.now c.args.births
    ∙ ap (λ v. fin.insert v.held c.args.holder.now c.args.births) c.self.view_is

pub returns-clause-spare : goal.returns-clause-spare
returns-clause-spare c =
    let es = c.self.inside.entries.held in
    let is = ap (value_for holder_cmp es) c.of.ensures ∙ sym (get_is holder_cmp holder_cmp_total es c.args.holder.now) ∙ ap (λ v. fin.get v.held c.args.holder.now) c.self.view_is in
    omega (arith, c.insert_within.ensures.spare, ap {B = ℕ} (λ x. cond (is_some x) 0 1) is, ap (λ v. v.spare) c.self.view_is)
