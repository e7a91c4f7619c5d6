-- Once all other seats were joined, the value in the slot has the first seat's front.
use Rattle.std.proofs.Common.{◌≡◌, ℕ, true, false, List, [], ◌∷◌, ◌++◌, Option, Some, refl, sym, ap, ◌∙◌, subst, arith, ⊎_elim, append-nil}
use mathlib.Core.Option as m
use mathlib.Core.Logic.{dite}
use native.Mathlib.Decide.{ℕ_discrete, dec_le}
use lib.ListN.{get_elem?}
use Rattle.atomic_table.specs.Table.{State, Final, Seen}
use Rattle.sf_types.specs.declared.history.Entry.{Entry}
use Rattle.sf_types.specs.Orders.Fronts.{entries_of}
use Rattle.sf_turnstile.specs.declared.view.Phase.{Phase}
use Rattle.sf_turnstile.specs.declared.view.Phase.TheVariants.{Idle, Waits, Holds, Spent}
use Rattle.sf_turnstile.specs.declared.view.View.{View}
use Rattle.sf_turnstile.specs.Rule.{is_out, seats_out, TurnstileRule}
use Rattle.sf_turnstile.proofs.ListLemmas.{same_at, at_some}
use Rattle.sf_turnstile.proofs.EntryLemmas.{empty_of_none, prefix_none, rest_none}
use Rattle.sf_turnstile.proofs.RuleLemmas.{first_fits, two_out}

module _ {B : Type 0} (history_of : B → List Entry) where
  -- at the end the first seat knows the whole history, and the value is at home
  pub closes : (s : State (Option B) View) (id : ℕ) (v : View) → TurnstileRule history_of s → get_elem? s.views id ≡ m.some v → v.number ≡ 0 → v.phase ≡ Idle → v.others_out ≡ 0 → (b : B) × (s.homes ≡ m.some (Some b) ∷ []) × (history_of b ≡ v.front)
  closes s id v kept at first_seat idle last =
      let out : is_out v.phase ≡ true = ap is_out idle in
      let mine = kept.seats id v at out in
      let first = first_fits history_of s kept id v at out first_seat in
      let zero_id = first.0 in
      let f = first.1 in
      let f1 = f.splits in let f3 = f.others in
      let one : seats_out s.views ≡ 1 = omega arith in
      let h : List Entry = kept.history in
      let all : (n : ℕ) → entries_of n v.front ≡ entries_of n h =
      λ n. dite (ℕ_discrete n id)
      (λ e. subst (λ (k : ℕ). entries_of k v.front ≡ entries_of k h) (sym e) mine.own)
      (λ ne. dite (dec_le n v.splits)
      (λ le.
      let there = at_some s.views n (omega arith) in
      let off : is_out there.0.phase ≡ false = is_off there.0.phase (λ on. let t = two_out s.views id n v there.0 ne at there.1 out on in absurd (omega arith)) in
      f.joined n (f.spent n there.0 there.1 off))
      (λ past. let none = f.unmade n (omega arith) in prefix_none n v.front h mine.front none ∙ sym none)) in
      let rest : mine.front.0 ≡ [] = empty_of_none mine.front.0 (λ n. rest_none n v.front h mine.front (all n)) in
      let whole : h ≡ v.front = sym mine.front.1 ∙ (ap (λ (l : List Entry). v.front ++ l) rest ∙ append-nil v.front) in
      ⊎_elim
      (λ (a : (b : B) × (s.homes ≡ m.some (Some b) ∷ []) × (history_of b ≡ h)). (a.0, a.1, a.2 ∙ whole))
      (λ (a : (j : ℕ) × (u : View) × (s.homes ≡ m.none ∷ []) × (get_elem? s.views j ≡ m.some u) × (u.phase ≡ Holds kept.serving)).
      dite (ℕ_discrete a.0 id)
      (λ e. absurd (cc (ap (λ (z : View). z.phase) (same_at s.views id v a.1 at (subst (λ (k : ℕ). get_elem? s.views k ≡ m.some a.1) e a.3)), idle, a.4)))
      (λ ne. let t = two_out s.views id a.0 v a.1 ne at a.3 out (ap is_out a.4) in absurd (omega arith)))
      kept.slot
    where
      is_off : (p : Phase) → (is_out p ≡ true → ⊥) → is_out p ≡ false
      is_off Idle n = absurd (n refl)
      is_off (Waits t) n = absurd (n refl)
      is_off (Holds t) n = absurd (n refl)
      is_off Spent n = refl

  -- what stands in the slot when the turnstile is view_with_value apart
  pub at_end : (ws : List ℕ) (xs : List (Option B)) (id : ℕ) (v : View) → Final (Seen (TurnstileRule history_of) id v) ws xs → v.number ≡ 0 → v.phase ≡ Idle → v.others_out ≡ 0 → (b : B) × (get_elem? xs 0 ≡ m.some (Some b)) × (history_of b ≡ v.front)
  at_end ws xs id v final first_seat idle last =
      let t = closes final.0 id v final.1.0 final.1.1 first_seat idle last in
      (t.0, final.4 0 (Some t.0) (ap (λ (l : List (m.Option (Option B))). get_elem? l 0) t.1), t.2)
