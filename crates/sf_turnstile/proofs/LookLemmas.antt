-- A look keeps the rule, and gives the slot to the seat whose turn it is.
use Rattle.std.proofs.Common.{◌≡◌, ℕ, true, cond, true≢false, List, [], ◌∷◌, get_or, set, Option, Some, Contains, refl, sym, ap, ◌∙◌, subst, arith, inr, ⊎_elim}
use mathlib.Core.Option as m
use mathlib.Core.Logic.{dite}
use mathlib.Core.List.{IsPrefix}
use native.Mathlib.Decide.{ℕ_discrete}
use lib.ListN.{get_elem?}
use Rattle.std.proofs.lemmas.List.{set-get_or}
use Rattle.atomic_table.specs.Table.{State, Me, step, keeps, takes, stepped, Allows}
use Rattle.sf_types.specs.declared.history.Entry.{Entry}
use Rattle.sf_types.specs.Orders.Fronts.{entries_of}
use Rattle.sf_turnstile.specs.declared.view.Phase.{Phase}
use Rattle.sf_turnstile.specs.declared.view.Phase.TheVariants.{Waits, Holds}
use Rattle.sf_turnstile.specs.declared.view.View.{View}
use Rattle.sf_turnstile.specs.Rule.{ticket_of, has_ticket, is_out, tickets_out, ticket_at, FitsPhase, FitsSeat, TurnstileRule}
use Rattle.sf_turnstile.specs.Steps.{view_with_value, Looks}
use Rattle.sf_turnstile.specs.Continuations.{IsNewer}
use Rattle.sf_turnstile.proofs.ListLemmas.{at_changed, same_at, all_changed, sum_changed}
use Rattle.sf_turnstile.proofs.EntryLemmas.{prefix_self}
use Rattle.sf_turnstile.proofs.RuleLemmas.{ticket_rank, joined_all, first_step, consecutive_same, unique_same, unchanged_keeps}

module _ {B : Type 0} (history_of : B → List Entry) where
  -- at its turn a seat finds the value at home
  at_home : (s : State (Option B) View) (kept : TurnstileRule history_of s) (id : ℕ) (v : View) → get_elem? s.views id ≡ m.some v → v.phase ≡ Waits kept.serving → (b : B) × (s.homes ≡ m.some (Some b) ∷ []) × (history_of b ≡ kept.history)
  at_home s kept id v at waits =
      ⊎_elim (λ (a : (b : B) × (s.homes ≡ m.some (Some b) ∷ []) × (history_of b ≡ kept.history)). a)
      (λ (a : (j : ℕ) × (u : View) × (s.homes ≡ m.none ∷ []) × (get_elem? s.views j ≡ m.some u) × (u.phase ≡ Holds kept.serving)).
      let e : a.0 ≡ id = kept.unique a.0 id kept.serving (a.1, a.3, ap ticket_of a.4) (v, at, ap ticket_of waits) in
      absurd (cc (ap (λ (z : View). z.phase) (same_at s.views id v a.1 at (subst (λ (k : ℕ). get_elem? s.views k ≡ m.some a.1) e a.3)), waits, a.4)))
      kept.slot

  pub takes_keep : (s : State (Option B) View) (id : ℕ) (me : Me (Option B) View) (b : B) (kept : TurnstileRule history_of s) → me.0.phase ≡ Waits kept.serving → get_elem? s.views id ≡ m.some me.0 → s.homes ≡ m.some (Some b) ∷ [] → history_of b ≡ kept.history
      → TurnstileRule history_of (stepped s 1 (get_or s.words 1 0) id me.1 (view_with_value kept.serving (history_of b) me.0) (takes 0 (Some b)))
  takes_keep s id me b kept waits at home is =
      let sv : ℕ = kept.serving in
      let d : ℕ = tickets_out s.views in
      let w : View = view_with_value sv (history_of b) me.0 in
      let views : List View = set s.views id w in
      let out : is_out me.0.phase ≡ true = ap is_out waits in
      let mine = kept.seats id me.0 at out in
      let count = sum_changed (λ (u : View). cond {A = ℕ} (has_ticket u.phase) 1 0) s.views id me.0 w at in
      let one : cond {A = ℕ} (has_ticket me.0.phase) 1 0 ≡ 1 = ap (λ (p : Phase). cond {A = ℕ} (has_ticket p) 1 0) waits in
      let same : tickets_out views ≡ d = omega arith in
      let ticket : Some sv ≡ ticket_of me.0.phase = sym (ap ticket_of waits) in
      let mine' = ticket_rank history_of s kept id sv (me.0, at, sym ticket) in let some_wait = mine'.1 in
      let front : entries_of id (history_of b) ≡ entries_of id kept.history = ap (entries_of id) is in
      record {
        history = kept.history;
        serving = sv;
        small = kept.small;
        words = set-get_or s.words 1 0 ∙ (kept.words ∙ ap (λ (n : ℕ). ticket_at sv n ∷ sv ∷ []) (sym same));
        seats = all_changed (λ j u. is_out u.phase ≡ true → FitsSeat kept.history sv (tickets_out views) j u) s.views id w
            (λ j u ne e o. let old = kept.seats j u e o in record { number = old.number; alone = old.alone; front = old.front; own = old.own; phase = subst (λ (n : ℕ). FitsPhase kept.history sv n u.front u.phase) (sym same) old.phase; after_join = old.after_join })
            (λ o. record { number = mine.number; alone = mine.alone; front = subst (λ (l : List Entry). IsPrefix l kept.history) (sym is) (prefix_self kept.history); own = front; phase = (omega arith, refl, is); after_join = λ yes. absurd (true≢false (sym yes)) });
        unique = unique_same history_of s kept id me.0 w at ticket;
        consecutive = λ k lt. consecutive_same s.views id me.0 w at ticket (ticket_at sv k) (kept.consecutive k (omega arith));
        slot = inr (id, w, ap (λ (l : List (m.Option (Option B))). set l 0 m.none) home, at_changed s.views id me.0 w at, refl);
        first = first_step kept.history kept.history s.views id me.0 w at out refl refl refl refl (λ n ne. refl) (λ e n c. ap (entries_of n) is) (λ e. refl) kept.first;
      }

  newer : (s : State (Option B) View) (kept : TurnstileRule history_of s) (id : ℕ) (v : View) → get_elem? s.views id ≡ m.some v → is_out v.phase ≡ true → IsNewer v kept.history
  newer s kept id v at out = let mine = kept.seats id v at out in record {
    front = mine.front;
    own = ap (λ (n : ℕ). entries_of n v.front) mine.number ∙ (mine.own ∙ ap (λ (n : ℕ). entries_of n kept.history) (sym mine.number));
    joined = λ n c. dite (ℕ_discrete id 0)
        (λ e. joined_all kept.history s.views id v at kept.first e n c)
        (λ ne. let none = subst (λ (l : List ℕ). Contains l n) (mine.alone (omega arith)) c in let k = none.1 in absurd (omega arith));
  }

  pub looks : (slots id t : ℕ) (me : Me (Option B) View) → me.0.phase ≡ Waits t → Allows (TurnstileRule history_of) slots id me 1 (λ n. n) (Looks history_of (step slots 1 0 0 m.none) me)
  looks slots id t me waits s kept _ at small =
      let found_is : get_or s.words 1 0 ≡ kept.serving = ap (λ (l : List ℕ). get_or l 1 0) kept.words in
      dite (ℕ_discrete t kept.serving)
      (λ e.
      let waits' : me.0.phase ≡ Waits kept.serving = waits ∙ ap Waits e in
      let home = at_home s kept id me.0 at waits' in
      let b : B = home.0 in
      let w : View = view_with_value kept.serving (history_of b) me.0 in (
        w,
        takes 0 (Some b),
        ap (λ (l : List (m.Option (Option B))). get_elem? l 0) home.1,
        takes_keep s id me b kept waits' at home.1 home.2,
        ((λ _. (b, subst (IsNewer me.0) (sym home.2) (newer s kept id me.0 at (ap is_out waits)), ap (λ (n : ℕ). (view_with_value n (history_of b) me.0, (0, Some b) ∷ me.1)) (sym found_is))), λ no. absurd (no (waits' ∙ ap Waits (sym found_is)))),
      ))
      (λ ne. (
        me.0,
        keeps,
        tt,
        unchanged_keeps history_of s id 1 me at kept,
        ((λ yes. absurd (ne (waits_is (sym waits ∙ yes) ∙ found_is))), λ _. refl),
      ))
    where
      waits_is : {x y : ℕ} → Waits x ≡ Waits y → x ≡ y
      waits_is e = cc e
