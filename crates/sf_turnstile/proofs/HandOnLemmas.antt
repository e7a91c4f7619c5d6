-- A hand-on keeps the rule.
use Rattle.std.proofs.Common.{◌≡◌, ◌≢◌, ℕ, ◌+◌, ◌-◌, ◌%◌, ◌^◌, ◌<◌, ◌≤◌, true, cond, true≢false, List, [], ◌∷◌, ◌++◌, get_or, set, Option, Some, None, refl, sym, ap, ◌∙◌, subst, arith, inl, ⊎_elim, append-nil}
use mathlib.Core.Option as m
use mathlib.Core.List.{IsPrefix}
use lib.ListN.{get_elem?}
use Rattle.atomic_table.specs.Table.{State, Me, step, gives, stepped, Allows}
use Rattle.sf_types.specs.declared.history.Entry.{Entry}
use Rattle.sf_types.specs.Orders.Fronts.{entries_of}
use Rattle.sf_turnstile.specs.declared.limits.TheConstants.{TURNSTILE_SPLITS}
use Rattle.sf_turnstile.specs.declared.view.Phase.{Phase}
use Rattle.sf_turnstile.specs.declared.view.Phase.TheVariants.{Idle, Waits, Holds, Spent}
use Rattle.sf_turnstile.specs.declared.view.View.{View}
use Rattle.sf_turnstile.specs.Rule.{ticket_of, has_ticket, is_out, tickets_out, ticket_at, FitsPhase, FitsSeat, HasTicket, TurnstileRule}
use Rattle.sf_turnstile.specs.Steps.{view_handed_on, HandsOn}
use Rattle.sf_turnstile.specs.Continuations.{Continues}
use Rattle.sf_turnstile.proofs.ListLemmas.{same_at, all_changed, sum_changed}
use Rattle.sf_turnstile.proofs.EntryLemmas.{grown, prefix_self, prefix_trans}
use Rattle.sf_turnstile.proofs.TicketLemmas.{ticket_else, ticket_set}
use Rattle.sf_turnstile.proofs.RuleLemmas.{ticket_or_zero, few_tickets, one_home, first_step}

-- a tickets_out seat's phase after the seat before it has view_handed_on on
phase_after : (h h' : List Entry) (sv d d' : ℕ) (f : List Entry) (p : Phase) → sv < 2 ^ 64 → d' + 1 ≡ d → d ≤ TURNSTILE_SPLITS + 1 → ticket_of p ≢ Some sv → FitsPhase h sv d f p → FitsPhase h' ((sv + 1) % 2 ^ 64) d' f p
phase_after h h' sv d d' f Idle small one most ne fits = tt
phase_after h h' sv d d' f (Waits t) small one most ne fits =
    let k : ℕ = fits.0 in let lt = fits.1 in let is = fits.2 in
    let behind : k ≢ 0 = λ z. ne (ap Some (omega arith)) in (k - 1, omega arith, omega arith)
phase_after h h' sv d d' f (Holds t) small one most ne fits = absurd (ne (ap Some fits.1))
phase_after h h' sv d d' f Spent small one most ne fits = absurd fits

some_is : (x y : ℕ) → Some x ≡ Some y → x ≡ y
some_is x y e = ap ticket_or_zero e

module _ {B : Type 0} (history_of : B → List Entry) where
  pub hands_keep : (s : State (Option B) View) (id t : ℕ) (v : View) (b : B) → v.phase ≡ Holds t → Continues v.number v.front (history_of b) → TurnstileRule history_of s → get_elem? s.views id ≡ m.some v
      → TurnstileRule history_of (stepped s 1 ((get_or s.words 1 0 + 1) % 2 ^ 64) id ((0, Some b) ∷ []) (view_handed_on (history_of b) v) gives)
  hands_keep s id t v b holds goes kept at =
      let sv : ℕ = kept.serving in
      let d : ℕ = tickets_out s.views in
      let found_is : get_or s.words 1 0 ≡ sv = ap (λ (l : List ℕ). get_or l 1 0) kept.words in
      let w : View = view_handed_on (history_of b) v in
      let views : List View = set s.views id w in
      let out : is_out v.phase ≡ true = ap is_out holds in
      let mine = kept.seats id v at out in
      let phase = subst (FitsPhase kept.history sv d v.front) holds mine.phase in
      let some_wait = phase.0 in
      let ticket : ticket_of v.phase ≡ Some sv = ap ticket_of holds ∙ ap Some phase.1 in
      let count = sum_changed (λ (u : View). cond {A = ℕ} (has_ticket u.phase) 1 0) s.views id v w at in
      let one : cond {A = ℕ} (has_ticket v.phase) 1 0 ≡ 1 = ap (λ (p : Phase). cond {A = ℕ} (has_ticket p) 1 0) holds in
      let less : tickets_out views + 1 ≡ d = omega arith in
      let most = few_tickets history_of s kept in let m1 = most.0 in let m2 = most.1 in
      let small = kept.small in
      let longer_is : IsPrefix kept.history (history_of b) = (goes.added, ap (λ (l : List Entry). l ++ goes.added) (sym phase.2) ∙ sym goes.parts) in
      let same : (n : ℕ) → n ≢ id → entries_of n kept.history ≡ entries_of n (history_of b) =
      λ n ne. sym (ap (entries_of n) goes.parts ∙ (grown n v.number v.front goes.added (λ e. ne (e ∙ mine.number)) goes.own ∙ ap (entries_of n) phase.2)) in
      let whole : id ≡ 0 → kept.history ≡ history_of b = λ e. sym phase.2 ∙ (sym (append-nil v.front) ∙ (ap (λ (l : List Entry). v.front ++ l) (sym (goes.first (mine.number ∙ e))) ∙ sym goes.parts)) in
      let home = one_home history_of kept.history sv s.homes s.views kept.slot in
      record {
        history = history_of b;
        serving = (sv + 1) % 2 ^ 64;
        small = omega arith;
        words = ap (λ (l : List ℕ). set l 1 ((get_or s.words 1 0 + 1) % 2 ^ 64)) kept.words ∙ ap₂' (omega arith) (omega arith);
        seats = all_changed (λ j u. is_out u.phase ≡ true → FitsSeat (history_of b) ((sv + 1) % 2 ^ 64) (tickets_out views) j u) s.views id w
            (λ j u ne e o. let old = kept.seats j u e o in record {
              number = old.number;
              alone = old.alone;
              front = prefix_trans u.front kept.history (history_of b) old.front longer_is;
              own = old.own ∙ same j ne;
              phase = phase_after kept.history (history_of b) sv d (tickets_out views) u.front u.phase small less (omega arith) (λ has. ne (kept.unique j id sv (u, e, has) (v, at, ticket))) old.phase;
              after_join = old.after_join;
            })
            (λ o. record { number = mine.number; alone = mine.alone; front = prefix_self (history_of b); own = refl; phase = tt; after_join = λ yes. absurd (true≢false (sym yes)) });
        unique = λ i j n a c. kept.unique i j n (old i n a) (old j n c);
        consecutive = λ k lt.
            let before = kept.consecutive (k + 1) (omega arith) in
            let is : ticket_at sv (k + 1) ≡ ticket_at ((sv + 1) % 2 ^ 64) k = omega arith in
            let other : before.0 ≢ id = λ e.
            let h = subst (λ (n : ℕ). HasTicket s.views n (ticket_at sv (k + 1))) e before.1 in
            let q : sv ≡ ticket_at sv (k + 1) = some_is sv (ticket_at sv (k + 1)) (sym ticket ∙ (ap (λ (u : View). ticket_of u.phase) (same_at s.views id v h.0 at h.1) ∙ h.2)) in absurd (omega arith) in
            (before.0, subst (HasTicket views before.0) is (ticket_else s.views id before.0 (ticket_at sv (k + 1)) w other before.1));
        slot = inl (b, ap (λ (l : List (m.Option (Option B))). set l 0 (m.some (Some b))) home.1, refl);
        first = first_step kept.history (history_of b) s.views id v w at out refl refl refl refl same (λ e n c. refl) whole kept.first;
      }
    where
      ap₂' : {x x' y y' : ℕ} → x ≡ x' → y ≡ y' → let l : List ℕ = x ∷ y ∷ [] in l ≡ x' ∷ y' ∷ []
      ap₂' p q = λ i. p i ∷ q i ∷ []

      old : (k n : ℕ) → HasTicket (set s.views id (view_handed_on (history_of b) v)) k n → HasTicket s.views k n
      old k n h =
          ⊎_elim
          (λ (x : (k ≡ id) × (None ≡ Some n)). absurd (cc (x.1)))
          (λ (x : (k ≢ id) × HasTicket s.views k n). x.1)
          (ticket_set s.views id k n (view_handed_on (history_of b) v) h)

  pub hands : (slots id t : ℕ) (v : View) (b : B) → v.phase ≡ Holds t → Continues v.number v.front (history_of b)
      → Allows (TurnstileRule history_of) slots id (v, (0, Some b) ∷ []) 1 (λ n. (n + 1) % 2 ^ 64) (HandsOn history_of (step slots 1 1 0 m.none) (v, (0, Some b) ∷ []))
  hands slots id t v b holds goes s kept _ at small = (view_handed_on (history_of b) v, gives, tt, hands_keep s id t v b holds goes kept at, (b, refl, refl))

  pub hands_on : (slots id t : ℕ) (me : Me (Option B) View) (v : View) (b : B) → me ≡ (v, (0, Some b) ∷ []) → v.phase ≡ Holds t → Continues v.number v.front (history_of b)
      → Allows (TurnstileRule history_of) slots id me 1 (λ n. (n + 1) % 2 ^ 64) (HandsOn history_of (step slots 1 1 0 m.none) me)
  hands_on slots id t me v b is holds goes =
      subst (λ (x : Me (Option B) View). Allows (TurnstileRule history_of) slots id x 1 (λ n. (n + 1) % 2 ^ 64) (HandsOn history_of (step slots 1 1 0 m.none) x)) (sym is) (hands slots id t v b holds goes)
