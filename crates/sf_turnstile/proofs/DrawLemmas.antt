-- A draw keeps the rule.
use Rattle.std.proofs.Common.{◌≡◌, ◌≢◌, ℕ, ◌+◌, ◌%◌, ◌^◌, ◌≤◌, true, cond, true≢false, List, [], ◌∷◌, get_or, set, Option, Some, refl, sym, ap, ◌∙◌, subst, arith, ⊎_elim, length-set}
use mathlib.Core.Option as m
use mathlib.Core.Logic.{dite}
use native.Mathlib.Decide.{ℕ_discrete}
use lib.ListN.{get_elem?}
use Rattle.std.proofs.lemmas.List.Sums.{count_by-le-length}
use Rattle.atomic_table.specs.Table.{State, Me, step, keeps, stepped, Allows}
use Rattle.sf_types.specs.declared.history.Entry.{Entry}
use Rattle.sf_turnstile.specs.declared.limits.TheConstants.{TURNSTILE_SPLITS}
use Rattle.sf_turnstile.specs.declared.view.Phase.{Phase}
use Rattle.sf_turnstile.specs.declared.view.Phase.TheVariants.{Idle, Waits, Holds, Spent}
use Rattle.sf_turnstile.specs.declared.view.View.{View}
use Rattle.sf_turnstile.specs.Rule.{has_ticket, is_out, tickets_out, ticket_at, FitsPhase, FitsSeat, HasTicket, TurnstileRule}
use Rattle.sf_turnstile.specs.Steps.{view_with_ticket, Draws}
use Rattle.sf_turnstile.proofs.ListLemmas.{same_at, all_changed, sum_changed}
use Rattle.sf_turnstile.proofs.TicketLemmas.{ticket_here, ticket_else, ticket_set}
use Rattle.sf_turnstile.proofs.RuleLemmas.{ticket_or_zero, ticket_rank, few_tickets, joined_all, first_step, not_idle_holds, slot_else}

-- a seat's phase where one more has drawn
more_drawn : (h : List Entry) (sv d : ℕ) (f : List Entry) (p : Phase) → FitsPhase h sv d f p → FitsPhase h sv (d + 1) f p
more_drawn h sv d f Idle fits = tt
more_drawn h sv d f (Waits t) fits = let a = fits.1 in (fits.0, omega arith, fits.2)
more_drawn h sv d f (Holds t) fits = let a = fits.0 in (omega arith, fits.1, fits.2)
more_drawn h sv d f Spent fits = absurd fits

module _ {B : Type 0} (history_of : B → List Entry) where
  pub draws_keep : (s : State (Option B) View) (id : ℕ) (me : Me (Option B) View) → me.0.phase ≡ Idle → TurnstileRule history_of s → get_elem? s.views id ≡ m.some me.0
      → TurnstileRule history_of (stepped s 0 ((get_or s.words 0 0 + 1) % 2 ^ 64) id me.1 (view_with_ticket (get_or s.words 0 0) me.0) keeps)
  draws_keep s id me idle kept at =
      let sv : ℕ = kept.serving in
      let d : ℕ = tickets_out s.views in
      let found : ℕ = get_or s.words 0 0 in
      let found_is : found ≡ ticket_at sv d = ap (λ (l : List ℕ). get_or l 0 0) kept.words in
      let w : View = view_with_ticket found me.0 in
      let views : List View = set s.views id w in
      let count = sum_changed (λ (u : View). cond {A = ℕ} (has_ticket u.phase) 1 0) s.views id me.0 w at in
      let none : cond {A = ℕ} (has_ticket me.0.phase) 1 0 ≡ 0 = ap (λ (p : Phase). cond {A = ℕ} (has_ticket p) 1 0) idle in
      let more : tickets_out views ≡ d + 1 = omega arith in
      let most = (few_tickets history_of s kept).1 in
      let all = count_by-le-length (λ (u : View). has_ticket u.phase) views in
      let long = length-set s.views id w in
      let few' : d + 1 ≤ TURNSTILE_SPLITS + 1 = omega arith in
      let out : is_out me.0.phase ≡ true = ap is_out idle in
      let mine = kept.seats id me.0 at out in
      let small = kept.small in
      let new_ticket : (j : ℕ) → HasTicket s.views j found → ⊥ = λ j h. let p = ticket_rank history_of s kept j found h in let e = p.2 in let k = p.1 in omega arith in
      let no_ticket : (t : ℕ) → HasTicket s.views id t → ⊥ = λ t h. absurd (cc (ap (λ (u : View). u.phase) (same_at s.views id me.0 h.0 at h.1), idle, h.2)) in
      record {
        history = kept.history;
        serving = sv;
        small = small;
        words = ap (λ (l : List ℕ). set l 0 ((found + 1) % 2 ^ 64)) kept.words ∙ ap (λ (n : ℕ). n ∷ sv ∷ []) (omega arith);
        seats = all_changed (λ j u. is_out u.phase ≡ true → FitsSeat kept.history sv (tickets_out views) j u) s.views id w
            (λ j u ne e o. let old = kept.seats j u e o in record { number = old.number; alone = old.alone; front = old.front; own = old.own; phase = subst (λ (n : ℕ). FitsPhase kept.history sv n u.front u.phase) (sym more) (more_drawn kept.history sv d u.front u.phase old.phase); after_join = old.after_join })
            (λ o. record { number = mine.number; alone = mine.alone; front = mine.front; own = mine.own; phase = (d, omega arith, found_is); after_join = λ yes. absurd (true≢false (sym yes)) });
        unique = λ i j t a b.
            ⊎_elim
            (λ (x : (i ≡ id) × (Some found ≡ Some t)). ⊎_elim
            (λ (y : (j ≡ id) × (Some found ≡ Some t)). x.0 ∙ sym y.0)
            (λ (y : (j ≢ id) × HasTicket s.views j t). absurd (new_ticket j (subst (λ (n : ℕ). HasTicket s.views j n) (sym (ap ticket_or_zero x.1)) y.1)))
            (ticket_set s.views id j t w b))
            (λ (x : (i ≢ id) × HasTicket s.views i t). ⊎_elim
            (λ (y : (j ≡ id) × (Some found ≡ Some t)). absurd (new_ticket i (subst (λ (n : ℕ). HasTicket s.views i n) (sym (ap ticket_or_zero y.1)) x.1)))
            (λ (y : (j ≢ id) × HasTicket s.views j t). kept.unique i j t x.1 y.1)
            (ticket_set s.views id j t w b))
            (ticket_set s.views id i t w a);
        consecutive = λ k lt. dite (ℕ_discrete k d)
            (λ e. (id, ticket_here s.views id (ticket_at sv k) me.0 w at (ap Some (found_is ∙ ap (ticket_at sv) (sym e)))))
            (λ ne. let old = kept.consecutive k (omega arith) in (old.0, ticket_else s.views id old.0 (ticket_at sv k) w (λ e. no_ticket (ticket_at sv k) (subst (λ (j : ℕ). HasTicket s.views j (ticket_at sv k)) e old.1)) old.1));
        slot = slot_else history_of kept.history sv id s.homes s.views me.0 w at (not_idle_holds sv me.0.phase idle) kept.slot;
        first = first_step kept.history kept.history s.views id me.0 w at out refl refl refl refl (λ n ne. refl) (λ e. joined_all kept.history s.views id me.0 at kept.first e) (λ e. refl) kept.first;
      }

  pub draws : (slots id : ℕ) (me : Me (Option B) View) → me.0.phase ≡ Idle → Allows (TurnstileRule history_of) slots id me 0 (λ n. (n + 1) % 2 ^ 64) (Draws (step slots 0 1 0 m.none) me)
  draws slots id me idle s kept _ at small = (view_with_ticket (get_or s.words 0 0) me.0, keeps, tt, draws_keep s id me idle kept at, refl)
