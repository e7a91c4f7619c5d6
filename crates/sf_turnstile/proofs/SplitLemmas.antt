-- A split keeps the rule.
use Rattle.std.proofs.Common.{◌≡◌, ℕ, ◌+◌, ◌<◌, true, false, cond, true≢false, List, [], ◌∷◌, ◌++◌, length, set, Option, Some, None, Contains, refl, sym, ap, ◌∙◌, subst, arith, inl, inr, ⊎_elim, length-set, length-append}
use mathlib.Core.Option as m
use lib.ListN.{get_elem?}
use Rattle.std.proofs.lemmas.List.Sums.{sum_by_push}
use Rattle.atomic_table.specs.Table.{Splits}
use Rattle.atomic_table.proofs.Lists.{at_longer}
use Rattle.sf_types.specs.declared.history.Entry.{Entry}
use Rattle.sf_types.specs.Orders.Fronts.{entries_of}
use Rattle.sf_turnstile.specs.declared.limits.TheConstants.{TURNSTILE_SPLITS}
use Rattle.sf_turnstile.specs.declared.view.Phase.TheVariants.{Idle, Holds}
use Rattle.sf_turnstile.specs.declared.view.View.{View}
use Rattle.sf_turnstile.specs.Rule.{has_ticket, is_out, tickets_out, ticket_at, FitsPhase, FitsSeat, HasTicket, InSlot, TurnstileRule}
use Rattle.sf_turnstile.specs.Steps.{view_after_split, next_view}
use Rattle.sf_turnstile.proofs.ListLemmas.{at_changed, at_unchanged, same_at, all_changed, sum_changed, at_pushed}
use Rattle.sf_turnstile.proofs.EntryLemmas.{prefix_none}
use Rattle.sf_turnstile.proofs.TicketLemmas.{ticket_push, ticket_longer}
use Rattle.sf_turnstile.proofs.RuleLemmas.{first_fits, not_idle_holds, consecutive_same, slot_else, unique_same}

module _ {B : Type 0} (history_of : B → List Entry) where
  slot_longer : (h : List Entry) (sv : ℕ) (homes : List (m.Option (Option B))) (views more : List View) → InSlot history_of h sv homes views → InSlot history_of h sv homes (views ++ more)
  slot_longer h sv homes views more slot =
      ⊎_elim (λ (a : (b : B) × (homes ≡ m.some (Some b) ∷ []) × (history_of b ≡ h)). inl a)
      (λ (a : (j : ℕ) × (u : View) × (homes ≡ m.none ∷ []) × (get_elem? views j ≡ m.some u) × (u.phase ≡ Holds sv)). inr (a.0, a.1, a.2, at_longer views more a.0 a.1 a.3, a.4))
      slot

  pub splits : (id : ℕ) (v : View) → v.number ≡ 0 → v.phase ≡ Idle → v.splits < TURNSTILE_SPLITS → Splits (TurnstileRule history_of) id v (view_after_split v) (next_view v)
  splits id v first_seat idle room s kept at =
      let out : is_out v.phase ≡ true = ap is_out idle in
      let mine = kept.seats id v at out in
      let first = first_fits history_of s kept id v at out first_seat in
      let zero_id = first.0 in
      let f = first.1 in
      let f1 = f.splits in let f3 = f.others in
      let w : View = view_after_split v in
      let one : List View = set s.views id w in
      let two : List View = one ++ next_view v ∷ [] in
      let long = length-set s.views id w in
      let long' = length-append one (next_view v ∷ []) in
      let has : View → ℕ = λ u. cond {A = ℕ} (has_ticket u.phase) 1 0 in
      let outs : View → ℕ = λ u. cond {A = ℕ} (is_out u.phase) 1 0 in
      let c1 = sum_changed has s.views id v w at in let c2 = sum_by_push has one (next_view v) in
      let d1 = sum_changed outs s.views id v w at in let d2 = sum_by_push outs one (next_view v) in
      let wait : tickets_out two ≡ tickets_out s.views = omega arith in
      let none : entries_of (v.splits + 1) kept.history ≡ [] = f.unmade (v.splits + 1) (omega arith) in
      record {
        history = kept.history;
        serving = kept.serving;
        small = kept.small;
        words = kept.words ∙ ap (λ (n : ℕ). ticket_at kept.serving n ∷ kept.serving ∷ []) (sym wait);
        seats = λ j u e o. ⊎_elim
            (λ (old : get_elem? one j ≡ m.some u). all_changed (λ j u. is_out u.phase ≡ true → FitsSeat kept.history kept.serving (tickets_out two) j u) s.views id w
            (λ j u ne e o. let fits = kept.seats j u e o in record { number = fits.number; alone = fits.alone; front = fits.front; own = fits.own; phase = subst (λ (n : ℕ). FitsPhase kept.history kept.serving n u.front u.phase) (sym wait) fits.phase; after_join = fits.after_join })
            (λ o. record { number = mine.number; alone = mine.alone; front = mine.front; own = mine.own; phase = subst (λ (n : ℕ). FitsPhase kept.history kept.serving n v.front v.phase) (sym wait) mine.phase; after_join = λ yes. absurd (true≢false (sym yes)) })
            j u old o)
            (λ (x : (j ≡ length one) × (next_view v ≡ u)). subst (λ (y : ℕ × View). FitsSeat kept.history kept.serving (tickets_out two) y.0 y.1) (λ i. (sym x.0 i, x.1 i))
            (let number : v.splits + 1 ≡ length one = omega arith in record {
              number = number;
              alone = λ _. refl;
              front = mine.front;
              own = ap (λ (n : ℕ). entries_of n v.front) (sym number) ∙ (prefix_none (v.splits + 1) v.front kept.history mine.front none ∙ (sym none ∙ ap (λ (n : ℕ). entries_of n kept.history) number));
              phase = tt;
              after_join = λ yes. absurd (true≢false (sym yes));
            }))
            (at_pushed one (next_view v) u j e);
        unique = λ i j t a b. unique_same history_of s kept id v w at refl i j t (old i t a) (old j t b);
        consecutive = λ k lt. let r = consecutive_same s.views id v w at refl (ticket_at kept.serving k) (kept.consecutive k (omega arith)) in (r.0, ticket_longer one (next_view v ∷ []) r.0 (ticket_at kept.serving k) r.1);
        slot = slot_longer kept.history kept.serving s.homes one (next_view v ∷ []) (slot_else history_of kept.history kept.serving id s.homes s.views v w at (not_idle_holds kept.serving v.phase idle) kept.slot);
        first = (
          w,
          at_longer one (next_view v ∷ []) 0 w (subst (λ (k : ℕ). get_elem? one k ≡ m.some w) zero_id (at_changed s.views id v w at)),
          record {
            out = out;
            splits = omega arith;
            most = omega arith;
            others = omega arith;
            joined = f.joined;
            spent = λ j u e off. ⊎_elim
                (λ (there : get_elem? one j ≡ m.some u). all_changed (λ j u. is_out u.phase ≡ false → Contains v.joined_numbers j) s.views id w (λ j u ne e off. f.spent j u e off) (λ off. absurd (true≢false (sym out ∙ off))) j u there off)
                (λ (x : (j ≡ length one) × (next_view v ≡ u)). absurd (true≢false (ap (λ (z : View). is_out z.phase) x.1 ∙ off)))
                (at_pushed one (next_view v) u j e);
            joined_spent = λ j c.
                let gone = f.joined_spent j c in
                (gone.0, at_longer one (next_view v ∷ []) j gone.0 (at_unchanged s.views id j gone.0 w (λ e. absurd (true≢false (sym out ∙ (ap (λ (u : View). is_out u.phase) (same_at s.views id v gone.0 at (subst (λ (k : ℕ). get_elem? s.views k ≡ m.some gone.0) e gone.1)) ∙ gone.2)))) gone.1), gone.2);
            unmade = λ n lt. f.unmade n (omega arith);
            none_of_first = f.none_of_first;
          },
        );
      }
    where
      old : (k t : ℕ) → HasTicket (set s.views id (view_after_split v) ++ next_view v ∷ []) k t → HasTicket (set s.views id (view_after_split v)) k t
      old k t h = ⊎_elim (λ (x : HasTicket (set s.views id (view_after_split v)) k t). x) (λ (x : None ≡ Some t). absurd (cc x)) (ticket_push (set s.views id (view_after_split v)) (next_view v) k t h)
