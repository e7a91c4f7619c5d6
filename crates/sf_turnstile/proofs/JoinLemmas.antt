-- A join keeps the rule, and the look after it tells what it left.
use Rattle.std.proofs.Common.{◌≡◌, ◌≢◌, ℕ, ◌≤◌, Bool, true, false, cond, true≢false, List, [], ◌∷◌, length, set, Option, Some, None, Contains, refl, sym, ap, ◌∙◌, subst, arith, ⊎_elim, length-set, nat_le, leb-true, leb-false}
use mathlib.Core.Option as m
use mathlib.Core.List.{IsPrefix}
use lib.ListN.{get_elem?}
use Rattle.atomic_table.specs.Table.{Me, step, keeps, Allows, Joins}
use Rattle.atomic_table.proofs.Lists.{set_else}
use Rattle.sf_types.specs.declared.history.Entry.{Entry}
use Rattle.sf_types.specs.Orders.Fronts.{entries_of}
use Rattle.sf_turnstile.specs.declared.view.Phase.{Phase}
use Rattle.sf_turnstile.specs.declared.view.Phase.TheVariants.{Idle}
use Rattle.sf_turnstile.specs.declared.view.View.{View}
use Rattle.sf_turnstile.specs.Rule.{ticket_of, has_ticket, is_out, tickets_out, ticket_at, FitsPhase, FitsSeat, HasTicket, TurnstileRule}
use Rattle.sf_turnstile.specs.Steps.{longer, view_after_join, spent_view, Compares}
use Rattle.sf_turnstile.proofs.ListLemmas.{at_changed, at_unchanged, same_at, all_changed, sum_changed, contains_cons, contains_first, contains_more}
use Rattle.sf_turnstile.proofs.EntryLemmas.{prefix_self, prefix_shorter, between}
use Rattle.sf_turnstile.proofs.TicketLemmas.{ticket_else, ticket_set}
use Rattle.sf_turnstile.proofs.RuleLemmas.{first_fits, two_out, not_idle_holds, slot_else, unchanged_keeps}

-- of two lists the longer
longer_is : (xs ys : List Entry) (P : List Entry → Type 0) → (length xs ≤ length ys → P ys) → (length ys ≤ length xs → P xs) → P (longer xs ys)
longer_is xs ys P second first = go (nat_le (length xs) (length ys)) refl
  where
    go : (t : Bool) → nat_le (length xs) (length ys) ≡ t → P (cond t ys xs)
    go true e = second (leb-true (length xs) (length ys) e)
    go false e = first (let h = leb-false (length xs) (length ys) e in omega arith)

module _ {B : Type 0} (history_of : B → List Entry) where
  pub joins : (id other : ℕ) (v w : View) → v.number ≡ 0 → v.phase ≡ Idle → w.phase ≡ Idle → Joins (TurnstileRule history_of) id v other w (view_after_join v w) spent_view
  joins id other v w first_seat idle idle' s kept at apart there =
      let out : is_out v.phase ≡ true = ap is_out idle in
      let out' : is_out w.phase ≡ true = ap is_out idle' in
      let both : View = view_after_join v w in
      let one : List View = set s.views id both in
      let two : List View = set one other spent_view in
      let at' : get_elem? s.views other ≡ m.some w = sym (set_else s.views id other both apart) ∙ there in
      let mine = kept.seats id v at out in
      let theirs = kept.seats other w at' out' in
      let first = first_fits history_of s kept id v at out first_seat in
      let zero_id = first.0 in
      let f = first.1 in
      let f1 = f.splits in let f2 = f.most in let f3 = f.others in
      let h : List Entry = kept.history in
      let has : View → ℕ = λ u. cond {A = ℕ} (has_ticket u.phase) 1 0 in
      let outs : View → ℕ = λ u. cond {A = ℕ} (is_out u.phase) 1 0 in
      let c1 = sum_changed has s.views id v both at in let c2 = sum_changed has one other w spent_view there in
      let d1 = sum_changed outs s.views id v both at in let d2 = sum_changed outs one other w spent_view there in
      let idle_has : has w ≡ 0 = ap (λ (p : Phase). cond {A = ℕ} (has_ticket p) 1 0) idle' in
      let out_one : outs w ≡ 1 = ap (λ (t : Bool). cond {A = ℕ} t 1 0) out' in
      let several = two_out s.views id other v w apart at at' out out' in
      let wait : tickets_out two ≡ tickets_out s.views = omega arith in
      let long = length-set s.views id both in let long' = length-set one other spent_view in
      let whole : IsPrefix (longer v.front w.front) h = longer_is v.front w.front (λ l. IsPrefix l h) (λ _. theirs.front) (λ _. mine.front) in
      let from_v : IsPrefix v.front (longer v.front w.front) = longer_is v.front w.front (IsPrefix v.front) (λ le. prefix_shorter v.front w.front h mine.front theirs.front le) (λ _. prefix_self v.front) in
      let from_w : IsPrefix w.front (longer v.front w.front) = longer_is v.front w.front (IsPrefix w.front) (λ _. prefix_self w.front) (λ le. prefix_shorter w.front v.front h theirs.front mine.front le) in
      record {
        history = h;
        serving = kept.serving;
        small = kept.small;
        words = kept.words ∙ ap (λ (n : ℕ). ticket_at kept.serving n ∷ kept.serving ∷ []) (sym wait);
        seats = all_changed (λ j u. is_out u.phase ≡ true → FitsSeat h kept.serving (tickets_out two) j u) one other spent_view
            (λ j u ne e o. all_changed (λ j u. is_out u.phase ≡ true → FitsSeat h kept.serving (tickets_out two) j u) s.views id both
            (λ j u ne e o. let fits = kept.seats j u e o in record { number = fits.number; alone = fits.alone; front = fits.front; own = fits.own; phase = subst (λ (n : ℕ). FitsPhase h kept.serving n u.front u.phase) (sym wait) fits.phase; after_join = fits.after_join })
            (λ o. record { number = mine.number; alone = λ lt. absurd (omega arith); front = whole; own = between id v.front (longer v.front w.front) h from_v whole mine.own; phase = subst (FitsPhase h kept.serving (tickets_out two) (longer v.front w.front)) (sym idle) tt; after_join = λ _. record { before = from_v; other = from_w; own = let e = between w.number w.front (longer v.front w.front) h from_w whole (subst (λ (k : ℕ). entries_of k w.front ≡ entries_of k h) (sym theirs.number) theirs.own) in e ∙ sym (subst (λ (k : ℕ). entries_of k w.front ≡ entries_of k h) (sym theirs.number) theirs.own); joined = λ n c. let all = f.joined n c in between n v.front (longer v.front w.front) h from_v whole all ∙ sym all } })
            j u e o)
            (λ o. absurd (true≢false (sym o)));
        unique = λ i j t a b. kept.unique i j t (old i t a) (old j t b);
        consecutive = λ k lt.
            let was = kept.consecutive k (omega arith) in
            let t : ℕ = ticket_at kept.serving k in
            let not_id : was.0 ≢ id = λ e. let g = subst (λ (n : ℕ). HasTicket s.views n t) e was.1 in absurd (cc (ap (λ (u : View). u.phase) (same_at s.views id v g.0 at g.1), idle, g.2)) in
            let not_other : was.0 ≢ other = λ e. let g = subst (λ (n : ℕ). HasTicket s.views n t) e was.1 in absurd (cc (ap (λ (u : View). u.phase) (same_at s.views other w g.0 at' g.1), idle', g.2)) in
            (was.0, ticket_else one other was.0 t spent_view not_other (ticket_else s.views id was.0 t both not_id was.1));
        slot = slot_else history_of h kept.serving other s.homes one w spent_view there (not_idle_holds kept.serving w.phase idle') (slot_else history_of h kept.serving id s.homes s.views v both at (not_idle_holds kept.serving v.phase idle) kept.slot);
        first = (
          both,
          at_unchanged one other 0 both spent_view (λ e. apart (sym e ∙ sym zero_id)) (subst (λ (k : ℕ). get_elem? one k ≡ m.some both) zero_id (at_changed s.views id v both at)),
          record {
            out = out;
            splits = omega arith;
            most = omega arith;
            others = omega arith;
            joined = λ n c. ⊎_elim
                (λ (e : n ≡ w.number). between n w.front (longer v.front w.front) h from_w whole (subst (λ (k : ℕ). entries_of k w.front ≡ entries_of k h) (sym (e ∙ theirs.number)) theirs.own))
                (λ (c' : Contains v.joined_numbers n). between n v.front (longer v.front w.front) h from_v whole (f.joined n c'))
                (contains_cons w.number n v.joined_numbers c);
            spent = all_changed (λ j u. is_out u.phase ≡ false → Contains (w.number ∷ v.joined_numbers) j) one other spent_view
                (λ j u ne e off. all_changed (λ j u. is_out u.phase ≡ false → Contains (w.number ∷ v.joined_numbers) j) s.views id both
                (λ j u ne e off. contains_more w.number j v.joined_numbers (f.spent j u e off))
                (λ off. absurd (true≢false (sym out ∙ off)))
                j u e off)
                (λ _. subst (Contains (w.number ∷ v.joined_numbers)) theirs.number (contains_first w.number v.joined_numbers));
            joined_spent = λ j c. ⊎_elim
                (λ (e : j ≡ w.number). (spent_view, subst (λ (k : ℕ). get_elem? two k ≡ m.some spent_view) (sym (e ∙ theirs.number)) (at_changed one other w spent_view there), refl))
                (λ (c' : Contains v.joined_numbers j).
                let gone = f.joined_spent j c' in
                let not_id : j ≢ id = λ e. absurd (true≢false (sym out ∙ (ap (λ (u : View). is_out u.phase) (same_at s.views id v gone.0 at (subst (λ (k : ℕ). get_elem? s.views k ≡ m.some gone.0) e gone.1)) ∙ gone.2))) in
                let not_other : j ≢ other = λ e. absurd (true≢false (sym out' ∙ (ap (λ (u : View). is_out u.phase) (same_at s.views other w gone.0 at' (subst (λ (k : ℕ). get_elem? s.views k ≡ m.some gone.0) e gone.1)) ∙ gone.2))) in
                (gone.0, at_unchanged one other j gone.0 spent_view not_other (at_unchanged s.views id j gone.0 both not_id gone.1), gone.2))
                (contains_cons w.number j v.joined_numbers c);
            unmade = λ n lt. f.unmade n (omega arith);
            none_of_first = f.none_of_first;
          },
        );
      }
    where
      old : (k t : ℕ) → HasTicket (set (set s.views id (view_after_join v w)) other spent_view) k t → HasTicket s.views k t
      old k t h =
          ⊎_elim
          (λ (x : (k ≡ other) × (None ≡ Some t)). absurd (cc (x.1)))
          (λ (x : (k ≢ other) × HasTicket (set s.views id (view_after_join v w)) k t). ⊎_elim
          (λ (y : (k ≡ id) × (ticket_of v.phase ≡ Some t)). absurd (cc (y.1, ap ticket_of idle)))
          (λ (y : (k ≢ id) × HasTicket s.views k t). y.1)
          (ticket_set s.views id k t (view_after_join v w) x.1))
          (ticket_set (set s.views id (view_after_join v w)) other k t spent_view h)

  pub compares : (slots id : ℕ) (me : Me (Option B) View) → is_out me.0.phase ≡ true → Allows (TurnstileRule history_of) slots id me 0 (λ n. n) (Compares (step slots 0 0 0 m.none) me)
  compares slots id me out s kept _ at small = (me.0, keeps, tt, unchanged_keeps history_of s id 0 me at kept, (refl, (kept.seats id me.0 at out).after_join))
