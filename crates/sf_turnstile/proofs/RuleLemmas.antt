-- What the rule says of one seat, and what a step of one seat leaves of the rule.
use Rattle.std.proofs.Common.{◌≡◌, ◌≢◌, ℕ, ◌+◌, ◌^◌, ◌<◌, ◌≤◌, Bool, true, false, cond, true≢false, List, [], ◌∷◌, length, get_or, set, Option, Some, None, Contains, refl, sym, ap, ◌∙◌, subst, arith, inl, inr, ⊎_elim, length-set}
use mathlib.Core.Option.{some, some-injective, some-ne-none}
use mathlib.Core.Option as m
use mathlib.Core.Logic.{dite}
use native.Mathlib.Decide.{ℕ_discrete}
use lib.ListN.{get_elem?}
use Rattle.std.proofs.lemmas.List.Sums.{count_by-le-length}
use Rattle.std.proofs.lemmas.List.{set-get_or}
use Rattle.atomic_table.specs.Table.{State, Me, keeps, stepped}
use Rattle.atomic_table.proofs.Lists.{set_again}
use Rattle.sf_types.specs.declared.history.Entry.{Entry}
use Rattle.sf_types.specs.Orders.Fronts.{entries_of}
use Rattle.sf_turnstile.specs.declared.limits.TheConstants.{TURNSTILE_SPLITS}
use Rattle.sf_turnstile.specs.declared.view.Phase.{Phase}
use Rattle.sf_turnstile.specs.declared.view.Phase.TheVariants.{Idle, Waits, Holds, Spent}
use Rattle.sf_turnstile.specs.declared.view.View.{View}
use Rattle.sf_turnstile.specs.Rule.{ticket_of, has_ticket, is_out, tickets_out, seats_out, ticket_at, FitsFirst, FitsPhase, HasFirst, HasTicket, InSlot, TurnstileRule}
use Rattle.sf_turnstile.specs.Steps.{spent_view}
use Rattle.sf_turnstile.proofs.ListLemmas.{at_within, at_changed, at_unchanged, same_at, all_changed, sum_changed, sum_at_least}
use Rattle.sf_turnstile.proofs.TicketLemmas.{ticket_here, ticket_else, ticket_set}

abbrev pub ticket_or_zero : Option ℕ → ℕ
ticket_or_zero None = 0
ticket_or_zero (Some t) = t

-- a ticket that is out has a rank among those from the served one on
pub waiting_rank : (h : List Entry) (sv d : ℕ) (f : List Entry) (p : Phase) (t : ℕ) → sv < 2 ^ 64 → FitsPhase h sv d f p → ticket_of p ≡ Some t → (k : ℕ) × (k < d) × (t ≡ ticket_at sv k)
waiting_rank h sv d f Idle t small fits e = absurd (cc e)
waiting_rank h sv d f (Waits u) t small fits e = let is : u ≡ t = cc e in (fits.0, fits.1, sym is ∙ fits.2)
waiting_rank h sv d f (Holds u) t small fits e = let is : u ≡ t = cc e in (0, fits.0, sym is ∙ (fits.1 ∙ omega arith))
waiting_rank h sv d f Spent t small fits e = absurd fits

-- who has a ticket isn't spent, and counts among those that wait
pub out_of_ticket : (p : Phase) (t : ℕ) → ticket_of p ≡ Some t → (is_out p ≡ true) × (has_ticket p ≡ true)
out_of_ticket Idle t e = absurd (cc e)
out_of_ticket (Waits u) t e = (refl, refl)
out_of_ticket (Holds u) t e = (refl, refl)
out_of_ticket Spent t e = absurd (cc e)

module _ {B : Type 0} (history_of : B → List Entry) where
  abbrev pub St : Type 0
  St = State (Option B) View

  -- the place of a ticket that a seat has
  pub ticket_rank : (s : St) (kept : TurnstileRule history_of s) (id t : ℕ) → HasTicket s.views id t → (k : ℕ) × (k < tickets_out s.views) × (t ≡ ticket_at kept.serving k)
  ticket_rank s kept id t h = let o = out_of_ticket h.0.phase t h.2 in waiting_rank kept.history kept.serving (tickets_out s.views) h.0.front h.0.phase t kept.small (kept.seats id h.0 h.1 o.0).phase h.2

  -- no more seats wait than there are seats
  pub few_tickets : (s : St) → TurnstileRule history_of s → (tickets_out s.views ≤ length s.views) × (length s.views ≤ TURNSTILE_SPLITS + 1)
  few_tickets s kept = let f = kept.first.2 in let a = f.splits in let b = f.most in (count_by-le-length (λ (v : View). has_ticket v.phase) s.views, omega arith)

  -- the slots are one
  pub one_home : (h : List Entry) (sv : ℕ) (homes : List (m.Option (Option B))) (views : List View) → InSlot history_of h sv homes views → (x : m.Option (Option B)) × (homes ≡ x ∷ [])
  one_home h sv homes views slot = ⊎_elim (λ (a : (b : B) × (homes ≡ m.some (Some b) ∷ []) × (history_of b ≡ h)). (m.some (Some a.0), a.1)) (λ (a : (id : ℕ) × (v : View) × (homes ≡ m.none ∷ []) × (get_elem? views id ≡ m.some v) × (v.phase ≡ Holds sv)). (m.none, a.2)) slot

-- the view with the number 0 is the first seat's, and the rule says of it what it says of that seat
pub first_fits : {B : Type 0} (history_of : B → List Entry) (s : State (Option B) View) (kept : TurnstileRule history_of s) (id : ℕ) (v : View) → get_elem? s.views id ≡ m.some v → is_out v.phase ≡ true → v.number ≡ 0 → (id ≡ 0) × FitsFirst kept.history s.views v
first_fits history_of s kept id v at out first_seat =
    let zero_id : id ≡ 0 = sym (kept.seats id v at out).number ∙ first_seat in
    let is : kept.first.0 ≡ v = same_at s.views 0 kept.first.0 v kept.first.1 (subst (λ (k : ℕ). get_elem? s.views k ≡ m.some v) zero_id at) in
    (zero_id, subst (FitsFirst kept.history s.views) is kept.first.2)

-- what the first seat's front has
pub joined_all : (h : List Entry) (views : List View) (id : ℕ) (v : View) → get_elem? views id ≡ m.some v → HasFirst h views → id ≡ 0 → (s : ℕ) → Contains v.joined_numbers s → entries_of s v.front ≡ entries_of s h
joined_all h views id v at first zero_id s c =
    let mine : first.0 ≡ v = same_at views 0 first.0 v first.1 (subst (λ (k : ℕ). get_elem? views k ≡ m.some v) zero_id at) in
    subst (λ (u : View). Contains u.joined_numbers s → entries_of s u.front ≡ entries_of s h) mine (first.2.joined s) c

-- what the first seat knows, after a step of some seat that is no split and no join
pub first_step : (h h' : List Entry) (views : List View) (id : ℕ) (v w : View) → get_elem? views id ≡ m.some v → is_out v.phase ≡ true → is_out w.phase ≡ true → w.splits ≡ v.splits → w.others_out ≡ v.others_out → w.joined_numbers ≡ v.joined_numbers
    → ((s : ℕ) → s ≢ id → entries_of s h ≡ entries_of s h') → (id ≡ 0 → (s : ℕ) → Contains w.joined_numbers s → entries_of s w.front ≡ entries_of s h') → (id ≡ 0 → h ≡ h')
    → HasFirst h views → HasFirst h' (set views id w)
first_step h h' views id v w at out out' splits outs joined same front whole first =
    let counts = sum_changed (λ (u : View). cond (is_out u.phase) 1 0) views id v w at in
    let one : cond {A = ℕ} (is_out v.phase) 1 0 ≡ 1 = ap (λ (b : Bool). cond {A = ℕ} b 1 0) out in
    let one' : cond {A = ℕ} (is_out w.phase) 1 0 ≡ 1 = ap (λ (b : Bool). cond {A = ℕ} b 1 0) out' in
    let long = length-set views id w in
    let f = first.2 in
    dite (ℕ_discrete id 0)
    (λ (zero_id : id ≡ 0).
    let mine : first.0 ≡ v = same_at views 0 first.0 v first.1 (subst (λ (k : ℕ). get_elem? views k ≡ m.some v) zero_id at) in
    let sp : first.0.splits ≡ v.splits = ap (λ (u : View). u.splits) mine in
    let ou : first.0.others_out ≡ v.others_out = ap (λ (u : View). u.others_out) mine in
    let jo : first.0.joined_numbers ≡ w.joined_numbers = ap (λ (u : View). u.joined_numbers) mine ∙ sym joined in
    let f1 = f.splits in let f2 = f.most in let f3 = f.others in (
      w,
      subst (λ (k : ℕ). get_elem? (set views id w) k ≡ m.some w) zero_id (at_changed views id v w at),
      record {
        out = out';
        splits = omega arith;
        most = omega arith;
        others = omega arith;
        joined = front zero_id;
        spent = all_changed (λ j u. is_out u.phase ≡ false → Contains w.joined_numbers j) views id w (λ j u ne e off. subst (λ (l : List ℕ). Contains l j) jo (f.spent j u e off)) (λ off. absurd (true≢false (sym out' ∙ off)));
        joined_spent = λ j c. let old = f.joined_spent j (subst (λ (l : List ℕ). Contains l j) (sym jo) c) in
            (old.0, at_unchanged views id j old.0 w (λ (e : j ≡ id). absurd (true≢false (sym out ∙ (ap (λ (u : View). is_out u.phase) (same_at views id v old.0 at (subst (λ (k : ℕ). get_elem? views k ≡ m.some old.0) e old.1)) ∙ old.2)))) old.1, old.2);
        unmade = λ s lt. ap (entries_of s) (sym (whole zero_id)) ∙ f.unmade s (omega arith);
        none_of_first = ap (entries_of 0) (sym (whole zero_id)) ∙ f.none_of_first;
      },
    ))
    (λ (ne0 : id ≢ 0).
    let spent_ne : (j : ℕ) → Contains first.0.joined_numbers j → j ≢ id =
    λ j c e. let old = f.joined_spent j c in absurd (true≢false (sym out ∙ (ap (λ (u : View). is_out u.phase) (same_at views id v old.0 at (subst (λ (k : ℕ). get_elem? views k ≡ m.some old.0) e old.1)) ∙ old.2))) in
    let f1 = f.splits in let f2 = f.most in let f3 = f.others in let within = at_within views id v at in (
      first.0,
      at_unchanged views id 0 first.0 w (λ e. ne0 (sym e)) first.1,
      record {
        out = f.out;
        splits = omega arith;
        most = f2;
        others = omega arith;
        joined = λ s c. f.joined s c ∙ same s (spent_ne s c);
        spent = all_changed (λ j u. is_out u.phase ≡ false → Contains first.0.joined_numbers j) views id w (λ j u ne e off. f.spent j u e off) (λ off. absurd (true≢false (sym out' ∙ off)));
        joined_spent = λ j c. let old = f.joined_spent j c in (old.0, at_unchanged views id j old.0 w (spent_ne j c) old.1, old.2);
        unmade = λ s lt. sym (same s (λ e. omega arith)) ∙ f.unmade s lt;
        none_of_first = sym (same 0 (λ e. ne0 (sym e))) ∙ f.none_of_first;
      },
    ))

-- two seats that are out
pub two_out : (views : List View) (i j : ℕ) (v u : View) → j ≢ i → get_elem? views i ≡ m.some v → get_elem? views j ≡ m.some u → is_out v.phase ≡ true → is_out u.phase ≡ true → 2 ≤ seats_out views
two_out views i j v u ne at there out out' =
    let f : View → ℕ = λ x. cond {A = ℕ} (is_out x.phase) 1 0 in
    let a = sum_changed f views i v spent_view at in
    let b = sum_at_least f (set views i spent_view) j u (at_unchanged views i j u spent_view ne there) in
    let one : f v ≡ 1 = ap (λ (t : Bool). cond {A = ℕ} t 1 0) out in
    let one' : f u ≡ 1 = ap (λ (t : Bool). cond {A = ℕ} t 1 0) out' in omega arith

pub not_idle_holds : (sv : ℕ) (p : Phase) → p ≡ Idle → p ≢ Holds sv
not_idle_holds sv p e q = absurd (cc (e, q))

pub consecutive_same : (views : List View) (id : ℕ) (v w : View) → get_elem? views id ≡ m.some v → ticket_of w.phase ≡ ticket_of v.phase → (t : ℕ) → (j : ℕ) × HasTicket views j t → (j : ℕ) × HasTicket (set views id w) j t
consecutive_same views id v w at same t old = dite (ℕ_discrete old.0 id)
    (λ e. let h = subst (λ (n : ℕ). HasTicket views n t) e old.1 in (id, ticket_here views id t v w at (same ∙ (ap (λ (u : View). ticket_of u.phase) (same_at views id v h.0 at h.1) ∙ h.2))))
    (λ ne. (old.0, ticket_else views id old.0 t w ne old.1))

module _ {B : Type 0} (history_of : B → List Entry) where
  -- where the value is, after a seat changed that didn't have it
  pub slot_else : (h : List Entry) (sv id : ℕ) (homes : List (m.Option (Option B))) (views : List View) (v w : View) → get_elem? views id ≡ m.some v → v.phase ≢ Holds sv → InSlot history_of h sv homes views → InSlot history_of h sv homes (set views id w)
  slot_else h sv id homes views v w at free slot =
      ⊎_elim (λ (a : (b : B) × (homes ≡ m.some (Some b) ∷ []) × (history_of b ≡ h)). inl a)
      (λ (a : (j : ℕ) × (u : View) × (homes ≡ m.none ∷ []) × (get_elem? views j ≡ m.some u) × (u.phase ≡ Holds sv)).
      inr (a.0, a.1, a.2, at_unchanged views id a.0 a.1 w (λ e. free (ap (λ (z : View). z.phase) (same_at views id v a.1 at (subst (λ (k : ℕ). get_elem? views k ≡ m.some a.1) e a.3)) ∙ a.4)) a.3, a.4))
      slot

  -- a step that changes neither the number of those that wait nor a ticket
  pub unique_same : (s : State (Option B) View) (kept : TurnstileRule history_of s) (id : ℕ) (v w : View) → get_elem? s.views id ≡ m.some v → ticket_of w.phase ≡ ticket_of v.phase → (i j t : ℕ) → HasTicket (set s.views id w) i t → HasTicket (set s.views id w) j t → i ≡ j
  unique_same s kept id v w at same i j t a b = kept.unique i j t (old i a) (old j b)
    where
      old : (k : ℕ) → HasTicket (set s.views id w) k t → HasTicket s.views k t
      old k h =
          ⊎_elim
          (λ (x : (k ≡ id) × (ticket_of w.phase ≡ Some t)). subst (λ (n : ℕ). HasTicket s.views n t) (sym x.0) (v, at, sym same ∙ x.1))
          (λ (x : (k ≢ id) × HasTicket s.views k t). x.1)
          (ticket_set s.views id k t w h)

  pub unchanged_keeps : (s : State (Option B) View) (id word : ℕ) (me : Me (Option B) View) → get_elem? s.views id ≡ m.some me.0 → TurnstileRule history_of s → TurnstileRule history_of (stepped s word (get_or s.words word 0) id me.1 me.0 keeps)
  unchanged_keeps s id word me at kept = subst (λ (z : List ℕ × List View). TurnstileRule history_of (record { words = z.0; homes = s.homes; views = z.1 })) (λ i. (sym (set-get_or s.words word 0) i, sym (set_again s.views id me.0 at) i)) kept
