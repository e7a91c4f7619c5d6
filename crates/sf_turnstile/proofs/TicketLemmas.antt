-- Tickets of seats, one of whose views changes.
use Rattle.std.proofs.Common.{◌≡◌, ◌≢◌, ◌⊎◌, ℕ, List, [], ◌∷◌, ◌++◌, length, set, Some, ap, ◌∙◌, inl, inr, ⊎_elim}
use mathlib.Core.Option.{some}
use lib.ListN.{get_elem?}
use Rattle.atomic_table.proofs.Lists.{at_set, at_longer}
use Rattle.sf_turnstile.specs.declared.view.View.{View}
use Rattle.sf_turnstile.specs.Rule.{ticket_of, HasTicket}
use Rattle.sf_turnstile.proofs.ListLemmas.{at_changed, at_unchanged, at_pushed}

-- tickets after one view has changed
pub ticket_here : (views : List View) (id t : ℕ) (v w : View) → get_elem? views id ≡ some v → ticket_of w.phase ≡ Some t → HasTicket (set views id w) id t
ticket_here views id t v w at is = (w, at_changed views id v w at, is)

pub ticket_else : (views : List View) (id j t : ℕ) (w : View) → j ≢ id → HasTicket views j t → HasTicket (set views id w) j t
ticket_else views id j t w ne h = (h.0, at_unchanged views id j h.0 w ne h.1, h.2)

pub ticket_set : (views : List View) (id j t : ℕ) (w : View) → HasTicket (set views id w) j t → ((j ≡ id) × (ticket_of w.phase ≡ Some t)) ⊎ ((j ≢ id) × HasTicket views j t)
ticket_set views id j t w h =
    ⊎_elim
    (λ (x : (j ≡ id) × (w ≡ h.0)). inl (x.0, ap (λ (u : View). ticket_of u.phase) x.1 ∙ h.2))
    (λ (x : (j ≢ id) × (get_elem? views j ≡ some h.0)). inr (x.0, (h.0, x.1, h.2)))
    (at_set views id j w h.0 h.1)

pub ticket_push : (views : List View) (a : View) (j t : ℕ) → HasTicket (views ++ a ∷ []) j t → HasTicket views j t ⊎ (ticket_of a.phase ≡ Some t)
ticket_push views a j t h =
    ⊎_elim
    (λ (e : get_elem? views j ≡ some h.0). inl (h.0, e, h.2))
    (λ (x : (j ≡ length views) × (a ≡ h.0)). inr (ap (λ (u : View). ticket_of u.phase) x.1 ∙ h.2))
    (at_pushed views a h.0 j h.1)

pub ticket_longer : (views more : List View) (j t : ℕ) → HasTicket views j t → HasTicket (views ++ more) j t
ticket_longer views more j t h = (h.0, at_longer views more j h.0 h.1, h.2)
