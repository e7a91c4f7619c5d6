-- A new turnstile keeps the rule.
use Rattle.std.proofs.Common.{◌≡◌, ℕ, zero, suc, false, true≢false, List, [], ◌∷◌, Some, refl, sym, ap, ◌∙◌, subst, arith, inl}
use mathlib.Core.Option as m
use lib.ListN.{get_elem?}
use Rattle.atomic_table.specs.Table.{opening}
use Rattle.sf_types.specs.declared.history.Entry.{Entry}
use Rattle.sf_turnstile.specs.declared.view.View.{View}
use Rattle.sf_turnstile.specs.Rule.{ticket_of, is_out, FitsSeat, HasTicket, TurnstileRule, first_view}
use Rattle.sf_turnstile.proofs.EntryLemmas.{prefix_self}

module _ {B : Type 0} (history_of : B → List Entry) where
  pub opens : (b : B) → history_of b ≡ [] → TurnstileRule history_of (opening (0 ∷ 0 ∷ []) (Some b ∷ []) first_view)
  opens b none = record {
    history = [];
    serving = 0;
    small = omega arith;
    words = refl;
    seats = λ id v e o. alone id v e;
    unique = λ i j t a c. absurd (no_ticket i t a);
    consecutive = λ k lt. absurd (omega arith);
    slot = inl (b, refl, none);
    first = (
      first_view,
      refl,
      record {
        out = refl;
        splits = refl;
        most = omega arith;
        others = refl;
        joined = λ n c. refl;
        spent = λ id v e off. absurd (is_first id v e off);
        joined_spent = λ id c. let l = c.1 in absurd (omega arith);
        unmade = λ n lt. refl;
        none_of_first = refl;
      },
    );
  }
    where
      alone : (id : ℕ) (v : View) → get_elem? (first_view ∷ []) id ≡ m.some v → FitsSeat [] 0 0 id v
      alone zero v e = subst (FitsSeat [] 0 0 0) (m.some-injective _ _ e) (record { number = refl; alone = λ lt. absurd (omega arith); front = prefix_self []; own = refl; phase = tt; after_join = λ yes. absurd (true≢false (sym yes)) })
      alone (suc id) v e = absurd (m.some-ne-none v (sym e))

      no_ticket : (i t : ℕ) → HasTicket (first_view ∷ []) i t → ⊥
      no_ticket zero t h = absurd (cc (ap (λ (u : View). ticket_of u.phase) (m.some-injective _ _ h.1), h.2))
      no_ticket (suc i) t h = m.some-ne-none h.0 (sym h.1)

      is_first : (id : ℕ) (v : View) → get_elem? (first_view ∷ []) id ≡ m.some v → is_out v.phase ≡ false → ⊥
      is_first zero v e off = true≢false (ap (λ (u : View). is_out u.phase) (m.some-injective _ _ e) ∙ off)
      is_first (suc id) v e off = m.some-ne-none v (sym e)
