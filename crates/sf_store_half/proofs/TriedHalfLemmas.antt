-- The reach of a half where a promise is tried: a session holds other births, and the versions that are due at a floor are given up.
use Rattle.std.proofs.Common.{◌≡◌, ℕ, ◌≤◌, Bool, true, false, cond, List, [], ◌∷◌, length, map, refl, sym, ap, ◌∙◌}
use Rattle.std.specs.Prelude.{All, ◌||◌, ◌==◌}
use Rattle.sf_types.proofs.NumberLemmas.{same_number}
use Rattle.std.specs.List.{list_any}
use Rattle.std.proofs.lemmas.List.Elements.{recursion_from_All}
use Rattle.sf_types.specs.declared.holder.Holder.{Holder}
use Rattle.sf_types.specs.declared.holder.Holder.TheVariants as holder
use Rattle.sf_types.specs.Halves.Asks.{Half, kept_at, with_kept_births}
use Rattle.sf_types.specs.Halves.Flushes.{half_at, half_reach}
use Rattle.sf_lifetimes.specs.Ledgers.{Holdings, held_by, with_births, without_holders}
use Rattle.sf_retention.specs.declared.retention.Pair.{Pair}
use Rattle.sf_retention.specs.Notes.{due_pairs}
use Rattle.sf_stock.specs.Stocks.{IsSound, births_of, is_stocked}
use Rattle.sf_store_half.specs.Fields.{Fields, Keeps, held_in, is_session}
use Rattle.sf_store_half.specs.Inside.Floors.{holdings_without}
use Rattle.sf_store_half.specs.Inside.Trials.{reached_stock, version_of}
use Rattle.sf_store_half.proofs.HeldLemmas.{held_after, is_holder, same_session, session_held_with, promise_held_with, births_promised}
use Rattle.sf_store_half.proofs.RaisedKeepsLemmas.{held_raised, same_holdings}
use Rattle.sf_store_half.proofs.TriedLemmas.{tried_are_reached}

-- who holds nothing once versions are given up, in either order
pub held_where_gone : (m : Holdings) (ps : List Pair) (x : Holder) → held_by (without_holders m (map version_of ps)) x ≡ cond {A = List ℕ} (list_any (λ p. is_holder x (version_of p)) ps) [] (held_by m x)
held_where_gone m [] x = refl
held_where_gone m (p ∷ ps) x =
    held_after (without_holders m (map version_of ps)) (version_of p) [] x
    ∙ elim (is_holder x (version_of p)) as (λ t. cond {A = List ℕ} t [] (held_by (without_holders m (map version_of ps)) x) ≡ cond {A = List ℕ} (t || list_any (λ q. is_holder x (version_of q)) ps) [] (held_by m x)) [
      | true ↦ refl
      | false ↦ held_where_gone m ps x
    ]

pub held_where_let_go : (m : Holdings) (ps : List Pair) (x : Holder) → held_by (holdings_without m ps) x ≡ cond {A = List ℕ} (list_any (λ p. is_holder x (version_of p)) ps) [] (held_by m x)
held_where_let_go m [] x = refl
held_where_let_go m (p ∷ ps) x =
    held_where_let_go (with_births m (version_of p) []) ps x
    ∙ ap (cond {A = List ℕ} (list_any (λ q. is_holder x (version_of q)) ps) []) (held_after m (version_of p) [] x)
    ∙ either (list_any (λ q. is_holder x (version_of q)) ps) (is_holder x (version_of p))
  where
    either : (t u : Bool) → cond {A = List ℕ} t [] (cond {A = List ℕ} u [] (held_by m x)) ≡ cond {A = List ℕ} (u || t) [] (held_by m x)
    either true true = refl
    either true false = refl
    either false true = refl
    either false false = refl

module _ (f : Fields) (h : Half) (floor s : ℕ) (births : List ℕ) (keeps : Keeps f h) (low : h.floor ≤ floor) (high : floor ≤ length h.commits) (is : is_session h s ≡ true) where
  given_up : (x : Holder) → held_by (without_holders f.stock.holdings (map version_of (due_pairs f.notes floor))) x ≡ held_in (half_at h floor) x
  given_up x =
      held_where_gone f.stock.holdings (due_pairs f.notes floor) x
      ∙ sym (held_where_let_go f.stock.holdings (due_pairs f.notes floor) x)
      ∙ ap (λ m. held_by m x) (sym (same_holdings f.stock (due_pairs f.notes floor)))
      ∙ held_raised f h floor keeps low high x

  held_tried : (x : Holder) → held_by (with_births (without_holders f.stock.holdings (map version_of (due_pairs f.notes floor))) (holder.Session s) births) x ≡ held_in (half_at (with_kept_births h s births) floor) x
  held_tried x =
      held_after (without_holders f.stock.holdings (map version_of (due_pairs f.notes floor))) (holder.Session s) births x
      ∙ ap (cond {A = List ℕ} (is_holder x (holder.Session s)) births) (given_up x)
      ∙ by_kind x
    where
      by_kind : (y : Holder) → cond {A = List ℕ} (is_holder y (holder.Session s)) births (held_in (half_at h floor) y) ≡ held_in (half_at (with_kept_births h s births) floor) y
      by_kind (holder.Version row n) = refl
      by_kind (holder.Session t) =
          ap (λ b. cond {A = List ℕ} b births (held_in h (holder.Session t))) (same_session t s)
          ∙ sym (session_held_with h s (record (kept_at h s) { births = births }) t is)
      by_kind (holder.Promise t) = sym (promise_held_with h s (record (kept_at h s) { births = births }) t is ∙ own (t == s) refl)
        where
          own : (u : Bool) → (t == s) ≡ u → cond {A = List ℕ} u (births_promised (record (kept_at h s) { births = births })) (held_in h (holder.Promise t)) ≡ held_in h (holder.Promise t)
          own true same =
              let one : t ≡ s = same_number t s same in
              ap (λ b. cond {A = List ℕ} b (births_promised (kept_at h s)) []) (sym is) ∙ ap (λ n. held_in h (holder.Promise n)) (sym one)
          own false apart = refl

  -- the births of the stock that would be reached are those in reach of the half that is tried
  pub tried_reach : IsSound f.stock → All (λ b. is_stocked f.stock.stocked b ≡ true) births
      → births_of (reached_stock f.stock (holder.Session s ∷ map version_of (due_pairs f.notes floor)) births) ≡ half_reach (half_at (with_kept_births h s births) floor)
  tried_reach sound brought =
      tried_are_reached f.stock.holdings f.stock.stocked (map version_of (due_pairs f.notes floor)) s births (half_at (with_kept_births h s births) floor) keeps.commits held_tried sound.rising sound.held
      (recursion_from_All (λ b. is_stocked f.stock.stocked b ≡ true) births brought)
