-- A store to which nothing was done.
use Rattle.std.proofs.Common.{◌≡◌, ℕ, zero, suc, ◌-◌, Bool, true, false, cond, List, [], ◌∷◌, map, Some, refl, sym, ap, ◌∙◌}
use Rattle.std.specs.Prelude.{replicate, slice_get, unwrap_or, nat_le, ◌&&◌}
use Rattle.std.specs.Option.{option_map_or}
use Rattle.std.specs.FinMap.{get-empty}
use Rattle.std.proofs.lemmas.List.Elements.{All-nil}
use Rattle.sf_types.specs.declared.holder.Holder.{Holder}
use Rattle.sf_types.specs.declared.holder.Holder.TheVariants as holder
use Rattle.sf_types.specs.declared.options.Options.{Options}
use Rattle.sf_types.specs.Inside.Holders.{holder_cmp}
use Rattle.sf_types.specs.Table.Parts.{new_session, opening_table}
use Rattle.sf_types.specs.Space.Reach.{is_kept}
use Rattle.sf_types.specs.Space.Use.{content_of}
use Rattle.sf_types.specs.Halves.Asks.{Kept, half_of, kept_of, new_kept}
use Rattle.sf_types.specs.Halves.Flushes.{table_of_half}
use Rattle.sf_stock.specs.Stocks.{Stocked}
use Rattle.sf_store_half.specs.Fields.{Keeps, opening_fields, session_field, held_in, is_session}
use Rattle.sf_store_half.specs.declared.session_fields.SessionField.{SessionField}
use Rattle.sf_lifetimes.specs.Ledgers.{is_live}

same_fields : (n : ℕ) → replicate n (session_field new_kept) ≡ map session_field (map kept_of (replicate n new_session))
same_fields zero = refl
same_fields (suc n) = ap (λ (xs : List SessionField). session_field new_kept ∷ xs) (same_fields n)

each_new : (n k : ℕ) → unwrap_or (slice_get (map kept_of (replicate n new_session)) k) new_kept ≡ new_kept
each_new zero k = refl
each_new (suc n) zero = refl
each_new (suc n) (suc k) = each_new n k

either_none : {X : Type 0} (t : Bool) → cond {A = List X} t [] [] ≡ []
either_none true = refl
either_none false = refl

nothing_in : (options : Options) (n : ℕ) (x : Holder) → held_in (half_of (opening_table options n)) x ≡ []
nothing_in options n (holder.Version row k) = either_none (nat_le 1 k && is_kept (table_of_half (half_of (opening_table options n))) row k)
nothing_in options n (holder.Session s) =
    ap (λ (k : Kept). cond (is_session (half_of (opening_table options n)) s) k.births []) (each_new n (s - 1)) ∙ either_none (is_session (half_of (opening_table options n)) s)
nothing_in options n (holder.Promise s) =
    ap (λ (k : Kept). cond (is_session (half_of (opening_table options n)) s) (option_map_or (λ q. q.births) k.promise []) []) (each_new n (s - 1)) ∙ either_none (is_session (half_of (opening_table options n)) s)

pub opening_keeps : (options : Options) (sessions : ℕ) → Keeps (opening_fields options sessions) (half_of (opening_table options sessions))
opening_keeps options n = record {
  options = refl;
  locks = refl;
  floor = refl;
  sessions = same_fields n;
  now = refl;
  commits = record {};
  rows = λ row. refl;
  notes = refl;
  next = refl;
  held = λ x. ap (λ bs. unwrap_or bs []) (get-empty holder_cmp x) ∙ sym (nothing_in options n x);
  live = All-nil (λ (x : Stocked). is_live (opening_fields options n).stock.holdings x.birth ≡ true);
  contents = All-nil (λ (x : Stocked). content_of (half_of (opening_table options n)).contents x.birth ≡ Some x.content);
  none_left = refl;
}
