-- The Book of a store to which nothing was done.
use Rattle.std.proofs.Common.{◌≡◌, ℕ, zero, suc, ◌≤◌, [], length, replicate, refl, sym, subst, arith}
use Rattle.std.proofs.lemmas.List.{length-replicate}
use Rattle.std.proofs.lemmas.List.Elements.{All-nil}
use Rattle.sf_types.specs.declared.options.Options.{Options}
use Rattle.sf_types.specs.Limits.{IsInRange}
use Rattle.sf_types.specs.declared.limits.TheConstants.{STORE_SESSIONS}
use Rattle.sf_types.specs.Table.Parts.{opening_table}
use Rattle.sf_types.specs.Space.Placings.{IsSafe}
use Rattle.sf_types.specs.Halves.Asks.{half_of, new_kept}
use Rattle.sf_laws.proofs.StageLemmas.{empty_holds}
use Rattle.sf_stock.specs.Stocks as stock
use Rattle.sf_store_half.specs.Fields.{Fields, Keeps, opening_fields, session_field}
use Rattle.sf_store_half.proofs.KeepsLemmas.{opening_keeps}
use Rattle.sf_book.specs.Inside.Bodies.{IsBook, promise_count}

none_promised : (n : ℕ) → promise_count (replicate n (session_field new_kept)) ≡ 0
none_promised zero = refl
none_promised (suc n) = none_promised n

opening_safe : (options : Options) (n : ℕ) → IsSafe (opening_table options n) []
opening_safe options n = record {
  births = (empty_holds options n).has.births;
  counts = All-nil _;
  below = All-nil _;
  once = λ i j d before less. absurd (omega (arith, less));
}

opening_book : (options : Options) (n spare : ℕ) → IsInRange options → 1 ≤ n → n ≤ STORE_SESSIONS → stock.IsSound (opening_fields options n).stock → IsBook (opening_fields options n) [] n spare
opening_book options n spare in_range some few stocked =
    let count : length (opening_fields options n).sessions ≡ n = length-replicate n (session_field new_kept) in
    let none = none_promised n in
    record {
      count = sym count;
      sound = record {
        in_range = in_range;
        some_sessions = subst (λ k. 1 ≤ k) (sym count) some;
        few_sessions = subst (λ k. k ≤ STORE_SESSIONS) (sym count) few;
        legal = tt;
        safe = opening_safe options (length (opening_fields options n).sessions);
        below = All-nil _;
        once = λ i j d before less. absurd (omega (arith, less));
      };
      keeps = subst (λ k. Keeps (opening_fields options n) (half_of (opening_table options k))) (sym count) (opening_keeps options n);
      stocked = stocked;
      room = omega (arith, none);
    }

pub new_book : (f : Fields) (options : Options) (n spare : ℕ) → f ≡ opening_fields options n → IsInRange options → 1 ≤ n → n ≤ STORE_SESSIONS → stock.IsSound f.stock → IsBook f [] n spare
new_book f options n spare is in_range some few stocked =
    subst (λ (x : Fields). IsBook x [] n spare) (sym is) (opening_book options n spare in_range some few (subst (λ (x : Fields). stock.IsSound x.stock) is stocked))
