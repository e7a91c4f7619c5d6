-- Locks that are taken and given back.
use Rattle.std.proofs.Common.{◌≡◌, ℕ, Bool, true, false, not, cond, eqb, List, Option, Some, None, refl}
use Rattle.std.specs.Option.{option_map_or}
use Rattle.sf_types.specs.Inside.NameMaps.{NameMap, get, without_entry}
use Rattle.sf_types.specs.Table.Sessions.{holds_lock, is_busy, with_lock}
use Rattle.sf_types.proofs.NameMapLemmas.{without-put}

nobody : (o : Option ℕ) (s : ℕ) → option_map_or (λ holder. not (eqb holder s)) o false ≡ false → option_map_or (λ holder. eqb holder s) o false ≡ false → o ≡ None
nobody None s busy held = refl
nobody (Some h) s busy held = absurd (both (eqb h s) busy held)
  where
    both : (b : Bool) → not b ≡ false → b ≡ false → ⊥
    both true busy held = cc
    both false busy held = cc

-- either way the locks are as before
pub undone : (locks : NameMap ℕ) (s : ℕ) (row : List ℕ) (is_new : Bool) → is_busy locks s row ≡ false → is_new ≡ not (holds_lock locks s row) → cond is_new (without_entry (with_lock locks s row) row) (with_lock locks s row) ≡ locks
undone locks s row is_new busy is = by_held (holds_lock locks s row) refl
  where
    by_held : (b : Bool) → holds_lock locks s row ≡ b → cond is_new (without_entry (with_lock locks s row) row) (with_lock locks s row) ≡ locks
    by_held true held = rw (is, held) refl
    by_held false held = rw (is, held) (without-put locks row s (nobody (get locks row) s busy held))
