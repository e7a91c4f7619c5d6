-- Numbers of bytes by births, after a change.
use Rattle.std.proofs.Common.{◌≡◌, ℕ, ◌+◌, ◌-◌, ◌≤◌, Bool, true, false, cond, Option, Some, None, refl, sym, ap, ◌∙◌, arith}
use Rattle.std.specs.Prelude.{◌==◌, IsSome, unwrap_or}
use Rattle.std.specs.Ordering.{is_eq, nat_cmp}
use Rattle.std.specs.Cmp.{unsigned_ties}
use Rattle.sf_types.proofs.NumberLemmas.{same_number}
use Rattle.sf_chunk_map.specs.Inside.Counts.{Counts, found_at}

-- a number more at a birth
pub raised : (found : ℕ → Option ℕ) (birth b n bytes : ℕ) → unwrap_or (found birth) 0 ≡ n
    → unwrap_or (cond (birth == b) (Some (n + bytes)) (found b)) 0 ≡ unwrap_or (found b) 0 + cond (birth == b) bytes 0
raised found birth b n bytes is = go (birth == b) refl
  where
    go : (t : Bool) → (birth == b) ≡ t → unwrap_or (cond t (Some (n + bytes)) (found b)) 0 ≡ unwrap_or (found b) 0 + cond t bytes 0
    go true same = ap (λ m. m + bytes) (sym is ∙ ap (λ q. unwrap_or (found q) 0) (same_number birth b same))
    go false apart = omega arith

-- a number less at a birth, which keeps some
pub lowered : (found : ℕ → Option ℕ) (birth b n bytes : ℕ) → unwrap_or (found birth) 0 ≡ n → bytes ≤ n
    → unwrap_or (cond (birth == b) (Some (n - bytes)) (found b)) 0 + cond (birth == b) bytes 0 ≡ unwrap_or (found b) 0
lowered found birth b n bytes is most = go (birth == b) refl
  where
    go : (t : Bool) → (birth == b) ≡ t → unwrap_or (cond t (Some (n - bytes)) (found b)) 0 + cond t bytes 0 ≡ unwrap_or (found b) 0
    go true same = omega (arith, is, most, ap (λ q. unwrap_or (found q) 0) (same_number birth b same))
    go false apart = omega arith

-- a birth without its number
pub taken_out : (found : ℕ → Option ℕ) (birth b bytes : ℕ) → unwrap_or (found birth) 0 ≡ bytes
    → unwrap_or (cond (birth == b) None (found b)) 0 + cond (birth == b) bytes 0 ≡ unwrap_or (found b) 0
taken_out found birth b bytes is = go (birth == b) refl
  where
    go : (t : Bool) → (birth == b) ≡ t → unwrap_or (cond t None (found b)) 0 + cond t bytes 0 ≡ unwrap_or (found b) 0
    go true same = omega (arith, is, ap (λ q. unwrap_or (found q) 0) (same_number birth b same))
    go false apart = omega arith

-- a birth that had none, with the number 0
pub placed : (found : ℕ → Option ℕ) (birth b : ℕ) → found birth ≡ None → unwrap_or (cond (birth == b) (Some 0) (found b)) 0 ≡ unwrap_or (found b) 0
placed found birth b none = go (birth == b) refl
  where
    go : (t : Bool) → (birth == b) ≡ t → unwrap_or (cond t (Some 0) (found b)) 0 ≡ unwrap_or (found b) 0
    go true same = sym (ap (λ o. unwrap_or o 0) (sym (ap found (same_number birth b same)) ∙ none))
    go false apart = refl

-- a place stays where another or the same is set
pub still_placed : (found : ℕ → Option ℕ) (birth b n : ℕ) → IsSome (found b) → IsSome (cond (birth == b) (Some n) (found b))
still_placed found birth b n some = go (birth == b)
  where
    go : (t : Bool) → IsSome (cond t (Some n) (found b))
    go true = refl
    go false = some

-- what stands at each birth after std's map was changed at one
pub after_update : (old new : Counts) (birth : ℕ) (w : Option ℕ) → ((q : ℕ) → found_at new q ≡ cond (is_eq (nat_cmp birth q)) w (found_at old q)) → (q : ℕ) → found_at new q ≡ cond (birth == q) w (found_at old q)
after_update old new birth w is q = is q ∙ ap (λ (t : Bool). cond t w (found_at old q)) (sym (unsigned_ties birth q))
