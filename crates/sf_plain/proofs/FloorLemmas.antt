-- The last floor that a promise may try.
use Rattle.std.proofs.Common.{◌≡◌, ℕ, zero, suc, ◌+◌, ◌-◌, true, cond, [], ◌∷◌, None, Option, max, ap, ◌∙◌, arith}
use Rattle.std.specs.Prelude.{unwrap_or}
use Rattle.std.specs.List.{last_or, range_with_len}
use Rattle.sf_types.specs.Table.Parts.{Table}
use Rattle.sf_types.specs.Table.Versions.{commit_count}
use Rattle.sf_types.specs.Space.Promises.{last_candidate}
use Rattle.sf_laws.proofs.LeastLemmas.{last-is}

last_of : (floor end count : ℕ) → end + 1 - floor ≡ count → unwrap_or (last_or None (range_with_len floor count)) floor ≡ max floor end
last_of floor end zero is = omega (arith, is)
last_of floor end (suc count) is =
    let last : floor + count ≡ max floor end = omega (arith, is) in
    ap (λ (o : Option ℕ). unwrap_or o floor) (last-is floor count None) ∙ last

-- With the option max it is the number of commits, or the floor where that is greater.
pub last_with_max : (t : Table) → t.options.max ≡ true → last_candidate t ≡ max t.floor (commit_count t)
last_with_max t is =
    ap (λ b. unwrap_or (last_or None (cond b (range_with_len t.floor (commit_count t + 1 - t.floor)) (t.floor ∷ []))) t.floor) is
    ∙ last_of t.floor (commit_count t) (commit_count t + 1 - t.floor) (omega arith)
