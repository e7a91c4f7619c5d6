-- The floor at which a promise is granted, and the last one that it tries.
use Rattle.std.proofs.Common.{◌≡◌, ℕ, ◌+◌, ◌-◌, ◌≤◌, ◌<◌, Bool, true, false, cond, suc, List, [], ◌∷◌, Some, None, refl, ap, ◌∙◌, arith}
use Rattle.std.specs.Prelude.{find, unwrap_or}
use Rattle.std.specs.List.{range_with_len, last_or}
use Rattle.sf_types.specs.Table.Parts.{Table}
use Rattle.sf_types.specs.Table.Versions.{commit_count}
use Rattle.sf_types.specs.Space.Cuts.{Cut}
use Rattle.sf_types.specs.Space.Promises.{fits_at}
use Rattle.sf_laws.proofs.EachLemmas.{each_found}
use Rattle.sf_laws.proofs.FloorLemmas.{HasFloorWithin, range_below}
use Rattle.sf_laws.proofs.LeastLemmas.{IsLeastFrom, found-least, found-none, last-is}

-- The candidates, by the option max.
abbrev pub chosen : Bool → Table → List ℕ
chosen b t = cond {A = List ℕ} b (range_with_len t.floor (commit_count t + 1 - t.floor)) (t.floor ∷ [])

pub least-is : (b : Bool) (t : Table) (of : List Cut) (h : ℕ) → find (fits_at t of) (chosen b t) ≡ Some h → IsLeastFrom (fits_at t of) t.floor h
least-is true t of h is = found-least (fits_at t of) t.floor (commit_count t + 1 - t.floor) h is
least-is false t of h is = found-least (fits_at t of) t.floor 1 h is

pub high-is : (b : Bool) (t : Table) (of : List Cut) (h : ℕ) → HasFloorWithin t → find (fits_at t of) (chosen b t) ≡ Some h → h ≤ cond {A = ℕ} b (commit_count t) t.floor
high-is true t of h within is =
    let below = (each_found (λ n. n < commit_count t + 1) (fits_at t of) (chosen true t) h is (range_below t.floor (commit_count t + 1 - t.floor) (commit_count t + 1) (omega (arith, within)))).0 in
    omega (arith, below)
high-is false t of h within is = (each_found (λ n. n ≤ t.floor) (fits_at t of) (chosen false t) h is (omega arith, tt)).0

pub none-is : (b : Bool) (t : Table) (of : List Cut) (k : ℕ) → find (fits_at t of) (chosen b t) ≡ None → t.floor ≤ k → k ≤ cond {A = ℕ} b (commit_count t) t.floor → fits_at t of k ≡ false
none-is true t of k is low high = found-none (fits_at t of) t.floor (commit_count t + 1 - t.floor) k is low (omega (arith, low, high))
none-is false t of k is low high = found-none (fits_at t of) t.floor 1 k is low (omega (arith, low, high))

pub end-is : (b : Bool) (t : Table) → t.floor ≤ commit_count t → unwrap_or (last_or None (chosen b t)) t.floor ≡ cond {A = ℕ} b (commit_count t) t.floor
end-is true t le =
    let count : commit_count t + 1 - t.floor ≡ suc (commit_count t - t.floor) = omega (arith, le) in
    let end : t.floor + (commit_count t - t.floor) ≡ commit_count t = omega (arith, le) in
    ap (λ n. unwrap_or (last_or None (range_with_len t.floor n)) t.floor) count
    ∙ ap (λ o. unwrap_or o t.floor) (last-is t.floor (commit_count t - t.floor) None)
    ∙ end
end-is false t le = refl
