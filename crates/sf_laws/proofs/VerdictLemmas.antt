-- What a promise does where the store's verdict grants it, and where it refuses it.
use Rattle.std.proofs.Common.{◌≡◌, ℕ, List, Option, Some, None, refl, sym, ap, subst, ◌∙◌}
use Rattle.std.specs.Prelude.{find, nat_le}
use Rattle.sf_types.specs.declared.call.Call.{Call}
use Rattle.sf_types.specs.declared.reply.Fault.TheVariants as fault
use Rattle.sf_types.specs.declared.reply.Reply.{Reply}
use Rattle.sf_types.specs.declared.reply.Reply.TheVariants as reply
use Rattle.sf_types.specs.Table.Parts.{Table}
use Rattle.sf_types.specs.Space.Cuts.{Cut}
use Rattle.sf_types.specs.Space.Use.{free_of}
use Rattle.sf_types.specs.Space.Promises.{with_floor, floor_candidates, wanted_blocks_at, fits_at, table_with_promise, last_candidate, promise_at}
use Rattle.sf_types.specs.Halves.Asks.{Half, half_of}
use Rattle.sf_types.specs.Halves.Flushes.{Verdict, Granted, NoSpace, half_free, half_at, half_wanted_blocks, half_promise_at, half_promise}
use Rattle.sf_laws.specs.Halves.{IsGranted, IsRefused, last_floor}
use Rattle.sf_laws.proofs.FloorLemmas.{HasFloorWithin}
use Rattle.sf_laws.proofs.FlushLemmas.{free_by_half, wanted_by_half, find_same, fits_by_half}
use Rattle.sf_laws.proofs.LeastFloorLemmas.{least-is, high-is, none-is, end-is}

-- the promise of some cuts
abbrev promise_of : Table → ℕ → Call → List Cut → Table × Option Reply
promise_of t s c of = promise_at t s c of (find (fits_at t of) (floor_candidates t))

verdict_is : (t : Table) (s : ℕ) (c : Call) (of : List Cut) (o : Option ℕ) → find (fits_at t of) (floor_candidates t) ≡ o → half_promise (half_of t) s c of ≡ half_promise_at (half_of t) s c of o
verdict_is t s c of o is =
    ap (half_promise_at (half_of t) s c of)
    (sym (find_same (fits_at t of) (λ h. nat_le (half_wanted_blocks (half_of t) of h) (half_free (half_at (half_of t) h))) (floor_candidates t) (fits_by_half t of)) ∙ is)

same_blocks : (m n : ℕ) → Granted m ≡ Granted n → m ≡ n
same_blocks m n is = cc

same_numbers : (m n j k : ℕ) → NoSpace m n ≡ NoSpace j k → (m ≡ j) × (n ≡ k)
same_numbers m n j k is = (cc, cc)

granted_at : (t : Table) (s : ℕ) (c : Call) (of : List Cut) (h : ℕ) → HasFloorWithin t → find (fits_at t of) (floor_candidates t) ≡ Some h → IsGranted t s c of (wanted_blocks_at t of h) (table_with_promise t s c of h, None)
granted_at t s c of h within is =
    let least = least-is t.options.max t of h is in
    record { reply = refl; low = least.from; high = high-is t.options.max t of h within is; fits = least.passes; least = least.least; wanted = refl; stands = refl }

pub granted_where : (t : Table) (s : ℕ) (c : Call) (of : List Cut) (blocks : ℕ) → HasFloorWithin t → (half_promise (half_of t) s c of).1 ≡ Granted blocks → IsGranted t s c of blocks (promise_of t s c of)
granted_where t s c of blocks within verdict = go (find (fits_at t of) (floor_candidates t)) refl
  where
    go : (o : Option ℕ) → find (fits_at t of) (floor_candidates t) ≡ o → IsGranted t s c of blocks (promise_at t s c of o)
    go None is = let never = sym verdict ∙ ap (λ (x : Half × Verdict). x.1) (verdict_is t s c of None is) in absurd cc
    go (Some h) is =
        let same : half_wanted_blocks (half_of t) of h ≡ blocks = same_blocks (half_wanted_blocks (half_of t) of h) blocks (sym (ap (λ (x : Half × Verdict). x.1) (verdict_is t s c of (Some h) is)) ∙ verdict) in
        subst (λ n. IsGranted t s c of n (table_with_promise t s c of h, None)) (wanted_by_half t of h ∙ same) (granted_at t s c of h within is)

pub refused_where : (t : Table) (s : ℕ) (c : Call) (of : List Cut) (wanted free : ℕ) → HasFloorWithin t → (half_promise (half_of t) s c of).1 ≡ NoSpace wanted free → IsRefused t of wanted free (promise_of t s c of)
refused_where t s c of wanted free within verdict = go (find (fits_at t of) (floor_candidates t)) refl
  where
    go : (o : Option ℕ) → find (fits_at t of) (floor_candidates t) ≡ o → IsRefused t of wanted free (promise_at t s c of o)
    go (Some h) is = let never = sym verdict ∙ ap (λ (x : Half × Verdict). x.1) (verdict_is t s c of (Some h) is) in absurd cc
    go None is =
        let last = last_candidate t in
        let there : last ≡ last_floor t = end-is t.options.max t within in
        let same = same_numbers (half_wanted_blocks (half_of t) of last) (half_free (half_at (half_of t) last)) wanted free (sym (ap (λ (x : Half × Verdict). x.1) (verdict_is t s c of None is)) ∙ verdict) in
        let first : wanted_blocks_at t of last ≡ wanted = wanted_by_half t of last ∙ same.0 in
        let second : free_of (with_floor t last) ≡ free = free_by_half (with_floor t last) ∙ same.1 in
        record {
          nowhere = λ k low high. none-is t.options.max t of k is low high;
          wanted_there = sym first ∙ ap (wanted_blocks_at t of) there;
          free_there = sym second ∙ ap (λ n. free_of (with_floor t n)) there;
          reply = ap (λ n. Some (reply.Refused (fault.NoSpace n (free_of (with_floor t last))))) first ∙ ap (λ n. Some (reply.Refused (fault.NoSpace wanted n))) second;
          same = refl;
        }
