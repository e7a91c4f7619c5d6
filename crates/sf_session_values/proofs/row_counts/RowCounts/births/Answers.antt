use Rattle.std.proofs.Common.{◌≡◌, ℕ, cond, Bool, true, nat_lt, List, ◌∷◌, ◌++◌}
use Rattle.sf_chunk_map.specs.Inside.Counts.{births_with_bytes}
use Rattle.sf_session_values.proofs.row_counts.RowCounts.births.Goals as goal
use Rattle.std.proofs.Common.{Bool, true, ap, sym, subst, ◌∙◌, ◌++◌, arith}
use Rattle.std.specs.Prelude.{map, filter, nat_lt, cond}
use Rattle.std.proofs.lemmas.Bool.Decides.{nat_tests}
use Rattle.sf_types.specs.Inside.Births.{IsRising}
use Rattle.sf_chunk_map.specs.Inside.Counts.{Counts}
use Rattle.sf_chunk_map.proofs.ListedLemmas.{above_before, rising_listed}

pub push-requires : goal.push-requires
push-requires c =
    let k = c.in-Some.birth.now in
    let v = c.in-Some.number.now in
    let rest = c.next.new.self in
    let some : nat_lt 0 v ≡ true = grind (arith, nat_tests, c.if-number-gt0.true) in
    let next : births_with_bytes c.loop-birth.birth-iterator ≡ k ∷ births_with_bytes rest =
    ap (λ (m : Counts). births_with_bytes m) c.in-Some.ensures.steps
    ∙ ap (λ (t : Bool). map (λ (x : ℕ × ℕ). x.0) (cond t ((k, v) ∷ filter (λ (x : ℕ × ℕ). nat_lt 0 x.1) rest) (filter (λ (x : ℕ × ℕ). nat_lt 0 x.1) rest))) some in
    let all : c.loop-birth.births ++ k ∷ births_with_bytes rest ≡ births_with_bytes c.args.self.now =
    ap (λ (bs : List ℕ). c.loop-birth.births ++ bs) (sym next) ∙ c.loop-birth.invariant in
    let rising : IsRising (births_with_bytes c.args.self.now) = subst (λ (m : Counts). IsRising (births_with_bytes m)) c.self.view_is (rising_listed c.self.inside.counts.entries c.len-len.ensures.ordered) in
    above_before c.loop-birth.births (births_with_bytes rest) k (subst IsRising (sym all) rising)
