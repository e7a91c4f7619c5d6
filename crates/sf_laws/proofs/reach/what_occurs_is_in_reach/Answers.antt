use Rattle.std.proofs.Common.{Some, subst}
use Rattle.std.specs.Prelude.{Contains}
use Rattle.std.specs.List.{AllByRecursion as Each}
use Rattle.sf_types.specs.Values.Marks.{births_in}
use Rattle.sf_types.specs.Table.Parts.{Table}
use Rattle.sf_types.specs.Space.Reach.{reach, session_values}
use Rattle.sf_laws.specs.TrueMarks.{found_by}
use Rattle.sf_laws.proofs.EachLemmas.{each_contained, each_itself}
use Rattle.sf_laws.proofs.HeldLemmas.{OfOption, OfSession, of_at}
use Rattle.sf_laws.proofs.ReachLemmas.{OfBirth, OfHeld, each_from_reach, each-births_in, each-session_values}
use Rattle.sf_laws.proofs.reach.what_occurs_is_in_reach.Goals as goal

-- each birth that the table holds is in reach
held-in : (t : Table) → OfHeld (Contains (reach t)) t
held-in t = each_from_reach (Contains (reach t)) t (each_itself (reach t))

pub returns-clause-row : goal.returns-clause-row
returns-clause-row c t row n v b since occurs =
    let P = Contains (reach t) in
    let own : OfOption (OfBirth P) (Some v) = subst (OfOption (OfBirth P)) since.is (of_at (OfBirth P) t.floor t row n (held-in t).held since.low) in
    each_contained P (births_in v) b (each-births_in P v own) occurs

pub returns-clause-session : goal.returns-clause-session
returns-clause-session c t p v b there within occurs =
    let P = Contains (reach t) in
    let own : OfSession (OfBirth P) p = each_contained (OfSession (OfBirth P)) t.sessions p (held-in t).held.sessions there in
    let values = each-session_values (λ w. Each P (births_in w)) (OfBirth P) (each-births_in P) p own in
    each_contained P (births_in v) b (each_contained (λ w. Each P (births_in w)) (session_values p) v values within) occurs

pub returns-clause-promise : goal.returns-clause-promise
returns-clause-promise c t p b there occurs =
    let P = Contains (reach t) in
    each_contained P (found_by p) b (each_contained (λ x. Each P (found_by x)) t.sessions p (held-in t).found there) occurs
